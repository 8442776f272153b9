-- The store that lent lists hold.
use Rattle.std.specs.Prelude.{◌≡◌}
use Rattle.store.specs.Store.{Store, store}
use Rattle.store.specs.declared.StoreRef.{StoreRef}
use Rattle.store.specs.declared.StoreMut.{StoreMut}

abbrev pub held : StoreRef → Store
held s = store s.levels s.count s.level.now s.then.now s.els.now s.next.now s.heads.now

abbrev pub held_mut : StoreMut → Store
held_mut s = store s.levels s.count s.level.now s.then.now s.els.now s.next.now s.heads.now

-- The lists are those that they were, whatever they hold: so who lent them knows what they hold in the end.
pub record SameLists (s t : StoreMut) : Type 0 where
  pub level : t.level.ghost_name ≡ s.level.ghost_name
  pub then : t.then.ghost_name ≡ s.then.ghost_name
  pub els : t.els.ghost_name ≡ s.els.ghost_name
  pub next : t.next.ghost_name ≡ s.next.ghost_name
  pub heads : t.heads.ghost_name ≡ s.heads.ghost_name
