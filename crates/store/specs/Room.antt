-- A store with slots to spare, and limits to spare: what making nodes takes where nothing stands in its way. Document 01: '40 .. every slot lent, or
-- [the limit], is used.'
use Rattle.std.specs.Prelude.{ℕ, ◌+◌, ◌++◌, replicate, pos}
use Rattle.codes.specs.Limits.{Limits}
use Rattle.store.specs.Store.{Store}

-- a store with k slots more
unfoldable pub roomier : ℕ → Store → Store
roomier k σ = record {
  levels = σ.levels;
  count = σ.count;
  level = σ.level ++ replicate k 0;
  then = σ.then ++ replicate k (pos 0);
  els = σ.els ++ replicate k (pos 0);
  next = σ.next ++ replicate k 0;
  heads = σ.heads;
}

-- limits that leave room for k nodes more; no input is read on the way
abbrev pub with_room : ℕ → Store → Limits
with_room k σ = record { nodes = σ.count + k; levels = σ.levels; input = 0 }
