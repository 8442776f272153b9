-- The nodes that a walk meets: each once, each of the store's, and exactly those that the roots lead to.
use mathlib.Core.Path.{◌≡◌, sym, ◌∙◌}
use mathlib.Core.Bool.{true}
use mathlib.Core.List.{List}
use Prim.Native.Nat.{ℕ, ◌≤◌, ◌<◌}
use native.Mathlib.Omega.{arith}
use lib.ListN.{length, get_or}
use lib.IntN.{ℤ}
use Rattle.store.specs.Store.{Store}
use Rattle.seats.specs.Seats.{seat_of}
use Rattle.seats.specs.Ordered.{distinct}
use Rattle.reached.specs.Reached.{Reached, root, then, els}
use Rattle.reached.specs.Walk.{walk, first_met}
use Rattle.reached.specs.Meet.{is_in}
use Rattle.reached.proofs.Entries.{in-seat, entry_in}
use Rattle.reached.proofs.Members.{Among, Each}
use Rattle.reached.proofs.Few.{few}
use Rattle.reached.proofs.Firsts.{in-firsts, firsts-once}
use Rattle.reached.proofs.Walking.{Leads, each-walked, root-walked, children-walked}

module _ (σ : Store) (count : ℕ) (roots : List ℤ) (L : Leads σ count roots) where
  -- a node is met exactly where the walk passes it
  in-met : (x : ℕ) → is_in x (first_met σ roots) ≡ is_in x (walk σ roots)
  unfolding first_met
  in-met x = in-firsts (walk σ roots) x

  -- no node is met twice
  pub met-distinct : distinct (first_met σ roots) ≡ true
  unfolding first_met
  met-distinct = firsts-once (walk σ roots)

  -- each is one of the store's ..
  walked-known : Each (Among count) (walk σ roots)
  walked-known = each-walked σ count (Among count) (λ n two h. let d = L.descends n two h.1 in omega arith) roots L L.roots_there

  pub met-known : Each (Among count) (first_met σ roots)
  met-known x h = walked-known x (sym (in-met x) ∙ h)

  -- .. and so is each entry
  pub met-there : (i : ℕ) → i < length (first_met σ roots) → Among count (get_or (first_met σ roots) i 0)
  met-there i h = met-known (get_or (first_met σ roots) i 0) (entry_in (first_met σ roots) i h)

  -- so there are no more than those
  pub met-few : length (first_met σ roots) ≤ count
  met-few = few count (first_met σ roots) met-known met-distinct

  -- the roots lead to each
  pub met-reached : (i : ℕ) → i < length (first_met σ roots) → Reached σ roots (get_or (first_met σ roots) i 0)
  met-reached i h =
      let x = get_or (first_met σ roots) i 0 in
      each-walked σ count (Reached σ roots) (λ n d r. (then d r, els d r)) roots L root x (sym (in-met x) ∙ entry_in (first_met σ roots) i h)

  -- each that the roots lead to is passed
  reached-walked : {n : ℕ} → Reached σ roots n → is_in n (walk σ roots) ≡ true
  reached-walked (root i h) = root-walked σ count roots L i h
  reached-walked (then {n = n} d r) =
      let w = reached-walked r in
      (children-walked σ count L.descends n d (walked-known n w).1 roots L w).0
  reached-walked (els {n = n} d r) =
      let w = reached-walked r in
      (children-walked σ count L.descends n d (walked-known n w).1 roots L w).1

  -- and so has a seat among those that are met
  pub reached-met : (n : ℕ) → Reached σ roots n → 1 ≤ seat_of n (first_met σ roots)
  reached-met n r = in-seat n (first_met σ roots) (in-met n ∙ reached-walked r)
