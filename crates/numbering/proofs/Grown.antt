-- What a store gains later changes neither the lines of an export nor its support.
use mathlib.Core.Path.{◌≡◌, refl, ap, ◌∙◌}
use mathlib.Core.List.{List}
use Prim.Native.Nat.{ℕ, zero, suc, ◌+◌, ◌≤◌, ◌<◌}
use native.Mathlib.Omega.{arith}
use lib.ListN.{length, get_or}
use lib.IntN.{ℤ, pos}
use Rattle.store.specs.Store.{Store}
use Rattle.store.specs.Rules.{depth, Nodes}
use Rattle.store.specs.Growth.{EdgeOf, Grows}
use Rattle.store.proofs.Growth.{grow-depth}
use Rattle.reached.specs.Walk.{first_met}
use Rattle.reached.proofs.Walking.{nodes-lead}
use Rattle.reached.proofs.Meeting.{met-there}
use Rattle.reached.proofs.Grown.{first-grown}
use Rattle.numbering.specs.Numbering.{deepest_first, numbering}
use Rattle.numbering.specs.Support.{support_from, leveled, support_of}
use Rattle.numbering.proofs.Deepest.{depth-alike, deepest-alike}

module _ {σ τ : Store} (G : Grows σ τ) where
  -- the same nodes are numbered, in the same order
  pub numbering-grown : (roots : List ℤ) → Nodes σ → ((i : ℕ) → i < length roots → EdgeOf σ (get_or roots i (pos 0)))
      → numbering τ roots ≡ numbering σ roots
  unfolding numbering
  numbering-grown roots N there =
      let met = first_met σ roots in
      ap (λ l. deepest_first τ l τ.levels) (first-grown N G roots there)
      ∙ ap (deepest_first τ met) G.levels
      ∙ deepest-alike τ σ σ.levels met (λ i h. grow-depth G (get_or met i 0) (met-there σ σ.count roots (nodes-lead N there) i h).1)

  -- an old node lies as deep, by the levels alone
  leveled-depth : (n : ℕ) → n ≤ σ.count → depth (leveled τ) n ≡ depth (leveled σ) n
  leveled-depth zero h = G.levels
  leveled-depth (suc zero) h = G.levels
  leveled-depth (suc (suc k)) h = G.level (suc (suc k)) (omega arith) h

  module _ (ns : List ℕ) (old : (i : ℕ) → i < length ns → get_or ns i 0 ≤ σ.count) where
    -- so of old nodes the same levels of a range have one ..
    from-grown : (k l : ℕ) → support_from k l (leveled τ) ns ≡ support_from k l (leveled σ) ns
    unfolding support_from
    from-grown zero l = refl
    from-grown (suc k) l =
        rw (depth-alike (leveled τ) (leveled σ) l ns (λ i h. leveled-depth (get_or ns i 0) (old i h)), from-grown k (l + 1))

    -- .. and their support stays the same
    pub support-grown : support_of τ ns ≡ support_of σ ns
    support-grown = ap (λ k. support_from k 0 (leveled τ) ns) G.levels ∙ from-grown σ.levels 0
