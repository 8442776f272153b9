-- The ascending pass that tests the chains: with each bucket's newest node so far in a list, each next is compared with its bucket's.
use mathlib.Core.Path.{◌≡◌, sym, ap, ◌∙◌}
use mathlib.Core.Logic.{◌≢◌}
use mathlib.Core.Bool.{Bool, true≢false}
use mathlib.Core.List.{List}
use Prim.Native.Nat.{ℕ, ◌+◌, ◌-◌, ◌≤◌, ◌<◌}
use native.Mathlib.Omega.{arith}
use native.Mathlib.Decide.{ℕ_discrete}
use lib.ListN.{length, get_or, set, length-set}
use lib.Seq.{get_or-set_same, get_or-set_other, ext_get_or}
use Rattle.std.specs.Bool.{Decides as LibDecides}
use Rattle.std.specs.Str.{bytes_eq}
use Rattle.std.proofs.lemmas.Slice.Eq.{slice_eq-Decides}
use Rattle.std.proofs.lemmas.Bool.Decides.{Decides-eqb}
use lib.IntN.{ℤ, pos}
use Rattle.edges.specs.Edge.{bucket_of}
use Rattle.store.specs.Store.{Store, next_at}
use Rattle.store.specs.Rules.{bucket, Chains}
use Rattle.store.specs.Keeps.{Decides}
use Rattle.store.proofs.Chain.{bucket_of-small, newest, newest-hit, newest-miss, bucket-small, linked-chains, chains-linked}

-- there are 256 buckets
pub bucket_small : (l : ℕ) (t e : ℤ) → bucket_of l t e < 256
bucket_small l t e = bucket_of-small l t e

-- the nodes below n passed
pub record Passed (σ : Store) (last : List ℕ) (n : ℕ) : Type 0 where
  pub low : 2 ≤ n
  pub high : n ≤ σ.count + 1
  pub long : length last ≡ 256
  pub newest_is : (b : ℕ) → b < 256 → get_or last b 0 ≡ newest σ b (n - 1)
  pub next_is : (i : ℕ) → 2 ≤ i → i < n → next_at σ i ≡ newest σ (bucket σ i) (i - 1)

module _ (σ : Store) (last : List ℕ) where
  pub pass-start : 1 ≤ σ.count → length last ≡ 256 → ((b : ℕ) → b < 256 → get_or last b 0 ≡ 0) → Passed σ last 2
  unfolding newest
  pass-start h l z = record { low = omega arith; high = omega arith; long = l; newest_is = z; next_is = λ i p q. absurd (omega arith) }

  -- node i + 1, whose slot is the one after i others
  module _ (i b : ℕ) (p : Passed σ last (i + 1)) (h : i < σ.count)
      (q : b ≡ bucket_of (get_or σ.level i 0) (get_or σ.then i (pos 0)) (get_or σ.els i (pos 0))) where
    slot : i + 1 - 1 ≡ i
    slot = omega arith

    mine : b ≡ bucket σ (i + 1)
    unfolding bucket
    mine = rw slot q

    low : b < 256
    low = omega (arith, bucket-small σ (i + 1), mine)

    pub pass-more : get_or σ.next i 0 ≡ get_or last b 0 → Passed σ (set last b (i + 1)) (i + 1 + 1)
    pass-more e = record {
      low = omega (arith, p.low);
      high = omega arith;
      long = length-set last b (i + 1) ∙ p.long;
      newest_is = λ c l. now c l (ℕ_discrete c b);
      next_is = λ j g l. old j g l (ℕ_discrete j (i + 1));
    }
      where
        back : i + 1 + 1 - 1 ≡ i + 1
        back = omega arith

        now : (c : ℕ) → c < 256 → Dec (c ≡ b) → get_or (set last b (i + 1)) c 0 ≡ newest σ c (i + 1 + 1 - 1)
        now c l (yes x) = rw (x, back) (get_or-set_same last b (i + 1) 0 (omega (arith, low, p.long)) ∙ sym (newest-hit σ b (i + 1) p.low (sym mine)))
        now c l (no x) =
            rw back (get_or-set_other last b c (i + 1) 0 x ∙ p.newest_is c l ∙ sym (newest-miss σ c (i + 1) p.low (λ y. x (sym y ∙ sym mine))))

        next : next_at σ (i + 1) ≡ newest σ b (i + 1 - 1)
        next = ap (λ j. get_or σ.next j 0) slot ∙ e ∙ p.newest_is b low

        old : (j : ℕ) → 2 ≤ j → j < i + 1 + 1 → Dec (j ≡ i + 1) → next_at σ j ≡ newest σ (bucket σ j) (j - 1)
        old j g l (yes x) = rw (x, ← mine) next
        old j g l (no x) = p.next_is j g (omega arith)

    pub pass-bad : get_or σ.next i 0 ≢ get_or last b 0 → Chains σ → ⊥
    pass-bad f C =
        let n = (chains-linked σ C).next (i + 1) p.low (omega arith) in
        f (sym (ap (λ j. get_or σ.next j 0) slot) ∙ n ∙ rw (← mine) (sym (p.newest_is b low)))

  -- after the last node only the heads are left
  pub pass-end : (n : ℕ) → Passed σ last n → σ.count < n → length σ.heads ≡ 256 → (r : Bool) → r ≡ bytes_eq σ.heads last → Decides r (Chains σ)
  pass-end n p h k r e = record {
    yes = λ q. linked-chains σ (record {
      head = λ b l. ap (λ (hs : List ℕ). get_or hs b 0) (d.0 q) ∙ full b l;
      next = λ i g l. p.next_is i g (omega arith);
    });
    no = λ q C. true≢false (sym (d.1 (same C)) ∙ q);
  }
    where
      d : LibDecides r (σ.heads ≡ last)
      d = slice_eq-Decides Decides-eqb σ.heads last r e

      full : (b : ℕ) → b < 256 → get_or last b 0 ≡ newest σ b σ.count
      full b l = let x : n - 1 ≡ σ.count = omega (arith, p.high) in p.newest_is b l ∙ ap (newest σ b) x

      same : Chains σ → σ.heads ≡ last
      same C = ext_get_or 0 σ.heads last (k ∙ sym p.long) (λ b l. let m : b < 256 = omega arith in (chains-linked σ C).head b m ∙ sym (full b m))
