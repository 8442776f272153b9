-- A search of the index. At each entry that it comes to, every node that holds the level, the then and the else is still to be met; so it
-- meets such a node before it comes to an empty entry.
use mathlib.Core.Path.{◌≡◌, refl, sym, ap, ◌∙◌}
use mathlib.Core.Bool.{Bool, true, false, true≢false}
use mathlib.Core.List.{List}
use Prim.Native.Nat.{ℕ, zero, suc, ◌+◌, ◌-◌, ◌*◌, ◌/◌, ◌≤◌, ◌<◌}
use native.Mathlib.Omega.{arith}
use native.Mathlib.Decide.{ℕ_discrete}
use lib.ListN.{length, get_or}
use lib.IntN.{ℤ}
use Rattle.store.specs.Store.{Store}
use Rattle.store.specs.Rules.{Nodes}
use Rattle.store.specs.Make.{holds, find}
use Rattle.store.proofs.Find.{Holds, holds-true, true-holds, find-is, absent-find}
use Rattle.unique_table.specs.Index.{node_key, head_entry, on_from, LeadsOn, arrived, on, MeetsEntry, Indexed, Sought}
use Rattle.unique_table.proofs.Mixed.{head-below, bit_below}

-- a search that has come to an entry, with what is left of its key and the number there
pub record Seeking (width : ℕ) (σ : Store) (c : ℕ) (ix : List ℕ) (l : ℕ) (t e : ℤ) (k at n : ℕ) : Type 0 where
  pub is : n ≡ get_or ix at 0
  pub low : at < width + 2 * c + 2
  pub so_far : (to : ℕ) → LeadsOn width ix to k at → LeadsOn width ix to (node_key l t e) (head_entry width l t e)
  pub left : (m : ℕ) → 2 ≤ m → m ≤ c → holds σ l t e m ≡ true → MeetsEntry width ix m k at

-- how far a search still goes at most: numbers rise up to c, or it ends at 0
abbrev pub rest : ℕ → ℕ → ℕ
rest c zero = 0
rest c (suc n) = c - n

rest-less : (c n x : ℕ) → 0 < n → n ≤ c → (0 < x → n < x) → rest c x < rest c n
rest-less c zero x p h f = absurd (omega arith)
rest-less c (suc n) zero p h f = omega arith
rest-less c (suc n) (suc x) p h f = let g = f (omega arith) in omega arith

module _ (width : ℕ) (σ : Store) (c : ℕ) (ix : List ℕ) (I : Indexed width σ c ix) (l : ℕ) (t e : ℤ) where
  -- a node that holds them is met from their head on
  met : (m : ℕ) → 2 ≤ m → m ≤ c → holds σ l t e m ≡ true → MeetsEntry width ix m (node_key l t e) (head_entry width l t e)
  met m a b h =
      let H = holds-true σ l t e m h in
      rw (H.level, H.then, H.els) at (I.meets m a b)

  pub seeking-start : (k at : ℕ) → k ≡ node_key l t e → at ≡ head_entry width l t e → Seeking width σ c ix l t e k at (get_or ix at 0)
  seeking-start k at p q = rw (p, q) (record {
    is = refl;
    low = omega (arith, head-below width l t e I.some);
    so_far = λ to x. x;
    left = met;
  })

  module _ (k at n : ℕ) (s : Seeking width σ c ix l t e k at n) where
    -- the entry can be read
    pub seeking-within : at < length ix
    seeking-within = omega (arith, s.low, I.room)

    module _ (h : n ≡ 0 → ⊥) where
      taken : 0 < get_or ix at 0
      taken = omega (arith, s.is)

      pub seeking-low : 2 ≤ n
      seeking-low = rw s.is (I.low at taken)

      pub seeking-high : n ≤ c
      seeking-high = rw s.is (I.high at)

      pub seeking-next : on_from width k n < width + 2 * c + 2
      seeking-next = omega (arith, seeking-high, bit_below k)

      -- a turn
      pub seeking-more : (x : Bool) → x ≡ holds σ l t e n → x ≡ false → Seeking width σ c ix l t e (k / 2) (on_from width k n) (get_or ix (on_from width k n) 0)
      seeking-more x r f = record {
        is = refl;
        low = seeking-next;
        so_far = λ to y. s.so_far to (on taken (rw s.is at y));
        left = λ m a b g. go m g (s.left m a b g);
      }
        where
          further : (m to : ℕ) → holds σ l t e m ≡ true → get_or ix to 0 ≡ m → LeadsOn width ix to k at → MeetsEntry width ix m (k / 2) (on_from width k n)
          further m to g q (arrived p) = absurd (true≢false (sym g ∙ ap (holds σ l t e) (sym q ∙ ap (λ (i : ℕ). get_or ix i 0) (sym p) ∙ sym s.is) ∙ sym r ∙ f))
          further m to g q (on p y) = record { place = to; leads = rw s.is y; node = q }

          go : (m : ℕ) → holds σ l t e m ≡ true → MeetsEntry width ix m k at → MeetsEntry width ix m (k / 2) (on_from width k n)
          go m g M = further m M.place g M.node M.leads

      -- on either way from a node numbers rise
      pub seeking-less : (b : ℕ) → b < 2 → rest c (get_or ix (width + 2 * n + b) 0) < rest c n
      seeking-less b l = rest-less c n _ (omega arith) seeking-high (I.up n b l)

      pub seeking-hit : (x : Bool) → x ≡ holds σ l t e n → x ≡ true → Sought width σ c ix l t e at
      seeking-hit x r f = record {
        within = seeking-within;
        leads = s.so_far at (arrived refl);
        hit = λ p. rw s.is at (sym r ∙ f);
        none = λ z. absurd (h (s.is ∙ z));
      }

    -- an empty entry
    pub seeking-end : n ≡ 0 → Sought width σ c ix l t e at
    seeking-end h = record {
      within = seeking-within;
      leads = s.so_far at (arrived refl);
      hit = λ p. absurd (omega (arith, s.is));
      none = λ z m a b g. go m a (s.left m a b g);
    }
      where
        nowhere : (m to : ℕ) → 2 ≤ m → get_or ix to 0 ≡ m → LeadsOn width ix to k at → ⊥
        nowhere m to a q (arrived p) = omega (arith, s.is, ap (λ (i : ℕ). get_or ix i 0) p)
        nowhere m to a q (on p y) = omega (arith, s.is)

        go : (m : ℕ) → 2 ≤ m → MeetsEntry width ix m k at → ⊥
        go m a M = nowhere m M.place a M.node M.leads

  -- the node that a search gives
  module _ (at : ℕ) (s : Sought width σ c ix l t e at) where
    pub sought-holds : 0 < get_or ix at 0 → Holds σ (get_or ix at 0) l t e
    sought-holds h = holds-true σ l t e (get_or ix at 0) (s.hit h)

-- A search of the index finds what a search of the store finds.
module _ (width : ℕ) (σ : Store) (ix : List ℕ) (I : Indexed width σ σ.count ix) where
  pub sought-find : Nodes σ → (l : ℕ) (t e : ℤ) (at : ℕ) → Sought width σ σ.count ix l t e at → get_or ix at 0 ≡ find σ l t e
  sought-find N l t e at s = go (ℕ_discrete (get_or ix at 0) 0)
    where
      go : Dec (get_or ix at 0 ≡ 0) → get_or ix at 0 ≡ find σ l t e
      go (yes q) = q ∙ sym (absent-find σ l t e (λ m a b H. s.none q m a b (true-holds σ l t e m H)))
      go (no f) = sym (find-is σ l t e N (get_or ix at 0) (I.low at (omega arith)) (I.high at) (holds-true σ l t e (get_or ix at 0) (s.hit (omega arith))))
