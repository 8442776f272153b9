-- The chains as equations: each head is the newest node of its bucket, and each next the newest older node of its node's bucket. This
-- says the same as the rule of specs/Rules.antt, that the numbers met from a head are the bucket's nodes, newest first; so heads and
-- nexts follow from the nodes.
use mathlib.Core.Path.{◌≡◌, refl, sym, ap, ◌∙◌}
use mathlib.Core.Logic.{◌≢◌}
use mathlib.Core.Bool.{Bool, true, false, cond}
use mathlib.Core.List.{List, [], ◌∷◌}
use Prim.Native.Nat.{ℕ, zero, suc, ◌+◌, ◌-◌, ◌≤◌, ◌<◌}
use native.Mathlib.Nat.{mod-lt}
use native.Mathlib.Omega.{arith}
use native.Mathlib.Decide.{ℕ_discrete, dec_lt}
use borrow.Author.Tests.{eq-eqb, ne_eqb, eqb-true, eqb-false}
use lib.Dec.{eqb}
use lib.ListN.{length, get_or}
use lib.Seq.{get_or-set_same, get_or-set_other, ext_get_or}
use lib.IntN.{ℤ, pos}
use Rattle.edges.specs.Edge.{bucket_at, bucket_of}
use Rattle.store.specs.Store.{Store, store, level_at, then_at, else_at, next_at, head_at}
use Rattle.codes.specs.Limits.{Limits}
use Rattle.store.specs.Rules.{Sizes, bucket, members, chain, Chains, Rules}
use Rattle.store.specs.Make.{added, dropped}

-- the newest of the nodes 2 to k of bucket b, or 0
unfoldable pub newest : Store → ℕ → ℕ → ℕ
newest σ b zero = 0
newest σ b (suc zero) = 0
newest σ b (suc (suc k)) = cond (eqb (bucket σ (suc (suc k))) b) (suc (suc k)) (newest σ b (suc k))

pub record Linked (σ : Store) : Type 0 where
  pub head : (b : ℕ) → b < 256 → head_at σ b ≡ newest σ b σ.count
  pub next : (n : ℕ) → 2 ≤ n → n ≤ σ.count → next_at σ n ≡ newest σ (bucket σ n) (n - 1)

-- there are 256 buckets
pub bucket_of-small : (l : ℕ) (t e : ℤ) → bucket_of l t e < 256
unfolding bucket_at
bucket_of-small l t e = mod-lt _ (omega arith)

-- a bucket has a head
pub bucket-under : (b l : ℕ) (t e : ℤ) → b ≡ bucket_of l t e → b < 256
bucket-under b l t e q = rw q (bucket_of-small l t e)

pub bucket-small : (σ : Store) (n : ℕ) → bucket σ n < 256
unfolding bucket
bucket-small σ n = bucket_of-small (level_at σ n) (then_at σ n) (else_at σ n)

-- the newest node of a bucket
module _ (σ : Store) (b : ℕ) where
  pub newest-hit : (n : ℕ) → 2 ≤ n → bucket σ n ≡ b → newest σ b n ≡ n
  unfolding newest
  newest-hit zero h p = absurd (omega arith)
  newest-hit (suc zero) h p = absurd (omega arith)
  newest-hit (suc (suc k)) h p = rw (eq-eqb _ _ p)

  pub newest-miss : (n : ℕ) → 2 ≤ n → bucket σ n ≢ b → newest σ b n ≡ newest σ b (n - 1)
  unfolding newest
  newest-miss zero h p = absurd (omega arith)
  newest-miss (suc zero) h p = absurd (omega arith)
  newest-miss (suc (suc k)) h p = let q : suc (suc k) - 1 ≡ suc k = omega arith in rw (ne_eqb _ _ p, q)

  -- From a number k to the newest node of bucket b up to it only nodes of other buckets are passed.
  pub newest-skips : (P : ℕ → Type 0) → (P 1 → P 0) → ((n : ℕ) → 2 ≤ n → bucket σ n ≢ b → P n → P (n - 1)) → (k : ℕ) → P k → P (newest σ b k)
  unfolding newest
  newest-skips P one step zero h = h
  newest-skips P one step (suc zero) h = one h
  newest-skips P one step (suc (suc k)) h = go (eqb (bucket σ (suc (suc k))) b) refl (newest-skips P one step (suc k))
    where
      go : (x : Bool) → eqb (bucket σ (suc (suc k))) b ≡ x → (P (suc k) → P (newest σ b (suc k))) → P (cond x (suc (suc k)) (newest σ b (suc k)))
      go true p ih = h
      go false p ih = let q : suc (suc k) - 1 ≡ suc k = omega arith in ih (rw q at (step (suc (suc k)) (omega arith) (eqb-false _ _ p) h))

  pub newest-le : (k : ℕ) → newest σ b k ≤ k
  newest-le k = newest-skips (λ n. n ≤ k) (λ h. omega arith) (λ n _ _ h. omega arith) k (omega arith)

  -- it is a node of the bucket
  pub newest-own : (k : ℕ) → 0 < newest σ b k → (2 ≤ newest σ b k) × (bucket σ (newest σ b k) ≡ b)
  unfolding newest
  newest-own zero h = absurd (omega arith)
  newest-own (suc zero) h = absurd (omega arith)
  newest-own (suc (suc k)) h = go (eqb (bucket σ (suc (suc k))) b) refl h (newest-own (suc k))
    where
      go : (x : Bool) → eqb (bucket σ (suc (suc k))) b ≡ x → 0 < cond x (suc (suc k)) (newest σ b (suc k))
          → (0 < newest σ b (suc k) → (2 ≤ newest σ b (suc k)) × (bucket σ (newest σ b (suc k)) ≡ b))
          → (2 ≤ cond x (suc (suc k)) (newest σ b (suc k))) × (bucket σ (cond x (suc (suc k)) (newest σ b (suc k))) ≡ b)
      go true p g ih = (omega arith, eqb-true _ _ p)
      go false p g ih = ih g

  -- and no node of the bucket lies between
  pub newest-gap : (k n : ℕ) → newest σ b k < n → 2 ≤ n → n ≤ k → bucket σ n ≡ b → ⊥
  unfolding newest
  newest-gap zero n h p l e = omega arith
  newest-gap (suc zero) n h p l e = omega arith
  newest-gap (suc (suc k)) n h p l e = go (eqb (bucket σ (suc (suc k))) b) refl h (ℕ_discrete n (suc (suc k))) (newest-gap (suc k) n)
    where
      go : (x : Bool) → eqb (bucket σ (suc (suc k))) b ≡ x → cond x (suc (suc k)) (newest σ b (suc k)) < n → Dec (n ≡ suc (suc k))
          → (newest σ b (suc k) < n → 2 ≤ n → n ≤ suc k → bucket σ n ≡ b → ⊥) → ⊥
      go true q g d ih = omega arith
      go false q g (yes r) ih = eqb-false _ _ q (ap (bucket σ) (sym r) ∙ e)
      go false q g (no r) ih = ih g p (omega arith) e

-- stores whose nodes lie in the same buckets up to k have the same newest nodes
pub newest-same : (σ τ : Store) (b k : ℕ) → ((n : ℕ) → 2 ≤ n → n ≤ k → bucket σ n ≡ bucket τ n) → newest σ b k ≡ newest τ b k
unfolding newest
newest-same σ τ b zero h = refl
newest-same σ τ b (suc zero) h = refl
newest-same σ τ b (suc (suc k)) h = rw (h (suc (suc k)) (omega arith) (omega arith), newest-same σ τ b (suc k) (λ n p q. h n p (omega arith)))

-- A walk along a chain: from a node of bucket b the next number is the newest older node of b, which is lower.
module _ (σ : Store) (L : Linked σ) (n : ℕ) (h : 2 ≤ n) (k : n ≤ σ.count) where
  pub next-newest : (b : ℕ) → bucket σ n ≡ b → next_at σ n ≡ newest σ b (n - 1)
  next-newest b e = L.next n h k ∙ ap (λ (w : ℕ). newest σ w (n - 1)) e

-- The reading form. The members up to j are the newest of them and the members below it.
module _ (σ : Store) (b : ℕ) where
  members-none : (j : ℕ) → newest σ b j ≡ 0 → members σ b j ≡ []
  unfolding members newest
  members-none zero h = refl
  members-none (suc zero) h = refl
  members-none (suc (suc k)) h = go (eqb (bucket σ (suc (suc k))) b) h (members-none (suc k))
    where
      go : (x : Bool) → cond x (suc (suc k)) (newest σ b (suc k)) ≡ 0 → (newest σ b (suc k) ≡ 0 → members σ b (suc k) ≡ [])
          → cond x (suc (suc k) ∷ members σ b (suc k)) (members σ b (suc k)) ≡ []
      go true h ih = absurd (omega arith)
      go false h ih = ih h

  members-some : (j : ℕ) → 0 < newest σ b j → members σ b j ≡ newest σ b j ∷ members σ b (newest σ b j - 1)
  unfolding members newest
  members-some zero h = absurd (omega arith)
  members-some (suc zero) h = absurd (omega arith)
  members-some (suc (suc k)) h = go (eqb (bucket σ (suc (suc k))) b) h (members-some (suc k))
    where
      go : (x : Bool) → 0 < cond x (suc (suc k)) (newest σ b (suc k))
          → (0 < newest σ b (suc k) → members σ b (suc k) ≡ newest σ b (suc k) ∷ members σ b (newest σ b (suc k) - 1))
          → cond x (suc (suc k) ∷ members σ b (suc k)) (members σ b (suc k))
          ≡ cond x (suc (suc k)) (newest σ b (suc k)) ∷ members σ b (cond x (suc (suc k)) (newest σ b (suc k)) - 1)
      go true h ih = let q : suc (suc k) - 1 ≡ suc k = omega arith in rw q
      go false h ih = ih h

  -- from the equations to the reading
  chain-members : Linked σ → (f j : ℕ) → j ≤ f → j ≤ σ.count → chain f σ (newest σ b j) ≡ members σ b j
  unfolding chain
  chain-members L zero j h c = sym (members-none j (omega (arith, newest-le σ b j)))
  chain-members L (suc f) j h c = go (eqb (newest σ b j) 0) refl (chain-members L f (newest σ b j - 1))
    where
      go : (x : Bool) → eqb (newest σ b j) 0 ≡ x
          → (newest σ b j - 1 ≤ f → newest σ b j - 1 ≤ σ.count → chain f σ (newest σ b (newest σ b j - 1)) ≡ members σ b (newest σ b j - 1))
          → cond x [] (newest σ b j ∷ chain f σ (next_at σ (newest σ b j))) ≡ members σ b j
      go true p ih = sym (members-none j (eqb-true _ 0 p))
      go false p ih =
          let z : 0 < newest σ b j = omega (arith, eqb-false (newest σ b j) 0 p) in
          let o = newest-own σ b j z in
          let l = newest-le σ b j in
          let e = next-newest σ L (newest σ b j) o.0 (omega arith) b o.1 in
          ap (λ (w : ℕ). newest σ b j ∷ chain f σ w) e ∙ ap (λ (w : List ℕ). newest σ b j ∷ w) (ih (omega arith) (omega arith)) ∙ sym (members-some j z)

  -- and back: what the numbers met from n say of n, and of the nexts of the members
  record Read (n j : ℕ) : Type 0 where
    start : n ≡ newest σ b j
    links : (i : ℕ) → 2 ≤ i → i ≤ j → bucket σ i ≡ b → next_at σ i ≡ newest σ b (i - 1)

  chain-some : (f n m : ℕ) (r : List ℕ) → chain (suc f) σ n ≡ m ∷ r → (n ≡ m) × (chain f σ (next_at σ n) ≡ r)
  unfolding chain
  chain-some f n m r h = go (eqb n 0) h
    where
      go : (x : Bool) → cond x [] (n ∷ chain f σ (next_at σ n)) ≡ m ∷ r → (n ≡ m) × (chain f σ (next_at σ n) ≡ r)
      go true p = let z : ◌≡◌ {A = ℕ} 0 1 = cc in absurd (omega arith)
      go false p = (cc, cc)

  chain-none : (f n : ℕ) → chain (suc f) σ n ≡ [] → n ≡ 0
  unfolding chain
  chain-none f n h = go (eqb n 0) refl h
    where
      go : (x : Bool) → eqb n 0 ≡ x → cond x [] (n ∷ chain f σ (next_at σ n)) ≡ [] → n ≡ 0
      go true q p = eqb-true n 0 q
      go false q p = let z : ◌≡◌ {A = ℕ} 0 1 = cc in absurd (omega arith)

  read : (f n j : ℕ) → j < f → chain f σ n ≡ members σ b j → Read n j
  read zero n j h q = absurd (omega arith)
  read (suc f) n j h q = go (ℕ_discrete (newest σ b j) 0) (read f (next_at σ n) (newest σ b j - 1))
    where
      go : Dec (newest σ b j ≡ 0)
          → (newest σ b j - 1 < f → chain f σ (next_at σ n) ≡ members σ b (newest σ b j - 1) → Read (next_at σ n) (newest σ b j - 1)) → Read n j
      go (yes x) ih = record { start = chain-none f n (q ∙ members-none j x) ∙ sym x; links = λ i p l e. absurd (newest-gap σ b j i (omega arith) p l e) }
      go (no x) ih =
          let z : 0 < newest σ b j = omega arith in
          let l = newest-le σ b j in
          let y = chain-some f n (newest σ b j) (members σ b (newest σ b j - 1)) (q ∙ members-some j z) in
          let R = ih (omega arith) y.1 in
          record { start = y.0; links = λ i p g e. at R y.0 i p g e (ℕ_discrete i (newest σ b j)) (dec_lt i (newest σ b j)) }
        where
          at : Read (next_at σ n) (newest σ b j - 1) → n ≡ newest σ b j → (i : ℕ) → 2 ≤ i → i ≤ j → bucket σ i ≡ b
              → Dec (i ≡ newest σ b j) → Dec (i < newest σ b j) → next_at σ i ≡ newest σ b (i - 1)
          at R w i p g e (yes u) d = rw u (rw w at R.start)
          at R w i p g e (no u) (yes d) = R.links i p (omega arith) e
          at R w i p g e (no u) (no d) = absurd (newest-gap σ b j i (omega arith) p g e)

pub linked-chains : (σ : Store) → Linked σ → Chains σ
linked-chains σ L b h = ap (chain (σ.count + 1) σ) (L.head b h) ∙ chain-members σ b L (σ.count + 1) σ.count (omega arith) (omega arith)

pub chains-linked : (σ : Store) → Chains σ → Linked σ
chains-linked σ C = record {
  head = λ b h. (read σ b (σ.count + 1) (head_at σ b) σ.count (omega arith) (C b h)).start;
  next = λ n p h. let b = bucket σ n in (read σ b (σ.count + 1) (head_at σ b) σ.count (omega arith) (C b (bucket-small σ n))).links n p h refl;
}

-- two stores with the same nodes up to k
pub record Agree (σ τ : Store) (k : ℕ) : Type 0 where
  pub level : (n : ℕ) → 2 ≤ n → n ≤ k → level_at σ n ≡ level_at τ n
  pub then : (n : ℕ) → 2 ≤ n → n ≤ k → then_at σ n ≡ then_at τ n
  pub els : (n : ℕ) → 2 ≤ n → n ≤ k → else_at σ n ≡ else_at τ n

module _ (σ τ : Store) (k : ℕ) (a : Agree σ τ k) where
  pub agree-bucket : (n : ℕ) → 2 ≤ n → n ≤ k → bucket σ n ≡ bucket τ n
  unfolding bucket
  agree-bucket n p h = rw (a.level n p h, a.then n p h, a.els n p h)

  pub agree-newest : (b j : ℕ) → j ≤ k → newest σ b j ≡ newest τ b j
  agree-newest b j h = newest-same σ τ b j (λ n p l. agree-bucket n p (omega arith))

  -- the next of a node, where both stores are linked
  pub agree-next : (n : ℕ) → 2 ≤ n → n ≤ k → next_at τ n ≡ newest τ (bucket τ n) (n - 1) → next_at τ n ≡ newest σ (bucket σ n) (n - 1)
  agree-next n p h e = e ∙ sym (rw (agree-bucket n p h) (agree-newest (bucket τ n) (n - 1) (omega arith)))

-- a node more
module _ (m : Limits) (σ : Store) (l : ℕ) (t e : ℤ) (z : Sizes m σ) (h : σ.count < length σ.level) where
  pub added-agree : Agree (added σ l t e) σ σ.count
  unfolding added
  added-agree = record {
    level = λ n p k. get_or-set_other σ.level σ.count (n - 1) l 0 (λ x. omega arith);
    then = λ n p k. get_or-set_other σ.then σ.count (n - 1) t (pos 0) (λ x. omega arith);
    els = λ n p k. get_or-set_other σ.els σ.count (n - 1) e (pos 0) (λ x. omega arith);
  }

  -- what the new slot holds
  pub added-level : level_at (added σ l t e) (σ.count + 1) ≡ l
  unfolding added
  added-level = let q : σ.count + 1 - 1 ≡ σ.count = omega arith in rw q (get_or-set_same σ.level σ.count l 0 h)

  pub added_then : then_at (added σ l t e) (σ.count + 1) ≡ t
  unfolding added
  added_then = let q : σ.count + 1 - 1 ≡ σ.count = omega arith in rw q (get_or-set_same σ.then σ.count t (pos 0) (omega (arith, z.then_long)))

  pub added-els : else_at (added σ l t e) (σ.count + 1) ≡ e
  unfolding added
  added-els = let q : σ.count + 1 - 1 ≡ σ.count = omega arith in rw q (get_or-set_same σ.els σ.count e (pos 0) (omega (arith, z.els_long)))

  pub added-bucket : bucket (added σ l t e) (σ.count + 1) ≡ bucket_of l t e
  unfolding bucket
  added-bucket = rw (added-level, added_then, added-els)

  added-linked : Linked σ → Linked (added σ l t e)
  unfolding added
  added-linked L = record { head = λ b g. head b g (ℕ_discrete b (bucket_of l t e)); next = λ n p g. next n p g (ℕ_discrete n (σ.count + 1)) }
    where
      back : σ.count + 1 - 1 ≡ σ.count
      back = omega arith

      head : (b : ℕ) → b < 256 → Dec (b ≡ bucket_of l t e) → head_at (added σ l t e) b ≡ newest (added σ l t e) b (σ.count + 1)
      head b g (yes q) = rw q (get_or-set_same σ.heads (bucket_of l t e) (σ.count + 1) 0 (omega (arith, z.heads_long, bucket_of-small l t e)))
          ∙ sym (newest-hit (added σ l t e) b (σ.count + 1) (omega (arith, z.count_some)) (added-bucket ∙ sym q))
      head b g (no f) = get_or-set_other σ.heads (bucket_of l t e) b (σ.count + 1) 0 f
          ∙ L.head b g ∙ sym (agree-newest (added σ l t e) σ σ.count added-agree b σ.count (omega arith)) ∙ ap (newest (added σ l t e) b) (sym back)
          ∙ sym (newest-miss (added σ l t e) b (σ.count + 1) (omega (arith, z.count_some)) (λ q. f (sym q ∙ added-bucket)))

      next : (n : ℕ) → 2 ≤ n → n ≤ σ.count + 1 → Dec (n ≡ σ.count + 1) → next_at (added σ l t e) n ≡ newest (added σ l t e) (bucket (added σ l t e) n) (n - 1)
      next n p g (yes q) = rw (q, back) (get_or-set_same σ.next σ.count (head_at σ (bucket_of l t e)) 0 (omega (arith, z.next_long))
          ∙ L.head (bucket_of l t e) (bucket_of-small l t e) ∙ sym (agree-newest (added σ l t e) σ σ.count added-agree (bucket_of l t e) σ.count (omega arith))
          ∙ ap (λ (b : ℕ). newest (added σ l t e) b σ.count) (sym added-bucket))
      next n p g (no f) = get_or-set_other σ.next σ.count (n - 1) (head_at σ (bucket_of l t e)) 0 (λ x. f (omega arith))
          ∙ agree-next (added σ l t e) σ σ.count added-agree n p (omega arith) (L.next n p (omega arith))

  pub added-chains : Chains σ → Chains (added σ l t e)
  added-chains C = linked-chains (added σ l t e) (added-linked (chains-linked σ C))

-- a node less
module _ (m : Limits) (σ : Store) (z : Sizes m σ) (h : 2 ≤ σ.count) where
  pub dropped-agree : Agree (dropped σ) σ (σ.count - 1)
  unfolding dropped
  dropped-agree = record {
    level = λ n p k. get_or-set_other σ.level (σ.count - 1) (n - 1) 0 0 (λ x. omega arith);
    then = λ n p k. get_or-set_other σ.then (σ.count - 1) (n - 1) (pos 0) (pos 0) (λ x. omega arith);
    els = λ n p k. get_or-set_other σ.els (σ.count - 1) (n - 1) (pos 0) (pos 0) (λ x. omega arith);
  }

  dropped-linked : Linked σ → Linked (dropped σ)
  unfolding dropped
  dropped-linked L = record { head = λ b l. head b l (ℕ_discrete b (bucket σ σ.count)); next = next }
    where
      head : (b : ℕ) → b < 256 → Dec (b ≡ bucket σ σ.count) → head_at (dropped σ) b ≡ newest (dropped σ) b (σ.count - 1)
      head b l (yes q) = rw q (get_or-set_same σ.heads (bucket σ σ.count) (next_at σ σ.count) 0 (omega (arith, z.heads_long, bucket-small σ σ.count)))
          ∙ next-newest σ L σ.count h (omega arith) b (sym q) ∙ sym (agree-newest (dropped σ) σ (σ.count - 1) dropped-agree b (σ.count - 1) (omega arith))
      head b l (no f) = get_or-set_other σ.heads (bucket σ σ.count) b (next_at σ σ.count) 0 f
          ∙ L.head b l ∙ newest-miss σ b σ.count h (λ q. f (sym q)) ∙ sym (agree-newest (dropped σ) σ (σ.count - 1) dropped-agree b (σ.count - 1) (omega arith))

      next : (n : ℕ) → 2 ≤ n → n ≤ σ.count - 1 → next_at (dropped σ) n ≡ newest (dropped σ) (bucket (dropped σ) n) (n - 1)
      next n p g = get_or-set_other σ.next (σ.count - 1) (n - 1) 0 0 (λ x. omega arith)
          ∙ agree-next (dropped σ) σ (σ.count - 1) dropped-agree n p g (L.next n p (omega arith))

  pub dropped-chains : Chains σ → Chains (dropped σ)
  dropped-chains C = linked-chains (dropped σ) (dropped-linked (chains-linked σ C))

-- A store that keeps the rules is settled by its nodes and its sizes.
module _ (m : Limits) (σ τ : Store) (R : Rules m σ) (S : Rules m τ) (c : σ.count ≡ τ.count) (q : length σ.level ≡ length τ.level) (a : Agree σ τ σ.count) where
  -- a list of slots whose nodes agree and whose other slots are zero
  slots_same : {A : Type 0} (d : A) (xs ys : List A) → length xs ≡ length σ.level → length ys ≡ length τ.level
      → ((n : ℕ) → 2 ≤ n → n ≤ σ.count → get_or xs (n - 1) d ≡ get_or ys (n - 1) d)
      → get_or xs (1 - 1) d ≡ d → get_or ys (1 - 1) d ≡ d
      → ((n : ℕ) → σ.count < n → n ≤ length σ.level → get_or xs (n - 1) d ≡ d) → ((n : ℕ) → τ.count < n → n ≤ length τ.level → get_or ys (n - 1) d ≡ d) → xs ≡ ys
  slots_same d xs ys x y nodes f g u v = ext_get_or d xs ys (x ∙ q ∙ sym y) (λ i l. at i (omega arith) (dec_lt 0 i) (dec_lt i σ.count))
    where
      at : (i : ℕ) → i < length σ.level → Dec (0 < i) → Dec (i < σ.count) → get_or xs i d ≡ get_or ys i d
      at i l (no z) k = let o : i ≡ 1 - 1 = omega arith in rw o (f ∙ sym g)
      at i l (yes z) (yes k) = let o : i + 1 - 1 ≡ i = omega arith in rw o at (nodes (i + 1) (omega arith) (omega arith))
      at i l (yes z) (no k) = let o : i + 1 - 1 ≡ i = omega arith in (rw o at (u (i + 1) (omega arith) (omega arith))) ∙ sym (rw o at (v (i + 1) (omega arith) (omega arith)))

  pub same_next : σ.next ≡ τ.next
  same_next = slots_same 0 σ.next τ.next R.sizes.next_long S.sizes.next_long
      (λ n p h. (chains-linked σ R.chains).next n p h ∙ sym (agree-next σ τ σ.count a n p h ((chains-linked τ S.chains).next n p (omega arith))))
      R.zeros.first.next S.zeros.first.next (λ n p h. (R.zeros.unused n p h).next) (λ n p h. (S.zeros.unused n p h).next)

  pub same-heads : σ.heads ≡ τ.heads
  same-heads = ext_get_or 0 σ.heads τ.heads (R.sizes.heads_long ∙ sym S.sizes.heads_long)
      (λ b l. let k : b < 256 = omega (arith, R.sizes.heads_long) in
      (chains-linked σ R.chains).head b k ∙ agree-newest σ τ σ.count a b σ.count (omega arith) ∙ ap (newest τ b) c ∙ sym ((chains-linked τ S.chains).head b k))

  store_same : {k k' n n' : ℕ} {l l' : List ℕ} {t t' e e' : List ℤ} {x x' h h' : List ℕ} → k ≡ k' → n ≡ n' → l ≡ l' → t ≡ t' → e ≡ e' → x ≡ x' → h ≡ h'
      → store k n l t e x h ≡ store k' n' l' t' e' x' h'
  store_same o p r s u v w = rw (o, p, r, s, u, v, w)

  pub rules-same : σ.levels ≡ τ.levels → σ ≡ τ
  rules-same k = store_same k c
      (slots_same 0 σ.level τ.level refl refl a.level R.zeros.first.level S.zeros.first.level (λ n p h. (R.zeros.unused n p h).level) (λ n p h. (S.zeros.unused n p h).level))
      (slots_same (pos 0) σ.then τ.then R.sizes.then_long S.sizes.then_long a.then R.zeros.first.then S.zeros.first.then (λ n p h. (R.zeros.unused n p h).then) (λ n p h. (S.zeros.unused n p h).then))
      (slots_same (pos 0) σ.els τ.els R.sizes.els_long S.sizes.els_long a.els R.zeros.first.els S.zeros.first.els (λ n p h. (R.zeros.unused n p h).els) (λ n p h. (S.zeros.unused n p h).els))
      same_next same-heads
