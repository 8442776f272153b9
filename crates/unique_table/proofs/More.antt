-- How an index comes about: zeros are the index of no node, and a node whose search ended at an empty entry is put there.
use mathlib.Core.Path.{◌≡◌, refl, ap, ◌∙◌}
use mathlib.Core.List.{List}
use Prim.Native.Nat.{ℕ, zero, suc, ◌+◌, ◌*◌, ◌/◌, ◌^◌, ◌≤◌, ◌<◌}
use native.Mathlib.Omega.{arith}
use native.Mathlib.Decide.{ℕ_discrete}
use lib.ListN.{length, get_or, set, replicate, length-set}
use lib.Seq.{get_or-set_same, get_or-set_other}
use lib.IntN.{ℤ}
use Rattle.store.specs.Store.{Store, level_at, then_at, else_at}
use Rattle.store.proofs.Chain.{Agree}
use Rattle.store.proofs.Find.{Holds}
use Rattle.unique_table.specs.Index.{node_key, head_entry, on_from, LeadsOn, arrived, on, MeetsEntry, Indexed, Sought, Finds}
use Rattle.unique_table.proofs.Mixed.{head-below, bit_below}

-- what stands in a list of zeros, and beyond it
zeros-at : (n i : ℕ) → get_or {A = ℕ} (replicate n 0) i 0 ≡ 0
zeros-at zero i = refl
zeros-at (suc n) zero = refl
zeros-at (suc n) (suc i) = zeros-at n i

pub indexed-none : (width : ℕ) (σ : Store) (ix : List ℕ) → 1 ≤ width → width ≤ 2 ^ 34 → width + 4 ≤ length ix → ix ≡ replicate (length ix) 0
    → Indexed width σ 1 ix
indexed-none width σ ix w x h q = record {
  some = w;
  wide = x;
  room = omega arith;
  low = λ i p. absurd (omega (arith, at i));
  high = λ i. omega (arith, at i);
  up = λ n b l p. absurd (omega (arith, at (width + 2 * n + b)));
  meets = λ m a b. absurd (omega arith);
}
  where
    at : (i : ℕ) → get_or ix i 0 ≡ 0
    at i = ap (λ (xs : List ℕ). get_or xs i 0) q ∙ zeros-at (length ix) i

-- the nodes are all that an index goes by
pub indexed-same : (width : ℕ) (σ τ : Store) (c : ℕ) (ix : List ℕ) → Indexed width σ c ix → Agree τ σ c → Indexed width τ c ix
indexed-same width σ τ c ix I a = record {
  some = I.some;
  wide = I.wide;
  room = I.room;
  low = I.low;
  high = I.high;
  up = I.up;
  meets = λ m p h. rw (a.level m p h, a.then m p h, a.els m p h) (I.meets m p h);
}

pub finds-same : {width : ℕ} {σ : Store} (τ : Store) {c : ℕ} {ix : List ℕ} → Finds width σ c ix → Agree τ σ c → Finds width τ c ix
finds-same {width} {σ} τ {c} {ix} F a = record { indexed = λ h. indexed-same width σ τ c ix (F.indexed h) a }

-- the entry that a search comes to is a head, or belongs to one of the nodes
leads-low : {width : ℕ} {σ : Store} {c : ℕ} {ix : List ℕ} (to : ℕ) {k at : ℕ} → Indexed width σ c ix → at < width + 2 * c + 2
    → LeadsOn width ix to k at → to < width + 2 * c + 2
leads-low to I h (arrived q) = omega arith
leads-low to {k} {at} I h (on p x) = leads-low to I (omega (arith, I.high at, bit_below k)) x

-- a search passes no empty entry, so what is put into one doesn't turn it elsewhere
leads-set : {width : ℕ} {ix : List ℕ} (to at v : ℕ) {k a : ℕ} → get_or ix at 0 ≡ 0 → LeadsOn width ix to k a → LeadsOn width (set ix at v) to k a
leads-set to at v z (arrived q) = arrived q
leads-set {width} {ix} to at v {k} {a} z (on p x) =
    let q = get_or-set_other ix at a v 0 (λ y. omega (arith, ap (λ (i : ℕ). get_or ix i 0) y)) in
    let g : 0 < get_or (set ix at v) a 0 = rw q p in
    let y : LeadsOn width (set ix at v) to (k / 2) (on_from width k (get_or (set ix at v) a 0)) = rw q (leads-set to at v z x) in
    on g y

module _ (width : ℕ) (σ τ : Store) (c : ℕ) (ix : List ℕ) (I : Indexed width σ c ix) (l : ℕ) (t e : ℤ) (at : ℕ)
    (s : Sought width σ c ix l t e at) (z : get_or ix at 0 ≡ 0) (some : 1 ≤ c) (room : width + 2 * (c + 1) + 2 ≤ length ix)
    (a : Agree τ σ c) (H : Holds τ (c + 1) l t e) where
  at_low : at < width + 2 * c + 2
  at_low = leads-low at I (omega (arith, head-below width l t e I.some)) s.leads

  -- the entries afterwards
  here : get_or (set ix at (c + 1)) at 0 ≡ c + 1
  here = get_or-set_same ix at (c + 1) 0 s.within

  other : (i : ℕ) → (i ≡ at → ⊥) → get_or (set ix at (c + 1)) i 0 ≡ get_or ix i 0
  other i f = get_or-set_other ix at i (c + 1) 0 f

  low-more : (i : ℕ) → Dec (i ≡ at) → 0 < get_or (set ix at (c + 1)) i 0 → 2 ≤ get_or (set ix at (c + 1)) i 0
  low-more i (yes q) p = rw (q, here) (omega arith)
  low-more i (no f) p = rw (other i f) (I.low i (rw (other i f) at p))

  high-more : (i : ℕ) → Dec (i ≡ at) → get_or (set ix at (c + 1)) i 0 ≤ c + 1
  high-more i (yes q) = rw (q, here) (omega arith)
  high-more i (no f) = omega (arith, other i f, I.high i)

  up_more : (n b i : ℕ) → i ≡ width + 2 * n + b → b < 2 → Dec (i ≡ at) → 0 < get_or (set ix at (c + 1)) i 0 → n < get_or (set ix at (c + 1)) i 0
  up_more n b i x h (yes q) p = rw (q, here) (omega (arith, at_low))
  up_more n b i x h (no f) p =
      let g : 0 < get_or ix i 0 = rw (other i f) at p in
      rw (other i f, x) (I.up n b h (rw x at g))

  -- an old node is met as before, and the new one where it was put
  old-met : (m k a : ℕ) → 2 ≤ m → MeetsEntry width ix m k a → MeetsEntry width (set ix at (c + 1)) m k a
  old-met m k a p M = record {
    place = M.place;
    leads = leads-set M.place at (c + 1) z M.leads;
    node = other M.place (λ q. omega (arith, z, M.node, ap (λ (i : ℕ). get_or ix i 0) q)) ∙ M.node;
  }

  new-met : MeetsEntry width (set ix at (c + 1)) (c + 1) (node_key l t e) (head_entry width l t e)
  new-met = record { place = at; leads = leads-set at at (c + 1) z s.leads; node = here }

  meets-more : (m : ℕ) → 2 ≤ m → m ≤ c + 1 → Dec (m ≡ c + 1)
      → MeetsEntry width (set ix at (c + 1)) m (node_key (level_at τ m) (then_at τ m) (else_at τ m))
      (head_entry width (level_at τ m) (then_at τ m) (else_at τ m))
  meets-more m p h (yes q) = rw (q, H.level, H.then, H.els) new-met
  meets-more m p h (no f) =
      let g : m ≤ c = omega arith in
      rw (a.level m p g, a.then m p g, a.els m p g) (old-met m _ _ p (I.meets m p g))

  pub indexed-more : Indexed width τ (c + 1) (set ix at (c + 1))
  indexed-more = record {
    some = I.some;
    wide = I.wide;
    room = rw (length-set ix at (c + 1)) room;
    low = λ i. low-more i (ℕ_discrete i at);
    high = λ i. high-more i (ℕ_discrete i at);
    up = λ n b h. up_more n b (width + 2 * n + b) refl h (ℕ_discrete (width + 2 * n + b) at);
    meets = λ m p h. meets-more m p h (ℕ_discrete m (c + 1));
  }
