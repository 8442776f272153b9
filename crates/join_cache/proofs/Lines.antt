-- The lines of a cache: an empty cache, one in a store that has grown, and a line that is put.
use mathlib.Core.Path.{◌≡◌, refl, sym, ap₂, ◌∙◌}
use mathlib.Core.Logic.{◌≢◌}
use mathlib.Core.Bool.{Bool, true, false}
use mathlib.Core.List.{List}
use Prim.Native.Nat.{ℕ, ◌+◌, ◌*◌, ◌/◌, ◌<◌}
use native.Mathlib.Omega.{arith}
use native.Mathlib.Decide.{ℕ_discrete}
use lib.ListN.{length, get_or, set, replicate, length-set, length-replicate, get_or-replicate}
use lib.Seq.{get_or-set_other, get_or-set_same}
use lib.IntN.{ℤ, pos}
use Rattle.codes.specs.Limits.{limits}
use Rattle.edges.specs.Edge.{IsEdge, eq_z}
use Rattle.edges.proofs.Edge.{eq_z-true, eq_z-false}
use Rattle.store.specs.Store.{Store}
use Rattle.store.specs.Rules.{Nodes, Rules}
use Rattle.store.specs.Growth.{EdgeOf, Grows}
use Rattle.store.proofs.Growth.{grow-edge, grow-answer}
use Rattle.joined.specs.Join.{apply}
use Rattle.join_cache.specs.Cache.{op_by, CacheLine, Cached, Turnable}

-- an edge of a store that keeps the rules is one of the width
edge-of-width : (σ : Store) (x : ℤ) → Rules limits σ → EdgeOf σ x → IsEdge x
edge-of-width σ x R E = omega (arith, R.sizes.count_limit, E.there)

-- where every line is right, each result is an edge of the width
pub cached-turnable : (σ : Store) (c : List ℤ) → Rules limits σ → Cached σ c → Turnable c
cached-turnable σ c R C i h = go (eq_z x (pos 0)) refl
  where
    x : ℤ
    x = get_or c (4 * i + 3) (pos 0)

    go : (y : Bool) → eq_z x (pos 0) ≡ y → IsEdge x
    go true q = rw (eq_z-true x (pos 0) q) (omega arith)
    go false q = edge-of-width σ x R (C i h (eq_z-false x (pos 0) q)).result.edge

-- an empty cache has no line
pub cached-zeros : (σ : Store) (n : ℕ) → Cached σ (replicate n (pos 0))
cached-zeros σ n i h f = absurd (f (get_or-replicate n (4 * i + 3) (pos 0) (pos 0) (rw (length-replicate n (pos 0)) at h)))

-- what is right stays so, whatever was made since
module _ {σ τ : Store} (N : Nodes σ) (G : Grows σ τ) where
  grow-line : (k a b x : ℤ) → CacheLine σ k a b x → CacheLine τ k a b x
  grow-line k a b x L = record {
    left = grow-edge G a L.left;
    right = grow-edge G b L.right;
    result = record {
      edge = grow-edge G x L.result.edge;
      says = λ s. grow-answer G N s x L.result.edge ∙ L.result.says s
          ∙ ap₂ (apply (op_by k)) (sym (grow-answer G N s a L.left)) (sym (grow-answer G N s b L.right));
    };
  }

  pub cached-grows : (c : List ℤ) → Cached σ c → Cached τ c
  cached-grows c C i h f = grow-line _ _ _ _ (C i h f)

-- A line that is put: the four entries of line i.
module _ (c : List ℤ) (i : ℕ) (I : 4 * i + 3 < length c) (k a b x : ℤ) where
  abbrev one : List ℤ
  one = set c (4 * i) k

  abbrev two : List ℤ
  two = set one (4 * i + 1) a

  abbrev three : List ℤ
  three = set two (4 * i + 2) b

  abbrev put : List ℤ
  put = set three (4 * i + 3) x

  put-long : length put ≡ length c
  put-long = simp length-set

  -- its entries
  first-put : get_or put (4 * i) (pos 0) ≡ k
  first-put =
      get_or-set_other three (4 * i + 3) (4 * i) x (pos 0) (λ e. omega arith)
      ∙ get_or-set_other two (4 * i + 2) (4 * i) b (pos 0) (λ e. omega arith)
      ∙ get_or-set_other one (4 * i + 1) (4 * i) a (pos 0) (λ e. omega arith)
      ∙ get_or-set_same c (4 * i) k (pos 0) (omega arith)

  second-put : get_or put (4 * i + 1) (pos 0) ≡ a
  second-put =
      get_or-set_other three (4 * i + 3) (4 * i + 1) x (pos 0) (λ e. omega arith)
      ∙ get_or-set_other two (4 * i + 2) (4 * i + 1) b (pos 0) (λ e. omega arith)
      ∙ get_or-set_same one (4 * i + 1) a (pos 0) (simp length-set (omega arith))

  third-put : get_or put (4 * i + 2) (pos 0) ≡ b
  third-put =
      get_or-set_other three (4 * i + 3) (4 * i + 2) x (pos 0) (λ e. omega arith)
      ∙ get_or-set_same two (4 * i + 2) b (pos 0) (simp length-set (omega arith))

  last-put : get_or put (4 * i + 3) (pos 0) ≡ x
  last-put = get_or-set_same three (4 * i + 3) x (pos 0) (simp length-set I)

  -- an entry of another line is as it was
  other-put : (n : ℕ) → n / 4 ≢ i → get_or put n (pos 0) ≡ get_or c n (pos 0)
  other-put n f =
      get_or-set_other three (4 * i + 3) n x (pos 0) (λ e. f (omega arith))
      ∙ get_or-set_other two (4 * i + 2) n b (pos 0) (λ e. f (omega arith))
      ∙ get_or-set_other one (4 * i + 1) n a (pos 0) (λ e. f (omega arith))
      ∙ get_or-set_other c (4 * i) n k (pos 0) (λ e. f (omega arith))

  -- so where the line is right, and the others were
  pub put-cached : (σ : Store) → Cached σ c → CacheLine σ k a b x → Cached σ put
  put-cached σ C L j h f = go (ℕ_discrete j i)
    where
      go : Dec (j ≡ i) → CacheLine σ (get_or put (4 * j) (pos 0)) (get_or put (4 * j + 1) (pos 0)) (get_or put (4 * j + 2) (pos 0)) (get_or put (4 * j + 3) (pos 0))
      go (yes e) = rw (e, first-put, second-put, third-put, last-put) L
      go (no g) =
          let q = other-put (4 * j + 3) (λ e. g (omega arith)) in
          rw (
            other-put (4 * j) (λ e. g (omega arith)),
            other-put (4 * j + 1) (λ e. g (omega arith)),
            other-put (4 * j + 2) (λ e. g (omega arith)),
            q,
          ) (C j (omega (arith, put-long)) (λ z. f (q ∙ z)))
