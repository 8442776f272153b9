-- What is found of a stretch, and what it says of the chain: two nodes alike, both in a stretch or one in it and one after it, are nodes of
-- the chain; and where there are none, no node of the stretch is like an older one.
use mathlib.Core.Path.{◌≡◌, sym, ap, ◌∙◌}
use Prim.Native.Nat.{ℕ, ◌+◌, ◌-◌, ◌≤◌, ◌<◌}
use native.Mathlib.Omega.{arith}
use native.Mathlib.Decide.{ℕ_discrete, dec_lt}
use mathlib.Core.List.{List}
use lib.ListN.{get_or}
use Rattle.store.specs.Store.{Store, level_at, then_at, else_at}
use Rattle.store.specs.Rules.{AlikeNodes, bucket}
use Rattle.store.proofs.Find.{holds-true, true-holds}
use Rattle.unique_table.specs.Index.{Indexed, Sought, AllAlone}
use Rattle.stretch.specs.Chained.{Chained, met_after, SameNode, Copied, LikeNone, LikeNoOlder, NoneLike, ChainAlone}
use Rattle.stretch.proofs.Steps.{met-is, met-chained, met-lower, met-under, met_all}
use Rattle.stretch.proofs.Passed.{PassedBy, passed_on}

-- an older node that is sought in the index of a stretch
module _ (width : ℕ) (τ : Store) (c : ℕ) (ix : List ℕ) (I : Indexed width τ c ix) (σ : Store) (n at : ℕ)
    (s : Sought width τ c ix (level_at σ n) (then_at σ n) (else_at σ n) at) where
  pub sought-none : get_or ix at 0 ≡ 0 → LikeNone σ τ c n
  sought-none z p a b S = s.none z p a b (true-holds τ _ _ _ p (record { level = S.level; then = S.then; els = S.els }))

  pub sought-like : (get_or ix at 0 ≡ 0 → ⊥) → LikeNone σ τ c n → ⊥
  sought-like f N =
      let z : 0 < get_or ix at 0 = omega arith in
      let H = holds-true τ _ _ _ (get_or ix at 0) (s.hit z) in
      N (get_or ix at 0) (I.low at z) (I.high at) (record { level = H.level; then = H.then; els = H.els })

-- two copies of one store's nodes
alike-nodes : (σ τ : Store) (m n p q : ℕ) → SameNode σ m τ p → SameNode σ n τ q → AlikeNodes τ p q → AlikeNodes σ m n
alike-nodes σ τ m n p q S T a = record {
  level = sym S.level ∙ a.level ∙ T.level;
  then = sym S.then ∙ a.then ∙ T.then;
  els = sym S.els ∙ a.els ∙ T.els;
}

alike-copies : (σ τ : Store) (m n p q : ℕ) → SameNode σ m τ p → SameNode σ n τ q → AlikeNodes σ m n → AlikeNodes τ p q
alike-copies σ τ m n p q S T a = record {
  level = S.level ∙ a.level ∙ sym T.level;
  then = S.then ∙ a.then ∙ sym T.then;
  els = S.els ∙ a.els ∙ sym T.els;
}

turned_round : (σ : Store) (m n : ℕ) → AlikeNodes σ m n → AlikeNodes σ n m
turned_round σ m n a = record { level = sym a.level; then = sym a.then; els = sym a.els }

-- both are copies of one node
alike_same : (σ τ : Store) (m n p : ℕ) → SameNode σ n τ p → AlikeNodes σ m n → SameNode σ m τ p
alike_same σ τ m n p S a = record { level = S.level ∙ sym a.level; then = S.then ∙ sym a.then; els = S.els ∙ sym a.els }

same_alike : (σ τ : Store) (m n p : ℕ) → SameNode σ m τ p → SameNode σ n τ p → AlikeNodes σ m n
same_alike σ τ m n p S T = record { level = sym S.level ∙ T.level; then = sym S.then ∙ T.then; els = sym S.els ∙ T.els }

-- nodes alike lie in one bucket
alike-bucket : (σ : Store) (m n : ℕ) → AlikeNodes σ m n → bucket σ m ≡ bucket σ n
unfolding bucket
alike-bucket σ m n a = rw (a.level, a.then, a.els)

module _ (σ : Store) (n : ℕ) (C : Chained σ n) (τ : Store) (c rest : ℕ) (K : Copied σ n τ c rest) (two : 2 ≤ c) where
  -- node p of the stretch, and the node that it is a copy of
  copy_of : (p : ℕ) → 2 ≤ p → p ≤ c → SameNode σ (met_after σ n (p - 2)) τ p
  copy_of p a b = let o : p - 2 + 2 ≡ p = omega arith in rw o at (K.same (p - 2) (omega arith))

  copied-node : (p : ℕ) → 2 ≤ p → p ≤ c → 0 < met_after σ n (p - 2)
  copied-node p a b = K.nodes (p - 2) (omega arith)

  -- where no node of the chain is like an older one, nothing is found
  pub stretch-sound : ChainAlone σ n → AllAlone τ c × NoneLike σ rest τ c
  stretch-sound A = (apart, older)
    where
      here : (p : ℕ) → 2 ≤ p → p ≤ c → LikeNoOlder σ (met_after σ n (p - 2))
      here p a b =
          let z = copied-node p a b in
          A (met_after σ n (p - 2)) ((met-is σ n C (p - 2)).node z) (met-under σ n C (p - 2)) ((met-is σ n C (p - 2)).mine z)

      apart : AllAlone τ c
      apart q a b p u l w =
          here p u (omega arith) (met_after σ n (q - 2)) ((met-is σ n C (q - 2)).node (copied-node q a b))
          (met-lower σ n C (p - 2) (q - 2) (omega arith) (copied-node p u (omega arith)))
          (alike-nodes σ τ _ _ q p (copy_of q a b) (copy_of p u (omega arith)) (turned_round τ p q w))

      older : NoneLike σ rest τ c
      older m a b e p u l S =
          here p u l m a (omega (arith, K.stands, met-lower σ n C (p - 2) (c - 1) (omega arith) (copied-node p u l)))
          (same_alike σ τ m _ p S (copy_of p u l))

  -- where nothing is found, no node of the stretch is like an older one
  module _ (A : AllAlone τ c) (N : NoneLike σ rest τ c) where
    stretch-node : (i : ℕ) → i < c - 1 → LikeNoOlder σ (met_after σ n i)
    stretch-node i l m a g w = go (dec_lt rest m)
      where
        z : 0 < met_after σ n i
        z = K.nodes i (omega arith)

        e : bucket σ m ≡ bucket σ n
        e = alike-bucket σ m (met_after σ n i) w ∙ (met-is σ n C i).mine z

        go : Dec (rest < m) → ⊥
        go (yes d) =
            let M = met_all σ n C (c - 1) (λ j h. K.nodes j (omega arith)) m a (rw K.stands at d) (omega (arith, met-under σ n C i)) e in
            later M.step M.before M.is (dec_lt i M.step)
          where
            later : (j : ℕ) → j < c - 1 → met_after σ n j ≡ m → Dec (i < j) → ⊥
            later j h q (yes x) =
                A (j + 2) (omega arith) (omega arith) (i + 2) (omega arith) (omega arith)
                (alike-copies σ τ (met_after σ n i) (met_after σ n j) _ _ (K.same i (omega arith)) (K.same j (omega arith))
                (turned_round σ _ _ (rw q w)))
            later j h q (no x) = before (ℕ_discrete i j)
              where
                before : Dec (i ≡ j) → ⊥
                before (yes y) = omega (arith, ap (met_after σ n) y)
                before (no y) = omega (arith, met-lower σ n C j i (omega arith) (K.nodes j (omega arith)))
        go (no d) =
            N m a (omega arith) (e ∙ sym (rest-mine (omega arith))) (i + 2) (omega arith) (omega arith)
            (alike_same σ τ m _ _ (K.same i (omega arith)) w)
          where
            rest-mine : 0 < rest → bucket σ rest ≡ bucket σ n
            rest-mine h = rw K.stands ((met-is σ n C (c - 1)).mine (rw K.stands at h))

    pub stretch-passed : (s : ℕ) → PassedBy σ s (LikeNoOlder σ) n → 0 < n → PassedBy σ s (LikeNoOlder σ) rest
    stretch-passed s W g = rw K.stands (passed_on σ s (LikeNoOlder σ) n W (c - 1) (λ i l. K.nodes i (omega arith)) stretch-node g)

  -- the walk goes on, lower
  pub stretch-chained : Chained σ rest
  stretch-chained = rw K.stands (met-chained σ n C (c - 1))

  pub stretch-lower : 0 < n → rest < n
  unfolding met_after
  stretch-lower g = omega (arith, K.stands, met-lower σ n C 0 (c - 1) (omega arith) g)
