-- What is left of a walk: nodes that are still to be met, in their order.
use mathlib.Core.Path.{◌≡◌, refl, sym, ap, ◌∙◌}
use mathlib.Core.Bool.{Bool, true, false, cond}
use mathlib.Core.List.{List, [], ◌∷◌, ◌++◌}
use Prim.Native.Nat.{ℕ, ◌-◌, ◌≤◌}
use native.Mathlib.Omega.{arith}
use native.Mathlib.Decide.{ℕ_discrete}
use borrow.Author.Tests.{eqb-true, eqb-false}
use lib.Dec.{eqb}
use lib.ListN.{length, get_or}
use Rattle.std.proofs.Common.{Some, None}
use Rattle.std.proofs.lemmas.Option.{none-some, same_Some}
use Rattle.store.specs.Store.{Store}
use Rattle.reached.specs.Meet.{is_in, meet, Marks, Descends, children_of, first_unmarked}
use Rattle.reached.proofs.Entries.{in-here, in_rest}
use Rattle.reached.proofs.Members.{last-in, before-in, Among, Each}
use Rattle.reached.proofs.Children.{children-last, children-inner}
use Rattle.reached.proofs.Marks.{marks-in, marks-out}
use Rattle.reached.proofs.Steps.{meet-kept, meet-old, meet-last, meet-inner}

-- the nodes met once those of a list are
unfoldable pub meet_nodes : Store → List ℕ → List ℕ → List ℕ
meet_nodes σ met [] = met
meet_nodes σ met (n ∷ ns) = meet_nodes σ (meet σ met n) ns

-- a node that was met before adds nothing, wherever it stands
nodes-old : (σ : Store) (met : List ℕ) (x : ℕ) (a b : List ℕ) → is_in x met ≡ true → meet_nodes σ met (a ++ (x ∷ b)) ≡ meet_nodes σ met (a ++ b)
unfolding meet_nodes
nodes-old σ met x [] b h = ap (λ m. meet_nodes σ m b) (meet-old σ met x h)
nodes-old σ met x (n ∷ a) b h = nodes-old σ (meet σ met n) x a b (meet-kept σ met n x h)

-- Where the children of the nodes up to a count are lower numbers, never 0.
module _ (σ : Store) (count : ℕ) (descends : (n : ℕ) → 2 ≤ n → n ≤ count → Descends σ n) where
  -- a node that wasn't met is, and its children are next
  pub nodes-new : (met rest : List ℕ) (n : ℕ) → Among count n → is_in n met ≡ false
      → meet_nodes σ met (n ∷ rest) ≡ meet_nodes σ (met ++ (n ∷ [])) (children_of σ n ++ rest)
  unfolding meet_nodes
  nodes-new met rest n a h = go (ℕ_discrete n 1)
    where
      go : Dec (n ≡ 1) → meet_nodes σ (meet σ met n) rest ≡ meet_nodes σ (met ++ (n ∷ [])) (children_of σ n ++ rest)
      go (yes e) = rw (children-last σ n e, meet-last σ count descends met n a.0 a.1 h e)
      go (no e) = rw (children-inner σ n e, meet-inner σ count descends met n a.0 a.1 h e)

  -- Nodes of a list are to be met, and those that were met are marked.
  module _ (met marks : List ℕ) (m : Marks met marks) (long : count ≤ length marks) where
    -- where all of them have marks they add nothing
    pub nodes-marked : (ns rest : List ℕ) → Each (Among count) ns → first_unmarked marks ns ≡ None → meet_nodes σ met (ns ++ rest) ≡ meet_nodes σ met rest
    unfolding first_unmarked
    nodes-marked [] rest a e = refl
    nodes-marked (n ∷ ns) rest a e = go (eqb (get_or marks (n - 1) 0) 0) refl e (nodes-marked ns rest (λ x q. a x (in_rest x n ns q)))
      where
        q : Among count n
        q = a n (in-here n ns)

        go : (b : Bool) → eqb (get_or marks (n - 1) 0) 0 ≡ b → cond b (Some n) (first_unmarked marks ns) ≡ None
            → (first_unmarked marks ns ≡ None → meet_nodes σ met (ns ++ rest) ≡ meet_nodes σ met rest)
            → meet_nodes σ met ((n ∷ ns) ++ rest) ≡ meet_nodes σ met rest
        go true t e more = absurd (none-some n (sym e))
        go false t e more =
            nodes-old σ met n [] (ns ++ rest) (marks-in met marks n m q.0 (omega (arith, q.1)) (eqb-false _ 0 t)) ∙ more e

    -- the first without one
    pub record First (ns rest : List ℕ) (r : ℕ) : Type 0 where
      pub free : get_or marks (r - 1) 0 ≡ 0
      pub one : is_in r ns ≡ true
      -- is met next, before its children
      pub next : meet_nodes σ met (ns ++ rest) ≡ meet_nodes σ (met ++ (r ∷ [])) (children_of σ r ++ (ns ++ rest))

    pub nodes-first : (ns rest : List ℕ) (r : ℕ) → Each (Among count) ns → Some r ≡ first_unmarked marks ns → First ns rest r
    unfolding first_unmarked
    nodes-first [] rest r a e = absurd (none-some r (sym e))
    nodes-first (n ∷ ns) rest r a e =
        go (eqb (get_or marks (n - 1) 0) 0) refl e (λ q. nodes-first ns rest r (λ x k. a x (in_rest x n ns k)) q)
      where
        q : Among count n
        q = a n (in-here n ns)

        go : (b : Bool) → eqb (get_or marks (n - 1) 0) 0 ≡ b → Some r ≡ cond b (Some n) (first_unmarked marks ns)
            → (Some r ≡ first_unmarked marks ns → First ns rest r) → First (n ∷ ns) rest r
        go true t e more =
            let u = eqb-true (get_or marks (n - 1) 0) 0 t in
            let out = marks-out met marks n m q.0 (omega (arith, q.1)) u in
            rw (same_Some r n e)
            (record {
              free = u;
              one = in-here n ns;
              next =
                  nodes-new met (ns ++ rest) n q out
                  ∙ sym (nodes-old σ (met ++ (n ∷ [])) n (children_of σ n) (ns ++ rest) (last-in n n met refl));
            })
        go false t e more =
            let f = more e in
            let i = marks-in met marks n m q.0 (omega (arith, q.1)) (eqb-false _ 0 t) in
            record {
              free = f.free;
              one = in_rest r n ns f.one;
              next =
                  nodes-old σ met n [] (ns ++ rest) i
                  ∙ f.next
                  ∙ sym (nodes-old σ (met ++ (r ∷ [])) n (children_of σ r) (ns ++ rest) (before-in n r met i));
            }
