-- The two edges of a node, the one that its way takes and the other, by the store and as the code reads them: an edge x as
-- `to_z edge_width (of_z edge_width x)`.
use Prim.Native.Nat.{ℕ, ◌≤◌, ◌<◌}
use mathlib.Core.Path.{◌≡◌, refl, sym, ap, ap₂, ◌∙◌}
use mathlib.Core.Bool.{Bool, true, false, not, cond, beq}
use mathlib.Core.List.{List, []}
use native.Mathlib.Omega.{arith}
use native.Mathlib.Nat.{le_refl}
use lib.ListN.{length}
use lib.IntN.{ℤ, pos, negsuc, nat_abs}
use mir.Val.{to_z, of_z}
use Rattle.edges.specs.Width.{edge_width}
use Rattle.edges.specs.Edge.{minus, turn}
use Rattle.edges.proofs.Signed.{edge-back}
use Rattle.store.specs.Store.{Store, store, slots, level_at, then_at, else_at}
use Rattle.store.specs.Meaning.{setting_of, node, answer}
use Rattle.evaluation.specs.Evaluated.{Walks}
use Rattle.evaluation.proofs.Walk.{slots-answer, fits}
use Rattle.tipping.specs.Way.{taken_at, other_at}
use Rattle.tipping.proofs.Flips.{node-taken, taken-edge, taken-lower, other_edge, other-lower}

-- an edge, as it is read back
abbrev pub back : ℤ → ℤ
back x = to_z edge_width (of_z edge_width x)

-- the store of the nodes up to one, for as many levels as the setting has bytes
abbrev pub up_to : Store → List ℕ → ℕ → Store
up_to σ setting n = store (length setting) n σ.level σ.then σ.els [] []

-- what a store says at a setting: of a node and of an edge, and the two edges of a node
abbrev pub node_in : Store → List ℕ → ℕ → Bool
node_in σ setting n = node σ (setting_of setting) n

abbrev pub answer_in : Store → List ℕ → ℤ → Bool
answer_in σ setting e = answer σ (setting_of setting) e

abbrev pub taken_in : Store → List ℕ → ℕ → ℤ
taken_in σ setting n = taken_at σ (setting_of setting) n

abbrev pub other_in : Store → List ℕ → ℕ → ℤ
other_in σ setting n = other_at σ (setting_of setting) n

-- what a node says comes from the lists alone
pub node-slots : (σ : Store) (s : List ℕ) (n : ℕ) → node σ (setting_of s) n ≡ node (slots σ.level σ.then σ.els) (setting_of s) n
unfolding turn
node-slots σ s n = slots-answer σ (setting_of s) (pos n)

-- so a node and an edge say of the store of the nodes up to one what they say of the store
pub node-up : (σ : Store) (setting : List ℕ) (m n : ℕ) → node_in (up_to σ setting m) setting n ≡ node_in σ setting n
node-up σ setting m n = node-slots (up_to σ setting m) setting n ∙ sym (node-slots σ setting n)

pub answer-up : (σ : Store) (setting : List ℕ) (m : ℕ) (e : ℤ) → answer_in (up_to σ setting m) setting e ≡ answer_in σ setting e
answer-up σ setting m e = slots-answer (up_to σ setting m) (setting_of setting) e ∙ sym (slots-answer σ (setting_of setting) e)

-- a node's answer, by that of an edge to it and its sign
pub turn-here : (e : ℤ) (a : Bool) → not (beq (turn e a) (minus e)) ≡ a
unfolding turn minus
turn-here (pos n) true = refl
turn-here (pos n) false = refl
turn-here (negsuc n) true = refl
turn-here (negsuc n) false = refl

module _ {σ : Store} {setting : List ℕ} {n : ℕ} (W : Walks σ setting n) (p : 2 ≤ n) where
  pub taken-some : 1 ≤ nat_abs (taken_in σ setting n)
  taken-some = (taken-edge (up_to σ setting n) W.nodes (setting_of setting) n p (le_refl n)).some

  pub taken-less : nat_abs (taken_in σ setting n) < n
  taken-less = taken-lower (up_to σ setting n) W.nodes (setting_of setting) n p (le_refl n)

  pub taken_back : back (taken_in σ setting n) ≡ taken_in σ setting n
  taken_back = edge-back edge_width (taken_in σ setting n) (omega (arith, taken-less, W.small))

  pub other-some : 1 ≤ nat_abs (other_in σ setting n)
  other-some = (other_edge (up_to σ setting n) W.nodes (setting_of setting) n p (le_refl n)).some

  pub other-less : nat_abs (other_in σ setting n) < n
  other-less = other-lower (up_to σ setting n) W.nodes (setting_of setting) n p (le_refl n)

  pub other-back : back (other_in σ setting n) ≡ other_in σ setting n
  other-back = edge-back edge_width (other_in σ setting n) (omega (arith, other-less, W.small))

  -- they are those of the node's slot
  then-read : back (then_at σ n) ≡ then_at σ n
  then-read = edge-back edge_width (then_at σ n) (omega (arith, (fits W p).then_low, W.small))

  else-read : back (else_at σ n) ≡ else_at σ n
  else-read = edge-back edge_width (else_at σ n) (omega (arith, (fits W p).else_low, W.small))

  pub taken-read : {x : ℤ} → x ≡ cond (setting_of setting (level_at σ n)) (back (then_at σ n)) (back (else_at σ n))
      → back x ≡ taken_in σ setting n
  taken-read q = ap back (q ∙ ap₂ (λ (a b : ℤ). cond (setting_of setting (level_at σ n)) a b) then-read else-read) ∙ taken_back

  pub other-read : {x : ℤ} → x ≡ cond (setting_of setting (level_at σ n)) (back (else_at σ n)) (back (then_at σ n))
      → back x ≡ other_in σ setting n
  other-read q = ap back (q ∙ ap₂ (λ (a b : ℤ). cond (setting_of setting (level_at σ n)) a b) else-read then-read) ∙ other-back

  -- the node answers as the one that its way takes
  pub node-on : node_in σ setting n ≡ answer_in σ setting (taken_in σ setting n)
  node-on =
      sym (node-up σ setting n n)
      ∙ node-taken (up_to σ setting n) W.nodes (setting_of setting) n p (le_refl n)
      ∙ answer-up σ setting n (taken_in σ setting n)

  -- and what the next node answers follows from its sign
  pub here_on : {x : ℤ} {b here : Bool} {k : ℕ} → x ≡ taken_in σ setting n → b ≡ minus (back x) → k ≡ nat_abs (back x)
      → here ≡ node_in σ setting n
      → not (beq here b) ≡ node_in σ setting k
  here_on q r t h = rw (r, t, q, taken_back, h, node-on) (turn-here (taken_in σ setting n) (node_in σ setting (nat_abs
      (taken_in σ setting n))))
