-- Walks down the lists of a store: an answer comes from these alone, an edge answers as its node and a node as the child that the setting
-- chooses, both under the minuses so far, which `odd` says are odd in number or not.
use Prim.Native.Nat.{ℕ, zero, suc, ◌≤◌, ◌<◌}
use mathlib.Core.Path.{◌≡◌, refl, sym, ap, ap₂, ◌∙◌}
use mathlib.Core.Bool.{Bool, true, false, not, cond, xor, beq}
use mathlib.Core.List.{List, []}
use native.Mathlib.Omega.{arith}
use native.Mathlib.Nat.{le_refl}
use lib.ListN.{length}
use lib.IntN.{ℤ, pos, negsuc, nat_abs}
use Rattle.edges.specs.Width.{edge_width}
use mir.Val.{to_z, of_z}
use Rattle.edges.specs.Edge.{minus, turn}
use Rattle.edges.proofs.Signed.{edge-back}
use Rattle.store.specs.Store.{Store, store, level_at, then_at, else_at, slots}
use Rattle.store.specs.Meaning.{Setting, setting_of, node_by, node, answer}
use Rattle.store.specs.Rules.{depth, Fits}
use Rattle.evaluation.specs.Evaluated.{Walks}
use Rattle.store.proofs.Lower.{nodes-lower}
use Rattle.store.proofs.Meaning.{node-step}

-- An answer comes from the level, then and else lists alone.
slots-by : (f : ℕ) (σ : Store) (s : Setting) (n : ℕ) → node_by f σ s n ≡ node_by f (slots σ.level σ.then σ.els) s n
unfolding node_by
slots-by zero σ s n = refl
slots-by (suc f) σ s zero = refl
slots-by (suc f) σ s (suc zero) = refl
slots-by (suc f) σ s (suc (suc k)) =
    rw (slots-by f σ s (nat_abs (then_at σ (suc (suc k)))), slots-by f σ s (nat_abs (else_at σ (suc (suc k)))))

slots-node : (σ : Store) (s : Setting) (n : ℕ) → node σ s n ≡ node (slots σ.level σ.then σ.els) s n
unfolding node
slots-node σ s n = slots-by n σ s n

pub slots-answer : (σ : Store) (s : Setting) (e : ℤ) → answer σ s e ≡ answer (slots σ.level σ.then σ.els) s e
slots-answer σ s e = ap (turn e) (slots-node σ s (nat_abs e))

-- So a store with the same lists answers alike, whatever its levels and its count,
module _ (σ : Store) (levels count : ℕ) where
  pub lists-node : (s : Setting) (n : ℕ) → node (store levels count σ.level σ.then σ.els [] []) s n ≡ node σ s n
  lists-node s n = slots-node (store levels count σ.level σ.then σ.els [] []) s n ∙ sym (slots-node σ s n)

  pub lists-answer : (s : Setting) (e : ℤ) → answer (store levels count σ.level σ.then σ.els [] []) s e ≡ answer σ s e
  lists-answer s e = ap (turn e) (lists-node s (nat_abs e))

  -- and with as many levels its nodes lie as deep.
  pub lists-depth : levels ≡ σ.levels → (n : ℕ) → depth (store levels count σ.level σ.then σ.els [] []) n ≡ depth σ n
  lists-depth q zero = q
  lists-depth q (suc zero) = q
  lists-depth q (suc (suc k)) = refl

-- Node 1 is yes.
pub leaf-under : (σ : Store) (s : Setting) (odd : Bool) (n : ℕ) → n ≤ 1 → not odd ≡ xor odd (node σ s n)
unfolding xor node node_by
leaf-under σ s true zero h = refl
leaf-under σ s false zero h = refl
leaf-under σ s true (suc zero) h = refl
leaf-under σ s false (suc zero) h = refl
leaf-under σ s odd (suc (suc k)) h = absurd (omega arith)

-- An edge's answer is its node's, turned over under a minus: the sign b and the node k that the code found of the edge are all that the walk
-- goes on with.
xor-turn : (odd : Bool) (e : ℤ) (a : Bool) → xor (not (beq odd (minus e))) a ≡ xor odd (turn e a)
unfolding xor minus turn
xor-turn true (pos n) a = refl
xor-turn false (pos n) a = refl
xor-turn true (negsuc n) true = refl
xor-turn true (negsuc n) false = refl
xor-turn false (negsuc n) true = refl
xor-turn false (negsuc n) false = refl

pub edge-under : (σ : Store) (s : Setting) (odd : Bool) (e : ℤ) {b r : Bool} {k : ℕ} → b ≡ minus e → k ≡ nat_abs e
    → r ≡ xor (not (beq odd b)) (node σ s k) → r ≡ xor odd (answer σ s e)
edge-under σ s odd e f g h = h ∙ rw (f, g) (xor-turn odd e (node σ s (nat_abs e)))

-- the edge that the walk starts from, which the code reads as `to_z edge_width (of_z edge_width e)`
pub walk-back : {σ : Store} {s : List ℕ} (e : ℤ) → Walks σ s (nat_abs e) → to_z edge_width (of_z edge_width e) ≡ e
walk-back e w = edge-back edge_width e w.small

-- With no minus so far an answer stands as it is.
none-under : (a : Bool) → xor false a ≡ a
unfolding xor
none-under true = refl
none-under false = refl

pub root-under : {σ : Store} {s : List ℕ} {r : Bool} (e : ℤ) → Walks σ s (nat_abs e)
    → r ≡ xor false (answer σ (setting_of s) (to_z edge_width (of_z edge_width e))) → r ≡ answer σ (setting_of s) e
root-under {σ} {s} e w h = rw (walk-back e w) at h ∙ none-under (answer σ (setting_of s) e)

module _ {σ : Store} {s : List ℕ} {n : ℕ} (w : Walks σ s n) where
  pub walks-lower : (k : ℕ) → k ≤ n → Walks σ s k
  walks-lower k h = record {
    small = omega (arith, w.small);
    level_long = omega (arith, w.level_long);
    then_long = omega (arith, w.then_long);
    els_long = omega (arith, w.els_long);
    nodes = nodes-lower (store (length s) n σ.level σ.then σ.els [] []) k w.nodes h;
  }

  module _ (h : 2 ≤ n) where
    pub fits : Fits (store (length s) n σ.level σ.then σ.els [] []) n (level_at σ n) (then_at σ n) (else_at σ n)
    fits = w.nodes.fits n h (le_refl n)

    -- the children, which the code reads so: their nodes are lower ones
    then-back : to_z edge_width (of_z edge_width (then_at σ n)) ≡ then_at σ n
    then-back = edge-back edge_width (then_at σ n) (omega (arith, fits.then_low, w.small))

    else-back : to_z edge_width (of_z edge_width (else_at σ n)) ≡ else_at σ n
    else-back = edge-back edge_width (else_at σ n) (omega (arith, fits.else_low, w.small))

    pub then-lower : nat_abs (to_z edge_width (of_z edge_width (then_at σ n))) < n
    then-lower = rw then-back fits.then_low

    pub else-lower : nat_abs (to_z edge_width (of_z edge_width (else_at σ n))) < n
    else-lower = rw else-back fits.else_low

    -- the store of the nodes up to it, which has the same lists, so it answers alike
    abbrev below : Store
    below = store (length s) n σ.level σ.then σ.els [] []

    same-answer : (e : ℤ) → answer below (setting_of s) e ≡ answer σ (setting_of s) e
    same-answer e = lists-answer σ (length s) n (setting_of s) e

    -- the node's answer, by the setting's byte for its level
    node-is : node σ (setting_of s) n
        ≡ cond (setting_of s (level_at σ n)) (answer σ (setting_of s) (then_at σ n)) (answer σ (setting_of s) (else_at σ n))
    node-is =
        sym (lists-node σ (length s) n (setting_of s) n)
        ∙ node-step below w.nodes (setting_of s) n h (le_refl n)
        ∙ ap₂ (λ a b. cond (setting_of s (level_at σ n)) a b) (same-answer (then_at σ n)) (same-answer (else_at σ n))

    -- one level of the walk: r is what the call gave for the child that the setting chooses
    module _ (odd : Bool) {yes r : Bool} (is : yes ≡ setting_of s (level_at σ n)) where
      pub then-under : yes ≡ true → r ≡ xor odd (answer σ (setting_of s) (to_z edge_width (of_z edge_width (then_at σ n))))
          → r ≡ xor odd (node σ (setting_of s) n)
      then-under k a = (rw then-back at a) ∙ ap (xor odd) (sym (node-is ∙ rw (← is, k)))

      pub else-under : yes ≡ false → r ≡ xor odd (answer σ (setting_of s) (to_z edge_width (of_z edge_width (else_at σ n))))
          → r ≡ xor odd (node σ (setting_of s) n)
      else-under k a = (rw else-back at a) ∙ ap (xor odd) (sym (node-is ∙ rw (← is, k)))
