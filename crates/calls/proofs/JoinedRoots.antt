-- What the roots mean that a list of calls joined, or turned over, by what their operands mean. Document 02, request 2: 'At every setting the
-- answer is that operation on the two answers.'
use mathlib.Core.Path.{◌≡◌, sym, ap, ap₂, ◌∙◌}
use mathlib.Core.Bool.{Bool, not}
use mathlib.Core.List.{List}
use mathlib.Core.Option.{some, some-injective}
use Prim.Native.Nat.{ℕ, zero, suc, ◌<◌}
use native.Mathlib.Omega.{arith}
use Rattle.codes.specs.Limits.{Limits}
use Rattle.store.specs.Meaning.{Setting, answer}
use Rattle.store.specs.Empty.{empty}
use Rattle.joined.specs.declared.Op.{Op}
use Rattle.joined.specs.Join.{apply}
use Rattle.calls.specs.Calls.{Call}
use Rattle.calls.specs.Lists.{before}
use Rattle.calls.specs.Roots.{Root, join_says, opposite_says}
use Rattle.calls.proofs.Demand3.{root-means}

module _ (m : Limits) (levels slots : ℕ) (cs : List Call) where
  -- before every later call a root answers what it means
  root_answer : (a : Root m levels slots cs) (k : ℕ) → a.place < k → (s : Setting) (x : Bool) → a.meaning s ≡ some x
      → answer (before m (empty levels slots) cs k) s a.edge ≡ x
  root_answer a zero h s x p = absurd (omega arith)
  root_answer a (suc k) h s x p = some-injective _ x (sym ((root-means m levels slots cs a k (omega arith)).agrees s) ∙ p)

  -- two roots that were given before, joined at a place of the list: the operation on what they mean
  pub joined_says : (o : Op) (a b : Root m levels slots cs) (k : ℕ) → a.place < k → b.place < k → (s : Setting) (x y : Bool)
      → a.meaning s ≡ some x → b.meaning s ≡ some y → join_says o (before m (empty levels slots) cs k) a.edge b.edge s ≡ some (apply o x y)
  joined_says o a b k g h s x y p q = ap some (ap₂ (apply o) (root_answer a k g s x p) (root_answer b k h s y q))

  -- and one turned over: the opposite of what it means
  pub opposed-says : (a : Root m levels slots cs) (k : ℕ) → a.place < k → (s : Setting) (x : Bool) → a.meaning s ≡ some x
      → opposite_says (before m (empty levels slots) cs k) a.edge s ≡ some (not x)
  opposed-says a k g s x p = ap some (ap not (root_answer a k g s x p))
