-- What is said of a setting that the call gives, and of where there is none, with no word of how it is found.
use Rattle.std.specs.Prelude.{ℕ, ◌≤◌, ◌≡◌, Bool, cond, List, ℤ, pos, negsuc}
use Rattle.codes.specs.Limits.{Limits}
use Rattle.store.specs.Store.{Store}
use Rattle.store.specs.Rules.{Rules}
use Rattle.store.specs.Growth.{EdgeOf}
use Rattle.store.specs.Meaning.{Setting, answer}
use Rattle.example_walk.specs.Example.{answers_as}
use Rattle.example_walk.specs.First.{IsFirst}

-- No rule is broken, and it is the first with the wanted answer.
pub record Given (m : Limits) (σ : Store) (e : ℤ) (wanted : Bool) (long : ℕ) (s : List Bool) : Type 0 where
  pub room : σ.levels ≤ long
  pub rules : Rules m σ
  pub edge : EdgeOf σ e
  pub first : IsFirst (answers_as σ e wanted) σ.levels s

-- A level that an edge doesn't look at: settings that differ there at most are answered alike.
abbrev pub Unseen : Store → ℤ → ℕ → Type 0
Unseen σ e l = (s t : Setting) → ((j : ℕ) → (j ≡ l → ⊥) → s j ≡ t j) → answer σ s e ≡ answer σ t e

-- The edge that always gives the other answer: 1, and no is wanted, or -1, and yes is.
abbrev pub other_always : Bool → ℤ
other_always wanted = cond wanted (negsuc 0) (pos 1)
