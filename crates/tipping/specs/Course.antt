-- How the call goes, written with the code. No definition of the call names it.
use Rattle.std.specs.Prelude.{ℕ, suc, ◌-◌, ◌≤◌, ◌≡◌, ◌≢◌, Bool, cond, ◌&&◌, List, eqb, leb, ltb, length, get_or, ℤ, nat_abs}
use Rattle.store.specs.Store.{Store}
use Rattle.store.specs.Meaning.{Setting, setting_of, node}
use Rattle.evaluation.specs.Evaluated.{Walks}

-- The mark of a node's answer: 2 for yes, 1 for no; 0 stands for nothing.
abbrev pub mark_of : Bool → ℕ
mark_of b = cond b 2 1

-- what is remembered of a node: node 1 is yes
unfoldable pub recall_of : List ℕ → ℕ → ℕ
recall_of marks n = cond (leb n 1) 2 (get_or marks (n - 1) 0)

-- may a node be marked?
unfoldable pub open_at : List ℕ → ℕ → Bool
open_at marks n = ltb 1 n && leb n (length marks) && eqb (get_or marks (n - 1) 0) 0

-- what is remembered is right
abbrev pub Marked : Store → Setting → List ℕ → Type 0
Marked σ s marks = (i : ℕ) → get_or marks i 0 ≢ 0 → get_or marks i 0 ≡ mark_of (node σ s (suc i))

-- What a way down from an edge asks: the lists hold its nodes, which keep the rules of nodes for as many levels as the setting has bytes; and
-- the marks are right.
pub record WayAsks (σ : Store) (setting marks : List ℕ) (e : ℤ) : Type 0 where
  pub walks : Walks σ setting (nat_abs e)
  pub some : 1 ≤ nat_abs e
  pub marked : Marked σ (setting_of setting) marks
