-- How the call goes, written with the code. No definition of the call names it.
use Rattle.std.specs.Prelude.{ℕ, ◌≤◌, ◌≡◌, Bool, false, cond, ◌&&◌, List, eqb, ltb, length, replicate, ℤ, nat_abs}
use Rattle.std.specs.Bool.{beq}
use Rattle.codes.specs.Limits.{Limits}
use Rattle.edges.specs.Edge.{minus}
use Rattle.store.specs.Store.{Store}
use Rattle.store.specs.Keeps.{keeps}
use Rattle.store.specs.Growth.{is_root}
use Rattle.evaluation.specs.Evaluated.{Walks}

-- An edge that never answers so: it leads to node 1, which is always yes, and with its sign that is the other answer.
abbrev pub never : ℤ → Bool → Bool
never e wanted = eqb (nat_abs e) 1 && beq (minus e) wanted

-- what refuses the call, 0 for nothing: 1, 3, 4, 41
abbrev pub example_fault : Limits → Store → ℤ → Bool → ℕ → ℕ
example_fault m σ e wanted long =
    cond (ltb long σ.levels) 1 (cond (keeps m σ) (cond (is_root σ e) (cond (never e wanted) 41 0) 4) 3)

-- What a walk down from a root asks: the lists hold its nodes, which keep the rules of nodes, for as many levels as the setting has bytes; the
-- root can answer as wanted, and the setting is all no.
pub record WalkAsks (σ : Store) (root : ℤ) (wanted : Bool) (setting : List ℕ) : Type 0 where
  pub walks : Walks σ setting (nat_abs root)
  pub some : 1 ≤ nat_abs root
  pub can : never root wanted ≡ false
  pub zeros : setting ≡ replicate (length setting) 0
