-- Equal sides: their node is the side itself.
use mathlib.Core.Path.{◌≡◌, sym, ap, ◌∙◌}
use mathlib.Core.Bool.{true, false}
use mathlib.Core.List.{List}
use Prim.Native.Nat.{ℕ}
use lib.IntN.{ℤ, pos}
use mir.Val.{SFits, to_z, of_z}
use mir.ValLaws.{to_z-of_z}
use Rattle.std.specs.Prelude.{Some}
use Rattle.codes.specs.Answer.{value}
use Rattle.edges.specs.Width.{edge_width}
use Rattle.edges.specs.Edge.{eq_z}
use Rattle.edges.proofs.Edge.{eq_z-refl, eq_z-ne}
use Rattle.store.specs.Store.{Store}
use Rattle.store.specs.Make.{make}
use Rattle.insertion.specs.Known.{KnownNodes}
use Rattle.nodes.specs.Promises.{MakePromise}

-- two edges with the same bits
pub same_edge : (t e : ℤ) → SFits edge_width t → SFits edge_width e → of_z edge_width t ≡ of_z edge_width e → t ≡ e
same_edge t e f g q = sym (to_z-of_z edge_width t f) ∙ ap (to_z edge_width) q ∙ to_z-of_z edge_width e g

-- a result of the then sides, or 0 for none, by its bits
pub lacks-by : (t : ℤ) → SFits edge_width t → of_z edge_width t ≡ 0 → eq_z t (pos 0) ≡ true
lacks-by t f q = rw (sym (to_z-of_z edge_width t f) ∙ ap (to_z edge_width) q) (eq_z-refl (pos 0))

pub has-by : (t : ℤ) → (of_z edge_width t ≡ 0 → ⊥) → eq_z t (pos 0) ≡ false
has-by t f = eq_z-ne t (pos 0) (λ e. f (ap (of_z edge_width) e))

pub equal-made : (σ : Store) (ix : List ℕ) (width l : ℕ) (t e : ℤ) → t ≡ e → KnownNodes width σ ix → (x : ℤ) → x ≡ e
    → MakePromise σ σ ix width l t e (Some x)
unfolding make
equal-made σ ix width l t e q K x p =
    record { answer = ap value p ∙ rw (q, eq_z-refl e); store = rw (q, eq_z-refl e); known = K }
