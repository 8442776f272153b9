-- How many heads an index has.
use mathlib.Core.Path.{◌≡◌, refl, sym, ◌∙◌}
use mathlib.Core.Bool.{Bool, true, false}
use mathlib.Core.List.{List}
use Prim.Native.Nat.{ℕ, ◌+◌, ◌-◌, ◌*◌, ◌≤◌, ◌<◌}
use native.Mathlib.Omega.{arith}
use borrow.Author.Tests.{lt-ltb, le-ltb, ltb-true, ltb-false}
use lib.Dec.{ltb}
use Rattle.store.specs.Store.{Store}
use Rattle.unique_table.specs.Index.{width_for, Indexed, Finds}

-- no heads, as many as are left, or four for each number
pub width-none : (n len : ℕ) → len < 3 * (n + 1) → 0 ≡ width_for n len
width-none n len h = rw (lt-ltb len (3 * (n + 1)) h)

pub width-left : (n len : ℕ) → 3 * (n + 1) ≤ len → len < 6 * (n + 1) → len - 2 * (n + 1) ≡ width_for n len
width-left n len h k = rw (le-ltb len (3 * (n + 1)) h, lt-ltb len (6 * (n + 1)) k)

pub width_four : (n len : ℕ) → 3 * (n + 1) ≤ len → 6 * (n + 1) ≤ len → 4 * (n + 1) ≡ width_for n len
width_four n len h k = rw (le-ltb len (3 * (n + 1)) h, le-ltb len (6 * (n + 1)) k)

-- Where there are heads, there is room beside them for the entries of as many nodes; and there are at most four for each number.
pub record Roomy (n len w : ℕ) : Type 0 where
  pub long : 1 ≤ w → (c : ℕ) → c ≤ n → w + 2 * c + 2 ≤ len
  pub most : w ≤ 4 * (n + 1)

pub width-roomy : (n len w : ℕ) → w ≡ width_for n len → Roomy n len w
width-roomy n len w q = go (ltb len (3 * (n + 1))) refl (ltb len (6 * (n + 1))) refl
  where
    go : (a : Bool) → ltb len (3 * (n + 1)) ≡ a → (b : Bool) → ltb len (6 * (n + 1)) ≡ b → Roomy n len w
    go true p b r =
        let z = q ∙ sym (width-none n len (ltb-true len (3 * (n + 1)) p)) in
        record { long = λ h. absurd (omega arith); most = omega arith }
    go false p true r =
        let h = ltb-false len (3 * (n + 1)) p in
        let k = ltb-true len (6 * (n + 1)) r in
        let z = q ∙ sym (width-left n len h k) in
        record { long = λ _ c g. omega arith; most = omega arith }
    go false p false r =
        let h = ltb-false len (3 * (n + 1)) p in
        let k = ltb-false len (6 * (n + 1)) r in
        let z = q ∙ sym (width_four n len h k) in
        record { long = λ _ c g. omega arith; most = omega arith }

-- what finds the nodes, by a width that was found
pub finds-indexed : (v w : ℕ) {σ : Store} {c : ℕ} {ix : List ℕ} → w ≡ v → Indexed w σ c ix → Finds v σ c ix
finds-indexed v w {σ} {c} {ix} q I = record { indexed = λ h. rw (sym q) I }

pub finds-chains : (v w : ℕ) {σ : Store} {c : ℕ} {ix : List ℕ} → w ≡ v → w ≡ 0 → Finds v σ c ix
finds-chains v w q z = record { indexed = λ h. absurd (omega arith) }
