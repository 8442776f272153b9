-- What an export that is not refused has shown of its parts.
use mathlib.Core.Path.{◌≡◌}
use mathlib.Core.Bool.{Bool, true, ◌&&◌}
use mathlib.Core.List.{List, [], ◌∷◌}
use Prim.Native.Nat.{ℕ, zero, suc, ◌≤◌, ◌<◌}
use native.Mathlib.Omega.{arith}
use lib.Dec.{leb, eqb}
use lib.ListN.{length, get_or}
use lib.IntN.{ℤ, pos, nat_abs}
use borrow.Author.Tests.{leb-true, eqb-true}
use Rattle.codes.specs.Limits.{Limits, root_limit}
use Rattle.codes.proofs.Bytes.{both}
use Rattle.codes.proofs.Faults.{first-none, rest-none}
use Rattle.codes.proofs.Refusals.{unless-none}
use Rattle.store.specs.Store.{Store}
use Rattle.store.specs.Rules.{Rules}
use Rattle.store.specs.Keeps.{keeps, keeps-true}
use Rattle.store.specs.Growth.{EdgeOf}
use Rattle.support.specs.Support.{permids_fit}
use Rattle.variable_order.specs.Order.{is_order}
use Rattle.export_names.specs.Names.{fit_place, name_list_fits}
use Rattle.export_size.specs.Size.{export_size}
use Rattle.export_nodes.specs.Exported.{Exported}
use Rattle.heading.specs.Tables.{Lent, NamesFit}
use Rattle.exported.specs.Export.{all_roots, roots_fit, long_enough, names_fit, export_fault}

pub record Accepted (m : Limits) (σ : Store) (roots : List ℤ) (order : List ℕ) (p : Lent) (slots numbers out : ℕ) : Type 0 where
  pub slots_long : σ.count ≤ slots
  pub numbers_long : σ.count ≤ numbers
  pub out_long : export_size σ.count σ.levels (length roots) p.lens p.rootlens p.dd.len ≤ out
  pub rules : Rules m σ
  pub roots_few : length roots ≤ root_limit
  pub roots_there : (i : ℕ) → i < length roots → EdgeOf σ (get_or roots i (pos 0))
  pub order_long : length order ≡ σ.levels
  pub is_an_order : is_order (length order) order ≡ true
  pub names : NamesFit p (length order) (length roots)

-- what it starts from
pub exported : {m : Limits} {σ : Store} {roots : List ℤ} {order : List ℕ} {p : Lent} {slots numbers out : ℕ}
    → Accepted m σ roots order p slots numbers out → Exported m σ roots
exported A = record { rules = A.rules; roots_there = A.roots_there }

-- three tests in a row that hold
all_three : (a b c : Bool) → (a && b && c) ≡ true → (a ≡ true) × (b ≡ true) × (c ≡ true)
all_three a b c h = let p = both (a && b) c h in let q = both a b p.0 in (q.0, q.1, p.1)

-- each of fit roots is an edge of the store
roots-edges : (σ : Store) (roots : List ℤ) → all_roots σ.count roots ≡ true → (i : ℕ) → i < length roots → EdgeOf σ (get_or roots i (pos 0))
unfolding all_roots
roots-edges σ [] h i k = absurd (omega arith)
roots-edges σ (r ∷ rs) h zero k =
    let t = both (leb 1 (nat_abs r)) (leb (nat_abs r) σ.count) (both (leb 1 (nat_abs r) && leb (nat_abs r) σ.count) (all_roots σ.count rs) h).0 in
    record { some = leb-true 1 (nat_abs r) t.0; there = leb-true (nat_abs r) σ.count t.1 }
roots-edges σ (r ∷ rs) h (suc i) k =
    roots-edges σ rs (both (leb 1 (nat_abs r) && leb (nat_abs r) σ.count) (all_roots σ.count rs) h).1 i (omega arith)

-- an order has an entry for each level
order-length : (levels : ℕ) (order : List ℕ) → is_order levels order ≡ true → length order ≡ levels
unfolding is_order
order-length levels order h = eqb-true (length order) levels (both (eqb (length order) levels) (permids_fit levels order) h).0

module _ {m : Limits} (σ : Store) (roots : List ℤ) (order : List ℕ) (p : Lent) (slots numbers out : ℕ) where
  passed : long_enough σ roots p slots numbers out ≡ true → keeps m σ ≡ true → roots_fit σ.count roots ≡ true → is_order σ.levels order ≡ true
      → names_fit σ roots p ≡ true → Accepted m σ roots order p slots numbers out
  unfolding long_enough roots_fit names_fit
  passed a b c d e =
      let size = export_size σ.count σ.levels (length roots) p.lens p.rootlens p.dd.len in
      let x = all_three (leb σ.count slots) (leb σ.count numbers) (leb size out) a in
      let y = both (leb (length roots) root_limit) (all_roots σ.count roots) c in
      let z = order-length σ.levels order d in
      let n =
      all_three (name_list_fits σ.levels p.bytes p.starts p.lens) (name_list_fits (length roots) p.bytes p.rootstarts p.rootlens)
      (fit_place true p.bytes p.dd) e
      in
      record {
        slots_long = leb-true σ.count slots x.0;
        numbers_long = leb-true σ.count numbers x.1;
        out_long = leb-true size out x.2;
        rules = keeps-true m σ b;
        roots_few = leb-true (length roots) root_limit y.0;
        roots_there = roots-edges σ roots y.1;
        order_long = z;
        is_an_order = rw z d;
        names = record { names = rw z n.0; rootnames = n.1; diagram = n.2 };
      }

  pub accepted : export_fault m σ roots order p slots numbers out ≡ 0 → Accepted m σ roots order p slots numbers out
  unfolding export_fault
  accepted h =
      let h₂ = rest-none _ _ h in
      let h₃ = rest-none _ _ h₂ in
      let h₄ = rest-none _ _ h₃ in
      passed (unless-none _ 0 (first-none _ _ h)) (unless-none _ 2 (first-none _ _ h₂)) (unless-none _ 3 (first-none _ _ h₃))
      (unless-none _ 5 (first-none _ _ h₄)) (unless-none _ 4 (first-none _ [] (rest-none _ _ h₄)))
