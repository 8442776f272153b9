-- An export is no longer than a load takes.
use mathlib.Core.Path.{◌≡◌}
use mathlib.Core.Bool.{true, false}
use mathlib.Core.List.{List, map}
use mathlib.Core.Logic.{⊎_elim}
use Prim.Native.Nat.{ℕ, ◌*◌, ◌≤◌}
use native.Mathlib.Omega.{arith}
use lib.ListN.{length}
use lib.IntN.{ℤ}
use Rattle.codes.specs.Limits.{Limits, RoomForExports}
use Rattle.read_lines.specs.Each.{Each, none, each}
use Rattle.store.specs.Store.{Store}
use Rattle.export_names.specs.Names.{name_at, fit_name, name_list_fits}
use Rattle.export_size.specs.Size.{sum, export_size}
use Rattle.export_names.proofs.FitNames.{fit-most}
use Rattle.export_names.proofs.FitLists.{place-fit, place-length, list_count, list-names, list-sum}
use Rattle.export_nodes.specs.Exported.{Exported}
use Rattle.heading.specs.Tables.{Lent}
use Rattle.exported.specs.Settings.{Settings}
use Rattle.exported.specs.Export.{file_of}
use Rattle.exported.proofs.Accepted.{Accepted}
use Rattle.exported.proofs.FileParts.{file-short}

-- names have 255 bytes each at most
names-short : {names : List (List ℕ)} → Each (λ name. fit_name false name ≡ true) names → sum (map length names) ≤ 255 * length names
unfolding sum
names-short none = omega arith
names-short (each {a = name} h k) = omega (arith, fit-most false name h, names-short k)

-- a list has none of them, or as many as wanted
list-short : (want : ℕ) (bytes starts lens : List ℕ) → name_list_fits want bytes starts lens ≡ true → sum lens ≤ 255 * want
list-short want bytes starts lens h =
    let s = list-sum want bytes starts lens h in
    let k = names-short (list-names want bytes starts lens h) in
    ⊎_elim (λ e. omega arith) (λ e. omega arith) (list_count want bytes starts lens h)

module _ {m : Limits} (W : RoomForExports m) {σ : Store} {roots : List ℤ} {order : List ℕ} {p : Lent} {slots numbers out : ℕ}
    (A : Accepted m σ roots order p slots numbers out) where
  -- so the export size is no more than an input may have,
  size_small : export_size σ.count σ.levels (length roots) p.lens p.rootlens p.dd.len ≤ m.input
  unfolding export_size
  size_small =
      let sizes = A.rules.sizes in
      let few = A.roots_few in
      let long = A.order_long in
      let names = list-short (length order) p.bytes p.starts p.lens A.names.names in
      let rootnames = list-short (length roots) p.bytes p.rootstarts p.rootlens A.names.rootnames in
      let dd = fit-most true (name_at p.bytes p.dd) (place-fit true p.bytes p.dd A.names.diagram) in
      omega (arith, W.input_long, place-length true p.bytes p.dd.start p.dd.len A.names.diagram)

  -- and an export has no more.
  pub input-short : (s : Settings) → length (file_of s σ roots order p) ≤ m.input
  input-short s = omega (arith, file-short s W A, size_small)
