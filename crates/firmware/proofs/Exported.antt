-- An export by the settings that the bytes of a call stand for.
use Prim.Native.Nat.{ℕ}
use mathlib.Core.Path.{◌≡◌, ap}
use mathlib.Core.List.{List}
use lib.IntN.{ℤ}
use Rattle.codes.specs.Limits.{limits}
use Rattle.store.specs.Store.{Store}
use Rattle.heading.specs.Tables.{lent}
use Rattle.exported.specs.Settings.{Settings}
use Rattle.exported.specs.Export.{export_into, ExportLeft, export_of}

module _ (roots : List ℤ) (order bytes starts lens rootstarts rootlens : List ℕ) (slots numbers out : ℕ) (σ : Store) where
  -- what it leaves, by its settings
  abbrev by : Settings → ExportLeft
  by s = export_of limits (export_into s roots order (lent bytes starts lens rootstarts rootlens s.dd) slots numbers out) σ

  -- by equal settings it leaves the same
  pub exported-as : {s : Settings} (t : Settings) → s ≡ t → by s ≡ by t
  exported-as t e = ap by e
