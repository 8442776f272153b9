-- What an export promises.
use Rattle.std.specs.Prelude.{ℕ, ◌≡◌, List, Result, length, replicate, ℤ}
use Rattle.codes.specs.Limits.{limits}
use Rattle.codes.specs.Refusals.{read_of}
use Rattle.codes.specs.declared.refusal.Refusal.{Refusal}
use Rattle.codes.specs.Lent.{Part, old, new}
use Rattle.store.specs.Store.{Store}
use Rattle.heading.specs.Tables.{lent}
use Rattle.exported.specs.Settings.{Settings}
use Rattle.exported.specs.Export.{Export, export_into, ExportLeft, export_of}
use Rattle.exporter.specs.Settings.{of_settings}
use Rattle.exporter.specs.declared.ExportSettings.{ExportSettings}

module _ (s : Settings) (σ : Store) (roots : Part (List ℤ))
    (order bytes starts lens rootstarts rootlens slots numbers out : Part (List ℕ)) where
  -- an export by these settings, with everything that it is lent
  abbrev pub exporting : Export
  exporting =
      export_into s (old roots) (old order) (lent (old bytes) (old starts) (old lens) (old rootstarts) (old rootlens) s.dd) (length (old slots))
      (length (old numbers)) (length (old out))

  -- what it leaves: 'Export gives 1, 3, 4, 6, 5'
  abbrev pub export_leaves : ExportLeft
  export_leaves = export_of limits exporting σ

-- `ExportSettings::export`, and `dddmp::export`, which is the same call
module _ (self : ExportSettings) (σ : Store) (roots : Part (List ℤ)) (order bytes starts lens rootstarts rootlens slots numbers out : Part (List ℕ)) where
  abbrev left : ExportLeft
  left =
      export_leaves (of_settings self) σ roots order bytes starts lens rootstarts rootlens slots numbers out

  pub record ExportPromise (work : Part (List ℕ)) (r : Result ℕ Refusal) : Type 0 where
    -- the length of the file, or the number of a refusal
    pub answer : read_of r ≡ left.answer
    -- 'On any refusal outputs are all zeros ..; on success unused output is zero.'
    pub out_left : new out ≡ left.out
    -- 'Scratch ends as zeros.'
    pub slots_left : new slots ≡ replicate (length (old slots)) 0
    pub numbers_left : new numbers ≡ replicate (length (old numbers)) 0
    pub work_left : new work ≡ replicate (length (old work)) 0
