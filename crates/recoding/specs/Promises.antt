-- What the steps of `recode` promise, over the parts that are lent to them.
use Rattle.std.specs.Prelude.{ℕ, ◌≡◌, List, ℤ, length, Result}
use Rattle.codes.specs.Limits.{limits}
use Rattle.codes.specs.Lent.{Part, old, new}
use Rattle.codes.specs.declared.refusal.Fault.{Fault}
use Rattle.store.specs.Store.{Store}
use Rattle.header.specs.declared.DumpHeader.{DumpHeader}
use Rattle.header.specs.Kinds.{of_header}
use Rattle.calls.specs.Load.{Loaded}
use Rattle.exported.specs.Export.{Export, export_of}
use Rattle.recoding.specs.Recode.{loaded_at, export_with, RecodeLeft, of_export, after_load}
use Rattle.recoding.specs.Kinds.{of_recoded}

module _ (f : Part (List ℕ)) (h : DumpHeader) (σ : Store) (roots : Part (List ℤ)) (ids permids names lens rootnames rootlens out : Part (List ℕ)) where
  -- the export of what was loaded, with its lists
  abbrev again : Export
  again =
      export_with (old f) (of_header h) (old roots) (old ids) (old permids) (old names) (old lens) (old rootnames) (old rootlens) (length (old out))

  -- 'passes on variable names where all are present, root names and the `.dd` value, writes mode A, version 2.0'
  abbrev written : RecodeLeft
  written = of_export (export_of limits again σ)

  pub record WriteBackPromise (r : Result ℕ Fault) : Type 0 where
    pub answer : of_recoded r ≡ written.answer
    pub out_left : new out ≡ written.out

module _ (f list : Part (List ℕ)) (levels : ℕ) (out : Part (List ℕ)) where
  -- the file, loaded at the levels of the list into an empty store
  abbrev loaded : Loaded
  loaded = loaded_at limits (old f) (old list) levels

  -- the text of what was loaded, or the load's refusal
  abbrev reloaded : RecodeLeft
  reloaded = after_load limits (old f) loaded loaded.answer (length (old out))

  pub record ReloadPromise (r : Result ℕ Fault) : Type 0 where
    pub answer : of_recoded r ≡ reloaded.answer
    pub out_left : new out ≡ reloaded.out
