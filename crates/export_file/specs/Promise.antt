-- What writing the file of an export asks and promises.
use Rattle.std.specs.Prelude.{ℕ, ◌≤◌, ◌≡◌, Bool, List, length, replicate, ℤ}
use Rattle.codes.specs.Limits.{limits}
use Rattle.codes.specs.Lent.{laid, Part, old, new}
use Rattle.codes.specs.declared.DDDMPVersion.{DDDMPVersion}
use Rattle.read_text.specs.declared.Place.{Place}
use Rattle.header_values.specs.Kinds.{of_place}
use Rattle.store.specs.Store.{Store}
use Rattle.seats.specs.Seats.{Seats}
use Rattle.heading.specs.Tables.{lent}
use Rattle.exported.specs.Settings.{settings}
use Rattle.exported.specs.Export.{export_fault, file_of}

-- `write_file`: nothing is refused of the call, each level's variable is known, and the lists that it fills are zeros
pub record FileAsks (dd : Place) (σ : Store) (roots : List ℤ) (order vars bytes starts lens rootstarts rootlens slots numbers out : List ℕ) : Type 0 where
  pub taken : export_fault limits σ roots order
      (lent bytes starts lens rootstarts rootlens (of_place dd)) (length slots) (length numbers) (length out)
      ≡ 0
  pub seats : Seats order vars
  pub vars_long : length order ≤ length vars
  pub slots_clear : slots ≡ replicate (length slots) 0
  pub numbers_clear : numbers ≡ replicate (length numbers) 0
  pub out_clear : out ≡ replicate (length out) 0

module _ (version : DDDMPVersion) (ascii : Bool) (dd : Place) (σ : Store) (roots : Part (List ℤ))
    (order bytes starts lens rootstarts rootlens : Part (List ℕ)) where
  -- the file
  abbrev written : List ℕ
  written =
      file_of (settings version ascii (of_place dd)) σ (old roots) (old order)
      (lent (old bytes) (old starts) (old lens) (old rootstarts) (old rootlens) (of_place dd))

  -- the file, and zeros after it
  pub record FilePromise (out : Part (List ℕ)) (r : ℕ) : Type 0 where
    pub answer : r ≡ length written
    pub out_left : new out ≡ laid written (replicate (length (old out)) 0)
