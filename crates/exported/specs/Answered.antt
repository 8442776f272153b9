-- An export that answers a length n.
use Rattle.std.specs.Prelude.{ℕ, ◌≤◌, ◌≡◌, length, take}
use Rattle.codes.specs.Limits.{Limits}
use Rattle.store.specs.Store.{Store}
use Rattle.exported.specs.Export.{Export, export_file_of, export_of}

-- that is the length of its file, which is the front of its output
pub record Answered (m : Limits) (x : Export) (σ : Store) (n : ℕ) : Type 0 where
  pub counted : n ≡ length (export_file_of x σ)
  pub room : n ≤ x.out
  pub front : take n (export_of m x σ).out ≡ export_file_of x σ
