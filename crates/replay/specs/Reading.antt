-- What reading a file gives.
use Rattle.std.specs.Prelude.{◌≡◌, ℕ, ◌≤◌, ◌<◌, List, Option, length, take}
use Rattle.std.specs.Io.KnownBytes.{Consumes}

-- A list has a first part of so many. The second part follows from the first, and spares a caller's `&buf[..n]` a proof file.
abbrev pub IsPrefixLen : ℕ → List ℕ → Type 0
IsPrefixLen n xs = (n ≤ length xs) × (n ≡ length (take n xs))

-- Of so many bytes that were asked for, the next were there in part: some of them, but not all.
abbrev pub ConsumesPart : ℕ → Option (List ℕ) → Option (List ℕ) → Type 0
ConsumesPart n old new = (bs : List ℕ) × Consumes old new bs × (0 < length bs) × (length bs < n)
