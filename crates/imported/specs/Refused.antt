-- How the nodes of a file are refused, with no word of how they are read: with which number, and at which line. Document 01, 'Answers, by who
-- can cause them': 'The line counts from 1 at the top of the file, or is 0 where marked °, .. in binary nodes .. ASCII node lines carry
-- theirs, but for 30 and 40.'
use Rattle.std.specs.Prelude.{ℕ, ◌+◌, ◌≤◌, ◌≡◌, true, false, List}
use Rattle.codes.specs.Limits.{Limits}
use Rattle.store.specs.Store.{Store}
use Rattle.node_lines.specs.Decode.{all_read, stopped}
use Rattle.import_ascii.specs.TextNumbers.{TextNumber}
use Rattle.import_bin.specs.BinaryNumbers.{BinaryNumber}
use Rattle.imported.specs.Import.{Setup, lines_in, ends_well}
use Rattle.imported.specs.Acceptance.{StoreRoom, Crowded}

pub data NodesRefused (m : Limits) (u : Setup) (σ : Store) (f : List ℕ) (at : ℕ) : ℕ → ℕ → Type 0 where
  -- '40° a line needs a new node and every slot lent, or [the limit], is used'
  crowded : Crowded m u.list σ (lines_in u f at).lines → NodesRefused m u σ f at 40 0
  -- '30° ends early', in text; in binary it is one of the numbers below
  early : {n : ℕ} → StoreRoom m u.list σ (lines_in u f at).lines → u.ascii ≡ true → (lines_in u f at).end ≡ stopped 30 n
      → NodesRefused m u σ f at 30 0
  -- 'ASCII node lines carry theirs': the n-th node line stands so many lines after those of the header
  text : {k n : ℕ} → StoreRoom m u.list σ (lines_in u f at).lines → u.ascii ≡ true → (lines_in u f at).end ≡ stopped k n
      → TextNumber k → (k ≡ 30 → ⊥) → 1 ≤ n → n ≤ u.nnodes → NodesRefused m u σ f at k (u.lines + n)
  -- the line 'is 0 .. in binary nodes'
  binary : {k n : ℕ} → StoreRoom m u.list σ (lines_in u f at).lines → u.ascii ≡ false → (lines_in u f at).end ≡ stopped k n
      → BinaryNumber k → NodesRefused m u σ f at k 0
  -- '39° no `.end`', after the last line
  unended : {next : ℕ} → StoreRoom m u.list σ (lines_in u f at).lines → (lines_in u f at).end ≡ all_read next → ends_well f next ≡ false
      → NodesRefused m u σ f at 39 0
