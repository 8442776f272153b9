-- When the nodes of a file are accepted, and what they leave then. Document 01, 'Node lines' and 'Whoever filled the store'.
use Rattle.std.specs.Prelude.{ℕ, ◌≤◌, ◌<◌, ◌≡◌, ◌⊎◌, true, List, length, get_or, ℤ, pos, nat_abs}
use Rattle.std.proofs.Math.Option.{some}
use Rattle.codes.specs.Limits.{Limits}
use Rattle.store.specs.Store.{Store}
use Rattle.store.specs.Meaning.{Setting, answer}
use Rattle.store.specs.Rules.{Rules}
use Rattle.store.specs.Growth.{EdgeOf, Grows}
use Rattle.node_lines.specs.Line.{Line}
use Rattle.node_lines.specs.Decode.{all_read}
use Rattle.node_lines.specs.Says.{says}
use Rattle.imported.specs.Build.{count_needed}
use Rattle.imported.specs.Import.{Setup, lines_in, ends_well, Imported}

-- the nodes that the lines need have a slot each, and are no more than the limit
pub record StoreRoom (m : Limits) (levels : List ℕ) (σ : Store) (ls : List Line) : Type 0 where
  pub slots : count_needed levels σ ls ≤ length σ.level
  pub limit : count_needed levels σ ls ≤ m.nodes

-- '40° a line needs a new node and every slot lent, or [the limit], is used'
abbrev pub Crowded : Limits → List ℕ → Store → List Line → Type 0
Crowded m levels σ ls = (length σ.level < count_needed levels σ ls) ⊎ (m.nodes < count_needed levels σ ls)

-- All lines can be read, up to a position, the file ends well there, and the store has room.
pub record NodesAccepted (m : Limits) (u : Setup) (σ : Store) (f : List ℕ) (at : ℕ) : Type 0 where
  pub next : ℕ
  pub lines : (lines_in u f at).end ≡ all_read next
  pub end : ends_well f next ≡ true
  pub room : StoreRoom m u.list σ (lines_in u f at).lines

-- A root of the file by its edge a: it is an edge of the store, and answers what the file's own lines say.
pub record RootSays (levels : List ℕ) (ls : List Line) (τ : Store) (c a : ℤ) : Type 0 where
  pub edge : EdgeOf τ a
  pub agrees : (s : Setting) → says levels ls s c ≡ some (answer τ s a)

-- What accepted nodes leave: a store that keeps the rules and has only grown, by the nodes that the lines need; and each root.
pub record NodesLeft (m : Limits) (u : Setup) (σ : Store) (f : List ℕ) (at : ℕ) (ids : List ℤ) (r : Imported) : Type 0 where
  pub rules : Rules m r.after
  pub grows : Grows σ r.after
  pub slots : length r.after.level ≡ length σ.level
  pub count : r.after.count ≡ count_needed u.list σ (lines_in u f at).lines
  pub as_many : length r.roots ≡ length ids
  pub root : (i : ℕ) → 1 ≤ nat_abs (get_or ids i (pos 0)) → nat_abs (get_or ids i (pos 0)) ≤ u.nnodes
      → RootSays u.list (lines_in u f at).lines r.after (get_or ids i (pos 0)) (get_or r.roots i (pos 0))
  -- an unused entry stays so
  pub unused : (i : ℕ) → nat_abs (get_or ids i (pos 0)) ≡ 0 → get_or r.roots i (pos 0) ≡ pos 0
