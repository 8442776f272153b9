-- The roots, read back.
use mathlib.Core.Path.{◌≡◌}
use mathlib.Core.Bool.{Bool, true, false, cond}
use mathlib.Core.List.{List, ◌∷◌, map}
use Prim.Native.Nat.{ℕ, ◌+◌, ◌^◌, ◌≤◌, ◌<◌}
use native.Mathlib.Omega.{arith}
use lib.IntN.{ℤ, nat_abs}
use lib.ListN.{length}
use Rattle.codes.specs.Answer.{value}
use Rattle.codes.specs.Limits.{root_limit}
use Rattle.edges.specs.Edge.{minus}
use Rattle.read_lines.specs.Each.{Each, none, each}
use Rattle.read_lines.specs.Words.{word}
use Rattle.read_numbers.specs.Digits.{Says}
use Rattle.read_lists.specs.Lists.{listed}
use Rattle.read_edges.specs.Edges.{edge_list}
use Rattle.read_edges.specs.Entries.{Entries}
use Rattle.read_edges.proofs.EdgeList.{edge-values}
use Rattle.header_faults.specs.Judge.{root_list_fault}
use Rattle.writers.specs.Decimal.{decimal, edge_text}
use Rattle.writers.proofs.Decimal.{decimal-some, decimal-says, edge-signed, edge-says}
use Rattle.reading_header.specs.Joined.{joined, Plain}
use Rattle.reading_header.specs.Standing.{words_at}
use Rattle.reading_header.proofs.Elements.{each_map}
use Rattle.reading_header.proofs.Plain.{above-plain, digits_above}
use Rattle.reading_header.proofs.WordsBack.{words_back}

module _ (e : ℤ) (h : nat_abs e < 2 ^ 63) where
  -- its magnitude
  says : Says (2 ^ 63) (decimal (nat_abs e)) (nat_abs e)
  says = decimal-says (nat_abs e) (omega arith) (2 ^ 63) h

  -- An edge is written as a plain word,
  pub edge-plain : Plain (edge_text e)
  unfolding edge_text
  edge-plain = by (minus e)
    where
      by : (m : Bool) → Plain (cond m (0x2d ∷ decimal (nat_abs e)) (decimal (nat_abs e)))
      by true = above-plain (each (omega arith) (digits_above says.digits)) (omega arith)
      by false = above-plain (digits_above says.digits) (decimal-some (nat_abs e))

-- Each word is an entry, and stands for its edge.
edges-said : {es : List ℤ} (at : ℕ) → Each (λ e. nat_abs e < 2 ^ 63) es → Entries (words_at at (map edge_text es)) es
unfolding words_at
edges-said at none = Entries.none
edges-said at (each {a = e} h k) = rw (edge-signed e) at (Entries.more {w = word at (edge_text e)} {minus = minus e} (edge-says e h) (edges-said (at + length (edge_text e) + 1) k))

module _ {es : List ℤ} (small : Each (λ e. nat_abs e < 2 ^ 63) es) where
  pub edges-plain : Each Plain (map edge_text es)
  edges-plain = each_map edge_text edge-plain small

  -- A list of edges is read as themselves,
  pub edges-back : (max : ℕ) → length es ≤ max → edge_list max (joined (map edge_text es)) ≡ listed (value (length es)) es
  edges-back max few = edge-values max (joined (map edge_text es)) (rw (words_back 0 edges-plain) (edges-said 0 small)) few

  -- with no fault.
  pub edges-faultless : length es ≤ root_limit → root_list_fault (joined (map edge_text es)) ≡ 0
  unfolding root_list_fault
  edges-faultless few = rw (edges-back root_limit few)
