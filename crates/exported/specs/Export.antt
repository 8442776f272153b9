-- An export: its refusals, and the file that it writes. Document 01, 'Export'.
use Rattle.std.specs.Prelude.{ℕ, zero, suc, List, [], ◌∷◌, ◌++◌, map, Bool, true, ◌&&◌, leb, length, replicate, ℤ, nat_abs}
use Rattle.seats.specs.Seats.{Seats}
use Rattle.codes.specs.Limits.{Limits, root_limit}
use Rattle.codes.specs.Answer.{Read, value, refused}
use Rattle.codes.specs.Faults.{first_fault, unless}
use Rattle.codes.specs.Lent.{laid}
use Rattle.store.specs.Store.{Store}
use Rattle.store.specs.Keeps.{keeps}
use Rattle.variable_order.specs.Order.{is_order}
use Rattle.export_names.specs.Names.{name_at, fit_place, name_list_fits}
use Rattle.export_size.specs.Size.{export_size}
use Rattle.numbering.specs.Numbering.{numbering}
use Rattle.numbering.specs.Support.{support_of}
use Rattle.export_nodes.specs.Lines.{renumbered, lines_for}
use Rattle.node_writers.specs.Encoded.{node_bytes, end_text}
use Rattle.heading.specs.Heading.{Heading, head_text}
use Rattle.heading.specs.Tables.{Lent, names_of, rootnames_of}
use Rattle.exported.specs.Settings.{Settings}

-- where nothing is refused, the table of each level's variable
abbrev pub VarsIf : ℕ → List ℕ → List ℕ → Type 0
VarsIf zero order vars = Seats order vars
VarsIf (suc k) order vars = Unit

-- '4 a root is 0 or beyond the store's count'
unfoldable pub all_roots : ℕ → List ℤ → Bool
all_roots count [] = true
all_roots count (r ∷ rs) = (leb 1 (nat_abs r) && leb (nat_abs r) count) && all_roots count rs

-- 'over 1,024 roots'
unfoldable pub roots_fit : ℕ → List ℤ → Bool
roots_fit count roots = leb (length roots) root_limit && all_roots count roots

-- '1 a lent part too short: .. the store count for export marks, the export size below', by the lengths of the two lists of marks and of the
-- output
unfoldable pub long_enough : Store → List ℤ → Lent → ℕ → ℕ → ℕ → Bool
long_enough σ roots p slots numbers out =
    leb σ.count slots && leb σ.count numbers
    && leb (export_size σ.count σ.levels (length roots) p.lens p.rootlens p.dd.len) out

-- '5 a name list ..': the names of the variables, of the roots, and of the diagram
unfoldable pub names_fit : Store → List ℤ → Lent → Bool
names_fit σ roots p =
    name_list_fits σ.levels p.bytes p.starts p.lens
    && name_list_fits (length roots) p.bytes p.rootstarts p.rootlens
    && fit_place true p.bytes p.dd

-- 'Export gives 1, 3, 4, 6, 5.' The refusal, 0 of none.
unfoldable pub export_fault : Limits → Store → List ℤ → List ℕ → Lent → ℕ → ℕ → ℕ → ℕ
export_fault m σ roots order p slots numbers out =
    first_fault (
    unless (long_enough σ roots p slots numbers out) 1
    ∷ unless (keeps m σ) 3
    ∷ unless (roots_fit σ.count roots) 4
    ∷ unless (is_order σ.levels order) 6
    ∷ unless (names_fit σ roots p) 5
    ∷ [])

-- what the header says: the lines are those of the nodes as `numbering` lists them
unfoldable pub heading_of : Settings → Store → List ℤ → List ℕ → Lent → Heading
heading_of s σ roots order p = record {
  version = s.version;
  ascii = s.ascii;
  dd = name_at p.bytes p.dd;
  nnodes = length (numbering σ roots);
  support = support_of σ (numbering σ roots);
  order = order;
  names = names_of p;
  rootids = map (renumbered (numbering σ roots)) roots;
  rootnames = rootnames_of p;
}

-- the file: the header, the node lines, and the end
unfoldable pub file_of : Settings → Store → List ℤ → List ℕ → Lent → List ℕ
file_of s σ roots order p = head_text (heading_of s σ roots order p) ++ (node_bytes s.ascii (lines_for σ (numbering σ roots)) ++ end_text)

-- an export: its settings, roots, variable order and names, and the lengths of the marks and of the output
pub record Export : Type 0 where
  pub settings : Settings
  pub roots : List ℤ
  pub order : List ℕ
  pub names : Lent
  pub slots : ℕ
  pub numbers : ℕ
  pub out : ℕ

abbrev pub export_into : Settings → List ℤ → List ℕ → Lent → ℕ → ℕ → ℕ → Export
export_into s roots order names slots numbers out = record {
  settings = s;
  roots = roots;
  order = order;
  names = names;
  slots = slots;
  numbers = numbers;
  out = out;
}

-- What an export leaves: the length of its file or the number of a refusal, and what its output holds.
pub record ExportLeft : Type 0 where
  pub answer : Read ℕ
  pub out : List ℕ

-- By its refusal, 0 of none, its file, and the length of its output: 'On any refusal outputs are all zeros ..; on success unused output is
-- zero.'
abbrev pub export_by : ℕ → List ℕ → ℕ → ExportLeft
export_by zero f lent = record { answer = value (length f); out = laid f (replicate lent 0) }
export_by (suc k) f lent = record { answer = refused (suc k); out = replicate lent 0 }

-- 'Export gives 1, 3, 4, 6, 5'
abbrev pub export_fault_of : Limits → Export → Store → ℕ
export_fault_of m x σ = export_fault m σ x.roots x.order x.names x.slots x.numbers x.out

-- its file
abbrev pub export_file_of : Export → Store → List ℕ
export_file_of x σ = file_of x.settings σ x.roots x.order x.names

-- The call export, as a whole.
abbrev pub export_of : Limits → Export → Store → ExportLeft
export_of m x σ = export_by (export_fault_of m x σ) (export_file_of x σ) x.out
