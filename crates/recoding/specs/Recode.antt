-- The program `recode`, as a function of its input. Document 01, 'Export', last part.
use Rattle.std.specs.Prelude.{ℕ, Bool, true, ◌&&◌, cond, List, [], ◌∷◌, ℤ, ltb, length, take, replicate}
use Rattle.codes.specs.Answer.{Read, value, refused}
use Rattle.codes.specs.Limits.{Limits, var_limit, root_limit}
use Rattle.codes.specs.declared.DDDMPVersion.TheVariants.{V2_0}
use Rattle.store.specs.Empty.{empty}
use Rattle.header.specs.Header as head
use Rattle.heading.specs.Tables.{lent}
use Rattle.exported.specs.Settings.{settings}
use Rattle.exported.specs.Export.{Export, export_into, ExportLeft, export_of}
use Rattle.calls.specs.Load.{Lengths, Load, Loaded, parts_of, load_of}
use Rattle.recode_levels.specs.Levels.{level_list, variable_levels}

-- 'standard input (65,536 bytes at most ..)'
abbrev pub input_most : ℕ
input_most = 65536

-- 'It lends 4,096 slots, as many scratch entries'; the export's marks are as many
abbrev pub slots_lent : ℕ
slots_lent = 4096

-- the lists that it lends: no longer than a load asks for
abbrev pub long_lists : Lengths
long_lists = record {
  ids = var_limit;
  order = var_limit;
  permids = var_limit;
  auxids = var_limit;
  names = var_limit;
  lens = var_limit;
  roots = root_limit;
  rootnames = root_limit;
  rootlens = root_limit;
  edges = slots_lent;
  seats = slots_lent;
}

-- the header, read first for the level count and the level list: '19 for the input's length, header'
unfoldable pub head_read : Limits → List ℕ → head.HeaderLoaded
head_read m f = head.load_header m (head.length_fault m (length f)) f

-- a load at some levels, into an empty store of so many levels
abbrev pub load_at : List ℕ → List ℕ → Load
load_at f list = record { file = f; list = list; lent = long_lists }

unfoldable pub loaded_at : Limits → List ℕ → List ℕ → ℕ → Loaded
loaded_at m f list levels = load_of m (load_at f list) (empty levels slots_lent)

-- is every name there? 'An empty name .. is start 0, length 0.'
unfoldable pub all_there : List ℕ → Bool
all_there [] = true
all_there (n ∷ lens) = ltb 0 n && all_there lens

-- 'passes on variable names where all are present, root names': starts or lengths, by the lengths
abbrev pub passed : List ℕ → List ℕ → List ℕ
passed lens l = cond (all_there lens) l []

-- The export of what was loaded: 'variable names where all are present, root names and the `.dd` value', 'mode A, version 2.0'. The lists have
-- an entry for each root or variable.
abbrev pub export_with : List ℕ → head.Header → List ℤ → List ℕ → List ℕ → List ℕ → List ℕ → List ℕ → List ℕ → ℕ → Export
export_with f h roots ids permids names lens rootnames rootlens out =
    export_into (settings V2_0 true h.dd) roots (variable_levels h.nvars ids permids)
    (lent f (passed lens names) (passed lens lens) (passed rootlens rootnames) (passed rootlens rootlens) h.dd)
    slots_lent slots_lent out

-- the lists as the load leaves them
abbrev pub export_again : List ℕ → head.Header → Loaded → ℕ → Export
export_again f h r out =
    export_with f h (take h.nroots (parts_of long_lists r).roots) r.ids r.permids
    (take h.nvars (parts_of long_lists r).names) (take h.nvars (parts_of long_lists r).lens)
    (take h.nroots (parts_of long_lists r).rootnames) (take h.nroots (parts_of long_lists r).rootlens) out

-- a file of some length, or a refusal and its line
pub data Recoded : Type 0 where
  written : ℕ → Recoded
  refusal : ℕ → ℕ → Recoded

-- an export reads no file: its refusals have line 0
abbrev pub of_read : Read ℕ → Recoded
of_read (value n) = written n
of_read (refused k) = refusal k 0

-- what the program leaves: its answer, and what its output holds
pub record RecodeLeft : Type 0 where
  pub answer : Recoded
  pub out : List ℕ

-- a refusal, and zeros in an output of so many bytes
abbrev pub refuse_file : ℕ → ℕ → ℕ → RecodeLeft
refuse_file n line lent = record { answer = refusal n line; out = replicate lent 0 }

-- what an export leaves
abbrev pub of_export : ExportLeft → RecodeLeft
of_export r = record { answer = of_read r.answer; out = r.out }

-- after the load
abbrev pub after_load : Limits → List ℕ → Loaded → head.HeaderAnswer → ℕ → RecodeLeft
after_load m f r (head.refusal n line) lent = refuse_file n line lent
after_load m f r (head.header h) lent = of_export (export_of m (export_again f h r lent) r.after)

-- at the levels that the header names
abbrev pub reload_of : Limits → List ℕ → head.Header → Loaded
reload_of m f h = loaded_at m f (level_list h.nvars (head_read m f).permids) h.nvars

-- after the header
abbrev pub after_header : Limits → List ℕ → head.HeaderAnswer → ℕ → RecodeLeft
after_header m f (head.refusal n line) lent = refuse_file n line lent
after_header m f (head.header h) lent = after_load m f (reload_of m f h) (reload_of m f h).answer lent

-- What the program makes of an input, in an output of so many bytes: 'standard input (65,536 bytes at most, else 19 line 0)'
unfoldable pub recode_of : Limits → List ℕ → ℕ → RecodeLeft
recode_of m f lent = cond (ltb input_most (length f)) (refuse_file 19 0 lent) (after_header m f (head_read m f).answer lent)
