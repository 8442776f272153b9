-- What a load leaves of a file, in the parts that were lent, and what its export makes of them.
use mathlib.Core.Path.{◌≡◌, refl, sym, ap, ◌∙◌}
use mathlib.Core.List.{List}
use Prim.Native.Nat.{ℕ, ◌≤◌}
use native.Mathlib.Omega.{arith}
use lib.ListN.{length, take, replicate}
use lib.IntN.{pos}
use lib.Seq.{length-take-le}
use Rattle.codes.specs.Limits.{limits, var_limit, root_limit}
use Rattle.codes.specs.declared.refusal.Fault.{Fault}
use Rattle.header_values.proofs.Fronts.{front-is}
use Rattle.store.specs.Store.{Store, store}
use Rattle.store.specs.Empty.{empty}
use Rattle.header.specs.Header as head
use Rattle.header.specs.Kinds.{of_header}
use Rattle.header.specs.declared.DumpHeader.{DumpHeader}
use Rattle.exported.specs.Export.{Export, export_of}
use Rattle.calls.specs.Load.{Parts, parts, lengths_of, Loaded, load_into, parts_of, load_of}
use Rattle.recode_levels.specs.Levels.{JudgedLevels}
use Rattle.recoding.specs.Recode.{slots_lent, long_lists, load_at, loaded_at, export_with, export_again, refuse_file, of_export, after_load}
use Rattle.recoding.proofs.Said.{Says, load-says}

-- the parts that are lent, and the store
abbrev pub zeros : Parts
zeros = parts
    (replicate var_limit 0) (replicate var_limit 0) (replicate var_limit 0)
    (replicate var_limit 0) (replicate var_limit 0) (replicate var_limit 0)
    (replicate root_limit (pos 0)) (replicate root_limit 0) (replicate root_limit 0)
    (replicate slots_lent (pos 0)) (replicate slots_lent 0)

abbrev pub fresh : ℕ → Store
fresh levels =
    store levels 1 (replicate slots_lent 0) (replicate slots_lent (pos 0)) (replicate slots_lent (pos 0)) (replicate slots_lent 0) (replicate 256 0)

-- a list is longer than n: its front of n entries
front : {A : Type 0} (n m : ℕ) (l : List A) → n ≤ m → length l ≡ m → (n ≤ length l) × (n ≡ length (take n l))
front n m l h e = let k : n ≤ length l = omega arith in (k, sym (length-take-le n l k))

module _ (f list : List ℕ) (levels : ℕ) where
  -- the load as the code makes it, and as the definition names it
  abbrev made : Loaded
  made = load_of limits (load_into f list zeros) (fresh levels)

  abbrev r : Loaded
  r = loaded_at limits f list levels

  -- the lengths of the parts are those that the definition names
  lengths-are : lengths_of zeros ≡ long_lists
  lengths-are = refl

  -- the two loads are one
  made-is : made ≡ r
  unfolding loaded_at empty
  made-is = refl

  -- what the header of the load says
  read-says : (h : head.Header) → r.answer ≡ head.header h → Says h r.ids r.permids
  unfolding loaded_at
  read-says h q = load-says (load_at f list) (empty levels slots_lent) h q

  -- after a header
  module _ (h : DumpHeader) (q : head.header (of_header h) ≡ made.answer) where
    -- the header is the answer
    read : r.answer ≡ head.header (of_header h)
    read = ap (λ l. l.answer) (sym made-is) ∙ sym q

    -- so this holds of it
    says : Says (of_header h) r.ids r.permids
    says = read-says (of_header h) read

    -- a list of variables that is as long as a load asks for has a front of as many entries as there are variables
    pub vars-front : (l : List ℕ) → length l ≡ var_limit → (h.nvars ≤ length l) × (h.nvars ≡ length (take h.nvars l))
    vars-front l e = front h.nvars var_limit l says.judged.few e

    -- one of support variables
    pub support-front : (l : List ℕ) → length l ≡ var_limit → (h.nsuppvars ≤ length l) × (h.nsuppvars ≡ length (take h.nsuppvars l))
    support-front l e = front h.nsuppvars var_limit l says.few_support e

    -- one of roots
    pub roots-front : {A : Type 0} (l : List A) → length l ≡ root_limit → (h.nroots ≤ length l) × (h.nroots ≡ length (take h.nroots l))
    roots-front l e = front h.nroots root_limit l says.few_roots e

    module _ (x : Parts) (p : x ≡ parts_of (lengths_of zeros) made) where
      -- the parts hold what the load leaves
      parts_are : x ≡ parts_of long_lists r
      parts_are = p ∙ ap (λ l. parts_of l made) lengths-are ∙ ap (parts_of long_lists) made-is

      -- the front of the ids is the ids
      ids_are : take h.nsuppvars x.ids ≡ r.ids
      ids_are = front-is var_limit r.ids says.judged.ids_few (sym says.ids_counted) (ap (λ y. y.ids) parts_are)

      -- the front of the permids is the permids
      permids_are : take h.nsuppvars x.permids ≡ r.permids
      permids_are =
          front-is var_limit r.permids says.judged.permids_few (sym says.permids_counted) (ap (λ y. y.permids) parts_are)

      -- ids and permids are as the export leans on
      pub still-judged : JudgedLevels h.nvars (take h.nsuppvars x.ids) (take h.nsuppvars x.permids)
      still-judged = rw (ids_are, permids_are) says.judged

      -- the export of what some parts hold, by ids and permids
      abbrev export_from : List ℕ → List ℕ → Parts → ℕ → Export
      export_from ids permids v out =
          export_with f (of_header h) (take h.nroots v.roots) ids permids (take h.nvars v.names) (take h.nvars v.lens)
          (take h.nroots v.rootnames) (take h.nroots v.rootlens) out

      -- The export of what the parts hold is that of the load.
      pub reloads : (y : Store) → y ≡ made.after → (out : ℕ)
          → of_export (export_of limits (export_from (take h.nsuppvars x.ids) (take h.nsuppvars x.permids) x out) y)
          ≡ after_load limits f r r.answer out
      reloads y s out =
          let same =
          ap (λ i. export_from i (take h.nsuppvars x.permids) x out) ids_are
          ∙ ap (λ i. export_from r.ids i x out) permids_are
          ∙ ap (λ v. export_from r.ids r.permids v out) parts_are in
          ap (λ t. of_export (export_of limits t y)) same
          ∙ ap (λ t. of_export (export_of limits (export_again f (of_header h) r out) t)) (s ∙ ap (λ l. l.after) made-is)
          ∙ ap (λ t. after_load limits f r t out) (sym read)

  -- after a refusal: it is answered, with zeros
  pub reloads-none : (t : Fault) → head.refusal t.number t.line ≡ made.answer → (out : ℕ)
      → refuse_file t.number t.line out ≡ after_load limits f r r.answer out
  reloads-none t q out = ap (λ a. after_load limits f r a out) (q ∙ ap (λ l. l.answer) made-is)
