-- The level count and the level list, by what a load of the header leaves in lent lists.
use mathlib.Core.Path.{◌≡◌, refl, sym, ap, ◌∙◌}
use mathlib.Core.List.{List}
use Rattle.std.specs.Prelude.{Result, Ok, Err}
use Prim.Native.Nat.{ℕ, ◌≤◌, ◌<◌}
use native.Mathlib.Omega.{arith}
use lib.ListN.{length, take}
use Rattle.edges.specs.Width.{position_limit}
use Rattle.codes.specs.Lent.{laid}
use Rattle.codes.specs.Limits.{limits, var_limit}
use Rattle.codes.specs.declared.refusal.Fault.{Fault}
use Rattle.header_values.specs.Values.{pad}
use Rattle.header_values.proofs.Fronts.{front_fits, front-is, front_long}
use Rattle.codes.specs.Faults.{first_fault}
use Rattle.codes.proofs.Faults.{last-check}
use Rattle.header.specs.Header as head
use Rattle.header.specs.Kinds.{of_header}
use Rattle.header.specs.declared.DumpHeader.{DumpHeader}
use Rattle.recode_levels.specs.Levels.{level_list}
use Rattle.recoding.specs.Recode.{head_read}
use Rattle.recoding.specs.Kinds.{plan_by, list_by}
use Rattle.recoding.proofs.Said.{Says, header-says}

-- what is promised of an answer and of the list after it
abbrev pub Plans : List ℕ → Result (ℕ × ℕ) Fault → List ℕ → List ℕ → Type 0
Plans f p out old =
    (p ≡ plan_by (head_read limits f) (head_read limits f).answer) × (out ≡ laid (list_by (head_read limits f) (head_read limits f).answer) old)

-- the load of the header, after the input's length
module _ (f : List ℕ) (found : ℕ) (e : found ≡ head.length_after limits 0 (length f)) where
  -- what the load leaves
  abbrev r : head.HeaderLoaded
  r = head.load_header limits found f

  -- it is the one that the definition names
  head-is : r ≡ head_read limits f
  unfolding head_read head.length_after first_fault
  head-is = ap (λ n. head.load_header limits n f) (e ∙ sym (last-check (head.length_fault limits (length f))))

  -- after a header: its permids are in a lent list
  module _ (h : DumpHeader) (q : head.header (of_header h) ≡ r.answer) (m : ℕ) (l : m ≡ var_limit) (dst : List ℕ) (d : dst ≡ pad m r.permids) where
    -- so this holds of it
    says : Says (of_header h) r.ids r.permids
    says = header-says found f (of_header h) (sym q)

    -- the lent list has room for the permids
    short : length r.permids ≤ m
    short = let s = says.judged.permids_few in omega (arith, l)

    -- it reaches as far as they do
    pub permids-fit : h.nsuppvars ≤ length dst
    permids-fit = front_fits m r.permids short (sym says.permids_counted) d

    -- its front has as many entries
    pub permids_long : h.nsuppvars ≡ length (take h.nsuppvars dst)
    permids_long = front_long m r.permids short (sym says.permids_counted) d

    -- which are the permids
    permids_are : take h.nsuppvars dst ≡ r.permids
    permids_are = front-is m r.permids short (sym says.permids_counted) d

    -- the level list can be worked out
    pub list-may : (h.nvars ≤ var_limit) × (length (take h.nsuppvars dst) ≤ var_limit)
    list-may = (says.judged.few, rw permids_are says.judged.permids_few)

    -- the level count fits
    pub count_fits : h.nvars < position_limit
    count_fits = let s = says.judged.few in omega arith

    -- and is answered, with the list's length, beside the list
    pub plans : (n : ℕ) (out old : List ℕ) → n ≡ length (level_list h.nvars (take h.nsuppvars dst))
        → out ≡ laid (level_list h.nvars (take h.nsuppvars dst)) old → Plans f (Ok (h.nvars, n)) out old
    plans n out old x y = rw (sym head-is, sym q, sym permids_are) (ap (λ k. Ok (h.nvars, k)) x, y)

  -- after a refusal: it is answered, and the list is as it was
  pub plans-none : (t : Fault) → head.refusal t.number t.line ≡ r.answer → (old : List ℕ) → Plans f (Err t) old old
  unfolding laid
  plans-none t q old = rw (sym head-is, sym q) (refl, refl)
