-- The answer of a load, step by step.
use mathlib.Core.Path.{◌≡◌, refl, sym, ap, subst, ◌∙◌}
use native.Mathlib.Omega.{arith}
use mathlib.Core.Bool.{Bool}
use mathlib.Core.List.{List, map}
use Prim.Native.Nat.{ℕ, zero, suc, ◌≤◌}
use lib.ListN.{length, replicate}
use Rattle.codes.specs.Limits.{limits}
use Rattle.codes.specs.declared.VarInfo.{VarInfo}
use Rattle.header_lines.specs.Sweep.{Span, SweepEnd, keys, span_start, span_end, Table, EndWithin, at_nodes, refused_at, lines_of, end_of, sound, lasts}
use Rattle.header_lines.proofs.Tables.{table_none}
use Rattle.header_lines.proofs.Lines.{sound-all}
use Rattle.read_text.specs.declared.Place.{Place}
use Rattle.header_values.specs.Kinds.{of_var_info, of_place}
use Rattle.header_values.specs.Values.{spans, nnodes_in, nvars_in, nsuppvars_in, nroots_in, ascii_in, varinfo_in, dd_in}
use Rattle.header_values.proofs.Spanned.{spans-parts}
use Rattle.header_checks.specs.Whole.{whole_fault, whole_after}
use Rattle.std.specs.Prelude.{Result}
use Rattle.codes.specs.declared.refusal.Fault.{Fault}
use Rattle.header_checks.specs.Promises.{whole_of}
use Rattle.header.specs.Promises.{settled_of}
use Rattle.header.specs.Kinds.{of_header}
use Rattle.header.specs.Header.{Header, HeaderAnswer, header, refusal, header_in, table_of, settled, judged_header, read_of, after, table_by, NextWithin}
use Rattle.header.specs.Header.{swept_after, found_in, refused_by, settled_by, left_by}
use Rattle.header_lists.specs.Settled.{Settled}
use Rattle.header.proofs.NoValues.{none-settled}
use Rattle.header.proofs.Faultless.{faultless-settled}

-- the numbers, each as its reader gives it
pub header_read : (f : List ℕ) (t : List Span) (next lines : ℕ)
    → {a : Bool} → a ≡ ascii_in f t → (v : VarInfo) → of_var_info v ≡ varinfo_in f t → (d : Place) → of_place d ≡ dd_in f t
    → {nodes vars supp roots : ℕ} → nodes ≡ nnodes_in f t → vars ≡ nvars_in f t → supp ≡ nsuppvars_in f t → roots ≡ nroots_in f t
    → of_header (record {
      ascii = a;
      varinfo = v;
      dd = d;
      nnodes = nodes;
      nvars = vars;
      nsuppvars = supp;
      nroots = roots;
      next = next;
      lines = lines;
    }) ≡ header_in f t next lines
header_read f t next lines ea v ev d ed en em es er = rw (ea, ev, ed, en, em, es, er)

-- What is known of an answer, and of the two lists of the table that is left with it.
abbrev pub Promised : ℕ → List ℕ → HeaderAnswer → List ℕ → List ℕ → Type 0
Promised n f a starts ends =
    (a ≡ after limits n f)
    × ((starts ≡ map span_start (table_by f a))
    × ((ends ≡ map span_end (table_by f a))
    × (Table f starts ends × (Settled f (table_by f a) × NextWithin f a))))

-- a refusal leaves two lists of zeros
refused : (n : ℕ) (f : List ℕ) (k line : ℕ) {starts ends : List ℕ} → refusal k line ≡ after limits n f
    → starts ≡ replicate keys 0 → ends ≡ replicate keys 0 → Promised n f (refusal k line) starts ends
refused n f k line e p q = (e, (p, (q, (rw (p, q) (table_none f), (none-settled f, tt)))))

-- a list of as many entries as there are keys, when it is cleared
cleared : {n : ℕ} {l : List ℕ} → l ≡ replicate n 0 → n ≡ keys → l ≡ replicate keys 0
cleared e k = e ∙ ap (λ i. replicate i 0) k

-- two lists that hold a table's starts and ends hold its spans
pub spans-of : {t : List Span} {starts ends : List ℕ} → starts ≡ map span_start t → ends ≡ map span_end t → spans starts ends ≡ t
spans-of {t} p q = rw (p, q) (spans-parts t)

-- nothing was found before, and the sweep left two lists
module _ (f : List ℕ) {ss es : List ℕ} (p : ss ≡ map span_start (lasts (sound f (lines_of f))))
    (q : es ≡ map span_end (lasts (sound f (lines_of f)))) (tb : Table f ss es) where
  -- a line is refused
  line_refused : (k line : ℕ) → refused_at k line ≡ end_of f (lines_of f) → {starts ends : List ℕ}
      → starts ≡ replicate (length ss) 0 → ends ≡ replicate (length es) 0 → Promised 0 f (refusal k line) starts ends
  unfolding read_of
  line_refused k line e a b = refused 0 f k line (ap (judged_header limits f) e) (cleared a tb.starts_long) (cleared b tb.ends_long)

  -- none is
  module _ (next lines : ℕ) (e : at_nodes next lines ≡ end_of f (lines_of f)) where
    -- the lines before `.nodes` are all sound, so that the table is that of the file
    table-all : lasts (sound f (lines_of f)) ≡ table_of f
    unfolding table_of
    table-all = ap lasts (sound-all f (lines_of f) next lines (sym e))

    -- so the two lists hold that table
    swept-spans : spans ss es ≡ table_of f
    swept-spans = spans-of p q ∙ table-all

    -- the header as a whole decides
    decided : settled f (table_of f) next lines (whole_fault limits f (table_of f)) ≡ after limits 0 f
    unfolding read_of
    decided = ap (judged_header limits f) e

    -- it stands, or it is refused
    whole-judged : (fault : ℕ) → fault ≡ whole_fault limits f (spans ss es) → next ≤ length f → {starts ends : List ℕ}
        → starts ≡ left_by (settled f (spans ss es) next lines fault) ss → ends ≡ left_by (settled f (spans ss es) next lines fault) es
        → Promised 0 f (settled f (spans ss es) next lines fault) starts ends
    whole-judged zero g i a b =
        let u : whole_fault limits f (table_of f) ≡ 0 = sym (g ∙ ap (whole_fault limits f) swept-spans) in
        let v : header (header_in f (spans ss es) next lines) ≡ after limits 0 f
        = ap (λ t. header (header_in f t next lines)) swept-spans ∙ ap (settled f (table_of f) next lines) (sym u) ∙ decided in
        (v, (a ∙ p ∙ ap (map span_start) table-all, (b ∙ q ∙ ap (map span_end) table-all, (rw (a, b) tb, (faultless-settled f (table_of f) u, i)))))
    whole-judged (suc k) g i a b =
        let v : refusal (suc k) 0 ≡ after limits 0 f = ap (settled f (table_of f) next lines) (g ∙ ap (whole_fault limits f) swept-spans) ∙ decided in
        refused 0 f (suc k) 0 v (cleared a tb.starts_long) (cleared b tb.ends_long)

-- The steps of a load: what the lines gave after what was found before, what the header as a whole gave after them, and the answer.
load-promised : (n : ℕ) (f : List ℕ) (sw : SweepEnd) {ss es : List ℕ} → sw ≡ swept_after n f → EndWithin f sw → Table f ss es
    → (n ≡ 0 → ss ≡ map span_start (lasts (sound f (lines_of f)))) → (n ≡ 0 → es ≡ map span_end (lasts (sound f (lines_of f))))
    → (fault : ℕ) → fault ≡ whole_after limits (found_in sw) f (spans ss es) → {starts ends : List ℕ}
    → starts ≡ left_by (settled_by f (spans ss es) fault sw) ss → ends ≡ left_by (settled_by f (spans ss es) fault sw) es
    → Promised n f (settled_by f (spans ss es) fault sw) starts ends
load-promised zero f (refused_at k line) e i tb p q fault g a b = line_refused f (p refl) (q refl) tb k line e a b
load-promised zero f (at_nodes next lines) e i tb p q fault g a b = whole-judged f (p refl) (q refl) tb next lines e fault g i a b
load-promised (suc m) f (refused_at k line) e i tb p q fault g a b =
    refused (suc m) f k line (ap refused_by e) (cleared a tb.starts_long) (cleared b tb.ends_long)
load-promised (suc m) f (at_nodes next lines) e i tb p q fault g a b = let z : ◌≡◌ {A = ℕ} 0 1 = cc in absurd (omega arith)

-- the same of an answer that is given so
pub promised : (n : ℕ) (f : List ℕ) (sw : SweepEnd) {ss es : List ℕ} → sw ≡ swept_after n f → EndWithin f sw → Table f ss es
    → (n ≡ 0 → ss ≡ map span_start (lasts (sound f (lines_of f)))) → (n ≡ 0 → es ≡ map span_end (lasts (sound f (lines_of f))))
    → {fault k : ℕ} → fault ≡ whole_after limits k f (spans ss es) → k ≡ found_in sw → {x : HeaderAnswer} → x ≡ settled_by f (spans ss es) fault sw
    → {starts ends : List ℕ} → starts ≡ left_by x ss → ends ≡ left_by x es → Promised n f x starts ends
promised n f sw {ss} {es} e i tb p q {fault} g j d {starts} {ends} =
    subst (λ x. starts ≡ left_by x ss → ends ≡ left_by x es → Promised n f x starts ends) (sym d)
    (load-promised n f sw e i tb p q fault (g ∙ ap (λ k. whole_after limits k f (spans ss es)) j))

-- something is found wrong with the lines wherever something was found before
pub found_first : (n : ℕ) (f : List ℕ) {sw : SweepEnd} → sw ≡ swept_after n f → found_in sw ≡ 0 → n ≡ 0
found_first zero f e z = refl
found_first (suc m) f e z = let k = ap found_in e in absurd (omega (arith, k, z))

-- the lines after what was found before: a refusal, where there was something,
pub swept-found : (n : ℕ) (f : List ℕ) → (n ≡ 0 → ⊥) → refused_at n 0 ≡ swept_after n f
swept-found zero f h = absurd (h refl)
swept-found (suc n) f h = refl

-- else their own end
pub swept-first : (n : ℕ) (f : List ℕ) → n ≡ 0 → end_of f (lines_of f) ≡ swept_after n f
swept-first n f z = rw z

-- an answer by a number of the header as a whole, 0 of nothing
pub settled-as : (f : List ℕ) (t : List Span) {r : Result Unit Fault} (n : ℕ) (sw : SweepEnd) {x : HeaderAnswer} → r ≡ whole_of n
    → x ≡ settled_of f t r sw → x ≡ settled_by f t n sw
settled-as f t zero (at_nodes next lines) e q = rw e at q
settled-as f t (suc n) (at_nodes next lines) e q = rw e at q
settled-as f t n (refused_at k line) e q = q
