-- When the header of a load stands: exactly where the lent lists are long enough, the store keeps its rules, the input isn't too long, no
-- line up to `.nodes` has a fault, and the header as a whole has none.
use mathlib.Core.Path.{◌≡◌, refl, sym, ap, ◌∙◌}
use mathlib.Core.Bool.{true}
use mathlib.Core.List.{List, []}
use Prim.Native.Nat.{ℕ, zero, suc, ◌≤◌}
use native.Mathlib.Omega.{arith}
use lib.ListN.{length}
use Rattle.codes.specs.Limits.{Limits, var_limit, root_limit}
use Rattle.codes.proofs.Bytes.{both}
use Rattle.header_lines.specs.Sweep.{SweepEnd, at_nodes, refused_at, lines_of, end_of}
use Rattle.header_values.specs.Values.{roots_in}
use Rattle.codes.specs.Faults.{first_fault}
use Rattle.header_checks.specs.Whole.{whole_fault}
use Rattle.codes.proofs.Faults.{first-none, rest-none, last-check}
use Rattle.codes.proofs.Refusals.{unless-none}
use Rattle.store.specs.Store.{Store}
use Rattle.store.specs.Keeps.{keeps}
use Rattle.header.specs.Header as head
use Rattle.header.specs.Header.{Header, HeaderAnswer, header, refusal, header_in, table_of, settled, judged_header, read_of, after, at_least, lists_by}
use Rattle.header.proofs.Lengths.{length_none, none-length}
use Rattle.calls.specs.Load.{Lengths, Load, variable_lists, root_lists, lent_fault, input_fault, before_header, header_of}

-- the lines up to `.nodes`, and the header as a whole
pub record Sound (m : Limits) (f : List ℕ) (h : Header) : Type 0 where
  pub next : ℕ
  pub lines : ℕ
  pub ends : end_of f (lines_of f) ≡ at_nodes next lines
  pub whole : whole_fault m f (table_of f) ≡ 0
  pub is : h ≡ header_in f (table_of f) next lines

-- all that the header of a load needs
pub record Stands (m : Limits) (c : Load) (σ : Store) (h : Header) : Type 0 where
  pub vars_long : at_least var_limit (variable_lists c.lent) ≡ true
  pub roots_long : at_least root_limit (root_lists c.lent) ≡ true
  pub kept : keeps m σ ≡ true
  pub short : length c.file ≤ m.input
  pub sound : Sound m c.file h

-- a refusal is no header
pub no_header : {n line : ℕ} {h : Header} {B : Type 0} → refusal n line ≡ header h → B
no_header q = absurd (let z : ◌≡◌ {A = ℕ} 0 1 = cc in omega arith)

-- one header is the other
pub one-header : {g h : Header} → header g ≡ header h → g ≡ h
one-header q = cc

-- one refusal is the other
pub same-refusal : {n line k at : ℕ} → refusal k at ≡ refusal n line → (k ≡ n) × (at ≡ line)
same-refusal {n} {line} {k} {at} q =
    let a : k ≡ n = cc in
    let b : at ≡ line = cc in
    (a, b)

module _ (m : Limits) (f : List ℕ) (h : Header) where
  -- the header as a whole has no fault
  settled-sound : (next lines : ℕ) → end_of f (lines_of f) ≡ at_nodes next lines → (k : ℕ) → whole_fault m f (table_of f) ≡ k
      → settled f (table_of f) next lines k ≡ header h → Sound m f h
  settled-sound next lines e zero w q = record { next = next; lines = lines; ends = e; whole = w; is = sym (one-header q) }
  settled-sound next lines e (suc k) w q = no_header q

  -- no line has one
  judged-sound : (e : SweepEnd) → end_of f (lines_of f) ≡ e → judged_header m f e ≡ header h → Sound m f h
  judged-sound (at_nodes next lines) e q = settled-sound next lines e (whole_fault m f (table_of f)) refl q
  judged-sound (refused_at n line) e q = no_header q

  -- nothing was found before
  after-sound : (n : ℕ) → after m n f ≡ header h → (n ≡ 0) × Sound m f h
  unfolding read_of
  after-sound zero q = (refl, judged-sound (end_of f (lines_of f)) refl q)
  after-sound (suc n) q = no_header q

  -- a sound header is what the file's header says by itself
  pub sound-read : Sound m f h → read_of m f ≡ header h
  unfolding read_of
  sound-read s =
      ap (judged_header m f) s.ends
      ∙ ap (settled f (table_of f) s.next s.lines) s.whole
      ∙ ap header (sym s.is)

  -- and the other way
  sound-after : (n : ℕ) → n ≡ 0 → Sound m f h → after m n f ≡ header h
  sound-after n z s = ap (λ k. after m k f) z ∙ sound-read s

-- the answer of a load is that of its lists
pub lists-answer : (f : List ℕ) (a : HeaderAnswer) → (lists_by f a).answer ≡ a
lists-answer f (header h) = refl
lists-answer f (refusal n line) = refl

module _ (m : Limits) (found : ℕ) (f : List ℕ) where
  -- a header that is the answer is sound, and nothing was found before
  pub answer-sound : (h : Header) → (head.load_header m found f).answer ≡ header h → (found ≡ 0) × Sound m f h
  unfolding head.load_header
  answer-sound h q = after-sound m f h found (sym (lists-answer f (after m found f)) ∙ q)

  -- and the other way
  sound-answer : (h : Header) → found ≡ 0 → Sound m f h → (head.load_header m found f).answer ≡ header h
  unfolding head.load_header
  sound-answer h z s = lists-answer f (after m found f) ∙ sound-after m f h found z s

  -- where a header is the answer the roots are those of the file
  roots-by : (a : HeaderAnswer) (h : Header) → (lists_by f a).answer ≡ header h → (lists_by f a).roots ≡ roots_in f (table_of f)
  roots-by (header g) h q = refl
  roots-by (refusal n line) h q = no_header q

  pub answer-roots : (h : Header) → (head.load_header m found f).answer ≡ header h → (head.load_header m found f).roots ≡ roots_in f (table_of f)
  unfolding head.load_header
  answer-roots h q = roots-by (after m found f) h q

-- lists that are long enough are refused nothing
none-lists : (l : Lengths) → at_least var_limit (variable_lists l) ≡ true → at_least root_limit (root_lists l) ≡ true → lent_fault l ≡ 0
unfolding head.lists_fault
none-lists l v r = rw (v, r)

-- and the other way
lists-none : (l : Lengths) → lent_fault l ≡ 0
    → (at_least var_limit (variable_lists l) ≡ true) × (at_least root_limit (root_lists l) ≡ true)
unfolding head.lists_fault
lists-none l q = both (at_least var_limit (variable_lists l)) (at_least root_limit (root_lists l)) (unless-none _ 0 q)

module _ (m : Limits) (c : Load) (σ : Store) where
  -- where neither lists nor store are refused, the input's length is left
  pub length-left : at_least var_limit (variable_lists c.lent) ≡ true → at_least root_limit (root_lists c.lent) ≡ true
      → keeps m σ ≡ true → before_header m c σ ≡ input_fault m c.file
  unfolding before_header first_fault
  length-left v r k = rw (none-lists c.lent v r, k) (sym (last-check (input_fault m c.file)))

  -- A header that is the answer stands.
  pub answer-stands : (h : Header) → (header_of m c σ).answer ≡ header h → Stands m c σ h
  unfolding header_of before_header
  answer-stands h q =
      let w = answer-sound m (before_header m c σ) c.file h q in
      let l = lists-none c.lent (first-none _ _ w.0) in
      let s = rest-none _ _ w.0 in
      record {
        vars_long = l.0;
        roots_long = l.1;
        kept = unless-none (keeps m σ) 2 (first-none _ _ s);
        short = length_none m (length c.file) (first-none _ [] (rest-none _ _ s));
        sound = w.1;
      }

  -- A header that stands is the answer.
  pub stands-answer : (h : Header) → Stands m c σ h → (header_of m c σ).answer ≡ header h
  unfolding header_of
  stands-answer h s =
      sound-answer m (before_header m c σ) c.file h
      (length-left s.vars_long s.roots_long s.kept ∙ none-length m (length c.file) s.short)
      s.sound
