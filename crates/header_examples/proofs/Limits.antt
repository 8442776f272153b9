-- Lists at their limits and over them.
use mathlib.Core.Path.{◌≡◌, refl}
use mathlib.Core.List.{List, [], ◌∷◌}
use Prim.Native.Nat.{ℕ, zero, suc}
use native.Mathlib.Omega.{arith}
use lib.ListN.{replicate}
use Rattle.codes.specs.Texts.{bytes}
use Rattle.codes.specs.Bytes.{is_blank, is_digit, is_line_end}
use Rattle.codes.specs.Limits.{limits, var_limit}
use Rattle.codes.specs.Machine.{run}
use Rattle.read_lines.specs.Each.{Each, none, each}
use Rattle.read_lines.specs.Words.{words_from, words}
use Rattle.read_numbers.specs.Number.{digit, number, single}
use Rattle.read_lists.specs.Lists.{judge, u32_list}
use Rattle.read_edges.specs.Edges.{entry_bytes, edge_list}
use Rattle.read_text.specs.Text.{utf8_next, is_utf8, name_list}
use Rattle.header_keys.specs.declared.Key.{Key}
use Rattle.header_keys.specs.declared.Key.TheVariants.{Nvars, Varnames, Ids, Rootids, Rootnames}
use Rattle.header_faults.specs.Judge.{why, single_fault, u32_list_fault, root_list_fault, name_list_fault, fault_of}
use Rattle.header_values.specs.Values.{KnownKey}
use Rattle.writers.specs.Words.{spaced}
use Rattle.heading.specs.Lines.{HeaderLine}
use Rattle.header.specs.Header.{refusal, read_of}
use Rattle.reading_header.specs.Joined.{OnLine, without_front, without_back, trimmed}
use Rattle.reading_header.specs.Spans.{line_value}
use Rattle.reading_header.proofs.Elements.{each_append}
use Rattle.reading_header.proofs.LineBack.{Written}
use Rattle.reading_header.proofs.LinesBack.{Faultless}
use Rattle.header_examples.specs.Lists.{starting_with, ones_line}
use Rattle.header_examples.proofs.Decides.{line-decides}

-- no `1` of a list is a line end
ones-on-line : (n : ℕ) → Each OnLine (replicate n (bytes "1"))
unfolding is_line_end
ones-on-line zero = none
ones-on-line (suc n) = each (each refl none) (ones-on-line n)

ones-written : (k : Key) (n : ℕ) (more : List (List ℕ)) → KnownKey k → Each OnLine more → Written (ones_line k n more)
ones-written k n more known h = record { known = known; words = each_append (ones-on-line n) h }

-- nor is `x`
x-on-line : Each OnLine (bytes "x" ∷ [])
unfolding is_line_end
x-on-line = each (each refl none) none

-- '4,096 entries in a variable list and 1,024 in a root list': 1,025 roots are over the limit,
many-ones : (at : ℕ) → fault_of Rootids at (line_value (ones_line Rootids 1025 [])) ≡ 19
unfolding run is_blank is_digit is_line_end words_from words digit number single judge u32_list entry_bytes edge_list utf8_next is_utf8 name_list single_fault u32_list_fault root_list_fault name_list_fault fault_of spaced without_front without_back trimmed line_value
many-ones at = refl

-- and 1,024 are not.
pub most-ones : (at : ℕ) → fault_of Rootids at (line_value (ones_line Rootids 1024 [])) ≡ 0
unfolding run is_blank is_digit is_line_end words_from words digit number single judge u32_list entry_bytes edge_list utf8_next is_utf8 name_list single_fault u32_list_fault root_list_fault name_list_fault fault_of spaced without_front without_back trimmed line_value
most-ones at = refl

-- `.nvars 1`
abbrev vars_line : HeaderLine
vars_line = ones_line Nvars 1 []

vars-faultless : Faultless vars_line
unfolding run is_blank is_digit is_line_end words_from words digit number single judge u32_list entry_bytes edge_list utf8_next is_utf8 name_list single_fault u32_list_fault root_list_fault name_list_fault fault_of spaced without_front without_back trimmed line_value
vars-faultless at = refl

-- '19 (added) over a limit', with its line: 1,025 roots on line 2 get it, whatever follows. So 'replaced lists' are 'counted too'.
pub many-roots : (rest : List ℕ) → read_of limits (starting_with (vars_line ∷ []) (ones_line Rootids 1025 []) rest) ≡ refusal 19 2
many-roots rest =
    line-decides limits (vars_line ∷ []) (ones_line Rootids 1025 []) rest 18
    (each (ones-written Nvars 1 [] (omega arith) none) (each (ones-written Rootids 1025 [] (omega arith) none) none))
    (each refl none) refl (each vars-faultless none) many-ones

-- 'an entry's own fault before the count': behind 1,024 roots an `x` gets 16, though it is an entry over the limit,
own-fault : (at : ℕ) → fault_of Rootids at (line_value (ones_line Rootids 1024 (bytes "x" ∷ []))) ≡ 16
unfolding run is_blank is_digit is_line_end words_from words digit number single judge u32_list entry_bytes edge_list utf8_next is_utf8 name_list single_fault u32_list_fault root_list_fault name_list_fault fault_of spaced without_front without_back trimmed line_value
own-fault at = refl

pub own-fault-first : (rest : List ℕ) → read_of limits (starting_with [] (ones_line Rootids 1024 (bytes "x" ∷ [])) rest) ≡ refusal 16 1
own-fault-first rest =
    line-decides limits [] (ones_line Rootids 1024 (bytes "x" ∷ [])) rest 15
    (each (ones-written Rootids 1024 (bytes "x" ∷ []) (omega arith) x-on-line) none) none refl none own-fault

-- and behind 1,025 it isn't met: 'Entries of a line are judged left to right'.
left-fault : (at : ℕ) → fault_of Rootids at (line_value (ones_line Rootids 1025 (bytes "x" ∷ []))) ≡ 19
unfolding run is_blank is_digit is_line_end words_from words digit number single judge u32_list entry_bytes edge_list utf8_next is_utf8 name_list single_fault u32_list_fault root_list_fault name_list_fault fault_of spaced without_front without_back trimmed line_value
left-fault at = refl

pub left-first : (rest : List ℕ) → read_of limits (starting_with [] (ones_line Rootids 1025 (bytes "x" ∷ [])) rest) ≡ refusal 19 1
left-first rest =
    line-decides limits [] (ones_line Rootids 1025 (bytes "x" ∷ [])) rest 18
    (each (ones-written Rootids 1025 (bytes "x" ∷ []) (omega arith) x-on-line) none) none refl none left-fault

-- 1,025 names of roots get 19 too.
many-names : (at : ℕ) → fault_of Rootnames at (line_value (ones_line Rootnames 1025 [])) ≡ 19
unfolding run is_blank is_digit is_line_end words_from words digit number single judge u32_list entry_bytes edge_list utf8_next is_utf8 name_list single_fault u32_list_fault root_list_fault name_list_fault fault_of spaced without_front without_back trimmed line_value
many-names at = refl

pub many-names-refused : (rest : List ℕ) → read_of limits (starting_with [] (ones_line Rootnames 1025 []) rest) ≡ refusal 19 1
many-names-refused rest =
    line-decides limits [] (ones_line Rootnames 1025 []) rest 18
    (each (ones-written Rootnames 1025 [] (omega arith) none) none) none refl none many-names

-- 4,097 entries of a variable list are too many for the checker to compute with. The readers have their limit as a parameter: here it is 2,
pub ids-over-two : (why (u32_list 2 (bytes "7 8")).answer ≡ 0) × (why (u32_list 2 (bytes "7 8 9")).answer ≡ 19)
unfolding run is_blank is_digit is_line_end words_from words digit number single judge u32_list entry_bytes edge_list utf8_next is_utf8 name_list single_fault u32_list_fault root_list_fault name_list_fault fault_of spaced without_front without_back trimmed line_value
ids-over-two = (refl, refl)

pub names-over-two : (why (name_list 2 0 (bytes "a b")).answer ≡ 0) × (why (name_list 2 0 (bytes "a b c")).answer ≡ 19)
unfolding run is_blank is_digit is_line_end words_from words digit number single judge u32_list entry_bytes edge_list utf8_next is_utf8 name_list single_fault u32_list_fault root_list_fault name_list_fault fault_of spaced without_front without_back trimmed line_value
names-over-two = (refl, refl)

-- and `.ids` and `.varnames` are read with 4,096 there.
pub ids-limit : (at : ℕ) (s : List ℕ) → fault_of Ids at s ≡ why (u32_list var_limit s).answer
unfolding fault_of u32_list_fault
ids-limit at s = refl

pub varnames-limit : (at : ℕ) (s : List ℕ) → fault_of Varnames at s ≡ why (name_list var_limit at s).answer
unfolding fault_of name_list_fault
varnames-limit at s = refl
