-- How the value of each key is judged. Document 01, 'The file's writer, line by line', and 'Limits' for the lists.
use Rattle.std.specs.Prelude.{ℕ, ◌^◌, List, [], ◌∷◌, Bool, false, cond, ◌&&◌, ◌||◌, leb, Option, Some, None}
use Rattle.codes.specs.Texts.{bytes}
use Rattle.codes.specs.Answer.{Read, value, refused}
use Rattle.codes.specs.Limits.{var_limit, root_limit}
use Rattle.read_numbers.specs.Number.{single}
use Rattle.read_lists.specs.Lists.{u32_list}
use Rattle.read_edges.specs.Edges.{edge_list}
use Rattle.read_text.specs.Text.{name_list, text_at}
use Rattle.read_text.specs.Alike.{alike}
use Rattle.header_keys.specs.declared.Key.{Key}
use Rattle.header_keys.specs.declared.Key.TheVariants.{Ver, Mode, Varinfo, Dd, Nnodes, Nvars, Nsuppvars, Nroots, Nodes, Varnames, Suppvarnames, Orderedvarnames, Ids, Permids, Auxids, Rootids, Rootnames}

-- the number of a refusal, 0 of none
abbrev pub why : {A : Type 0} → Read A → ℕ
why (value a) = 0
why (refused n) = n

-- '12 version other than DDDMP-2.0 or DDDMP-3.0'
abbrev pub version20 : List ℕ
version20 = bytes "DDDMP-2.0"

abbrev pub version30 : List ℕ
version30 = bytes "DDDMP-3.0"

unfoldable pub version_fault : List ℕ → ℕ
version_fault s = cond (alike s version20 || alike s version30) 0 12

-- '13 unknown `.mode` or `.varinfo` value': the modes are A and B
abbrev pub mode_a : List ℕ
mode_a = bytes "A"

abbrev pub mode_b : List ℕ
mode_b = bytes "B"

unfoldable pub mode_fault : List ℕ → ℕ
mode_fault s = cond (alike s mode_a || alike s mode_b) 0 13

-- the values of `.varinfo` are 0 to 4, each one digit
abbrev pub is_varinfo : List ℕ → Bool
is_varinfo [] = false
is_varinfo (x ∷ []) = leb 0x30 x && leb x 0x34
is_varinfo (x ∷ y ∷ s) = false

unfoldable pub varinfo_fault : List ℕ → ℕ
varinfo_fault s = cond (is_varinfo s) 0 13

-- '18 a .. `.dd` value isn't UTF-8'
unfoldable pub text_fault : ℕ → List ℕ → ℕ
text_fault at s = why (text_at at s)

-- 14 and 15
unfoldable pub single_fault : ℕ → List ℕ → ℕ
single_fault lim s = why (single lim s)

-- 15, 16, and 19 over '4,096 entries in a variable list'
unfoldable pub u32_list_fault : List ℕ → ℕ
u32_list_fault s = why (u32_list var_limit s).answer

-- 15, 16, 17, and 19 over '1,024 in a root list'
unfoldable pub root_list_fault : List ℕ → ℕ
root_list_fault s = why (edge_list root_limit s).answer

-- 18, and 19 over a limit
unfoldable pub name_list_fault : ℕ → ℕ → List ℕ → ℕ
name_list_fault max at s = why (name_list max at s).answer

-- The refusal of a key's value, whose first byte stands at a position; 0 of none. '15 .. over 64 bits in `.nnodes`, `.nroots`, over
-- 32 in other unsigned ones'; 'the value of `.nodes` is ignored'.
unfoldable pub fault_of : Key → ℕ → List ℕ → ℕ
fault_of Ver at s = version_fault s
fault_of Mode at s = mode_fault s
fault_of Varinfo at s = varinfo_fault s
fault_of Dd at s = text_fault at s
fault_of Nnodes at s = single_fault (2 ^ 64) s
fault_of Nvars at s = single_fault (2 ^ 32) s
fault_of Nsuppvars at s = single_fault (2 ^ 32) s
fault_of Nroots at s = single_fault (2 ^ 64) s
fault_of Nodes at s = 0
fault_of Varnames at s = name_list_fault var_limit at s
fault_of Suppvarnames at s = name_list_fault var_limit at s
fault_of Orderedvarnames at s = name_list_fault var_limit at s
fault_of Ids at s = u32_list_fault s
fault_of Permids at s = u32_list_fault s
fault_of Auxids at s = u32_list_fault s
fault_of Rootids at s = root_list_fault s
fault_of Rootnames at s = name_list_fault root_limit at s

-- of the word that is a line's key. '11 unknown key'.
abbrev pub word_fault : Option Key → ℕ → List ℕ → ℕ
word_fault (Some k) at s = fault_of k at s
word_fault None at s = 11
