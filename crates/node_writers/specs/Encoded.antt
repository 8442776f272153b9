-- Node lines as an export writes them: what the Rust's `export_common` writes after `.nodes`.
use Rattle.std.specs.Prelude.{ℕ, zero, suc, ◌+◌, ◌-◌, ◌*◌, Bool, true, false, cond, List, [], ◌∷◌, ◌++◌, map, eqb, ltb, get_or, ℤ, nat_abs}
use Rattle.codes.specs.Texts.{bytes}
use Rattle.codes.specs.declared.Code.{Code}
use Rattle.codes.specs.declared.Code.TheVariants.{Terminal, AbsoluteID, RelativeID, Relative1}
use Rattle.edges.specs.Edge.{minus}
use Rattle.node_lines.specs.Line.{Line, terminal, inner, seat_of_line}
use Rattle.writers.specs.Decimal.{decimal, edge_text}
use Rattle.writers.specs.Words.{spaced}
use Rattle.writers.specs.Binary.{escaped, seven_bit}

-- a line of text: 'number, variable position, then, else'; a terminal is `T 0 0`
abbrev pub words_of : Line → List (List ℕ)
words_of terminal = (bytes "T") ∷ (bytes "0") ∷ (bytes "0") ∷ []
words_of (inner p t e) = decimal p ∷ edge_text t ∷ edge_text e ∷ []

unfoldable pub text_bytes : ℕ → Line → List ℕ
text_bytes n l = decimal n ++ (spaced (words_of l) ++ (bytes "\n"))

-- 'Codes: 0 terminal (node 1), 1 absolute, 2 relative (that many before), 3 one before.'
abbrev pub code_bits : Code → ℕ
code_bits Terminal = 0
code_bits AbsoluteID = 1
code_bits RelativeID = 2
code_bits Relative1 = 3

-- 'variable code bits 6-5, then code 4-3, complement of else bit 2, else code 1-0'
abbrev pub code_byte : Code → Code → Bool → Code → ℕ
code_byte variable then complement els = code_bits variable * 32 + code_bits then * 8 + cond complement 4 0 + code_bits els

-- the number that follows a code: as it is, or as a distance
abbrev pub number_for : Code → ℕ → ℕ → List ℕ
number_for Terminal absolute distance = []
number_for AbsoluteID absolute distance = seven_bit absolute
number_for RelativeID absolute distance = seven_bit distance
number_for Relative1 absolute distance = []

-- the code of a child c of line n: line 1 is the terminal; one before has a code of its own; otherwise the smaller number is written
unfoldable pub child_code : ℕ → ℕ → Code
child_code n c = cond (eqb c 1) Terminal (cond (eqb (c + 1) n) Relative1 (cond (ltb (n - c) c) RelativeID AbsoluteID))

-- the smaller support position of two children, by their seats, which are 0 for a terminal line and else the position and 1; 0 over two
-- terminals
abbrev pub smaller : ℕ → ℕ → ℕ
smaller zero e = e
smaller (suc t) zero = suc t
smaller (suc t) (suc e) = cond (ltb t e) (suc t) (suc e)

-- the code of a variable at support position p, by the smaller position of its children: an export never counts down over two terminals
unfoldable pub variable_code : ℕ → ℕ → Code
variable_code p zero = AbsoluteID
variable_code p (suc q) = cond (eqb (p + 1) q) Relative1 (cond (ltb (q - p) p) RelativeID AbsoluteID)

-- an inner line, by the seat that its variable may count down from
unfoldable pub inner_bytes : ℕ → ℕ → ℤ → ℤ → ℕ → List ℕ
inner_bytes n p t e seat =
    escaped (code_byte (variable_code p seat) (child_code n (nat_abs t)) (minus e) (child_code n (nat_abs e)))
    ++ (number_for (variable_code p seat) p (seat - 1 - p)
    ++ (number_for (child_code n (nat_abs t)) (nat_abs t) (n - nat_abs t)
    ++ number_for (child_code n (nat_abs e)) (nat_abs e) (n - nat_abs e)))

-- a line in binary, by the seats of all lines
unfoldable pub bin_bytes : List ℕ → ℕ → Line → List ℕ
bin_bytes seats n terminal = escaped (code_byte Terminal Terminal false Terminal)
bin_bytes seats n (inner p t e) = inner_bytes n p t e (smaller (get_or seats (nat_abs t - 1) 0) (get_or seats (nat_abs e - 1) 0))

-- the lines n, n + 1, .., each by its number
unfoldable pub encode_from : (ℕ → Line → List ℕ) → ℕ → List Line → List ℕ
encode_from write n [] = []
encode_from write n (l ∷ ls) = write n l ++ encode_from write (n + 1) ls

-- the line of either mode
abbrev pub line_bytes : Bool → List ℕ → ℕ → Line → List ℕ
line_bytes true seats n l = text_bytes n l
line_bytes false seats n l = bin_bytes seats n l

-- all node lines of a file
unfoldable pub node_bytes : Bool → List Line → List ℕ
node_bytes ascii ls = encode_from (line_bytes ascii (map seat_of_line ls)) 1 ls

-- what follows the nodes
abbrev pub end_text : List ℕ
end_text = bytes ".end\n"
