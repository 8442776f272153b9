-- A node line in binary. Document 01, 'Node lines': 'Binary, one code byte: bit 7 ignored, variable code bits 6-5, then code 4-3,
-- complement of else bit 2, else code 1-0. .. Numbers follow in that order: variable, then, else; checks: then (before else's number is
-- read), else, variable, level.'
use Rattle.std.specs.Prelude.{ℕ, zero, suc, ◌-◌, ◌/◌, ◌%◌, List, Bool, cond, ◌&&◌, length, get_or, ℤ, pos, ltb, eqb}
use Rattle.codes.specs.Answer.{Step, got, fails, then}
use Rattle.codes.specs.Codes.{code_of}
use Rattle.codes.specs.declared.Code.{Code}
use Rattle.codes.specs.declared.Code.TheVariants.{Terminal, AbsoluteID, RelativeID, Relative1}
use Rattle.read_binary.specs.Binary.{byte_at}
use Rattle.read_edges.specs.Edges.{signed}
use Rattle.node_lines.specs.Line.{Line, terminal, inner, deeper}
use Rattle.line_numbers.specs.Numbers.{child_at, variable_at}

-- 'A relative variable counts down from the smaller support position of the children; over two terminals it counts down from the store's
-- level count': by the seats of the two children, which are 0 for a terminal line and else the position and 1
abbrev pub counts_from : ℕ → ℕ → ℕ → ℕ
counts_from count zero zero = count
counts_from count zero (suc e) = e
counts_from count (suc t) zero = t
counts_from count (suc t) (suc e) = cond (ltb t e) t e

-- '34 variable out of range': counting below 0
abbrev pub counted_down : ℕ → ℕ → Step ℕ
counted_down from v = cond (ltb from v) (fails 34) (got (from - v) 0)

-- the support position by its code: written, or counted down
abbrev pub position_by : Code → ℕ → ℕ → Step ℕ
position_by Terminal from v = fails 34
position_by AbsoluteID from v = got v 0
position_by RelativeID from v = counted_down from v
position_by Relative1 from v = counted_down from v

-- 'a result not below `.nsuppvars` gives 34', then '36 level not above both children's'
abbrev pub placed_at : List ℕ → List ℕ → ℕ → ℕ → ℤ → ℕ → ℕ → Step Line
placed_at levels seats t e els next p =
    cond (ltb p (length levels))
    (cond (deeper levels seats (get_or levels p 0) t && deeper levels seats (get_or levels p 0) e)
    (got (inner p (pos t) els) next)
    (fails 36))
    (fails 34)

-- a line with both children read
abbrev pub resolved : ℕ → List ℕ → List ℕ → Code → ℕ → Bool → ℕ → ℕ → ℕ → Step Line
resolved count levels seats code v complement t e next =
    then (position_by code (counts_from count (get_or seats (t - 1) 0) (get_or seats (e - 1) 0)) v)
    (λ p _. placed_at levels seats t e (signed complement e) next p)

-- 'Numbers follow in that order: variable, then, else'; a child's check follows its number, so that of then comes 'before else's number is
-- read'
abbrev pub inner_at : ℕ → List ℕ → List ℕ → ℕ → List ℕ → ℕ → Code → ℕ → Step Line
inner_at count levels seats n f b code at =
    then (variable_at code f at)
    (λ v at₁. then (child_at (code_of (b / 8)) n f at₁)
    (λ t at₂. then (child_at (code_of b) n f at₂)
    (λ e next. resolved count levels seats code v (eqb ((b / 4) % 2) 1) t e next)))

-- 'A variable code 0 is a terminal line.'
abbrev pub by_code : ℕ → List ℕ → List ℕ → ℕ → List ℕ → ℕ → Code → ℕ → Step Line
by_code count levels seats n f b Terminal at = got terminal at
by_code count levels seats n f b AbsoluteID at = inner_at count levels seats n f b AbsoluteID at
by_code count levels seats n f b RelativeID at = inner_at count levels seats n f b RelativeID at
by_code count levels seats n f b Relative1 at = inner_at count levels seats n f b Relative1 at

-- The line at a position of a file. The level list has a level for each support position; the seats are those of the lines before; `count`
-- is the store's level count.
unfoldable pub bin_line_at : ℕ → List ℕ → List ℕ → ℕ → List ℕ → ℕ → Step Line
bin_line_at count levels seats n f at = then (byte_at f at) (λ b next. by_code count levels seats n f b (code_of (b / 32)) next)
