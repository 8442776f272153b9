-- Names and texts, which are UTF-8.
use Rattle.std.specs.Prelude.{ℕ, zero, suc, List, [], ◌∷◌, Bool, true, false, cond, ◌&&◌, length, ltb, leb, eqb}
use Rattle.codes.specs.Machine.{Next, go, stop, run}
use Rattle.codes.specs.Answer.{Read, value, refused}
use Rattle.read_lines.specs.Words.{Word, words}
use Rattle.read_lists.specs.Lists.{Listed, judge}
use Rattle.read_text.specs.declared.Utf8.{Utf8}
use Rattle.read_text.specs.declared.Utf8.TheVariants.{Whole, Tail}

-- The Unicode Standard, table 3-7, 'Well-Formed UTF-8 Byte Sequences': what may follow a first byte. `Tail n lo hi` waits for a byte
-- from lo to hi and then for n further ones from 80 to bf.
abbrev pub lead : ℕ → Next Utf8 Bool
lead x =
    cond (ltb x 0x80) (go Whole)
    (cond (ltb x 0xc2) (stop false)
    (cond (ltb x 0xe0) (go (Tail 0 0x80 0xbf))
    (cond (eqb x 0xe0) (go (Tail 1 0xa0 0xbf))
    (cond (eqb x 0xed) (go (Tail 1 0x80 0x9f))
    (cond (ltb x 0xf0) (go (Tail 1 0x80 0xbf))
    (cond (eqb x 0xf0) (go (Tail 2 0x90 0xbf))
    (cond (ltb x 0xf4) (go (Tail 2 0x80 0xbf))
    (cond (eqb x 0xf4) (go (Tail 2 0x80 0x8f))
    (stop false)))))))))

abbrev pub tail : ℕ → Utf8
tail zero = Whole
tail (suc n) = Tail n 0x80 0xbf

unfoldable pub utf8_next : Utf8 → ℕ → Next Utf8 Bool
utf8_next Whole x = lead x
utf8_next (Tail n lo hi) x = cond (leb lo x && leb x hi) (go (tail n)) (stop false)

abbrev pub utf8_end : Utf8 → Bool
utf8_end Whole = true
utf8_end (Tail n lo hi) = false

unfoldable pub is_utf8 : List ℕ → Bool
is_utf8 s = run utf8_next utf8_end Whole s

-- 'name places (start, length)'
pub record Place : Type 0 where
  pub start : ℕ
  pub len : ℕ

abbrev pub place : ℕ → ℕ → Place
place at n = record { start = at; len = n }

abbrev pub start_of : Place → ℕ
start_of p = p.start

abbrev pub len_of : Place → ℕ
len_of p = p.len

-- '18 a name .. isn't UTF-8'
abbrev pub name_of : Word → Read Place
name_of w = cond (is_utf8 w.bytes) (value (place w.start (length w.bytes))) (refused 18)

-- a list of names whose first byte stands at a position
unfoldable pub name_list : ℕ → ℕ → List ℕ → Listed Place
name_list max at s = judge name_of max [] (words at s)

-- 'An empty name or `.dd` is start 0, length 0.'
abbrev pub placed : ℕ → List ℕ → Place
placed at [] = place 0 0
placed at (x ∷ s) = place at (length (x ∷ s))

-- a single text whose first byte stands at a position: '18 a .. `.dd` value isn't UTF-8'
unfoldable pub text_at : ℕ → List ℕ → Read Place
text_at at s = cond (is_utf8 s) (value (placed at s)) (refused 18)
