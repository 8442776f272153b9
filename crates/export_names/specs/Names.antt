-- The names of an export. Document 01, refusal 5, and 'Export'.
use Rattle.std.specs.Prelude.{ℕ, ◌+◌, Bool, true, false, cond, not, ◌&&◌, ◌||◌, List, [], ◌∷◌, map, eqb, leb, length, take, drop}
use Rattle.codes.specs.Bytes.{is_control}
use Rattle.codes.specs.Machine.{Next, stop, run}
use Rattle.read_text.specs.declared.Utf8.{Utf8}
use Rattle.read_text.specs.declared.Utf8.TheVariants.{Whole}
use Rattle.read_text.specs.Text.{Place, utf8_next, utf8_end, is_utf8}
use Rattle.variable_names.specs.Names.{places}

-- '5 a name list has neither no entry nor one per variable or root'; its two lists are starts and lengths
unfoldable pub counted : ℕ → List ℕ → List ℕ → Bool
counted want starts lens = eqb (length starts) (length lens) && (eqb (length lens) 0 || eqb (length lens) want)

-- 'an export name lies outside its lent bytes': its place goes beyond their end
abbrev pub inside : List ℕ → Place → Bool
inside bytes p = leb (p.start + p.len) (length bytes)

-- the name at a place
abbrev pub name_at : List ℕ → Place → List ℕ
name_at bytes p = take p.len (drop p.start bytes)

-- 'a control byte (00 to 1f, 7f) or, except the diagram's, a space'
abbrev pub fit_byte : Bool → ℕ → Bool
fit_byte diagram b = not (is_control b) && (diagram || not (eqb b 0x20))

unfoldable pub fit_bytes : Bool → List ℕ → Bool
fit_bytes diagram [] = true
fit_bytes diagram (b ∷ bs) = fit_byte diagram b && fit_bytes diagram bs

-- 'is empty (the diagram's may be), over 255 bytes, not UTF-8, or has a control byte ..'
unfoldable pub fit_name : Bool → List ℕ → Bool
fit_name diagram name = (diagram || leb 1 (length name)) && leb (length name) 255 && is_utf8 name && fit_bytes diagram name

-- a place that lies inside, with a name that is fit
abbrev pub fit_place : Bool → List ℕ → Place → Bool
fit_place diagram bytes p = inside bytes p && fit_name diagram (name_at bytes p)

unfoldable pub fit_places : Bool → List ℕ → List Place → Bool
fit_places diagram bytes [] = true
fit_places diagram bytes (p ∷ ps) = fit_place diagram bytes p && fit_places diagram bytes ps

-- a whole list of names, of variables or of roots
unfoldable pub name_list_fits : ℕ → List ℕ → List ℕ → List ℕ → Bool
name_list_fits want bytes starts lens = counted want starts lens && fit_places false bytes (places starts lens)

-- the names of a list, as their bytes
unfoldable pub names_at : List ℕ → List ℕ → List ℕ → List (List ℕ)
names_at bytes starts lens = map (name_at bytes) (places starts lens)

-- what is told of a name before its bytes are read: it isn't 'empty (the diagram's may be), over 255 bytes', and it lies inside the lent ones
unfoldable pub fit_span : Bool → ℕ → Place → Bool
fit_span diagram lent p = (diagram || leb 1 p.len) && leb p.len 255 && leb (p.start + p.len) lent

-- one byte more of a name, read from left to right: 'The first unfit byte in any name ends the whole check.'
unfoldable pub name_next : Bool → Utf8 → ℕ → Next Utf8 Bool
name_next diagram state b = cond (fit_byte diagram b) (utf8_next state b) (stop false)

-- all bytes of a name: UTF-8, and each is fit
unfoldable pub name_reads : Bool → List ℕ → Bool
name_reads diagram name = run (name_next diagram) utf8_end Whole name
