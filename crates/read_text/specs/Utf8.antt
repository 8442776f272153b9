-- UTF-8 from the writer's side: which numbers are characters, and the bytes of each. proofs/Utf8.antt has the law that the texts that
-- `is_utf8` takes are the encodings of characters, no more and no less.
use Rattle.std.specs.Prelude.{ℕ, ◌+◌, ◌/◌, ◌%◌, ◌≤◌, ◌<◌, ◌≡◌, ◌⊎◌, List, [], ◌∷◌, ◌++◌, cond, ltb}

-- A character's number. The Unicode Standard, D76: 'the set of Unicode scalar values consists of the ranges 0 to D7FF and E000 to
-- 10FFFF, inclusive'. RFC 3629, section 3: 'characters from the U+0000..U+10FFFF range .. are encoded', and 'The definition of UTF-8
-- prohibits encoding character numbers between U+D800 and U+DFFF'. So: no surrogates, nothing above U+10FFFF.
abbrev pub Scalar : ℕ → Type 0
Scalar c = (c < 0xd800) ⊎ ((0xe000 ≤ c) × (c < 0x110000))

-- RFC 3629, section 3: an octet 10xxxxxx, with the low six bits of a number
abbrev pub follow : ℕ → ℕ
follow n = 0x80 + n % 0x40

-- RFC 3629, section 3, the table of ranges and octets: 0xxxxxxx; 110xxxxx 10xxxxxx; 1110xxxx 10xxxxxx 10xxxxxx; 11110xxx 10xxxxxx
-- 10xxxxxx 10xxxxxx. 'Fill in the bits marked x from the bits of the character number'; 'the rows of the table are mutually exclusive,
-- i.e., there is only one valid way to encode a given character'. So: no overlong forms.
unfoldable pub encode : ℕ → List ℕ
encode c =
    cond (ltb c 0x80) (c ∷ [])
    (cond (ltb c 0x800) ((0xc0 + c / 0x40) ∷ (follow c ∷ []))
    (cond (ltb c 0x10000) ((0xe0 + c / 0x1000) ∷ (follow (c / 0x40) ∷ (follow c ∷ [])))
    ((0xf0 + c / 0x40000) ∷ (follow (c / 0x1000) ∷ (follow (c / 0x40) ∷ (follow c ∷ []))))))

abbrev pub Scalars : List ℕ → Type 0
Scalars [] = Unit
Scalars (c ∷ cs) = Scalar c × Scalars cs

-- RFC 3629, section 4: 'A UTF-8 string is a sequence of octets representing a sequence of UCS characters.'
unfoldable pub encoded : List ℕ → List ℕ
encoded [] = []
encoded (c ∷ cs) = encode c ++ encoded cs

-- the characters that bytes encode
pub record Decoded (s : List ℕ) : Type 0 where
  pub characters : List ℕ
  pub scalars : Scalars characters
  pub bytes : s ≡ encoded characters
