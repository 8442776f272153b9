-- The last value of a key among the lines of a header, with no word of how it is found. Document 01, 'Header': 'A repeated key: the last
-- counts, but each is read.'
use Rattle.std.specs.Prelude.{◌≡◌, List, ◌∷◌, ◌++◌, ℕ, Some}
use Rattle.read_lines.specs.Each.{Each}
use Rattle.header_keys.specs.declared.Key.{Key}
use Rattle.header_lines.specs.Sweep.{Span, part, Said, said}

-- the bytes of a value
abbrev pub bytes_at : List ℕ → Span → List ℕ
bytes_at f v = part f v.start v.end

-- a line that has another key
abbrev pub OtherKey : Key → Said → Type 0
OtherKey k s = s.key ≡ Some k → ⊥

-- no line has the key
abbrev pub Missing : Key → List Said → Type 0
Missing k ss = Each (OtherKey k) ss

-- a line has the key, with this value, and none after it has the key
pub record LastLine (k : Key) (ss : List Said) (v : Span) : Type 0 where
  pub before : List Said
  pub rest : List Said
  pub stands : ss ≡ before ++ (said k v ∷ rest)
  pub last : Missing k rest

-- What lines say of a key: what is read of its last value, or d where the key is missing.
pub data SaidOf {A : Type 0} (k : Key) (reads : Span → A → Type 0) (d : A) (ss : List Said) : A → Type 0 where
  missing : Missing k ss → SaidOf k reads d ss d
  last : {v : Span} {a : A} → LastLine k ss v → reads v a → SaidOf k reads d ss a
