-- The lines of a header, as an export writes them: a key, and words with a space before each.
use Rattle.std.specs.Prelude.{ℕ, List, [], ◌∷◌, ◌++◌}
use Rattle.codes.specs.Texts.{bytes}
use Rattle.header_keys.specs.declared.Key.{Key}
use Rattle.header_keys.specs.declared.Key.TheVariants.{Ver, Mode, Varinfo, Dd, Nnodes, Nvars, Nsuppvars, Nroots, Nodes, Varnames, Suppvarnames, Orderedvarnames, Ids, Permids, Auxids, Rootids, Rootnames}
use Rattle.writers.specs.Words.{spaced}

-- a key as its bytes
abbrev pub key_text : Key → List ℕ
key_text Ver = bytes ".ver"
key_text Mode = bytes ".mode"
key_text Varinfo = bytes ".varinfo"
key_text Dd = bytes ".dd"
key_text Nnodes = bytes ".nnodes"
key_text Nvars = bytes ".nvars"
key_text Nsuppvars = bytes ".nsuppvars"
key_text Nroots = bytes ".nroots"
key_text Nodes = bytes ".nodes"
key_text Varnames = bytes ".varnames"
key_text Suppvarnames = bytes ".suppvarnames"
key_text Orderedvarnames = bytes ".orderedvarnames"
key_text Ids = bytes ".ids"
key_text Permids = bytes ".permids"
key_text Auxids = bytes ".auxids"
key_text Rootids = bytes ".rootids"
key_text Rootnames = bytes ".rootnames"

pub record HeaderLine : Type 0 where
  pub key : Key
  pub words : List (List ℕ)

abbrev pub line : Key → List (List ℕ) → HeaderLine
line k ws = record { key = k; words = ws }

-- the bytes of a line, by those of its key
abbrev pub keyed_text : List ℕ → List (List ℕ) → List ℕ
keyed_text key ws = key ++ (spaced ws ++ (bytes "\n"))

abbrev pub line_text : HeaderLine → List ℕ
line_text l = keyed_text (key_text l.key) l.words

unfoldable pub lines_text : List HeaderLine → List ℕ
lines_text [] = []
lines_text (l ∷ ls) = line_text l ++ lines_text ls
