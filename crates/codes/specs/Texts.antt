-- Texts in definitions: the bytes of what stands between quotes, in ASCII.
use Rattle.std.specs.Prelude.{ℕ, zero, suc, ◌+◌, List, [], ◌∷◌}
use Prim.Native.Char.{code}
use Prim.Native.String.{String, len, char_at}

abbrev pub bytes_from : ℕ → ℕ → String → List ℕ
bytes_from zero i s = []
bytes_from (suc n) i s = code (char_at s i) ∷ bytes_from n (i + 1) s

abbrev pub bytes : String → List ℕ
bytes s = bytes_from (len s) 0 s
