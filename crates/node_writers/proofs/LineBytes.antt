-- The bytes of a line, part by part.
use mathlib.Core.Path.{◌≡◌, refl}
use mathlib.Core.Bool.{Bool}
use mathlib.Core.List.{List, [], ◌∷◌, ◌++◌, append-nil, append_assoc}
use Prim.Native.Nat.{ℕ, ◌+◌, ◌-◌}
use lib.ListN.{length, length-append}
use lib.IntN.{ℤ, nat_abs}
use Rattle.codes.specs.declared.Code.{Code}
use Rattle.edges.specs.Edge.{minus}
use Rattle.node_lines.specs.Line.{terminal, inner}
use Rattle.writers.specs.Decimal.{decimal, edge_text}
use Rattle.writers.specs.Words.{spaced}
use Rattle.writers.specs.Binary.{escaped}
use Rattle.writers.specs.Written.{Wrote}
use Rattle.node_writers.specs.Encoded.{text_bytes, code_byte, number_for, child_code, variable_code, inner_bytes}
use Rattle.node_writers.proofs.Parts.{joined, total, length-joined, Writes, wrote-all}

-- A terminal's line of text: its number and ' T 0 0\n'.
abbrev pub no_children : List ℕ
no_children = 0x20 ∷ 0x54 ∷ 0x20 ∷ 0x30 ∷ 0x20 ∷ 0x30 ∷ 0x0a ∷ []

pub text-terminal : (n : ℕ) → text_bytes n terminal ≡ decimal n ++ no_children
unfolding text_bytes spaced
text-terminal n = refl

pub length-terminal : (n : ℕ) → length (text_bytes n terminal) ≡ length (decimal n) + 7
length-terminal n = rw (text-terminal n) (length-append (decimal n) no_children)

-- A line of text of a support position and two children.
module _ (n p : ℕ) (t e : ℤ) where
  abbrev pub text_parts : List (List ℕ)
  text_parts = decimal n ∷ (0x20 ∷ decimal p) ∷ (0x20 ∷ edge_text t) ∷ (0x20 ∷ edge_text e) ∷ (0x0a ∷ []) ∷ []

  text-inner : text_bytes n (inner p t e) ≡ joined text_parts
  unfolding text_bytes spaced
  text-inner = simp (append_assoc, append-nil)

  pub length-text : length (text_bytes n (inner p t e)) ≡ total text_parts
  length-text = rw text-inner (length-joined text_parts)

  pub wrote-text : {l out : List ℕ} {at end : ℕ} → Writes l at text_parts end out → Wrote l at (text_bytes n (inner p t e)) end out
  wrote-text ws = rw text-inner (wrote-all text_parts ws)

-- A binary line of a support position and two children, by the numbers and codes that were found for them.
module _ (n p seat then els : ℕ) (variable then_by else_by : Code) (code : ℕ) where
  abbrev pub inner_parts : List (List ℕ)
  inner_parts = escaped code ∷ number_for variable p (seat - 1 - p) ∷ number_for then_by then (n - then) ∷ number_for else_by els (n - els) ∷ []

  pub bytes-inner : (t e : ℤ) (complement : Bool) → then ≡ nat_abs t → els ≡ nat_abs e → variable ≡ variable_code p seat → then_by ≡ child_code n then
      → else_by ≡ child_code n els → complement ≡ minus e → code ≡ code_byte variable then_by complement else_by
      → inner_bytes n p t e seat ≡ joined inner_parts
  unfolding inner_bytes
  bytes-inner t e complement then_is else_is variable-is then_by else-by sign code_is =
      rw (code_is, sign, else-by, then_by, variable-is, else_is, then_is) (simp append-nil)
