-- The codes of a written binary line, and the numbers after them: each is read back as what it stands for.
use mathlib.Core.Path.{◌≡◌, refl, ap, ◌∙◌}
use mathlib.Core.Bool.{Bool, true, false, cond}
use mathlib.Core.List.{List}
use Prim.Native.Nat.{ℕ, zero, suc, ◌+◌, ◌-◌, ◌/◌, ◌%◌, ◌^◌, ◌≤◌, ◌<◌}
use native.Mathlib.Omega.{arith}
use lib.Dec.{eqb, ltb}
use borrow.Author.Tests.{eqb-true, le-ltb, eq-eqb, ne_eqb}
use Rattle.codes.specs.Answer.{got}
use Rattle.codes.specs.Codes.{code_of}
use Rattle.codes.specs.declared.Code.{Code}
use Rattle.codes.specs.declared.Code.TheVariants.{Terminal, AbsoluteID, RelativeID, Relative1}
use Rattle.line_numbers.specs.Numbers.{below, id_at, child_at, variable_at}
use Rattle.import_bin.specs.Bin.{counts_from, counted_down, position_by, inner_at, by_code}
use Rattle.line_numbers.proofs.Children.{below-fits}
use Rattle.writers.proofs.SevenBit.{seven-bit-reads}
use Rattle.node_writers.specs.Encoded.{code_bits, code_byte, number_for, child_code, smaller, variable_code}
use Rattle.reading_nodes.proofs.Standing.{Reads}

-- a code is two bits
code-small : (c : Code) → code_bits c < 4
code-small Terminal = omega arith
code-small AbsoluteID = omega arith
code-small RelativeID = omega arith
code-small Relative1 = omega arith

-- two bits are a code
code-bits : (c : Code) (m : ℕ) → m % 4 ≡ code_bits c → code_of m ≡ c
unfolding code_of
code-bits Terminal m e = rw e
code-bits AbsoluteID m e = rw e
code-bits RelativeID m e = rw e
code-bits Relative1 m e = rw e

-- Each part of a code byte is read back.
module _ (v t e : Code) where
  small : (code_bits v < 4) × (code_bits t < 4) × (code_bits e < 4)
  small = (code-small v, code-small t, code-small e)

  pub byte-variable : (b : Bool) → code_of (code_byte v t b e / 32) ≡ v
  byte-variable true = code-bits v _ (omega (arith, small))
  byte-variable false = code-bits v _ (omega (arith, small))

  pub byte-then : (b : Bool) → code_of (code_byte v t b e / 8) ≡ t
  byte-then true = code-bits t _ (omega (arith, small))
  byte-then false = code-bits t _ (omega (arith, small))

  pub byte-complement : (b : Bool) → eqb (code_byte v t b e / 4 % 2) 1 ≡ b
  byte-complement true = eq-eqb (code_byte v t true e / 4 % 2) 1 (omega (arith, small))
  byte-complement false = ne_eqb (code_byte v t false e / 4 % 2) 1 (λ z. omega (arith, small))

  pub byte-else : (b : Bool) → code_of (code_byte v t b e) ≡ e
  byte-else true = code-bits e _ (omega (arith, small))
  byte-else false = code-bits e _ (omega (arith, small))

-- How a child c of line n is written: by the terminal's code, as the line before, as a distance, or by its number.
data ChildWritten (n c : ℕ) : Code → Type 0 where
  the_terminal : c ≡ 1 → ChildWritten n c Terminal
  one_before : c + 1 ≡ n → ChildWritten n c Relative1
  some_before : ChildWritten n c RelativeID
  numbered : ChildWritten n c AbsoluteID

-- each is written in one of these ways
child-written : (n c : ℕ) → ChildWritten n c (child_code n c)
unfolding child_code
child-written n c = go (eqb c 1) refl (eqb (c + 1) n) refl (ltb (n - c) c)
  where
    go : (x : Bool) → eqb c 1 ≡ x → (y : Bool) → eqb (c + 1) n ≡ y → (z : Bool)
        → ChildWritten n c (cond x Terminal (cond y Relative1 (cond z RelativeID AbsoluteID)))
    go true p y q z = the_terminal (eqb-true c 1 p)
    go false p true q z = one_before (eqb-true (c + 1) n q)
    go false p false q true = some_before
    go false p false q false = numbered

-- What is written after its code is read as the child.
pub child-reads : (f : List ℕ) (n c : ℕ) → 1 ≤ c → c < n → n < 2 ^ 64
    → Reads f (child_at (child_code n c) n f) (number_for (child_code n c) c (n - c)) c
unfolding child_at id_at
child-reads f n c some low small = of (child-written n c)
  where
    named : (next : ℕ) → below n c next ≡ got c next
    named next = below-fits n c next (λ z. omega arith) low

    apart : (d next : ℕ) → d + c ≡ n → below n (n - d) next ≡ got c next
    apart d next h = let k : n - d ≡ c = omega arith in rw k (named next)

    no_number : (at : ℕ) → at ≡ at + 0
    no_number at = omega arith

    of : {k : Code} → ChildWritten n c k → Reads f (child_at k n f) (number_for k c (n - c)) c
    of (the_terminal z) = record { back = λ at r e. below-fits n 1 at (λ y. omega arith) (omega arith) ∙ cc (no_number at) }
    of (one_before z) = record { back = λ at r e. apart 1 at (omega arith) ∙ ap (got c) (no_number at) }
    of some_before = record { back = λ at r e. rw (seven-bit-reads f at (n - c) r (omega arith) e) (apart (n - c) _ (omega arith)) }
    of numbered = record { back = λ at r e. rw (seven-bit-reads f at c r (omega arith) e) (named _) }

-- the number that is read for a variable, by its code
abbrev pub number_read : Code → ℕ → ℕ → ℕ
number_read Terminal absolute distance = 0
number_read AbsoluteID absolute distance = absolute
number_read RelativeID absolute distance = distance
number_read Relative1 absolute distance = 1

-- What is written after the code byte is read as that number.
pub variable-reads : (f : List ℕ) (code : Code) (p d : ℕ) → p < 2 ^ 64 → d < 2 ^ 64
    → Reads f (variable_at code f) (number_for code p d) (number_read code p d)
unfolding variable_at
variable-reads f Terminal p d h k = record { back = λ at r e. ap (got 0) (omega arith) }
variable-reads f AbsoluteID p d h k = record { back = λ at r e. seven-bit-reads f at p r h e }
variable-reads f RelativeID p d h k = record { back = λ at r e. seven-bit-reads f at d r k e }
variable-reads f Relative1 p d h k = record { back = λ at r e. ap (got 1) (omega arith) }

-- What a relative variable counts down from is the smaller position of the children, if one has a position.
pub counts-smaller : (count a b q : ℕ) → smaller a b ≡ suc q → counts_from count a b ≡ q
counts-smaller count zero zero q e = absurd (omega arith)
counts-smaller count zero (suc b) q e = omega arith
counts-smaller count (suc a) zero q e = omega arith
counts-smaller count (suc a) (suc b) q e = go (ltb a b) e
  where
    go : (x : Bool) → cond x (suc a) (suc b) ≡ suc q → cond x a b ≡ q
    go true k = omega arith
    go false k = omega arith

-- The seat of a terminal, or of a line at a position between two others.
abbrev pub Between : ℕ → ℕ → ℕ → Type 0
Between p m seat = (q : ℕ) → seat ≡ suc q → (p < q) × (q < m)

-- from it one counts down by less than the later of them
pub between-small : (p m seat : ℕ) → p < m → Between p m seat → seat - 1 - p < m
between-small p m zero l h = omega arith
between-small p m (suc q) l h = omega (arith, h q refl)

-- the smaller of two is one of them
pub smaller-between : (p m a b : ℕ) → Between p m a → Between p m b → Between p m (smaller a b)
smaller-between p m zero b h k = k
smaller-between p m (suc a) zero h k = h
smaller-between p m (suc a) (suc b) h k = go (ltb a b)
  where
    go : (x : Bool) → Between p m (cond x (suc a) (suc b))
    go true = h
    go false = k

-- How a variable at position p is written, by the seat that it may count down from: by its position, as one before, or as a distance.
data VariableWritten (p : ℕ) : ℕ → Code → Type 0 where
  position : {seat : ℕ} → VariableWritten p seat AbsoluteID
  one_above : {q : ℕ} → p + 1 ≡ q → VariableWritten p (suc q) Relative1
  some_above : {q : ℕ} → VariableWritten p (suc q) RelativeID

-- each is written in one of these ways
variable-written : (p seat : ℕ) → VariableWritten p seat (variable_code p seat)
unfolding variable_code
variable-written p zero = position
variable-written p (suc q) = go (eqb (p + 1) q) refl (ltb (q - p) p)
  where
    go : (x : Bool) → eqb (p + 1) q ≡ x → (y : Bool) → VariableWritten p (suc q) (cond x Relative1 (cond y RelativeID AbsoluteID))
    go true e y = one_above (eqb-true (p + 1) q e)
    go false e true = some_above
    go false e false = position

-- Its code is no terminal line's.
pub variable-inner : (p seat count : ℕ) (levels seats : List ℕ) (n : ℕ) (f : List ℕ) (b at : ℕ)
    → by_code count levels seats n f b (variable_code p seat) at ≡ inner_at count levels seats n f b (variable_code p seat) at
variable-inner p seat count levels seats n f b at = of (variable-written p seat)
  where
    of : {s : ℕ} {k : Code} → VariableWritten p s k → by_code count levels seats n f b k at ≡ inner_at count levels seats n f b k at
    of position = refl
    of (one_above z) = refl
    of some_above = refl

-- counting down from a position
down-back : (from v p : ℕ) → v + p ≡ from → counted_down from v ≡ got p 0
down-back from v p e = rw (le-ltb from v (omega arith)) (ap (λ (m : ℕ). got m 0) (omega arith))

-- Its code and the number read lead to its position.
pub variable-leads : (p m seat from : ℕ) → Between p m seat → ((q : ℕ) → seat ≡ suc q → from ≡ q)
    → position_by (variable_code p seat) from (number_read (variable_code p seat) p (seat - 1 - p)) ≡ got p 0
variable-leads p m seat from = of (variable-written p seat)
  where
    of : {s : ℕ} {k : Code} → VariableWritten p s k → Between p m s → ((q : ℕ) → s ≡ suc q → from ≡ q)
        → position_by k from (number_read k p (s - 1 - p)) ≡ got p 0
    of position u h = refl
    of (one_above {q = q} z) u h = down-back from 1 p (omega (arith, h q refl))
    of (some_above {q = q}) u h = down-back from (suc q - 1 - p) p (omega (arith, h q refl, u q refl))
