-- What a fit name is, for those who write it: its length, and the bytes that it hasn't.
use mathlib.Core.Path.{◌≡◌, refl, ap}
use mathlib.Core.Bool.{Bool, true, false, not, ◌&&◌, ◌||◌}
use mathlib.Core.List.{List, [], ◌∷◌}
use Prim.Native.Nat.{ℕ, ◌≤◌}
use native.Mathlib.Omega.{arith}
use lib.ListN.{length}
use lib.Dec.{ltb, leb, eqb}
use borrow.Author.Tests.{ltb-false, leb-true, ne_eqb, not-true}
use Rattle.codes.specs.Bytes.{is_blank, is_control, is_line_end}
use Rattle.codes.proofs.Bytes.{both}
use Rattle.read_lines.specs.Each.{Each, none, each}
use Rattle.read_lines.specs.Spaced.{Text}
use Rattle.read_text.specs.Text.{is_utf8}
use Rattle.export_names.specs.Names.{fit_byte, fit_bytes, fit_name}

-- neither part of a disjunction that fails holds
neither : (a b : Bool) → (a || b) ≡ false → (a ≡ false) × (b ≡ false)
neither false b h = (refl, h)
neither true b h = absurd (let z : ◌≡◌ {A = ℕ} 0 1 = cc in omega arith)

-- a fit byte is no control byte
byte-control : (d : Bool) (b : ℕ) → fit_byte d b ≡ true → is_control b ≡ false
byte-control d b h = not-true (is_control b) (both (not (is_control b)) (d || not (eqb b 0x20)) h).0

-- a line ends at control bytes alone
byte-line : (b : ℕ) → is_control b ≡ false → is_line_end b ≡ false
unfolding is_control is_line_end
byte-line b h =
    let l = ltb-false b 0x20 (neither (ltb b 0x20) (eqb b 0x7f) h).0 in
    rw (ne_eqb b 10 (λ e. omega arith), ne_eqb b 13 (λ e. omega arith))

-- a fit byte, other than in the diagram's name, is no blank
byte-blank : (b : ℕ) → fit_byte false b ≡ true → is_blank b ≡ false
unfolding is_control is_blank
byte-blank b h =
    let p = both (not (is_control b)) (not (eqb b 0x20)) h in
    let l = ltb-false b 0x20 (neither (ltb b 0x20) (eqb b 0x7f) (byte-control false b h)).0 in
    rw (not-true (eqb b 0x20) p.1, ne_eqb b 9 (λ e. omega arith))

-- what follows of each fit byte holds of each byte of a name
each-byte : {P : ℕ → Type 0} (d : Bool) → ((b : ℕ) → fit_byte d b ≡ true → P b) → (s : List ℕ) → fit_bytes d s ≡ true → Each P s
unfolding fit_bytes
each-byte d f [] h = none
each-byte d f (b ∷ s) h = let p = both (fit_byte d b) (fit_bytes d s) h in each (f b p.0) (each-byte d f s p.1)

module _ (d : Bool) (name : List ℕ) (h : fit_name d name ≡ true) where
  -- the four tests of a name
  record Fit : Type 0 where
    some : (d || leb 1 (length name)) ≡ true
    most : leb (length name) 255 ≡ true
    utf8 : is_utf8 name ≡ true
    bytes : fit_bytes d name ≡ true

  fit : Fit
  unfolding fit_name
  fit =
      let p = both ((d || leb 1 (length name)) && leb (length name) 255 && is_utf8 name) (fit_bytes d name) h in
      let q = both ((d || leb 1 (length name)) && leb (length name) 255) (is_utf8 name) p.0 in
      let r = both (d || leb 1 (length name)) (leb (length name) 255) q.0 in
      record { some = r.0; most = r.1; utf8 = q.1; bytes = p.1 }

  -- it has at most 255 bytes
  pub fit-most : length name ≤ 255
  fit-most = leb-true (length name) 255 fit.most

  -- it is UTF-8
  pub fit-utf8 : is_utf8 name ≡ true
  fit-utf8 = fit.utf8

  -- it has no control byte
  pub fit-controls : Each (λ b. is_control b ≡ false) name
  fit-controls = each-byte d (byte-control d) name fit.bytes

  -- so it ends no line
  pub fit_line : Each (λ b. is_line_end b ≡ false) name
  fit_line = each-byte d (λ b e. byte-line b (byte-control d b e)) name fit.bytes

module _ (name : List ℕ) (h : fit_name false name ≡ true) where
  -- a name other than the diagram's isn't empty
  pub fit-some : 1 ≤ length name
  fit-some = leb-true 1 (length name) (fit false name h).some

  -- it has no space
  pub fit-spaces : Each (λ b. eqb b 0x20 ≡ false) name
  fit-spaces =
      each-byte false (λ b e. not-true (eqb b 0x20) (both (not (is_control b)) (not (eqb b 0x20)) e).1) name (fit false name h).bytes

  -- it is a word: at least one byte, and no blank
  pub fit-text : Text name
  fit-text =
      record { some = λ e. omega (arith, fit-some, ap length e); free = each-byte false byte-blank name (fit false name h).bytes }
