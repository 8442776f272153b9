-- One step of reading UTF-8, by the byte's range: the rows of the Unicode Standard's table 3-7, and the bytes that no row
-- has.
use mathlib.Core.Path.{◌≡◌, refl}
use mathlib.Core.Bool.{false}
use mathlib.Core.List.{List}
use Prim.Native.Nat.{ℕ, ◌≤◌, ◌<◌}
use native.Mathlib.Omega.{arith}
use lib.ListN.{drop}
use borrow.Author.Tests.{lt-ltb, le-ltb, le-leb, lt-leb, ne_eqb}
use Rattle.codes.specs.Machine.{go, stop, run}
use Rattle.read_text.specs.declared.Utf8.TheVariants.{Whole, Tail}
use Rattle.read_text.specs.Text.{tail, utf8_next, utf8_end, is_utf8}

module _ (x : ℕ) where
  pub lead-one : x < 0x80 → utf8_next Whole x ≡ go Whole
  unfolding utf8_next
  lead-one h = simp (lt-ltb x 0x80 h)

  pub lead-lone : 0x80 ≤ x → x < 0xc2 → utf8_next Whole x ≡ stop false
  unfolding utf8_next
  lead-lone a h = simp (le-ltb x 0x80 a, lt-ltb x 0xc2 h)

  pub lead-two : 0xc2 ≤ x → x < 0xe0 → utf8_next Whole x ≡ go (Tail 0 0x80 0xbf)
  unfolding utf8_next
  lead-two a h = simp (le-ltb x 0x80 (omega arith), le-ltb x 0xc2 a, lt-ltb x 0xe0 h)

  pub lead-e0 : x ≡ 0xe0 → utf8_next Whole x ≡ go (Tail 1 0xa0 0xbf)
  unfolding utf8_next
  lead-e0 h = rw h

  pub lead-ed : x ≡ 0xed → utf8_next Whole x ≡ go (Tail 1 0x80 0x9f)
  unfolding utf8_next
  lead-ed h = rw h

  pub lead-three : 0xe0 ≤ x → (x ≡ 0xe0 → ⊥) → (x ≡ 0xed → ⊥) → x < 0xf0 → utf8_next Whole x ≡ go (Tail 1 0x80 0xbf)
  unfolding utf8_next
  lead-three a b c h =
      simp (le-ltb x 0x80 (omega arith), le-ltb x 0xc2 (omega arith), le-ltb x 0xe0 a, ne_eqb x 0xe0 b, ne_eqb x 0xed c, lt-ltb x 0xf0 h)

  pub lead-f0 : x ≡ 0xf0 → utf8_next Whole x ≡ go (Tail 2 0x90 0xbf)
  unfolding utf8_next
  lead-f0 h = rw h

  pub lead-four : 0xf0 < x → x < 0xf4 → utf8_next Whole x ≡ go (Tail 2 0x80 0xbf)
  unfolding utf8_next
  lead-four a h =
      simp
      (le-ltb x 0x80 (omega arith), le-ltb x 0xc2 (omega arith), le-ltb x 0xe0 (omega arith), ne_eqb x 0xe0 (λ e. omega arith), ne_eqb x 0xed (λ e. omega arith), le-ltb x 0xf0 (omega arith), ne_eqb x 0xf0 (λ e. omega arith), lt-ltb x 0xf4 h)

  pub lead-f4 : x ≡ 0xf4 → utf8_next Whole x ≡ go (Tail 2 0x80 0x8f)
  unfolding utf8_next
  lead-f4 h = rw h

  pub lead_high : 0xf4 < x → utf8_next Whole x ≡ stop false
  unfolding utf8_next
  lead_high a =
      simp
      (le-ltb x 0x80 (omega arith), le-ltb x 0xc2 (omega arith), le-ltb x 0xe0 (omega arith), ne_eqb x 0xe0 (λ e. omega arith), ne_eqb x 0xed (λ e. omega arith), le-ltb x 0xf0 (omega arith), ne_eqb x 0xf0 (λ e. omega arith), le-ltb x 0xf4 (omega arith), ne_eqb x 0xf4 (λ e. omega arith))

module _ (n lo hi x : ℕ) where
  pub tail-low : x < lo → utf8_next (Tail n lo hi) x ≡ stop false
  unfolding utf8_next
  tail-low h = simp (lt-leb lo x h)

  pub tail-high : lo ≤ x → hi < x → utf8_next (Tail n lo hi) x ≡ stop false
  unfolding utf8_next
  tail-high a h = simp (le-leb lo x a, lt-leb x hi h)

  pub tail-in : lo ≤ x → x ≤ hi → utf8_next (Tail n lo hi) x ≡ go (tail n)
  unfolding utf8_next
  tail-in a h = simp (le-leb lo x a, le-leb x hi h)

pub utf8-starts : (s : List ℕ) → is_utf8 s ≡ run utf8_next utf8_end Whole (drop 0 s)
unfolding is_utf8
utf8-starts s = refl
