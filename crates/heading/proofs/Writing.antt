-- Parts written one after another.
use mathlib.Core.Path.{◌≡◌, refl, sym, ap, ◌∙◌}
use mathlib.Core.List.{List, [], ◌∷◌, ◌++◌, map, flatten}
use Prim.Native.Nat.{ℕ, ◌+◌, ◌≤◌}
use native.Mathlib.Omega.{arith}
use lib.ListN.{length, length-append}
use lib.Seq.{sets, length-sets}
use Rattle.writers.specs.Words.{spaced}
use Rattle.writers.specs.Written.{Wrote}
use Rattle.writers.proofs.Sets.{sets-append}

-- While parts are written: those that are left, from the position reached on, give all that is to be written; and there is room for it.
pub record Writing (old : List ℕ) (at : ℕ) (all out : List ℕ) (next : ℕ) (parts : List (List ℕ)) : Type 0 where
  pub room : at + length all ≤ length old
  pub long : length out ≡ length old
  pub ends : at + length all ≡ next + length (flatten parts)
  pub left : sets old at all ≡ sets out next (flatten parts)

-- at first all are left
pub writing_start : (old : List ℕ) (at : ℕ) {all : List ℕ} {parts : List (List ℕ)} → all ≡ flatten parts → at + length all ≤ length old
    → Writing old at all old at parts
writing_start old at e h = record { room = h; long = refl; ends = rw e; left = rw e }

module _ {old : List ℕ} {at : ℕ} {all out : List ℕ} {next : ℕ} where
  module _ {u : List ℕ} {us : List (List ℕ)} (w : Writing old at all out next (u ∷ us)) where
    -- there is room for the next part
    pub writing-room : next + length u ≤ length out
    unfolding flatten
    writing-room = omega (arith, w.room, w.long, w.ends, length-append u (flatten us))

    -- once it is written the others are left
    pub writing_more : {end : ℕ} {out' : List ℕ} → Wrote out next u end out' → Writing old at all out' end us
    unfolding flatten
    writing_more p = record {
      room = w.room;
      long = rw p.bytes (length-sets out next u ∙ w.long);
      ends = w.ends ∙ rw p.next (omega (arith, length-append u (flatten us)));
      left = w.left ∙ rw (p.next, p.bytes) (sets-append out next u (flatten us));
    }

  -- once none is left all is written
  pub writing-end : Writing old at all out next [] → Wrote old at all next out
  unfolding flatten
  writing-end w = record { next = omega (arith, w.ends); bytes = sym w.left }

-- words, each with a space before it, as parts
abbrev pub words : List (List ℕ) → List (List ℕ)
words ws = map (λ w. 0x20 ∷ w) ws

words-spaced : (ws : List (List ℕ)) → spaced ws ≡ flatten (words ws)
unfolding spaced flatten
words-spaced [] = refl
words-spaced (w ∷ ws) = ap (λ t. 0x20 ∷ (w ++ t)) (words-spaced ws)

-- at first all words are left
pub words-start : (old : List ℕ) (at : ℕ) (ws : List (List ℕ)) → at + length (spaced ws) ≤ length old → Writing old at (spaced ws) old at (words ws)
words-start old at ws h = writing_start old at (words-spaced ws) h

-- the words that are left, said otherwise
pub words-as : {old : List ℕ} {at : ℕ} {all out : List ℕ} {next : ℕ} {ws vs : List (List ℕ)} → ws ≡ vs → Writing old at all out next (words ws)
    → Writing old at all out next (words vs)
words-as e w = rw e at w
