-- A list of names as it is read: its places lie over two lent lists.
use mathlib.Core.Path.{◌≡◌, sym, ap, ◌∙◌}
use mathlib.Core.List.{List, [], ◌∷◌, ◌++◌, map, map-append}
use Prim.Native.Nat.{ℕ, ◌+◌, ◌≤◌, ◌<◌}
use lib.ListN.{length, set, length-map}
use mathlib.Core.Bool.{true, false}
use Rattle.codes.specs.Answer.{Read, value, refused}
use Rattle.read_lines.specs.Each.{Each, each}
use Rattle.read_lines.specs.Words.{Word, word, words}
use Rattle.read_lines.proofs.Spaced.{words-inside}
use Rattle.read_lists.specs.Lists.{listed}
use Rattle.read_text.specs.Text.{is_utf8, Place, place, start_of, len_of, name_of, name_list}
use Rattle.codes.specs.Lent.{laid}
use Rattle.codes.proofs.Lent.{laid_none, laid_more, length-laid}
use Rattle.read_lists.proofs.Judge.{Held, answer, held_start, held-end, held-refused, held-full, held_more}

-- A list of names as it is read into two lent lists: the places so far lie over what they held, and each word that is left ends inside
-- the line.
pub record Names (max base : ℕ) (s olds oldl starts lens : List ℕ) (n : ℕ) (ws : List Word) : Type 0 where
  pub entries : List Place
  pub held : Held name_of max (words base s) n entries ws
  pub inside : Each (λ w. w.start + length w.bytes ≤ base + length s) ws
  pub starts_lie : starts ≡ laid (map start_of entries) olds
  pub lens_lie : lens ≡ laid (map len_of entries) oldl

pub names-start : (max base : ℕ) (s olds oldl : List ℕ) → Names max base s olds oldl olds oldl 0 (words base s)
names-start max base s olds oldl =
    record {
      entries = [];
      held = held_start name_of max (words base s);
      inside = words-inside base s;
      starts_lie = laid_none olds;
      lens_lie = laid_none oldl;
    }

-- one entry more in a lent list that holds a part of each entry
laid-part : {A B : Type 0} (part : A → B) (es : List A) (a : A) (old : List B) → set (laid (map part es) old) (length es) (part a) ≡ laid (map part (es ++ (a ∷ []))) old
laid-part part es a old =
    ap (λ i. set (laid (map part es) old) i (part a)) (sym (length-map es part))
    ∙ laid_more (map part es) old (part a)
    ∙ ap (λ l. laid l old) (sym (map-append part es (a ∷ [])))

-- a name is UTF-8
module _ (at : ℕ) (w : List ℕ) where
  pub name-good : is_utf8 w ≡ true → name_of (word at w) ≡ value (place at (length w))
  name-good h = rw h

  pub name-bad : is_utf8 w ≡ false → name_of (word at w) ≡ refused 18
  name-bad h = rw h

module _ {max base : ℕ} {s olds oldl starts lens : List ℕ} {n : ℕ} {ws : List Word} (u : Names max base s olds oldl starts lens n ws) where
  pub starts-length : length starts ≡ length olds
  starts-length = ap length u.starts_lie ∙ length-laid (map start_of u.entries) olds

  pub lens-length : length lens ≡ length oldl
  lens-length = ap length u.lens_lie ∙ length-laid (map len_of u.entries) oldl

  -- what an answer that ends the list owes, with the entries so far
  abbrev pub Answered : Read ℕ → Type 0
  Answered r =
      (r ≡ (name_list max base s).answer)
      × ((starts ≡ laid (map start_of (name_list max base s).entries) olds) × (lens ≡ laid (map len_of (name_list max base s).entries) oldl))

  answered : {r : Read ℕ} → answer name_of max (words base s) ≡ listed r u.entries → Answered r
  unfolding name_list
  answered e = (rw e, (u.starts_lie ∙ rw e, u.lens_lie ∙ rw e))

  pub names-end : ws ≡ [] → Answered (value n)
  names-end e = answered (held-end name_of max (words base s) u.held e)

  -- a word
  module _ {w : Word} {left : List Word} (e : ws ≡ w ∷ left) where
    both : Each (λ v. v.start + length v.bytes ≤ base + length s) (w ∷ left)
        → (w.start + length w.bytes ≤ base + length s) × Each (λ v. v.start + length v.bytes ≤ base + length s) left
    both (each h k) = (h, k)

    pub word_inside : w.start + length w.bytes ≤ base + length s
    word_inside = (both (rw e at u.inside)).0

    pub names-bad : is_utf8 w.bytes ≡ false → Answered (refused 18)
    names-bad bad = answered (held-refused name_of max (words base s) u.held e (name-bad w.start w.bytes bad))

    pub names-full : is_utf8 w.bytes ≡ true → max ≤ n → Answered (refused 19)
    names-full good f = answered (held-full name_of max (words base s) u.held e (name-good w.start w.bytes good) f)

    pub names_more : is_utf8 w.bytes ≡ true → n < max → Names max base s olds oldl (set starts n w.start) (set lens n (length w.bytes)) (n + 1) left
    names_more good f =
        record {
          entries = u.entries ++ (place w.start (length w.bytes) ∷ []);
          held = held_more name_of max (words base s) u.held e (name-good w.start w.bytes good) f;
          inside = (both (rw e at u.inside)).1;
          starts_lie = rw (u.starts_lie, u.held.count) (laid-part start_of u.entries (place w.start (length w.bytes)) olds);
          lens_lie = rw (u.lens_lie, u.held.count) (laid-part len_of u.entries (place w.start (length w.bytes)) oldl);
        }
