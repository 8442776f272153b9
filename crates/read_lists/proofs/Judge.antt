-- Lists by words: one turn of a reader that judges one word after the other.
use mathlib.Core.Path.{◌≡◌, refl, ap, ◌∙◌}
use mathlib.Core.List.{List, [], ◌∷◌, ◌++◌}
use Prim.Native.Nat.{ℕ, ◌+◌, ◌≤◌, ◌<◌}
use native.Mathlib.Omega.{arith}
use lib.ListN.{length, set, length-append}
use Rattle.codes.specs.Answer.{Read, value, refused}
use Rattle.read_lines.specs.Words.{Word}
use Rattle.read_lists.specs.Lists.{Listed, listed, judge}
use Rattle.codes.specs.Lent.{laid}
use Rattle.codes.proofs.Lent.{laid_none, laid_more, length-laid}
use Rattle.read_lists.proofs.Another.{another-more, another-full}

module _ {A : Type 0} (read : Word → Read A) (max : ℕ) where
  -- a word more
  module _ (es : List A) (w : Word) (ws : List Word) where
    judge-refused : {n : ℕ} → read w ≡ refused n → judge read max es (w ∷ ws) ≡ listed (refused n) es
    unfolding judge
    judge-refused e = rw e

    judge-full : {a : A} → read w ≡ value a → max ≤ length es → judge read max es (w ∷ ws) ≡ listed (refused 19) es
    unfolding judge
    judge-full {a} e h = rw e (another-full max es a (λ fs. judge read max fs ws) (listed (refused 19)) h)

    judge-more : {a : A} → read w ≡ value a → length es < max → judge read max es (w ∷ ws) ≡ judge read max (es ++ (a ∷ [])) ws
    unfolding judge
    judge-more {a} e h = rw e (another-more max es a (λ fs. judge read max fs ws) (listed (refused 19)) h)

  -- all words of the list
  module _ (all : List Word) where
    -- the whole list's answer
    abbrev pub answer : Listed A
    answer = judge read max [] all

    -- after the n entries es: the words that are left decide
    pub record Held (n : ℕ) (es : List A) (ws : List Word) : Type 0 where
      pub count : n ≡ length es
      pub rest : answer ≡ judge read max es ws

    pub held_start : Held 0 [] all
    held_start = record { count = refl; rest = refl }

    module _ {n : ℕ} {es : List A} {ws : List Word} (held : Held n es ws) where
      pub held-end : ws ≡ [] → answer ≡ listed (value n) es
      unfolding judge
      held-end e = held.rest ∙ rw (e, held.count)

      -- a word
      module _ {w : Word} {left : List Word} (e : ws ≡ w ∷ left) where
        turned : answer ≡ judge read max es (w ∷ left)
        turned = held.rest ∙ ap (judge read max es) e

        pub held-refused : {k : ℕ} → read w ≡ refused k → answer ≡ listed (refused k) es
        held-refused r = turned ∙ judge-refused es _ _ r

        pub held-full : {a : A} → read w ≡ value a → max ≤ n → answer ≡ listed (refused 19) es
        held-full r f = turned ∙ judge-full es _ _ r (omega (arith, held.count))

        pub held_more : {a : A} → read w ≡ value a → n < max → Held (n + 1) (es ++ (a ∷ [])) left
        held_more r f =
            record {
              count = simp length-append (omega (arith, held.count));
              rest = turned ∙ judge-more es _ _ r (omega (arith, held.count));
            }

-- A list as it is read into a lent one: the entries so far lie over what that held.
module _ {A : Type 0} (read : Word → Read A) (max : ℕ) (all : List Word) (old : List A) where
  pub record Laying (dst : List A) (n : ℕ) (ws : List Word) : Type 0 where
    pub entries : List A
    pub held : Held read max all n entries ws
    pub lies : dst ≡ laid entries old

  pub laying-start : Laying old 0 all
  laying-start = record { entries = []; held = held_start read max all; lies = laid_none old }

  module _ {dst : List A} {n : ℕ} {ws : List Word} (u : Laying dst n ws) where
    pub laying-length : length dst ≡ length old
    laying-length = ap length u.lies ∙ length-laid u.entries old

    -- an answer that ends the list, with the entries so far
    answered : {r : Read ℕ} → answer read max all ≡ listed r u.entries
        → (r ≡ (answer read max all).answer) × (dst ≡ laid (answer read max all).entries old)
    answered e = (rw e, u.lies ∙ rw e)

    pub laying-end : ws ≡ [] → (value n ≡ (answer read max all).answer) × (dst ≡ laid (answer read max all).entries old)
    laying-end h = answered (held-end read max all u.held h)

    -- a word
    module _ {w : Word} {left : List Word} (e : ws ≡ w ∷ left) where
      pub laying_refused : {k : ℕ} → read w ≡ refused k → (refused k ≡ (answer read max all).answer) × (dst ≡ laid (answer read max all).entries old)
      laying_refused r = answered (held-refused read max all u.held e r)

      pub laying-full : {a : A} → read w ≡ value a → max ≤ n → (refused 19 ≡ (answer read max all).answer) × (dst ≡ laid (answer read max all).entries old)
      laying-full r f = answered (held-full read max all u.held e r f)

      pub laying-more : {a : A} → read w ≡ value a → n < max → Laying (set dst n a) (n + 1) left
      laying-more {a} r f =
          record {
            entries = u.entries ++ (a ∷ []);
            held = held_more read max all u.held e r f;
            lies = rw (u.lies, u.held.count) (laid_more u.entries old a);
          }
