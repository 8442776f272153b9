-- Numbers that join a list one after another, those that stand there already passed over: of equal numbers the first stays.
use mathlib.Core.Path.{◌≡◌, refl, sym, ap, ◌∙◌}
use mathlib.Core.Bool.{Bool, true, false, cond, ◌||◌, or-false, or-true, or_assoc}
use mathlib.Core.List.{List, [], ◌∷◌, ◌++◌, append-nil, append_assoc}
use Prim.Native.Nat.{ℕ}
use borrow.Author.Tests.{eqb-true}
use lib.Dec.{eqb}
use Rattle.seats.specs.Seats.{seat_of}
use Rattle.seats.specs.Ordered.{distinct}
use Rattle.store.specs.Firsts.{without, first_ones}
use Rattle.reached.specs.Meet.{is_in}
use Rattle.reached.proofs.Entries.{in-here, in_rest, in-cons}
use Rattle.reached.proofs.Members.{in-none, in-more, once_more}

-- a number joins a list at its end, where it doesn't stand there
abbrev pub joined : List ℕ → ℕ → List ℕ
joined met n = cond (is_in n met) met (met ++ (n ∷ []))

-- so do those of another list, one after another
unfoldable pub joining : List ℕ → List ℕ → List ℕ
joining met [] = met
joining met (n ∷ l) = joining (joined met n) l

-- the numbers of a list that don't stand in another
unfoldable outside : List ℕ → List ℕ → List ℕ
outside met [] = []
outside met (x ∷ l) = cond (is_in x met) (outside met l) (x ∷ outside met l)

-- none stands in the empty list
outside-none : (l : List ℕ) → outside [] l ≡ l
unfolding outside seat_of
outside-none [] = refl
outside-none (x ∷ l) = ap (λ t. x ∷ t) (outside-none l)

-- one number more goes
outside-more : (met : List ℕ) (n : ℕ) (l : List ℕ) → outside (met ++ (n ∷ [])) l ≡ outside met (without n l)
unfolding outside without
outside-more met n [] = refl
outside-more met n (x ∷ l) = rw (in-more x n met) (go (eqb x n) (outside-more met n l))
  where
    go : (b : Bool) → outside (met ++ (n ∷ [])) l ≡ outside met (without n l)
        → cond (is_in x met || b) (outside (met ++ (n ∷ [])) l) (x ∷ outside (met ++ (n ∷ [])) l)
        ≡ outside met (cond b (without n l) (x ∷ without n l))
    go true ih = rw (or-true (is_in x met)) ih
    go false ih = rw (or-false (is_in x met), ih)

-- a number that stands there goes anyway
outside-old : (met : List ℕ) (n : ℕ) (l : List ℕ) → is_in n met ≡ true → outside met (without n l) ≡ outside met l
unfolding outside without
outside-old met n [] h = refl
outside-old met n (x ∷ l) h = go (eqb x n) refl (outside-old met n l h)
  where
    go : (b : Bool) → eqb x n ≡ b → outside met (without n l) ≡ outside met l
        → outside met (cond b (without n l) (x ∷ without n l)) ≡ cond (is_in x met) (outside met l) (x ∷ outside met l)
    go true e ih = let q : is_in x met ≡ true = rw (eqb-true x n e) h in rw (q, ih)
    go false e ih = rw ih

-- what joins a list are the first ones that don't stand there
joining-outside : (met l : List ℕ) → joining met l ≡ met ++ outside met (first_ones l)
unfolding joining first_ones outside
joining-outside met [] = sym (append-nil met)
joining-outside met (n ∷ l) = go (is_in n met) refl (λ m. joining-outside m l)
  where
    go : (b : Bool) → is_in n met ≡ b → ((m : List ℕ) → joining m l ≡ m ++ outside m (first_ones l))
        → joining (cond b met (met ++ (n ∷ []))) l ≡ met ++ cond b (outside met (without n (first_ones l))) (n ∷ outside met (without n (first_ones l)))
    go true e ih = ih met ∙ ap (λ t. met ++ t) (sym (outside-old met n (first_ones l) e))
    go false e ih =
        ih (met ++ (n ∷ [])) ∙ rw (outside-more met n (first_ones l)) (append_assoc met (n ∷ []) (outside met (without n (first_ones l))))

-- So what joins the empty list is a list without what stands in it twice, each number at its first place.
pub joining-firsts : (l : List ℕ) → joining [] l ≡ first_ones l
joining-firsts l = joining-outside [] l ∙ outside-none (first_ones l)

-- two lists join one after the other
pub joining-append : (met a b : List ℕ) → joining met (a ++ b) ≡ joining (joining met a) b
unfolding joining
joining-append met [] b = refl
joining-append met (n ∷ a) b = joining-append (joined met n) a b

-- with one number more a list holds it beside what it held
in-joined : (x n : ℕ) (met : List ℕ) → is_in x (joined met n) ≡ (is_in x met || eqb x n)
in-joined x n met = go (is_in n met) refl
  where
    same : (b : Bool) → eqb x n ≡ b → is_in n met ≡ true → is_in x met ≡ (is_in x met || b)
    same true e h = let q : is_in x met ≡ true = rw (eqb-true x n e) h in rw q
    same false e h = sym (or-false (is_in x met))

    go : (b : Bool) → is_in n met ≡ b → is_in x (cond b met (met ++ (n ∷ []))) ≡ (is_in x met || eqb x n)
    go true h = same (eqb x n) refl h
    go false h = in-more x n met

-- with a list more those of both
pub in-joining : (x : ℕ) (met l : List ℕ) → is_in x (joining met l) ≡ (is_in x met || is_in x l)
unfolding joining
in-joining x met [] = rw (in-none x) (sym (or-false (is_in x met)))
in-joining x met (n ∷ l) =
    in-joining x (joined met n) l ∙ ap (λ b. b || is_in x l) (in-joined x n met)
    ∙ or_assoc (is_in x met) (eqb x n) (is_in x l) ∙ ap (λ b. is_in x met || b) (sym (in-cons x n l))

-- numbers that all stand there change nothing
pub joining-old : (met l : List ℕ) → ((x : ℕ) → is_in x l ≡ true → is_in x met ≡ true) → joining met l ≡ met
unfolding joining
joining-old met [] h = refl
joining-old met (n ∷ l) h = rw (h n (in-here n l)) (joining-old met l (λ x k. h x (in_rest x n l k)))

-- none stands twice
joining-once : (met l : List ℕ) → distinct met ≡ true → distinct (joining met l) ≡ true
unfolding joining
joining-once met [] h = h
joining-once met (n ∷ l) h = joining-once (joined met n) l (go (is_in n met) refl)
  where
    go : (b : Bool) → is_in n met ≡ b → distinct (cond b met (met ++ (n ∷ []))) ≡ true
    go true e = h
    go false e = once_more n met e h

module _ (l : List ℕ) where
  -- first ones are the numbers of the list ..
  pub in-firsts : (x : ℕ) → is_in x (first_ones l) ≡ is_in x l
  in-firsts x = rw (← joining-firsts l) (in-joining x [] l ∙ rw (in-none x))

  -- .. each once
  pub firsts-once : distinct (first_ones l) ≡ true
  unfolding distinct
  firsts-once = rw (← joining-firsts l) (joining-once [] l refl)
