-- Reading from left to right at a position of a list: what the machine answers from there, by its next step.
use mathlib.Core.Path.{◌≡◌, refl, sym, ap, ◌∙◌}
use mathlib.Core.List.{List, [], ◌∷◌, ◌++◌, append-nil}
use Prim.Native.Nat.{ℕ, ◌+◌, ◌≤◌, ◌<◌}
use native.Mathlib.Numerals.{add-one}
use lib.ListN.{length, get_or, drop, drop_of_length-le}
use lib.Seq.{drop-cons}
use Rattle.codes.specs.Machine.{Next, go, stop, after, run}

module _ {S R : Type 0} (step : S → ℕ → Next S R) (fin : S → R) where
  module _ (l : List ℕ) (i : ℕ) where
    -- a step that goes on
    pub run-go : {s t : S} → i < length l → step s (get_or l i 0) ≡ go t → run step fin s (drop i l) ≡ run step fin t (drop (i + 1) l)
    unfolding run
    run-go h e = rw (drop-cons l i 0, e, add-one)

    -- a step that stops
    pub run-stop : {s : S} {r : R} → i < length l → step s (get_or l i 0) ≡ stop r → run step fin s (drop i l) ≡ r
    unfolding run
    run-stop h e = rw (drop-cons l i 0, e)

    -- the end
    pub run_end : {s : S} → length l ≤ i → run step fin s (drop i l) ≡ fin s
    unfolding run
    run_end h = rw (drop_of_length-le l h)

  -- The state that a list of bytes leads to, where no step stops.
  pub data Leads : S → List ℕ → S → Type 0 where
    here : {s : S} → Leads s [] s
    on : {s t u : S} {x : ℕ} {l : List ℕ} → step s x ≡ go t → Leads t l u → Leads s (x ∷ l) u

  -- Bytes that lead to a state are read as far, whatever follows.
  pub leads-run : {s t : S} {l : List ℕ} (m : List ℕ) → Leads s l t → run step fin s (l ++ m) ≡ run step fin t m
  unfolding run
  leads-run m here = refl
  leads-run m (on e h) = rw e (leads-run m h)

  -- How reading ends: at the end of the list, or at the first step that stops.
  pub data Ends (s : S) (l : List ℕ) : R → Type 0 where
    all : {t : S} → Leads s l t → Ends s l (fin t)
    at : {t : S} {r : R} (p : List ℕ) (x : ℕ) (m : List ℕ) → l ≡ p ++ (x ∷ m) → Leads s p t → step t x ≡ stop r → Ends s l r

  lengthened : {s t : S} {x : ℕ} {l : List ℕ} {r : R} → step s x ≡ go t → Ends t l r → Ends s (x ∷ l) r
  lengthened e (all h) = all (on e h)
  lengthened {x = y} e (at p x m k h f) = at (y ∷ p) x m (rw k) (on e h) f

  next-ends : {s : S} {x : ℕ} {l : List ℕ} (n : Next S R) → step s x ≡ n → ((t : S) → Ends t l (run step fin t l)) → Ends s (x ∷ l) (after n (λ t. run step fin t l))
  next-ends (go t) e k = lengthened e (k t)
  next-ends {x = y} {l = m} (stop r) e k = at [] y m refl here e

  -- Reading always ends in one of the two ways, and its answer is then the one given there.
  pub run_ends : (s : S) (l : List ℕ) → Ends s l (run step fin s l)
  unfolding run
  run_ends s [] = all here
  run_ends s (x ∷ l) = next-ends (step s x) refl (λ t. run_ends t l)

  -- And what ends in one of them has the answer given there.
  pub ends-run : {s : S} {l : List ℕ} {r : R} → Ends s l r → run step fin s l ≡ r
  unfolding run
  ends-run {s} {l} (all h) = ap (λ m. run step fin s m) (sym (append-nil l)) ∙ leads-run [] h
  ends-run (at p x m k h f) = rw k (leads-run (x ∷ m) h ∙ rw f)
