-- Reading from left to right: a step takes a state and the next byte to the state after it, or stops with an answer; at the end the
-- state gives the answer. This is the form of a definition where document 01 itself goes from left to right.
use Rattle.std.specs.Prelude.{List, [], ◌∷◌}

pub data Next (S R : Type 0) : Type 0 where
  go : S → Next S R
  stop : R → Next S R

abbrev pub after : {S R : Type 0} → Next S R → (S → R) → R
after (go t) k = k t
after (stop r) k = r

unfoldable pub run : {S A R : Type 0} → (S → A → Next S R) → (S → R) → S → List A → R
run step fin s [] = fin s
run step fin s (x ∷ xs) = after (step s x) (λ t. run step fin t xs)
