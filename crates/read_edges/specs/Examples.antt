-- Edge lists, computed by hand.
use Rattle.std.specs.Prelude.{◌≡◌, List, [], ◌∷◌, ℕ, ℤ, pos, neg_ℤ}
use Rattle.codes.specs.Texts.{bytes}
use Rattle.codes.specs.Answer.{value, refused}
use Rattle.read_lists.specs.Lists.{Listed, listed}
use Rattle.read_edges.specs.Edges.{edge_list}

-- a list with at most so many entries, and what it reads as
pub record EdgeRow : Type 0 where
  pub max : ℕ
  pub text : List ℕ
  pub answer : Listed ℤ

abbrev pub row : ℕ → List ℕ → Listed ℤ → EdgeRow
row max s r = record { max = max; text = s; answer = r }

abbrev pub AllLists : List EdgeRow → Type 0
AllLists [] = Unit
AllLists (r ∷ rs) = (edge_list r.max r.text ≡ r.answer) × AllLists rs

-- Each fault, and of several in a list the first from left to right.
abbrev pub edge_rows : List EdgeRow
edge_rows =
    row 9 (bytes " 3\t-3 -0 ") (listed (value 3) (pos 3 ∷ neg_ℤ (pos 3) ∷ pos 0 ∷ []))
    ∷ row 9 (bytes "-9223372036854775807") (listed (value 1) (neg_ℤ (pos 9223372036854775807) ∷ []))
    ∷ row 9 (bytes "7 -9223372036854775808") (listed (refused 15) (pos 7 ∷ []))
    ∷ row 9 (bytes "7 5x") (listed (refused 16) (pos 7 ∷ []))
    -- a second minus, a minus after a digit
    ∷ row 9 (bytes "--5") (listed (refused 17) [])
    ∷ row 9 (bytes "3-") (listed (refused 17) [])
    -- a minus without its digit: a blank, a tab, the end
    ∷ row 9 (bytes "- 5") (listed (refused 17) [])
    ∷ row 9 (bytes "-\t5") (listed (refused 17) [])
    ∷ row 9 (bytes "3 -") (listed (refused 17) (pos 3 ∷ []))
    -- which comes first
    ∷ row 9 (bytes "- x") (listed (refused 17) [])
    ∷ row 9 (bytes "-x -") (listed (refused 16) [])
    ∷ row 9 (bytes "9223372036854775808x -") (listed (refused 15) [])
    -- one entry too many comes where it ends
    ∷ row 1 (bytes "1 -") (listed (refused 17) (pos 1 ∷ []))
    ∷ row 1 (bytes "1 - 2") (listed (refused 17) (pos 1 ∷ []))
    ∷ row 1 (bytes "1 2 -") (listed (refused 19) (pos 1 ∷ []))
    ∷ []
