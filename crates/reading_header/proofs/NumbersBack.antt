-- Numbers, read back: single ones, and lists.
use mathlib.Core.Path.{◌≡◌}
use mathlib.Core.List.{List, [], ◌∷◌, map}
use Prim.Native.Nat.{ℕ, ◌+◌, ◌^◌, ◌≤◌, ◌<◌}
use native.Mathlib.Omega.{arith}
use lib.ListN.{length}
use Rattle.codes.specs.Answer.{value}
use Rattle.codes.specs.Limits.{var_limit}
use Rattle.read_lines.specs.Each.{Each, none, each}
use Rattle.read_numbers.specs.declared.Role.TheVariants.{Entry}
use Rattle.read_numbers.specs.Number.{single}
use Rattle.read_lists.specs.Lists.{listed, u32_of, u32_list}
use Rattle.read_lists.specs.Judged.{Reads}
use Rattle.read_lists.specs.Judged
use Rattle.header_faults.specs.Judge.{single_fault, u32_list_fault}
use Rattle.writers.specs.Decimal.{decimal}
use Rattle.writers.proofs.Decimal.{decimal-some, decimal-digits, decimal-value, decimal-single}
use Rattle.reading_header.specs.Joined.{joined, Plain}
use Rattle.reading_header.specs.Standing.{words_at}
use Rattle.reading_header.proofs.Elements.{each_map}
use Rattle.reading_header.proofs.Plain.{above-plain, digits_above}
use Rattle.reading_header.proofs.WordsBack.{judge-back, joined-one}

module _ (n : ℕ) (h : n < 2 ^ 64) where
  -- A number is written as a plain word,
  pub decimal-plain : Plain (decimal n)
  decimal-plain = above-plain (digits_above (decimal-digits n h)) (decimal-some n)

  module _ (lim : ℕ) (l : n < lim) where
    -- which is read as that number,
    pub single-back : single lim (joined (decimal n ∷ [])) ≡ value n
    single-back = rw (joined-one (decimal n)) (decimal-single n h lim l)

    -- with no fault.
    pub single-faultless : single_fault lim (joined (decimal n ∷ [])) ≡ 0
    unfolding single_fault
    single-faultless = rw single-back

numbers-read : {ns : List ℕ} (at : ℕ) → Each (λ n. n < 2 ^ 32) ns → Reads u32_of (words_at at (map decimal ns)) ns
unfolding words_at
numbers-read at none = Judged.none
numbers-read at (each {a = n} h k) = Judged.more (decimal-value n (omega arith) (2 ^ 32) h Entry) (numbers-read (at + length (decimal n) + 1) k)

module _ {ns : List ℕ} (small : Each (λ n. n < 2 ^ 32) ns) where
  pub decimals-plain : Each Plain (map decimal ns)
  decimals-plain = each_map decimal (λ n h. decimal-plain n (omega arith)) small

  -- A list of numbers is read as themselves,
  pub numbers-back : (max : ℕ) → length ns ≤ max → u32_list max (joined (map decimal ns)) ≡ listed (value (length ns)) ns
  unfolding u32_list
  numbers-back max few = judge-back 0 decimals-plain u32_of max (numbers-read 0 small) few

  -- with no fault.
  pub numbers-faultless : length ns ≤ var_limit → u32_list_fault (joined (map decimal ns)) ≡ 0
  unfolding u32_list_fault
  numbers-faultless few = rw (numbers-back var_limit few)
