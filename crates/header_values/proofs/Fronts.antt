-- Laws of a header's lists that were read into lent lists of zeros: they are the fronts of these.
use mathlib.Core.Path.{◌≡◌, sym, ap, ◌∙◌}
use mathlib.Core.List.{List}
use Prim.Native.Nat.{ℕ, ◌≤◌}
use native.Mathlib.Omega.{arith}
use lib.ListN.{length, take, replicate, length-replicate}
use Rattle.header_values.specs.Values.{pad}
use Rattle.header_values.proofs.Padded.{take-laid, length-pad}

-- a lent list of m zeros, over which n entries were laid
module _ (m : ℕ) (es : List ℕ) (h : length es ≤ m) {n : ℕ} {dst : List ℕ} (e : n ≡ length es) (l : dst ≡ pad m es) where
  -- it reaches as far as the entries
  pub front_fits : n ≤ length dst
  front_fits = omega (arith, ap length l ∙ length-pad m es)

  -- its front is the entries
  pub front-is : take n dst ≡ es
  front-is = rw (e, l) (take-laid es (replicate m 0) (rw length-replicate h))

  -- and so has their length
  pub front_long : n ≡ length (take n dst)
  front_long = e ∙ ap length (sym front-is)
