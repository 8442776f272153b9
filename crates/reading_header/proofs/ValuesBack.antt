-- What the last values of an export's header say, read back one by one.
use mathlib.Core.Path.{◌≡◌}
use mathlib.Core.List.{List, [], ◌∷◌, map}
use Prim.Native.Nat.{ℕ, ◌-◌, ◌^◌, ◌≤◌, ◌<◌}
use native.Mathlib.Omega.{arith}
use lib.ListN.{length}
use Rattle.codes.specs.Limits.{var_limit, root_limit}
use Rattle.read_lines.specs.Each.{Each, none}
use Rattle.header_lines.specs.Sweep.{Span}
use Rattle.header_keys.specs.declared.Key.{Key}
use Rattle.header_keys.specs.declared.Key.TheVariants.{Nnodes, Nvars, Nsuppvars, Nroots, Varnames, Suppvarnames, Orderedvarnames, Ids, Permids, Auxids, Rootnames}
use Rattle.header_values.specs.Values.{span_in, value_in, number_in, u32s_in, names_in, roots_in}
use Rattle.writers.specs.Decimal.{decimal}
use Rattle.heading.specs.Heading.{Heading}
use Rattle.reading_header.specs.Joined.{joined}
use Rattle.reading_header.specs.HeadWords.{FewNames}
use Rattle.reading_header.specs.HeaderBack.{Fit}
use Rattle.reading_header.specs.ValuesBack.{Named, ValuesBack}
use Rattle.reading_header.proofs.NumbersBack.{single-back, numbers-back}
use Rattle.reading_header.proofs.EdgesBack.{edges-back}
use Rattle.reading_header.proofs.NamesBack.{names-back, names-there, name-length}
use Rattle.reading_header.proofs.SupportBack.{supported}
use Rattle.reading_header.proofs.HeadBounds.{ids-small, levels-small, roots-small, varnames-few, suppvarnames-few, orderedvarnames-few, rootnames-few}
use Rattle.reading_header.proofs.HeadValues.{HeadValues}

module _ (f : List ℕ) (t : List Span) (k : Key) where
  -- a number
  number-in : (lim n : ℕ) → value_in f t k ≡ joined (decimal n ∷ []) → n < 2 ^ 64 → n < lim → number_in lim f t k ≡ n
  unfolding number_in
  number-in lim n is h l = rw (is, single-back n h lim l)

  -- a list of numbers
  numbers-in : {ns : List ℕ} → value_in f t k ≡ joined (map decimal ns) → Each (λ n. n < 2 ^ 32) ns → length ns ≤ var_limit → u32s_in f t k ≡ ns
  unfolding u32s_in
  numbers-in is small few = rw (is, numbers-back small var_limit few)

  -- a list of names: the places hold them, and are as long
  names-in : {max : ℕ} {names : List (List ℕ)} → FewNames max names → value_in f t k ≡ joined names → Named f (names_in max f t k) names
  unfolding names_in
  names-in {names = names} n is =
      let at = (span_in t k).start in
      let there = names-there f ((span_in t k).end - at) at names is in
      rw (is, names-back at n) (record { there = there; long = name-length at names })

module _ {h : Heading} {f : List ℕ} {t : List Span} (fit : Fit h) (v : HeadValues h (value_in f t)) where
  pub values-back : ValuesBack h f t
  unfolding roots_in joined
  values-back =
      let vars = fit.few_variables in
      let nodes = fit.few_nodes in
      let roots = fit.few_roots in
      let supp = supported fit in
      record {
        nnodes = number-in f t Nnodes (2 ^ 64) h.nnodes v.nnodes (omega arith) (omega arith);
        nvars = number-in f t Nvars (2 ^ 32) (length h.order) v.nvars (omega arith) (omega arith);
        nsuppvars = number-in f t Nsuppvars (2 ^ 32) (length h.support) v.nsuppvars (omega arith) (omega arith);
        nroots = number-in f t Nroots (2 ^ 64) (length h.rootids) v.nroots (omega arith) (omega arith);
        ids = numbers-in f t Ids v.ids (ids-small fit) (omega arith);
        permids = numbers-in f t Permids v.permids (levels-small fit) (omega arith);
        auxids = numbers-in f t Auxids v.auxids none (omega arith);
        varnames = names-in f t Varnames (varnames-few fit) v.varnames;
        suppvarnames = names-in f t Suppvarnames (suppvarnames-few fit) v.suppvarnames;
        orderedvarnames = names-in f t Orderedvarnames (orderedvarnames-few fit) v.orderedvarnames;
        roots = rw (v.rootids, edges-back (roots-small fit) root_limit roots);
        rootnames = names-in f t Rootnames (rootnames-few fit) v.rootnames;
      }
