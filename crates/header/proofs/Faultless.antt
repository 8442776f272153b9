-- What a header without a fault gives the last phase.
use mathlib.Core.Path.{◌≡◌}
use mathlib.Core.List.{List, map}
use Prim.Native.Nat.{ℕ}
use native.Mathlib.Omega.{arith}
use Rattle.codes.specs.Limits.{limits, var_limit}
use Rattle.header_lines.specs.Sweep.{Span}
use Rattle.header_keys.specs.declared.Key.TheVariants.{Permids}
use Rattle.file_roots.specs.Roots.{edge_of}
use Rattle.support.proofs.Distinct.{permids-limit}
use Rattle.support.proofs.SupportAllowed.{permids-allowed}
use Rattle.file_roots.proofs.RootEdges.{roots-allowed, faultless-edges}
use Rattle.header_values.specs.Values.{nvars_in, nnodes_in, u32s_in, roots_in}
use Rattle.header_checks.specs.Whole.{whole_fault}
use Rattle.header_checks.proofs.WholeRules.{whole-rules}
use Rattle.header_lists.specs.Settled.{Settled}

module _ (f : List ℕ) (t : List Span) (h : whole_fault limits f t ≡ 0) where
  -- what it leans on
  pub faultless-settled : Settled f t
  faultless-settled =
      let R = (whole-rules limits f t).0 h in
      let fit = (permids-allowed (nvars_in f t) (u32s_in f t Permids)).1 R.permids in
      record {
        few = R.few_vars;
        below = permids-limit (nvars_in f t) var_limit (u32s_in f t Permids) fit R.few_vars (omega arith);
        ids_counted = R.ids_counted;
        permids_counted = R.permids_counted;
      }

  -- each root is itself as an edge
  pub faultless-roots : map edge_of (roots_in f t) ≡ roots_in f t
  faultless-roots =
      let R = (whole-rules limits f t).0 h in
      faultless-edges (nnodes_in f t) (roots_in f t) ((roots-allowed (nnodes_in f t) (roots_in f t)).1 R.roots) R.few_nodes
