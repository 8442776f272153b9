-- The header of an export that isn't refused: it holds to what reading it back leans on.
use mathlib.Core.List.{List, map}
use Prim.Native.Nat.{ℕ, ◌≤◌, ◌<◌}
use native.Mathlib.Omega.{arith}
use lib.ListN.{length, get_or, length-map}
use lib.IntN.{ℤ, pos, nat_abs}
use Rattle.codes.specs.Limits.{Limits, RoomForExports}
use Rattle.store.specs.Store.{Store}
use Rattle.export_names.proofs.FitLists.{place-fit, list_count, list-names}
use Rattle.export_support.proofs.SupportLevels.{support-fits}
use Rattle.numbering.specs.Numbering.{numbering}
use Rattle.export_nodes.specs.Exported.{Exported}
use Rattle.export_nodes.specs.Lines.{renumbered}
use Rattle.export_nodes.proofs.Renumbered.{lines-few}
use Rattle.seats.proofs.MappedEntries.{mapped_at}
use Rattle.heading.specs.Tables.{Lent}
use Rattle.exported.specs.Settings.{Settings}
use Rattle.exported.specs.Export.{heading_of}
use Rattle.exported.proofs.Accepted.{Accepted, exported}
use Rattle.reading_header.specs.HeaderBack.{Fit}
use Rattle.reading_nodes.proofs.RootsBack.{root_some, root_low}

module _ {m : Limits} (W : RoomForExports m) {σ : Store} {roots : List ℤ} {order : List ℕ} {p : Lent} {slots numbers out : ℕ}
    (A : Accepted m σ roots order p slots numbers out) where
  abbrev ns : List ℕ
  ns = numbering σ roots

  E : Exported m σ roots
  E = exported A

  -- what holds of each root's number holds of each entry of `.rootids`
  of-root : (P : ℤ → Type 0) → ((i : ℕ) → i < length roots → P (renumbered ns (get_or roots i (pos 0))))
      → (i : ℕ) → i < length (map (renumbered ns) roots) → P (get_or (map (renumbered ns) roots) i (pos 0))
  of-root P h i k =
      let l : i < length roots = rw (length-map roots (renumbered ns)) at k in
      rw (mapped_at (renumbered ns) roots i (pos 0) (pos 0) l) (h i l)

  pub heading-fit : (s : Settings) → Fit (heading_of s σ roots order p)
  unfolding heading_of
  heading-fit s =
      let sizes = A.rules.sizes in
      let counted = length-map roots (renumbered ns) in
      record {
        order = A.is_an_order;
        few_variables = omega (arith, A.order_long, W.few_levels);
        support = rw A.order_long (support-fits σ ns);
        few_nodes = omega (arith, lines-few E, W.few_digits);
        dd = place-fit _ p.bytes p.dd A.names.diagram;
        names_counted = list_count (length order) p.bytes p.starts p.lens A.names.names;
        names = list-names (length order) p.bytes p.starts p.lens A.names.names;
        few_roots = rw counted A.roots_few;
        root_some = of-root (λ e. 1 ≤ nat_abs e) (root_some E);
        root_low = of-root (λ e. nat_abs e ≤ length ns) (root_low E);
        rootnames_counted = rw counted (list_count (length roots) p.bytes p.rootstarts p.rootlens A.names.rootnames);
        rootnames = list-names (length roots) p.bytes p.rootstarts p.rootlens A.names.rootnames;
      }
