-- The file of an accepted export: it is no longer than the export size, so that there is room for each of its parts.
use mathlib.Core.Path.{◌≡◌, ap, ◌∙◌}
use mathlib.Core.Bool.{true}
use mathlib.Core.Logic.{⊎_elim}
use mathlib.Core.List.{List, ◌++◌}
use Prim.Native.Nat.{ℕ, ◌+◌, ◌≤◌}
use native.Mathlib.Omega.{arith}
use lib.ListN.{length, get_or, replicate, length-append, length-map}
use lib.IntN.{ℤ, pos, nat_abs}
use Rattle.codes.specs.Limits.{Limits, RoomForExports}
use Rattle.codes.specs.Lent.{laid}
use Rattle.store.specs.Store.{Store}
use Rattle.seats.proofs.Seating.{seat-most}
use Rattle.export_size.specs.Size.{export_size}
use Rattle.export_names.proofs.FitLists.{place-length, list_count, list-sum}
use Rattle.writers.specs.Written.{Wrote}
use Rattle.writers.proofs.Sets.{wrote_then, sets-laid}
use Rattle.numbering.specs.Numbering.{numbering}
use Rattle.export_nodes.specs.Exported.{Exported}
use Rattle.export_nodes.specs.Lines.{renumbered, lines_for}
use Rattle.node_writers.specs.Encoded.{node_bytes, end_text}
use Rattle.seats.proofs.MappedEntries.{mapped_at}
use Rattle.export_nodes.proofs.Renumbered.{renumbered-abs, lines-few}
use Rattle.export_nodes.proofs.Support.{support-few}
use Rattle.export_nodes.proofs.ExportLines.{lines-short}
use Rattle.heading.specs.Heading.{head_text}
use Rattle.heading.specs.Small.{SmallHeading}
use Rattle.heading.specs.Tables.{Lent}
use Rattle.heading.proofs.Short.{head-short}
use Rattle.exported.specs.Settings.{Settings}
use Rattle.exported.specs.Export.{heading_of, file_of}
use Rattle.exported.proofs.Accepted.{Accepted, exported}

module _ (s : Settings) {m : Limits} (W : RoomForExports m) {σ : Store} {roots : List ℤ} {order : List ℕ} {p : Lent} {slots numbers out : ℕ}
    (A : Accepted m σ roots order p slots numbers out) where
  abbrev ns : List ℕ
  ns = numbering σ roots

  E : Exported m σ roots
  E = exported A

  -- the lengths of the parts
  file-length : length (file_of s σ roots order p)
      ≡ length (head_text (heading_of s σ roots order p)) + (length (node_bytes s.ascii (lines_for σ ns)) + 5)
  unfolding file_of
  file-length =
      let h = head_text (heading_of s σ roots order p) in
      let b = node_bytes s.ascii (lines_for σ ns) in
      length-append h (b ++ end_text) ∙ ap (λ n. length h + n) (length-append b end_text)

  -- the header is within the limits
  heading-small : SmallHeading (heading_of s σ roots order p)
  unfolding heading_of
  heading-small =
      let few = lines-few E in
      let limit = A.rules.sizes.count_limit in
      let many = length-map roots (renumbered ns) in
      record {
        order = A.is_an_order;
        few_variables = omega (arith, A.order_long, A.rules.sizes.levels_limit, W.few_levels);
        few_support = omega (arith, A.order_long, support-few σ ns);
        few_nodes = omega (arith, W.few_digits);
        few_roots = omega (arith, A.roots_few);
        root_low = λ i h.
            let r = get_or roots i (pos 0) in
            rw (mapped_at (renumbered ns) roots i (pos 0) (pos 0) (rw many at h))
            (omega (arith, renumbered-abs ns r, seat-most (nat_abs r) ns, W.few_digits));
        few_rootnames =
            ⊎_elim (λ e. omega arith) (λ e. omega arith) (list_count (length roots) p.bytes p.rootstarts p.rootlens A.names.rootnames);
      }

  -- document 01, 'Limits': the export size
  pub file-short : length (file_of s σ roots order p) ≤ export_size σ.count σ.levels (length roots) p.lens p.rootlens p.dd.len
  unfolding export_size heading_of
  file-short =
      omega (
        arith,
        file-length,
        head-short (heading_of s σ roots order p) heading-small,
        lines-short W E s.ascii,
        lines-few E,
        A.order_long,
        length-map roots (renumbered ns),
        list-sum (length order) p.bytes p.starts p.lens A.names.names,
        list-sum (length roots) p.bytes p.rootstarts p.rootlens A.names.rootnames,
        place-length true p.bytes p.dd.start p.dd.len A.names.diagram,
      )

  -- the parts as they are written: there is room for the header h ..
  module _ {h : List ℕ} (hq : h ≡ head_text (heading_of s σ roots order p)) where
    pub head-room : 0 + length h ≤ out
    head-room = rw hq (omega (arith, file-length, file-short, A.out_long))

    -- .. for the node lines b after it ..
    module _ {b : List ℕ} (bq : b ≡ node_bytes s.ascii (lines_for σ ns)) where
      all_fit : length h + (length b + 5) ≤ out
      all_fit = rw (hq, bq) (omega (arith, file-length, file-short, A.out_long))

      pub body-room : {at long : ℕ} → at ≡ 0 + length h → long ≡ out → at + length b ≤ long
      body-room e k = omega (arith, all_fit)

      -- .. and for the end after them
      pub end-room : {at next long : ℕ} → at ≡ 0 + length h → next ≡ at + length b → long ≡ out → next + 5 ≤ long
      end-room e f k = omega (arith, all_fit)

      -- written one after another they are the file
      pub file-written : {l k n o : List ℕ} {at next end : ℕ} → Wrote l 0 h at k → Wrote k at b next n → Wrote n next end_text end o
          → l ≡ replicate out 0
          → (end ≡ length (file_of s σ roots order p)) × (o ≡ laid (file_of s σ roots order p) (replicate out 0))
      unfolding file_of
      file-written {l} u v w z =
          let f = wrote_then l 0 h (b ++ end_text) u (wrote_then _ _ b end_text v w) in
          rw (← hq, ← bq, ← z) (omega (arith, f.next), f.bytes ∙ sets-laid l (h ++ (b ++ end_text)))
