-- What a load leaves: its answer, and each lent list.
use mathlib.Core.Path.{◌≡◌, refl, sym, ap, ◌∙◌}
use mathlib.Core.List.{List, [], map}
use Prim.Native.Nat.{ℕ, zero, suc, ◌≤◌}
use native.Mathlib.Omega.{arith}
use lib.IntN.{ℤ, pos}
use lib.ListN.{length, replicate}
use Rattle.codes.specs.Lent.{Part, old, new, laid}
use Rattle.codes.specs.Limits.{limits, var_limit, root_limit}
use Rattle.read_text.specs.Text.{start_of, len_of}
use Rattle.header_lines.specs.Sweep.{Span, SweepEnd, at_nodes, refused_at, end_of, lines_of}
use Rattle.header_keys.specs.declared.Key.{Key}
use Rattle.header_keys.specs.declared.Key.TheVariants.{Ids, Permids, Auxids, Orderedvarnames, Suppvarnames, Rootnames}
use Rattle.file_roots.specs.Roots.{edge_of}
use Rattle.support.specs.Support.{support_order}
use Rattle.header_values.specs.Values.{spans, pad, nvars_in, u32s_in, names_in, roots_in}
use Rattle.header_values.proofs.Counted.{u32s-most, names-most}
use Rattle.header_values.proofs.Padded.{pad-none, length-pad}
use Rattle.header_checks.specs.Names.{variable_names_in}
use Rattle.header_checks.specs.Whole.{whole_fault}
use Rattle.header.specs.Header.{Header, HeaderAnswer, header, refusal, table_of, settled, judged_header, read_of, after, lists_in, lists_by, load_header, table_by, settled_by, left_by}
use Rattle.header.specs.Kinds.{Loaded, of_loaded}
use Rattle.header.specs.Promises.{LoadHeaderPromise}
use Rattle.header_lists.specs.Settled.{Settled, HeldList, ListsRoom}
use Rattle.header.proofs.NoValues.{no_values, no-lists, none-room}
use Rattle.header.proofs.Faultless.{faultless-roots}
use Rattle.header.proofs.Answers.{Promised, spans-of}

-- a header that stands after the checks of the whole has no fault
stands-clean : (f : List ℕ) (h : Header) (t : List Span) (next lines m : ℕ) → header h ≡ settled f t next lines m → m ≡ 0
stands-clean f h t next lines zero e = refl
stands-clean f h t next lines (suc m) e = let z : ◌≡◌ {A = ℕ} 0 1 = cc in absurd (omega arith)

-- so has one that stands after the lines
judged-clean : (f : List ℕ) (h : Header) (e : SweepEnd) → header h ≡ judged_header limits f e → whole_fault limits f (table_of f) ≡ 0
judged-clean f h (refused_at n line) e = let z : ◌≡◌ {A = ℕ} 0 1 = cc in absurd (omega arith)
judged-clean f h (at_nodes next lines) e = stands-clean f h (table_of f) next lines (whole_fault limits f (table_of f)) e

-- so has one that is the answer
after-clean : (n : ℕ) (f : List ℕ) (h : Header) → header h ≡ after limits n f → whole_fault limits f (table_of f) ≡ 0
unfolding read_of
after-clean zero f h e = judged-clean f h (end_of f (lines_of f)) e
after-clean (suc n) f h e = let z : ◌≡◌ {A = ℕ} 0 1 = cc in absurd (omega arith)

-- the roots of the table that the last phase reads are themselves as edges
edges_by : (n : ℕ) (f : List ℕ) (a : HeaderAnswer) → a ≡ after limits n f → map edge_of (roots_in f (table_by f a)) ≡ roots_in f (table_by f a)
edges_by n f (header h) e = faultless-roots f (table_of f) (after-clean n f h e)
edges_by n f (refusal k line) e = rw (ap (λ l. l.roots) (no-lists f (refusal k line)))

-- that table gives the lists of the answer
lists-by : (f : List ℕ) (a : HeaderAnswer) → lists_in f (table_by f a) a ≡ lists_by f a
lists-by f (header h) = refl
lists-by f (refusal k line) = no-lists f (refusal k line)

module _ (n : ℕ) (f : List ℕ) (a : HeaderAnswer) {starts ends : List ℕ} (w : Promised n f a starts ends) where
  -- the two lists hold that table
  held-spans : spans starts ends ≡ table_by f a
  held-spans = spans-of w.1.0 w.1.1.0

  -- what the last phase leans on
  pub held-settled : Settled f (spans starts ends)
  held-settled = rw held-spans w.1.1.1.1.0

  -- the roots that are read are themselves as edges
  held-edges : map edge_of (roots_in f (spans starts ends)) ≡ roots_in f (spans starts ends)
  held-edges = rw held-spans (edges_by n f a w.0)

  -- the lists that are read are those of the load
  all-loaded : lists_in f (spans starts ends) a ≡ load_header limits n f
  unfolding load_header
  all-loaded = ap (λ t. lists_in f t a) held-spans ∙ lists-by f a ∙ ap (lists_by f) w.0

-- an answer that is a header has no fault before it
settled-by : (f : List ℕ) (h : Header) (t : List Span) (fault : ℕ) (sw : SweepEnd) → header h ≡ settled_by f t fault sw → fault ≡ 0
settled-by f h t fault (at_nodes next lines) e = stands-clean f h t next lines fault e
settled-by f h t fault (refused_at n line) e = let z : ◌≡◌ {A = ℕ} 0 1 = cc in absurd (omega arith)

-- nor was anything found before it
after_first : (n : ℕ) (f : List ℕ) (h : Header) → header h ≡ after limits n f → n ≡ 0
after_first zero f h e = refl
after_first (suc n) f h e = let z : ◌≡◌ {A = ℕ} 0 1 = cc in absurd (omega arith)

-- a list of numbers that was read for the checks, and kept by the answer
module _ (n : ℕ) (f : List ℕ) (k : Key) (none : u32s_in f no_values k ≡ []) (ss es : List ℕ) (fault : ℕ) (sw : SweepEnd) (m : ℕ) {l1 : List ℕ}
    (e : fault ≡ 0 → l1 ≡ pad m (u32s_in f (spans ss es) k)) (q : length l1 ≡ m) where
  -- it is what the table that is left says
  pub kept-list : (a : HeaderAnswer) {starts ends l2 : List ℕ} → a ≡ settled_by f (spans ss es) fault sw → Promised n f a starts ends
      → starts ≡ left_by a ss → ends ≡ left_by a es → l2 ≡ left_by a l1 → l2 ≡ pad m (u32s_in f (spans starts ends) k)
  kept-list (header h) d w s t p = p ∙ e (settled-by f h (spans ss es) fault sw d) ∙ rw (s, t)
  kept-list (refusal i line) d w s t p =
      p ∙ ap (λ j. replicate j 0) q ∙ sym (pad-none m) ∙ ap (pad m) (sym (ap (λ u. u32s_in f u k) (held-spans n f (refusal i line) w) ∙ none))

  -- and has room there
  pub kept-held : (a : HeaderAnswer) {starts ends : List ℕ} (l2 : List ℕ) → a ≡ settled_by f (spans ss es) fault sw → Promised n f a starts ends
      → starts ≡ left_by a ss → ends ≡ left_by a es → l2 ≡ left_by a l1 → (n ≡ 0 → var_limit ≤ m) → HeldList f (spans starts ends) k l2
  kept-held a {starts} {ends} l2 d w s t p long =
      let list = kept-list a d w s t p in
      let count = ap length list ∙ length-pad m (u32s_in f (spans starts ends) k) in
      record { room = room a w count; list = list ∙ ap (λ j. pad j (u32s_in f (spans starts ends) k)) (sym count) }
    where
      room : (a : HeaderAnswer) → Promised n f a starts ends → length l2 ≡ m → length (u32s_in f (spans starts ends) k) ≤ length l2
      room (header h) w c = omega (arith, u32s-most f (spans starts ends) k, long (after_first n f h w.0), c)
      room (refusal i line) w c =
          let z : length (u32s_in f (spans starts ends) k) ≡ 0 = ap length (ap (λ u. u32s_in f u k) (held-spans n f (refusal i line) w) ∙ none) in
          omega (arith, z)

-- the other lists have room for what the table that is left says
pub lists-room : (n : ℕ) (f : List ℕ) (a : HeaderAnswer) {starts ends : List ℕ} → Promised n f a starts ends
    → (from sizes lens : List ℕ) → (n ≡ 0 → (var_limit ≤ length from) × ((var_limit ≤ length sizes) × (var_limit ≤ length lens)))
    → ListsRoom f (spans starts ends) from sizes lens
lists-room n f (refusal i line) w from sizes lens long = rw (held-spans n f (refusal i line) w) (none-room f from sizes lens)
lists-room n f (header h) {starts} {ends} w from sizes lens long =
    let l = long (after_first n f h w.0) in
    let few = (held-settled n f (header h) w).few in
    let most = names-most f (spans starts ends) var_limit in
    record {
      from_seats = omega (arith, l.0, few);
      sizes_seats = omega (arith, l.1.0, few);
      lens_seats = omega (arith, l.1.1, few);
      ordered_room = record { from_room = omega (arith, l.0, most Orderedvarnames); sizes_room = omega (arith, l.1.0, most Orderedvarnames) };
      supp_room = record { from_room = omega (arith, l.0, most Suppvarnames); sizes_room = omega (arith, l.1.0, most Suppvarnames) };
    }

-- What a load leaves in its nine lists.
module _ {f : Part (List ℕ)} {n : ℕ} {ids order permids auxids names lens : Part (List ℕ)} {roots : Part (List ℤ)}
    {rootnames rootlens : Part (List ℕ)} {r : Loaded} {starts ends : List ℕ} (w : Promised n (old f) (of_loaded r) starts ends) where
  -- each list is that of the load
  pub load-leaves : new ids ≡ pad (length (old ids)) (u32s_in (old f) (spans starts ends) Ids)
      → new order
      ≡ pad (length (old order)) (support_order (nvars_in (old f) (spans starts ends)) (u32s_in (old f) (spans starts ends) Ids) (u32s_in (old f) (spans starts ends) Permids))
      → new permids ≡ pad (length (old permids)) (u32s_in (old f) (spans starts ends) Permids)
      → new auxids ≡ pad (length (old auxids)) (u32s_in (old f) (spans starts ends) Auxids)
      → new names ≡ pad (length (old names)) (map start_of (variable_names_in (old f) (spans starts ends)))
      → new lens ≡ pad (length (old lens)) (map len_of (variable_names_in (old f) (spans starts ends)))
      → new roots ≡ laid (map edge_of (roots_in (old f) (spans starts ends))) (replicate (length (old roots)) (pos 0))
      → new rootnames ≡ pad (length (old rootnames)) (map start_of (names_in root_limit (old f) (spans starts ends) Rootnames))
      → new rootlens ≡ pad (length (old rootlens)) (map len_of (names_in root_limit (old f) (spans starts ends) Rootnames))
      → LoadHeaderPromise f n ids order permids auxids names lens roots rootnames rootlens r
  load-leaves e0 e1 e2 e3 e4 e5 e6 e7 e8 =
      let loaded = all-loaded n (old f) (of_loaded r) w in
      record {
        answer = ap (λ l. l.answer) loaded;
        within = w.1.1.1.1.1;
        ids_left = e0 ∙ ap (λ l. pad (length (old ids)) l.ids) loaded;
        order_left = e1 ∙ ap (λ l. pad (length (old order)) l.order) loaded;
        permids_left = e2 ∙ ap (λ l. pad (length (old permids)) l.permids) loaded;
        auxids_left = e3 ∙ ap (λ l. pad (length (old auxids)) l.auxids) loaded;
        names_left = e4 ∙ ap (λ l. pad (length (old names)) (map start_of l.names)) loaded;
        lens_left = e5 ∙ ap (λ l. pad (length (old lens)) (map len_of l.names)) loaded;
        roots_left =
            e6 ∙ rw (held-edges n (old f) (of_loaded r) w) (ap (λ l. laid l.roots (replicate (length (old roots)) (pos 0))) loaded);
        rootnames_left = e7 ∙ ap (λ l. pad (length (old rootnames)) (map start_of l.rootnames)) loaded;
        rootlens_left = e8 ∙ ap (λ l. pad (length (old rootlens)) (map len_of l.rootnames)) loaded;
      }
