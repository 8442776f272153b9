-- Demand 2, second part: each root of an accepted load answers in the store as the file's own lines do. The store keeps the rules and has
-- only grown.
use mathlib.Core.Path.{◌≡◌, ap, ◌∙◌}
use mathlib.Core.List.{List, ◌∷◌}
use mathlib.Core.Option.{some}
use Prim.Native.Nat.{ℕ, ◌≤◌, ◌<◌}
use native.Mathlib.Omega.{arith}
use lib.ListN.{length, get_or, get_elem?, replicate, length-replicate}
use lib.IntN.{ℤ, pos}
use Rattle.codes.specs.Limits.{Limits, root_limit}
use Rattle.codes.specs.Lent.{laid}
use Rattle.read_lines.specs.Each.{Each, each}
use Rattle.codes.proofs.Lent.{length-laid}
use Rattle.header_values.specs.Values.{roots_in}
use Rattle.header_values.proofs.Counted.{roots-most}
use Rattle.store.specs.Store.{Store}
use Rattle.store.specs.Meaning.{Setting}
use Rattle.node_lines.specs.Says.{says}
use Rattle.header.specs.Header.{Header, header, table_of}
use Rattle.imported.specs.Import.{lines_in}
use Rattle.imported.specs.Acceptance.{NodesLeft}
use Rattle.level_list.proofs.LevelLists.{list-levels}
use Rattle.imported.proofs.Acceptance.{roots-say}
use Rattle.imported.proofs.SaysAs.{get_d-there}
use Rattle.calls.specs.Load.{Load, header_of, setup_of, nodes_of, load_of}
use Rattle.calls.specs.Acceptance.{Accepts}
use Rattle.calls.specs.Roots.{RootGained, Gains, load_says}
use Rattle.calls.proofs.HeaderStands.{sound-read, answer-roots}
use Rattle.calls.proofs.Passes.{passes-load}
use Rattle.calls.proofs.Accepted.{said_by, sound-of, list-fits, accepts-passes, answered}
use Rattle.calls.proofs.RootEntries.{laid-entry, laid-rest}

-- the first of the root lists is long enough
first-long : {least n : ℕ} {l : List ℕ} → Each (λ k. least ≤ k) (n ∷ l) → least ≤ n
first-long (each h e) = h

module _ (m : Limits) (c : Load) (σ : Store) where
  -- the numbers of the roots, in the file
  abbrev ids : List ℤ
  ids = roots_in c.file (table_of c.file)

  -- and as the nodes find them
  abbrev lent-ids : List ℤ
  lent-ids = laid (header_of m c σ).roots (replicate c.lent.roots (pos 0))

  -- the header of an accepted load gives those of the file
  header-roots : (h : Header) → (header_of m c σ).answer ≡ header h → (header_of m c σ).roots ≡ ids
  unfolding header_of
  header-roots h q = answer-roots m _ c.file h q

  module _ (A : Accepts m c σ) where
    -- so that each stands at its entry
    lent-id : (i : ℕ) → i < length ids → get_or lent-ids i (pos 0) ≡ get_or ids i (pos 0)
    lent-id i k =
        let few = roots-most c.file (table_of c.file) in
        let long : root_limit ≤ c.lent.roots = first-long A.roots_long in
        ap (λ l. get_or (laid l (replicate c.lent.roots (pos 0))) i (pos 0)) (header-roots (said_by m c σ A) (accepts-passes m c σ A).header_read)
        ∙ laid-entry ids c.lent.roots i (omega arith) k

    -- the lent list is as long as it was, which is long enough
    ids_long : length ids ≤ length lent-ids
    ids_long =
        let few = roots-most c.file (table_of c.file) in
        let long : root_limit ≤ c.lent.roots = first-long A.roots_long in
        omega (arith, length-laid (header_of m c σ).roots (replicate c.lent.roots (pos 0)), length-replicate c.lent.roots (pos 0))

    -- and 0 after them
    lent-rest : (i : ℕ) → length ids ≤ i → get_or lent-ids i (pos 0) ≡ pos 0
    lent-rest i k =
        ap (λ l. get_or (laid l (replicate c.lent.roots (pos 0))) i (pos 0)) (header-roots (said_by m c σ A) (accepts-passes m c σ A).header_read)
        ∙ laid-rest ids c.lent.roots i k

    -- what the nodes leave
    nodes-leave : NodesLeft m (setup_of c σ.levels (said_by m c σ A)) σ c.file A.next lent-ids (nodes_of m c σ (said_by m c σ A))
    nodes-leave =
        let p = accepts-passes m c σ A in
        roots-say _ σ c.file A.next _ A.rules (list-levels _ _ c.list (list-fits m c σ A)) p.at p.nodes_read

    -- what the file says of a root, by the lines of these nodes
    said-by : (i : ℕ) (r : ℤ) → get_elem? ids i ≡ some r → (s : Setting)
        → load_says m c σ i s ≡ says c.list (lines_in (setup_of c σ.levels (said_by m c σ A)) c.file A.next).lines s r
    said-by i r q s = rw (sound-read m c.file (said_by m c σ A) (sound-of m c σ A), q)

    -- an entry of the file's `.rootids` gives its root
    root-gained : (i : ℕ) → i < length ids → RootGained m c σ (load_of m c σ) i
    root-gained i k =
        let p = accepts-passes m c σ A in
        let e = lent-id i k in
        let b = A.whole.roots i k in
        let s = nodes-leave.root i (rw e b.0) (rw e b.1) in
        rw (passes-load m c σ (said_by m c σ A) p) (record {
          root = get_or (nodes_of m c σ (said_by m c σ A)).roots i (pos 0);
          there = get_d-there (nodes_of m c σ (said_by m c σ A)).roots i (pos 0) (omega (arith, nodes-leave.as_many, ids_long, k));
          means = record { edge = s.edge; agrees = λ t. said-by i _ (get_d-there ids i (pos 0) k) t ∙ rw e at (s.agrees t) };
        })

    -- and after them stand zeros
    roots-unused : (i : ℕ) → length ids ≤ i → get_or (nodes_of m c σ (said_by m c σ A)).roots i (pos 0) ≡ pos 0
    roots-unused i k = nodes-leave.unused i (rw (lent-rest i k))

    -- and all this is what the load leaves
    load-gains : Gains m c σ (load_of m c σ)
    load-gains =
        let p = accepts-passes m c σ A in
        let q = passes-load m c σ (said_by m c σ A) p in
        record {
          rules = rw q nodes-leave.rules;
          grows = rw q nodes-leave.grows;
          root = root-gained;
          unused = rw q roots-unused;
        }

  -- Each root of an accepted load answers as the file's own lines do.
  pub roots-answer : (h : Header) → (load_of m c σ).answer ≡ header h → Gains m c σ (load_of m c σ)
  roots-answer h q = load-gains (answered m c σ h q)
