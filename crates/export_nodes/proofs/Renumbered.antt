-- The numbers of an export's lines. Document 01, 'Export': 'Nodes: the terminal if reached, then deepest level first'. So children have
-- lower numbers than their node, as they have in the store.
use mathlib.Core.Path.{◌≡◌, refl}
use mathlib.Core.List.{List}
use Prim.Native.Nat.{ℕ, zero, suc, ◌+◌, ◌-◌, ◌≤◌, ◌<◌}
use native.Mathlib.Omega.{arith}
use native.Mathlib.Decide.{dec_le}
use lib.ListN.{length, get_or}
use lib.IntN.{ℤ, pos, nat_abs}
use Rattle.codes.specs.Limits.{Limits}
use Rattle.edges.specs.Edge.{minus}
use Rattle.store.specs.Store.{Store, level_at, then_at, else_at}
use Rattle.store.specs.Rules.{depth, Fits}
use Rattle.store.specs.Growth.{EdgeOf}
use Rattle.store.proofs.Meaning.{depth-node}
use Rattle.seats.specs.Seats.{seat_of}
use Rattle.seats.proofs.Seating.{seat-most}
use Rattle.reached.specs.Reached.{Reached, root, then, els}
use Rattle.reached.proofs.Grown.{reached-node}
use Rattle.reached.proofs.EntrySeats.{seat-entry}
use Rattle.numbering.specs.Numbering.{numbering}
use Rattle.numbering.proofs.Lines.{lines-all, lines-only, lines-fall, lines-count}
use Rattle.export_nodes.specs.Lines.{renumbered}
use Rattle.export_nodes.specs.Exported.{Exported}
use Rattle.export_nodes.proofs.EdgeNumbers.{signed-abs}

-- at its seat a number stands
pub seat-back : (x : ℕ) (l : List ℕ) → 1 ≤ seat_of x l → get_or l (seat_of x l - 1) 0 ≡ x
seat-back x l h = seat-entry x (seat_of x l - 1) l (omega arith)

-- an edge whose node is one of the first k that have a line
pub record Numbered (ns : List ℕ) (k : ℕ) (c : ℤ) : Type 0 where
  pub some : 1 ≤ seat_of (nat_abs c) ns
  pub early : seat_of (nat_abs c) ns ≤ k

module _ (ns : List ℕ) (c : ℤ) where
  -- it becomes the number of that line
  pub renumbered-abs : nat_abs (renumbered ns c) ≡ seat_of (nat_abs c) ns
  unfolding renumbered
  renumbered-abs = signed-abs (minus c) (seat_of (nat_abs c) ns)

  -- a positive edge stays positive
  pub renumbered-plain : c ≡ pos (nat_abs c) → renumbered ns c ≡ pos (nat_abs (renumbered ns c))
  unfolding renumbered minus
  renumbered-plain h = rw h

-- a node that comes after i others and isn't the terminal: its children are among those
pub record InnerAt (σ : Store) (ns : List ℕ) (i n : ℕ) : Type 0 where
  pub node : 2 ≤ n
  pub there : n ≤ σ.count
  pub seated : 1 ≤ seat_of n ns
  pub fits : Fits σ n (level_at σ n) (then_at σ n) (else_at σ n)
  pub then : Numbered ns i (then_at σ n)
  pub els : Numbered ns i (else_at σ n)

-- a node that comes after i others
pub data NodeAt (σ : Store) (ns : List ℕ) (i : ℕ) : ℕ → Type 0 where
  terminal_at : NodeAt σ ns i 1
  inner_at : {n : ℕ} → InnerAt σ ns i n → NodeAt σ ns i n

module _ {m : Limits} {σ : Store} {roots : List ℤ} (E : Exported m σ roots) where
  abbrev ns : List ℕ
  ns = numbering σ roots

  -- the roots lead to nodes of the store
  met-node : {n : ℕ} → Reached σ roots n → EdgeOf σ (pos n)
  met-node = reached-node E.rules.nodes E.roots_there

  -- each that they lead to has a line ..
  all : (n : ℕ) → Reached σ roots n → 1 ≤ seat_of n ns
  all = lines-all σ roots E.rules.nodes E.roots_there

  -- .. and no other
  only : (i : ℕ) → i < length ns → Reached σ roots (get_or ns i 0)
  only = lines-only σ roots E.rules.nodes E.roots_there

  -- so each line has a node of the store
  pub entry-node : (i : ℕ) → i < length ns → EdgeOf σ (pos (get_or ns i 0))
  entry-node i h = met-node (only i h)

  -- and there are no more lines than nodes
  pub lines-few : length ns ≤ σ.count
  lines-few = lines-count σ roots E.rules.nodes E.roots_there

  -- 'deepest level first'
  deepest : (i k : ℕ) → i + k < length ns → depth σ (get_or ns (i + k) 0) ≤ depth σ (get_or ns i 0)
  deepest i zero h = let e : i + 0 ≡ i = omega arith in rw e (omega arith)
  deepest i (suc k) h =
      let e : i + suc k ≡ i + k + 1 = omega arith in
      rw e (omega (arith, lines-fall σ roots E.rules.nodes E.roots_there (i + k) (omega arith), deepest i k (omega arith)))

  -- a node that lies deeper than another has an earlier line
  deeper-early : (i n : ℕ) → i < length ns → 1 ≤ seat_of n ns → depth σ (get_or ns i 0) < depth σ n → seat_of n ns ≤ i
  deeper-early i n h k d = go (dec_le (seat_of n ns) i)
    where
      go : Dec (seat_of n ns ≤ i) → seat_of n ns ≤ i
      go (yes p) = p
      go (no f) =
          let e : i + (seat_of n ns - 1 - i) ≡ seat_of n ns - 1 = omega (arith, f) in
          let m = deepest i (seat_of n ns - 1 - i) (omega (arith, e, seat-most n ns)) in
          absurd (omega (arith, rw (e, seat-back n ns k) at m))

  -- so children, which lie deeper than their node, have earlier lines
  pub inner-at : (i n : ℕ) → i < length ns → get_or ns i 0 ≡ n → 2 ≤ n → InnerAt σ ns i n
  inner-at i n h e p =
      let r : Reached σ roots n = rw e at (only i h) in
      let F = E.rules.nodes.fits n p (met-node r).there in
      record {
        node = p;
        there = (met-node r).there;
        seated = all n r;
        fits = F;
        then = child (then_at σ n) (then p r) F.then_deep;
        els = child (else_at σ n) (els p r) F.else_deep;
      }
    where
      child : (c : ℤ) → Reached σ roots (nat_abs c) → level_at σ n < depth σ (nat_abs c) → Numbered ns i c
      child c r d =
          let s = all (nat_abs c) r in
          record { some = s; early = deeper-early i (nat_abs c) h s (rw e (omega (arith, depth-node σ n p))) }

  -- the node of a line
  pub node_at : (i n : ℕ) → i < length ns → get_or ns i 0 ≡ n → NodeAt σ ns i n
  node_at i n h e = go n e (rw e at (entry-node i h))
    where
      go : (n : ℕ) → get_or ns i 0 ≡ n → EdgeOf σ (pos n) → NodeAt σ ns i n
      go zero e N = absurd (omega (arith, N.some))
      go (suc zero) e N = terminal_at
      go (suc (suc n)) e N = inner_at (inner-at i (suc (suc n)) h e (omega arith))

  -- by its seat
  pub seated-node : (n : ℕ) → 1 ≤ seat_of n ns → NodeAt σ ns (seat_of n ns - 1) n
  seated-node n h = node_at (seat_of n ns - 1) n (omega (arith, seat-most n ns)) (seat-back n ns h)

  -- a root has a line
  pub root-numbered : (i : ℕ) → i < length roots → Numbered ns (length ns) (get_or roots i (pos 0))
  root-numbered i h = record { some = all _ (root i h); early = seat-most _ ns }

  -- every node leads to the terminal
  to-terminal : (f n : ℕ) → n ≤ f → Reached σ roots n → Reached σ roots 1
  to-terminal zero n h r = absurd (omega (arith, (met-node r).some))
  to-terminal (suc f) n h r = go (dec_le 2 n) (to-terminal f)
    where
      go : Dec (2 ≤ n) → ((m : ℕ) → m ≤ f → Reached σ roots m → Reached σ roots 1) → Reached σ roots 1
      go (yes p) ih =
          let low = (E.rules.nodes.fits n p (met-node r).there).then_low in
          ih (nat_abs (then_at σ n)) (omega arith) (then p r)
      go (no q) ih = let e : n ≡ 1 = omega (arith, q, (met-node r).some) in rw e at r

  -- 'the terminal if reached, then ..': where there are lines its line is the first
  pub terminal-first : 0 < length ns → get_or ns 0 0 ≡ 1
  terminal-first h = go (get_or ns 0 0) refl (node_at 0 (get_or ns 0 0) h refl)
    where
      go : (n : ℕ) → get_or ns 0 0 ≡ n → NodeAt σ ns 0 n → n ≡ 1
      go n e terminal_at = refl
      go n e (inner_at I) =
          let s = all 1 (to-terminal n n (omega arith) (rw e at (only 0 h))) in
          let low = I.fits.level_low in
          absurd (omega (arith, deeper-early 0 1 h s (rw e (omega (arith, depth-node σ n I.node)))))
