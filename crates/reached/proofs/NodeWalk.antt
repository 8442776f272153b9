-- Walks as the code goes them: the nodes met so far are the first entries of a lent list, each is marked, and the marks are the way back.
use mathlib.Core.Path.{◌≡◌, refl, sym, ap, ◌∙◌}
use mathlib.Core.List.{List, [], ◌∷◌, ◌++◌}
use Prim.Native.Nat.{ℕ, ◌+◌, ◌-◌, ◌≤◌, ◌<◌}
use native.Mathlib.Omega.{arith}
use native.Mathlib.Nat.{le_refl}
use lib.ListN.{length, get_or, take, set, length-set}
use lib.Seq.{length-take-le, take-set-le, get_or-set_same}
use Rattle.std.proofs.Common.{Some, None}
use Rattle.codes.specs.Limits.{node_limit}
use Rattle.codes.proofs.Lent.{length-laid}
use Rattle.store.specs.Store.{Store}
use Rattle.reached.specs.Meet.{meet, children_of, first_unmarked, Looks, Below, Meets, ListedNodes}
use Rattle.reached.proofs.Members.{Among, Each}
use Rattle.reached.proofs.Children.{Lower, children-low}
use Rattle.reached.proofs.Marks.{marks-in}
use Rattle.reached.proofs.Laid.{laid-front}
use Rattle.reached.proofs.Steps.{meet-old}
use Rattle.reached.proofs.Left.{meet_nodes, First, nodes-new, nodes-marked, nodes-first}
use Rattle.reached.proofs.Way.{Way, ends, back, way-among, way_end, way_step, way-kept}
use Rattle.reached.proofs.Listed.{NodesHeld, listed-over, listed-self, held_new, held-few, held-one-more}

-- what a walk leans on, in lists of other lengths that have the room
abbrev pub below_in : {σ : Store} {room many : ℕ} (b : Below σ room many) (room' many' : ℕ) → b.count ≤ room' → b.count ≤ many'
    → Below σ room' many'
below_in b room' many' h i =
    record {
      count = b.count;
      descends = b.descends;
      then_long = b.then_long;
      els_long = b.els_long;
      met_long = h;
      marks_long = i;
      small = b.small;
    }

-- A walk has come to node n: what is met once its children are, and what is to be met on the way back, is all that is to be met.
pub record Walking (σ : Store) (all old : List ℕ) (many start : ℕ) (met marks : List ℕ) (at n : ℕ) : Type 0 where
  pub below : Below σ (length old) many
  pub long : length marks ≡ many
  pub nodes : List ℕ
  pub held : NodesHeld below.count nodes old at met marks
  pub grown : start ≤ at
  pub rest : List ℕ
  pub way : Way σ below.count marks n rest
  pub left : meet_nodes σ nodes (children_of σ n ++ rest) ≡ all

module _ {σ : Store} {all old : List ℕ} {many start : ℕ} {met marks : List ℕ} {at n : ℕ} (w : Walking σ all old many start met marks at n) where
  -- the list keeps its length
  pub walk-length : length met ≡ length old
  walk-length = ap length w.held.listed.lies ∙ length-laid w.nodes old

  -- the node is one of the store's
  here : Among w.below.count n
  here = way-among w.way

  pub walk-small : n ≤ node_limit
  walk-small = let b = w.below in omega (arith, here.1)

  -- the children of the node are lower
  lower : Each (Lower n) (children_of σ n)
  lower = children-low σ w.below.count w.below.descends n here

  lower-among : Each (Among w.below.count) (children_of σ n)
  lower-among x h = let l = lower x h in (l.0, omega (arith, here.1))

  marks-reach : w.below.count ≤ length marks
  marks-reach = let b = w.below in omega (arith, w.long)

  -- they can be looked at
  pub walk_looks : Looks σ (length marks) n
  walk_looks =
      let b = w.below in
      let a = here in
      let l = marks-reach in
      record {
        some = a.0;
        then_there = omega arith;
        else_there = omega arith;
        mark_there = omega arith;
        descends = λ two. b.descends n two a.1;
      }

  -- Where all of them are marked, the walk goes back.
  module _ (e : None ≡ first_unmarked marks (children_of σ n)) where
    -- nothing is to be met but what the way back has
    passed-by : meet_nodes σ w.nodes w.rest ≡ all
    passed-by =
        let b = w.below in
        sym (nodes-marked σ b.count b.descends w.nodes marks w.held.listed.marked marks-reach _ w.rest lower-among (sym e)) ∙ w.left

    -- that is nothing at its end
    pub walk_ends : get_or marks (n - 1) 0 ≡ n → ListedNodes all old at met marks
    unfolding meet_nodes
    walk_ends q = rw (← (ap (meet_nodes σ w.nodes) (sym (way_end w.way q)) ∙ passed-by)) w.held.listed

    module _ (q : get_or marks (n - 1) 0 ≡ n → ⊥) where
      -- else it goes up ..
      pub walk-higher : n < get_or marks (n - 1) 0
      walk-higher = (way_step w.way q).higher

      -- .. to the node that this one was met from
      pub walk_up : Walking σ all old many start met marks at (get_or marks (n - 1) 0)
      walk_up =
          let s = way_step w.way q in
          record {
            below = w.below;
            long = w.long;
            nodes = w.nodes;
            held = w.held;
            grown = w.grown;
            rest = s.more;
            way = s.on;
            left = ap (meet_nodes σ w.nodes) (sym s.next) ∙ passed-by;
          }

  -- Where one of them isn't marked, it goes down to the first such.
  module _ {c : ℕ} (e : Some c ≡ first_unmarked marks (children_of σ n)) where
    first : First σ w.below.count w.below.descends w.nodes marks w.held.listed.marked marks-reach (children_of σ n) w.rest c
    first =
        let b = w.below in
        nodes-first σ b.count b.descends w.nodes marks w.held.listed.marked marks-reach (children_of σ n) w.rest c lower-among e

    child : Lower n c
    child = lower c first.one

    child-among : Among w.below.count c
    child-among = lower-among c first.one

    -- it can have a mark
    pub walk-mark : Among (length marks) c
    walk-mark = (child-among.0, omega (arith, child-among, marks-reach))

    -- there is room for it
    pub walk-room : (at < length old) × (at < node_limit)
    walk-room = let b = w.below in let f = held-few w.held child-among marks-reach first.free in (omega arith, omega arith)

    -- it is stored, and its mark is the node that it is met from
    pub walk-down : Walking σ all old many start (set met at c) (set marks (c - 1) n) (at + 1) c
    walk-down =
        record {
          below = w.below;
          long = length-set marks (c - 1) n ∙ w.long;
          nodes = w.nodes ++ (c ∷ []);
          held = held-one-more w.held child-among marks-reach first.free n here.0;
          grown = omega (arith, w.grown);
          rest = children_of σ n ++ w.rest;
          way =
              back child-among child.1 (get_or-set_same marks (c - 1) n 0 (omega (arith, child.0, walk-mark)))
              (way-kept c n first.free w.way);
          left = sym first.next ∙ w.left;
        }

-- A walk on to node n.
module _ {σ : Store} {met marks : List ℕ} {at n : ℕ} (m : Meets σ met marks at n) where
  here-among : Among m.below.count n
  here-among = (m.some, m.there)

  marks_long : m.below.count ≤ length marks
  marks_long = m.below.marks_long

  -- the nodes met so far
  before : NodesHeld m.below.count (take at met) met at met marks
  before =
      record {
        known = m.seen.known;
        once = m.seen.once;
        listed = record { many = sym (length-take-le at met m.within); lies = sym (laid-front at met); marked = m.seen.marked };
      }

  -- a node with a mark is passed over
  pub passed : (get_or marks (n - 1) 0 ≡ 0 → ⊥) → ListedNodes (meet σ (take at met) n) met at met marks
  passed z =
      let h = marks-in (take at met) marks n m.seen.marked m.some (omega (arith, m.there, marks_long)) z in
      rw (meet-old σ (take at met) n h) before.listed

  -- A node without a mark is stored and marked.
  module _ (z : get_or marks (n - 1) 0 ≡ 0) where
    pub stored-room : at < length met
    stored-room = let b = m.below in omega (arith, held-few before here-among marks_long z)

    stored : NodesHeld m.below.count (take at met ++ (n ∷ [])) met (at + 1) (set met at n) (set marks (n - 1) n)
    stored = held-one-more before here-among marks_long z n m.some

    -- the walk begins with it ..
    pub walk-starts : Walking σ (meet σ (take at (set met at n)) n) (set met at n) (length (set marks (n - 1) n)) (at + 1)
        (set met at n) (set marks (n - 1) n) (at + 1) n
    unfolding meet_nodes
    walk-starts =
        let b = m.below in
        record {
          below = below_in b _ _ (omega (arith, length-set met at n)) (omega (arith, length-set marks (n - 1) n));
          long = refl;
          nodes = take at met ++ (n ∷ []);
          held = record { known = stored.known; once = stored.once; listed = listed-self stored.listed };
          grown = le_refl (at + 1);
          rest = [];
          way = ends here-among (get_or-set_same marks (n - 1) n 0 (omega (arith, here-among, marks_long)));
          left =
              sym (nodes-new σ b.count b.descends (take at met) [] n here-among (held_new before here-among marks_long z))
              ∙ ap (λ l. meet σ l n) (sym (take-set-le at met at n (le_refl at)));
        }

    -- .. and has met what was to be met where it ends
    pub walk-met : {r : ℕ} {met' marks' : List ℕ} → at + 1 ≤ r
        → ListedNodes (meet σ (take at (set met at n)) n) (set met at n) r met' marks' → ListedNodes (meet σ (take at met) n) met r met' marks'
    walk-met h l =
        let k = rw (take-set-le at met at n (le_refl at)) at l in
        listed-over stored.listed (omega (arith, stored.listed.many, k.many)) k
