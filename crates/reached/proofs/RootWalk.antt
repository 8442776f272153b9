-- A walk from root to root: the nodes that the first roots lead to lie over the front of a lent list.
use mathlib.Core.Path.{◌≡◌, refl, ap, ◌∙◌}
use mathlib.Core.List.{List}
use Prim.Native.Nat.{ℕ, ◌+◌, ◌≤◌, ◌<◌}
use native.Mathlib.Omega.{arith}
use native.Mathlib.Numerals.{add-one}
use lib.ListN.{length, get_or, take, replicate}
use lib.Seq.{take-suc, take_all, get_or-take, length-take-le}
use lib.IntN.{ℤ, pos, nat_abs}
use Rattle.codes.proofs.Lent.{laid_none, length-laid}
use Rattle.store.specs.Store.{Store}
use Rattle.reached.specs.Walk.{first_met}
use Rattle.reached.specs.Meet.{meet, Seen, Meets, ListedNodes, Walks}
use Rattle.reached.proofs.Marks.{marks-none}
use Rattle.reached.proofs.Laid.{take-laid}
use Rattle.reached.proofs.Steps.{meet-longer}
use Rattle.reached.proofs.Walking.{walks-lead}
use Rattle.reached.proofs.FirstMeeting.{first-none, first_more}
use Rattle.reached.proofs.Meeting.{met-distinct, met-known, met-few}
use Rattle.reached.proofs.Listed.{listed-over}
use Rattle.reached.proofs.NodeWalk.{below_in}

-- listed nodes are the list's front, where there is room for them
listed-front : {nodes old met marks : List ℕ} {r : ℕ} → ListedNodes nodes old r met marks → length nodes ≤ length old → take r met ≡ nodes
listed-front {nodes} {old} a h = rw (a.many, a.lies) (take-laid nodes old h)

-- the nodes of the first i roots lie there
pub record RootsMet (σ : Store) (roots : List ℤ) (old met marks : List ℕ) (at i : ℕ) : Type 0 where
  pub within : i ≤ length roots
  pub listed : ListedNodes (first_met σ (take i roots)) old at met marks

-- none yet
pub roots-start : (σ : Store) (roots : List ℤ) (old marks : List ℕ) → marks ≡ replicate (length marks) 0 → RootsMet σ roots old old marks 0 0
roots-start σ roots old marks z =
    record { within = omega arith; listed = rw (first-none σ) (record { many = refl; lies = laid_none old; marked = marks-none marks z }) }

module _ {σ : Store} {roots : List ℤ} {old met marks : List ℕ} {at i : ℕ} (s : RootsMet σ roots old met marks at i) where
  -- the list keeps its length
  pub roots-length : length met ≡ length old
  roots-length = ap length s.listed.lies ∙ length-laid _ old

  -- in the end all of them lie there
  pub roots-end : length roots ≤ i → ListedNodes (first_met σ roots) old at met marks
  roots-end h = rw (take_all i roots h) at s.listed

  module _ {many : ℕ} (w : Walks σ roots (length old) many) (h : i < length roots) where
    -- the first i roots can be walked by themselves
    abbrev first : Walks σ (take i roots) (length old) many
    first =
        let l = length-take-le i roots s.within in
        record {
          below = w.below;
          roots_there = λ j k. rw (get_or-take i roots j (pos 0) (omega arith)) (w.roots_there j (omega arith));
        }

    -- their nodes are the nodes met so far ..
    seen : Seen w.below.count (first_met σ (take i roots)) marks
    seen =
        record {
          known = met-known σ w.below.count (take i roots) (walks-lead first);
          once = met-distinct σ w.below.count (take i roots) (walks-lead first);
          marked = s.listed.marked;
        }

    -- .. no more than the store's ..
    few-met : length (first_met σ (take i roots)) ≤ w.below.count
    few-met = met-few σ w.below.count (take i roots) (walks-lead first)

    -- .. as the list's front
    front : take at met ≡ first_met σ (take i roots)
    front = let b = w.below in listed-front s.listed (omega (arith, few-met))

    module _ {k : ℕ} (e : k ≡ nat_abs (get_or roots i (pos 0))) where
      -- the walk may go on to the next root
      pub roots-next : length marks ≡ many → Meets σ met marks at k
      roots-next g =
          let b = w.below in
          let p = w.roots_there i h in
          let l = roots-length in
          record {
            below = below_in b (length met) (length marks) (omega arith) (omega arith);
            some = rw e p.0;
            there = rw e p.1;
            within = omega (arith, s.listed.many, few-met);
            seen = rw front seen;
          }

      -- and then its nodes lie there too
      pub roots-more : {r : ℕ} {met' marks' : List ℕ} → ListedNodes (meet σ (take at met) k) met r met' marks' → RootsMet σ roots old met' marks' r (i + 1)
      roots-more l =
          let b = w.below in
          let p = w.roots_there i h in
          record {
            within = omega arith;
            listed =
                rw (add-one, take-suc roots i (pos 0), first_more σ b.count (take i roots) (get_or roots i (pos 0)) (walks-lead first) p.0 p.1)
                (listed-over s.listed (meet-longer σ _ _) (rw (front, e) at l));
          }
