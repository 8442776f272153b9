-- Nodes that a walk has listed and marked, one more at a time.
use mathlib.Core.Path.{◌≡◌, sym, ap, ◌∙◌}
use mathlib.Core.Bool.{true, false}
use mathlib.Core.List.{List, [], ◌∷◌, ◌++◌}
use Prim.Native.Nat.{ℕ, ◌+◌, ◌-◌, ◌≤◌, ◌<◌}
use native.Mathlib.Omega.{arith}
use native.Mathlib.Nat.{le_refl}
use lib.ListN.{length, get_or, set, length-append}
use Rattle.codes.specs.Lent.{laid}
use Rattle.codes.proofs.Lent.{laid_more}
use Rattle.seats.specs.Ordered.{distinct}
use Rattle.reached.specs.Meet.{is_in, ListedNodes}
use Rattle.reached.proofs.Members.{Among, Each, each_more, once_more}
use Rattle.reached.proofs.Few.{few}
use Rattle.reached.proofs.Marks.{marks-out, marks-more}
use Rattle.reached.proofs.Laid.{laid-over}

-- nodes that are listed after others, over which they lie
pub listed-over : {nodes more old met met' marks marks' : List ℕ} {r r' : ℕ} → ListedNodes nodes old r met marks → length nodes ≤ length more
    → ListedNodes more met r' met' marks' → ListedNodes more old r' met' marks'
listed-over {nodes} {more} {old} a h b =
    record { many = b.many; lies = b.lies ∙ ap (laid more) a.lies ∙ laid-over nodes more old h; marked = b.marked }

-- they lie over themselves too
pub listed-self : {nodes old met marks : List ℕ} {r : ℕ} → ListedNodes nodes old r met marks → ListedNodes nodes met r met marks
listed-self {nodes} {old} a =
    record { many = a.many; lies = a.lies ∙ sym (ap (laid nodes) a.lies ∙ laid-over nodes nodes old (le_refl _)); marked = a.marked }

-- listed nodes that are the store's, none twice
pub record NodesHeld (count : ℕ) (nodes old : List ℕ) (at : ℕ) (met marks : List ℕ) : Type 0 where
  pub known : Each (Among count) nodes
  pub once : distinct nodes ≡ true
  pub listed : ListedNodes nodes old at met marks

-- One that has no mark comes to them.
module _ {count : ℕ} {nodes old : List ℕ} {at : ℕ} {met marks : List ℕ} (h : NodesHeld count nodes old at met marks)
    {n : ℕ} (a : Among count n) (long : count ≤ length marks) (z : get_or marks (n - 1) 0 ≡ 0) where
  reach : n ≤ length marks
  reach = omega (arith, a.1)

  -- it wasn't among them
  pub held_new : is_in n nodes ≡ false
  held_new = marks-out nodes marks n h.listed.marked a.0 reach z

  more-known : Each (Among count) (nodes ++ (n ∷ []))
  more-known = each_more (Among count) n nodes a h.known

  more-once : distinct (nodes ++ (n ∷ [])) ≡ true
  more-once = once_more n nodes held_new h.once

  more-long : length (nodes ++ (n ∷ [])) ≡ at + 1
  more-long = length-append nodes (n ∷ []) ∙ ap (λ k. k + 1) (sym h.listed.many)

  -- so they weren't all of the store's
  pub held-few : at < count
  held-few = omega (arith, more-long, few count _ more-known more-once)

  -- it is stored after them, with any mark
  pub held-one-more : (x : ℕ) → 1 ≤ x → NodesHeld count (nodes ++ (n ∷ [])) old (at + 1) (set met at n) (set marks (n - 1) x)
  held-one-more x o =
      let l = h.listed in
      record {
        known = more-known;
        once = more-once;
        listed = record {
          many = sym more-long;
          lies = rw (l.lies, l.many) (laid_more nodes old n);
          marked = marks-more nodes marks n l.marked a.0 reach x o;
        };
      }
