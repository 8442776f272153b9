-- One turn of each loop, over the lists that it is lent and as the code reads them: an edge x as `to_z edge_width (of_z edge_width x)`.
use Prim.Native.Nat.{ℕ, ◌-◌, ◌≤◌, ◌<◌}
use mathlib.Core.Path.{◌≡◌, refl, sym, ap, ap₂, ◌∙◌}
use mathlib.Core.Bool.{Bool, true, false, not, xor, beq}
use mathlib.Core.List.{List}
use native.Mathlib.Omega.{arith}
use native.Mathlib.Nat.{le_refl}
use lib.Dec.{eqb}
use lib.ListN.{length, set, replicate, length-set}
use lib.IntN.{ℤ, pos, negsuc, nat_abs}
use Rattle.edges.specs.Width.{edge_limit}
use Rattle.edges.specs.Edge.{minus, turn}
use Rattle.codes.specs.Answer.{value, refused}
use Rattle.store.specs.Store.{Store, level_at}
use Rattle.store.specs.Rules.{depth}
use Rattle.store.specs.Meaning.{setting_of}
use Rattle.evaluation.specs.Evaluated.{Walks}
use Rattle.evaluation.proofs.Walk.{lists-node, lists-answer, lists-depth, walks-lower, edge-under}
use Rattle.tipping.specs.Tip.{flipped, tips, lowest_from}
use Rattle.tipping.specs.Course.{mark_of, recall_of, open_at, Marked, WayAsks}
use Rattle.tipping.proofs.Calling.{tips-slots}
use Rattle.tipping.proofs.Flips.{xor-differ}
use Rattle.tipping.proofs.Least.{is-lowest, none-lowest}
use Rattle.tipping.proofs.Marks.{mark-says, recall-none, recalled, open-inside, marked-set, marked-zeros}
use Rattle.tipping.proofs.Reading.{back, up_to, node_in, answer_in, taken_in, other_in, node-up, answer-up, turn-here, taken-some, taken-less, taken_back, other-some, other-less, other-back, node-on, here_on}
use Rattle.tipping.proofs.Ways.{Down, down-start, down-found, down-on, down-end}

-- signs, as the code takes them along
turn_odd : (e : ℤ) (a : Bool) → turn e a ≡ xor (minus e) a
unfolding turn minus xor
turn_odd (pos n) true = refl
turn_odd (pos n) false = refl
turn_odd (negsuc n) true = refl
turn_odd (negsuc n) false = refl

differ-odd : (a odd : Bool) → not (beq a odd) ≡ xor odd a
unfolding xor
differ-odd true true = refl
differ-odd true false = refl
differ-odd false true = refl
differ-odd false false = refl

-- An edge asked.
pub record Asking (σ : Store) (setting : List ℕ) (marks : List ℕ) (e : ℤ) (n : ℕ) (odd : Bool) (mark : ℕ) : Type 0 where
  pub asks : WayAsks σ setting marks e
  pub some : 1 ≤ n
  pub there : n ≤ nat_abs e
  pub answers : answer_in σ setting e ≡ xor odd (node_in σ setting n)
  pub mark_is : mark ≡ recall_of marks n

-- Answers remembered.
pub record Remembering (σ : Store) (setting : List ℕ) (start marks : List ℕ) (e : ℤ) (n : ℕ) (here : Bool) : Type 0 where
  pub walks : Walks σ setting (nat_abs e)
  pub some : 1 ≤ n
  pub there : n ≤ nat_abs e
  pub long : length marks ≡ length start
  pub marked : Marked σ (setting_of setting) marks
  pub here_is : here ≡ node_in σ setting n

-- The way of a root gone down.
pub record Descending (σ : Store) (setting : List ℕ) (start marks : List ℕ) (e : ℤ) (n : ℕ) (here : Bool) : Type 0 where
  pub walks : Walks σ setting (nat_abs e)
  pub long : length marks ≡ length start
  pub marked : Marked σ (setting_of setting) marks
  pub here_is : here ≡ node_in σ setting n
  pub down : Down (up_to σ setting (nat_abs e)) e (setting_of setting) n

-- what tips is a matter of the lists alone
tips-up : (σ : Store) (setting : List ℕ) (e : ℤ)
    → lowest_from (tips σ e (setting_of setting)) 0 (length setting)
    ≡ lowest_from (tips (up_to σ setting (nat_abs e)) e (setting_of setting)) 0 (length setting)
tips-up σ setting e =
    ap (λ f. lowest_from f 0 (length setting))
    (tips-slots σ e (setting_of setting) ∙ sym (tips-slots (up_to σ setting (nat_abs e)) e (setting_of setting)))

module _ {σ : Store} {setting : List ℕ} where
  pub asking-start : {marks : List ℕ} {e : ℤ} → WayAsks σ setting marks e → {k m : ℕ} {b : Bool} → k ≡ nat_abs e → b ≡ minus e
      → m ≡ recall_of marks k → Asking σ setting marks e k b m
  asking-start {marks} {e} w q r t =
      rw (q, r) (record {
        asks = w;
        some = w.some;
        there = le_refl (nat_abs e);
        answers = turn_odd e (node_in σ setting (nat_abs e));
        mark_is = t ∙ ap (recall_of marks) q;
      })

  module _ {marks : List ℕ} {e : ℤ} {n mark : ℕ} {odd : Bool} (A : Asking σ setting marks e n odd mark) where
    pub asking_walks : Walks σ setting n
    asking_walks = walks-lower A.asks.walks n A.there

    module _ (z : mark ≡ 0) where
      pub asking-two : 2 ≤ n
      asking-two = recall-none marks n (sym A.mark_is ∙ z)

      module _ {x : ℤ} {b : Bool} {k : ℕ} (q : x ≡ taken_in σ setting n) (r : b ≡ minus (back x)) (t : k ≡ nat_abs (back x)) where
        next_is : k ≡ nat_abs (taken_in σ setting n)
        next_is = t ∙ ap (λ y. nat_abs (back y)) q ∙ ap nat_abs (taken_back asking_walks asking-two)

        pub asking-less : k < n
        asking-less = omega (arith, next_is, taken-less asking_walks asking-two)

        pub asking-on : {m : ℕ} → m ≡ recall_of marks k → Asking σ setting marks e k (not (beq odd b)) m
        asking-on u =
            record {
              asks = A.asks;
              some = omega (arith, next_is, taken-some asking_walks asking-two);
              there = omega (arith, asking-less, A.there);
              answers = A.answers ∙ ap (xor odd) (node-on asking_walks asking-two)
                  ∙ sym (edge-under σ (setting_of setting) odd (taken_in σ setting n) (r
                  ∙ ap (λ y. minus (back y)) q ∙ ap minus (taken_back asking_walks asking-two)) next_is refl);
              mark_is = u;
            }

    pub asking-end : (mark ≡ 0 → ⊥) → {r : ℤ} → e ≡ r → not (beq (eqb mark 2) odd) ≡ answer_in σ setting r
    asking-end h v =
        let m : mark ≡ mark_of (node_in σ setting n) = A.mark_is
        ∙ recalled σ (setting_of setting) marks A.asks.marked n A.some (λ y. h (A.mark_is ∙ y)) in
        ap (λ x. not (beq (eqb x 2) odd)) m ∙ ap (λ x. not (beq x odd)) (mark-says (node_in σ setting n))
        ∙ differ-odd (node_in σ setting n) odd
        ∙ sym A.answers ∙ ap (answer_in σ setting) v

  pub remembering-start : {marks : List ℕ} {e : ℤ} {says : Bool} → WayAsks σ setting marks e
      → says ≡ answer_in σ setting e → {k : ℕ} {b : Bool}
      → k ≡ nat_abs e → b ≡ minus e → Remembering σ setting marks marks e k (not (beq says b))
  remembering-start {marks} {e} w a q r =
      rw (q, r, a) (record {
        walks = w.walks;
        some = w.some;
        there = le_refl (nat_abs e);
        long = refl;
        marked = w.marked;
        here_is = turn-here e (node_in σ setting (nat_abs e));
      })

  module _ {start marks : List ℕ} {e : ℤ} {n : ℕ} {here : Bool} (R : Remembering σ setting start marks e n here) where
    pub remembering-walks : Walks σ setting n
    remembering-walks = walks-lower R.walks n R.there

    pub node-small : n < edge_limit
    node-small = omega (arith, R.there, R.walks.small)

    module _ {o : Bool} (q : o ≡ open_at marks n) (h : o ≡ true) where
      pub open-two : 2 ≤ n
      open-two = (open-inside marks n (sym q ∙ h)).0

      pub open-long : n ≤ length marks
      open-long = (open-inside marks n (sym q ∙ h)).1

      module _ {x : ℤ} {b : Bool} {k : ℕ} (u : x ≡ taken_in σ setting n) (r : b ≡ minus (back x)) (t : k ≡ nat_abs (back x)) where
        next-node : k ≡ nat_abs (taken_in σ setting n)
        next-node = t ∙ ap (λ y. nat_abs (back y)) u ∙ ap nat_abs (taken_back remembering-walks open-two)

        pub remembering-less : k < n
        remembering-less = omega (arith, next-node, taken-less remembering-walks open-two)

        pub remembering-on : {v : ℕ} → v ≡ mark_of here → Remembering σ setting start (set marks (n - 1) v) e k (not (beq here b))
        remembering-on {v} w =
            record {
              walks = R.walks;
              some = omega (arith, next-node, taken-some remembering-walks open-two);
              there = omega (arith, remembering-less, R.there);
              long = length-set marks (n - 1) v ∙ R.long;
              marked = rw (w, R.here_is) (marked-set σ (setting_of setting) marks R.marked n R.some open-long);
              here_is = here_on remembering-walks open-two u r t R.here_is;
            }

  pub way-start : {marks : List ℕ} {e : ℤ} → 1 ≤ nat_abs e → Walks σ setting (nat_abs e) → (k : ℕ) → marks ≡ replicate k 0
      → WayAsks σ setting marks e
  way-start p W k z = record { walks = W; some = p; marked = rw z (marked-zeros σ (setting_of setting) k) }

  pub descending-start : {start marks : List ℕ} {e : ℤ} {says : Bool} → 1 ≤ nat_abs e → Walks σ setting (nat_abs e)
      → length marks ≡ length start → Marked σ (setting_of setting) marks → says ≡ answer_in σ setting e
      → {k : ℕ} {b : Bool} → k ≡ nat_abs e → b ≡ minus e
      → Descending σ setting start marks e k (not (beq says b))
  descending-start {e = e} p W l M a q r =
      rw (q, r, a) (record {
        walks = W;
        long = l;
        marked = M;
        here_is = turn-here e (node_in σ setting (nat_abs e));
        down = down-start (up_to σ setting (nat_abs e)) W.nodes e (setting_of setting) (record { some = p; there = le_refl (nat_abs e) });
      })

  module _ {start marks : List ℕ} {e : ℤ} {n : ℕ} {here : Bool} (D : Descending σ setting start marks e n here) where
    pub descending-walks : Walks σ setting n
    descending-walks = walks-lower D.walks n D.down.there

    pub way-small : n < edge_limit
    way-small = omega (arith, D.down.there, D.walks.small)

    pub way-holds : 2 ≤ n → n - 1 < length σ.level
    way-holds h = omega (arith, D.down.there, D.walks.level_long)

    -- What the way has settled in the store of the nodes up to the root's, it has settled in the store itself, where that has the root, and as
    -- many levels as the setting has bytes.
    module _ (there : nat_abs e ≤ σ.count) (as_long : length setting ≡ σ.levels) where
      tips-whole : (l : ℕ) → tips (up_to σ setting (nat_abs e)) e (setting_of setting) l ≡ tips σ e (setting_of setting) l
      tips-whole l =
          ap₂ xor (lists-answer σ (length setting) (nat_abs e) (flipped (setting_of setting) l) e)
          (lists-answer σ (length setting) (nat_abs e) (setting_of setting) e)

      depth-whole : depth (up_to σ setting (nat_abs e)) n ≡ depth σ n
      depth-whole = lists-depth σ (length setting) (nat_abs e) as_long n

      pub down-whole : Down σ e (setting_of setting) n
      down-whole =
          record {
            some = D.down.some;
            there = omega (arith, D.down.there, there);
            above = λ l h. sym (tips-whole l) ∙ D.down.above l (omega (arith, h, depth-whole));
            below = λ l h. sym (tips-whole l) ∙ D.down.below l (omega (arith, h, depth-whole))
                ∙ ap₂ xor (lists-node σ (length setting) (nat_abs e) (flipped (setting_of setting) l) n)
                (lists-node σ (length setting) (nat_abs e) (setting_of setting) n);
          }

    pub end-tipped : n ≤ 1 → {r : ℤ} → e ≡ r → refused 42 ≡ lowest_from (tips σ r (setting_of setting)) 0 (length setting)
    end-tipped h q =
        let τ = up_to σ setting (nat_abs e) in
        sym (ap (λ x. lowest_from (tips σ x (setting_of setting)) 0 (length setting)) (sym q) ∙ tips-up σ setting e
        ∙ none-lowest (tips τ e (setting_of setting)) (length setting) (down-end τ D.walks.nodes e (setting_of setting) D.down h))

    module _ (p : 2 ≤ n) where
      -- the other edge is asked
      pub other-asks : {x : ℤ} → x ≡ other_in σ setting n → WayAsks σ setting marks (back x)
      other-asks q =
          rw (q, other-back descending-walks p) (record {
            walks = walks-lower descending-walks (nat_abs (other_in σ setting n)) (omega (arith, other-less descending-walks p));
            some = other-some descending-walks p;
            marked = D.marked;
          })

      module _ {x : ℤ} {turned : Bool} (q : x ≡ other_in σ setting n) (a : turned ≡ answer_in σ setting (back x)) where
        judged : not (beq turned here) ≡ xor (answer_in (up_to σ setting (nat_abs e)) setting (other_in σ setting n))
            (node_in (up_to σ setting (nat_abs e)) setting n)
        judged =
            xor-differ turned here
            ∙ ap₂ xor (a ∙ ap (λ y. answer_in σ setting (back y)) q
            ∙ ap (answer_in σ setting) (other-back descending-walks p)
            ∙ sym (answer-up σ setting (nat_abs e) (other_in σ setting n)))
            (D.here_is ∙ sym (node-up σ setting (nat_abs e) n))

        -- it answers otherwise than the node: the node's level tips
        pub found-tipped : not (beq turned here) ≡ true → {r : ℤ} → e ≡ r
            → value (level_at σ n) ≡ lowest_from (tips σ r (setting_of setting)) 0 (length setting)
        found-tipped h v =
            let τ = up_to σ setting (nat_abs e) in
            sym (ap (λ y. lowest_from (tips σ y (setting_of setting)) 0 (length setting)) (sym v) ∙ tips-up σ setting e
            ∙ is-lowest (tips τ e (setting_of setting)) (length setting) (level_at σ n)
            (down-found τ D.walks.nodes e (setting_of setting) D.down p (sym judged ∙ h)))

        -- it answers alike: on to the next node
        module _ (h : not (beq turned here) ≡ false) {t : ℤ} {b : Bool} {k : ℕ} (u : t ≡ taken_in σ setting n) (r : b ≡ minus
            (back t)) (w : k ≡ nat_abs (back t)) where
          next_way : k ≡ nat_abs (taken_in σ setting n)
          next_way = w ∙ ap (λ y. nat_abs (back y)) u ∙ ap nat_abs (taken_back descending-walks p)

          pub descending-less : k < n
          descending-less = omega (arith, next_way, taken-less descending-walks p)

          pub descending-on : {marks₁ : List ℕ} → length marks₁ ≡ length marks → Marked σ (setting_of setting) marks₁
              → Descending σ setting start marks₁ e k (not (beq here b))
          descending-on l M =
              record {
                walks = D.walks;
                long = l ∙ D.long;
                marked = M;
                here_is = here_on descending-walks p u r w D.here_is;
                down = rw next_way (down-on (up_to σ setting (nat_abs e)) D.walks.nodes e (setting_of setting) D.down p
                    (sym judged ∙ h));
              }
