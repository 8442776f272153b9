-- The loop of a join: where it stands, and that each turn of it leads on. What it does between two turns is a step of `join_course`, on the pairs that
-- its list holds.
use mathlib.Core.Path.{◌≡◌, refl, sym, ap, subst, ◌∙◌}
use mathlib.Core.Bool.{true, false, true≢false}
use mathlib.Core.List.{List, ◌∷◌}
use Prim.Native.Nat.{ℕ, zero, suc, ◌+◌, ◌-◌, ◌≤◌, ◌<◌}
use native.Mathlib.Omega.{arith}
use lib.ListN.{length, get_or, set, replicate, length-set, length-replicate}
use lib.IntN.{ℤ, pos}
use Rattle.codes.specs.Answer.{value, refused}
use Rattle.codes.specs.Limits.{limits}
use mir.Val.{to_z, of_z}
use Rattle.std.specs.Prelude.{Option, Some, None}
use Rattle.std.specs.Option.{is_some}
use Rattle.edges.specs.Width.{edge_width}
use Rattle.edges.specs.Edge.{IsEdge}
use Rattle.edges.proofs.Edge.{eq_z-refl}
use Rattle.edges.proofs.Signed.{edge-back}
use Rattle.store.specs.Store.{Store}
use Rattle.store.specs.Rules.{Rules}
use Rattle.store.specs.Growth.{EdgeOf, Grows}
use Rattle.store.specs.Make.{made, make, Makes}
use Rattle.store.proofs.Growth.{grow-edge}
use Rattle.insertion.specs.Known.{KnownNodes}
use Rattle.joined.specs.declared.Op.{Op}
use Rattle.joined.specs.Join.{top, join_of, Ready, SaysJoin}
use Rattle.join_steps.specs.declared.Split.{Split}
use Rattle.joined.specs.Shortcuts.{Apart}
use Rattle.joined.proofs.Shortcut.{apart-high}
use Rattle.join_steps.specs.Slots.{SplitAsks, SplitPromise}
use Rattle.join_steps.proofs.Slotted.{asks_of}
use Rattle.join_cache.specs.Cache.{Cached, Turnable, Keeps}
use Rattle.join_cache.proofs.Lines.{cached-turnable, cached-grows}
use Rattle.join_course.specs.declared.Waiting.{Waiting}
use Rattle.join_course.specs.Pairs.{waiting, first_pairs, lacks_then, given, steps_left}
use Rattle.join_course.specs.Course.{top_of, Going, Coming, JoinStands, coming, Goes, known, down, over}
use Rattle.join_course.proofs.Grown.{waiting_few}
use Rattle.join_course.proofs.Steps.{makes-node, node-rules, node-grows, node-says, node-comes, node-lacks}
use Rattle.join_course.proofs.Turns.{going_of, coming-of, stands-start, stands-end, goes_on, goes-less, made-less}
use Rattle.join_course.proofs.FirstPairs.{pairs-many, pairs_set}
use Rattle.joining.specs.Promises.{Known}

-- Where the loop stands, having begun with edges a and b of σ.
pub record Runs (width : ℕ) (o : Op) (σ : Store) (a b : ℤ) (τ : Store) (index : List ℕ) (cache : List ℤ) (w : List Waiting) (n : ℕ)
    (left right : ℤ) (result : Option ℤ) : Type 0 where
  pub rules : Rules limits τ
  pub found : KnownNodes width τ index
  pub cached : Cached τ cache
  pub long : length w ≡ 4096
  pub stands : JoinStands limits o (join_of limits o σ a b) τ (first_pairs w n) left right result

-- no pair
abbrev pub nothing : Waiting
nothing = waiting (pos 0) (pos 0) 0 (pos 0) (pos 0) (pos 0) 0

-- Edges as they are read back from their bits.
abbrev pub back : ℤ → ℤ
back e = to_z edge_width (of_z edge_width e)

edge-width : (τ : Store) (e : ℤ) → Rules limits τ → EdgeOf τ e → IsEdge e
edge-width τ e R E = omega (arith, E.there, R.sizes.count_limit)

edge-read : (τ : Store) (e : ℤ) → Rules limits τ → EdgeOf τ e → back e ≡ e
edge-read τ e R E = edge-back edge_width e (edge-width τ e R E)

edge-again : (τ : Store) (e : ℤ) → Rules limits τ → EdgeOf τ e → IsEdge (back e)
edge-again τ e R E = rw (edge-read τ e R E) (edge-width τ e R E)

-- the join of edges as they are read back
pub whole-read : (o : Op) (σ : Store) (a b : ℤ) → Ready limits σ a b → join_of limits o σ (back a) (back b) ≡ join_of limits o σ a b
whole-read o σ a b Q = rw (edge-read σ a Q.rules Q.left, edge-read σ b Q.rules Q.right)

pub runs-start : (width : ℕ) (o : Op) (σ : Store) (a b : ℤ) (index : List ℕ) (cache : List ℤ) → Ready limits σ a b → KnownNodes width σ index
    → Cached σ cache → Runs width o σ (back a) (back b) σ index cache (replicate 4096 nothing) 0 (back a) (back b) None
unfolding first_pairs
runs-start width o σ a b index cache Q K C = rw (edge-read σ a Q.rules Q.left, edge-read σ b Q.rules Q.right) (record {
  rules = Q.rules;
  found = K;
  cached = C;
  long = length-replicate 4096 nothing;
  stands = stands-start limits o σ a b Q;
})

-- the pair that waits last
last-pair : (w : List Waiting) (n : ℕ) → 1 ≤ n → first_pairs w n ≡ get_or w (n - 1) nothing ∷ first_pairs w (n - 1)
unfolding first_pairs
last-pair w zero h = absurd (omega arith)
last-pair w (suc k) h = let q : suc k - 1 ≡ k = omega arith in rw q

module _ {width : ℕ} {o : Op} {σ : Store} {a b : ℤ} {τ : Store} {index : List ℕ} {cache : List ℤ} {w : List Waiting} {n : ℕ} {left right : ℤ} where
  pub turnable : {r : Option ℤ} → Runs width o σ a b τ index cache w n left right r → Turnable cache
  turnable I = cached-turnable τ cache I.rules I.cached

  -- a pair is joined next
  module _ (I : Runs width o σ a b τ index cache w n left right None) where
    pub next-pair : Going limits o (join_of limits o σ a b) τ (first_pairs w n) left right
    next-pair = going_of limits o (join_of limits o σ a b) τ (first_pairs w n) left right None I.stands refl

    left-read : back left ≡ left
    left-read = edge-read τ left I.rules next-pair.left

    right-read : back right ≡ right
    right-read = edge-read τ right I.rules next-pair.right

    pub next-edges : IsEdge (back left) × IsEdge (back right)
    next-edges = (edge-again τ left I.rules next-pair.left, edge-again τ right I.rules next-pair.right)

    -- its result is known
    module _ (r : Option ℤ) (K : Known cache o (back left) (back right) r) (e : is_some r ≡ true) where
      known_step : Goes o τ (first_pairs w n) left right None (first_pairs w n) left right r
      known_step = go r (rw (left-read, right-read) at K) e
        where
          go : (r : Option ℤ) → Known cache o left right r → is_some r ≡ true → Goes o τ (first_pairs w n) left right None (first_pairs w n) left right r
          go (Some x) K e = known refl (K.says τ I.rules I.cached next-pair.left next-pair.right)
          go None K e = absurd (true≢false (sym e))

      pub runs-known : Runs width o σ a b τ index cache w n left right r
      runs-known = record {
        rules = I.rules;
        found = I.found;
        cached = I.cached;
        long = I.long;
        stands = goes_on limits o (join_of limits o σ a b) τ I.rules (first_pairs w n) left right None I.stands (first_pairs w n) left right r known_step;
      }

      pub known-less : steps_left τ.levels (first_pairs w n) r < steps_left τ.levels (first_pairs w n) None
      known-less =
          goes-less limits o (join_of limits o σ a b) τ (first_pairs w n) left right None I.stands (first_pairs w n) left right r known_step

    -- or it isn't: there is room for one pair more
    module _ (K : Known cache o (back left) (back right) None) where
      pub next-apart : Apart left right
      next-apart = (rw (left-read, right-read) at K).none τ I.rules next-pair.left next-pair.right refl

      pub next-asks : SplitAsks τ (back left) (back right)
      next-asks = rw (left-read, right-read) (asks_of τ left right next-pair.left next-pair.right next-apart I.rules)

      high : top τ left right < τ.levels
      high = apart-high limits o τ left right (record { rules = I.rules; left = next-pair.left; right = next-pair.right }) next-apart

      pub room : n < 4096
      room =
          let k = waiting_few o τ (first_pairs w n) (top τ left right) next-pair.waiting in
          omega (arith, pairs-many w n, high, I.rules.sizes.levels_limit)

      module _ (s : Split) (P : SplitPromise τ (back left) (back right) s) (line : ℕ) where
        S : SplitPromise τ left right s
        S = rw (left-read, right-read) at P

        abbrev pair : Waiting
        pair = waiting (back left) (back right) s.level (pos 0) s.els.left s.els.right line

        pushed : first_pairs (set w n pair) (n + 1) ≡ pair ∷ first_pairs w n
        pushed = let e : n + 1 ≡ suc n = omega arith in rw e (pairs_set w n pair (rw I.long room))

        down_step : Goes o τ (first_pairs w n) left right None (pair ∷ first_pairs w n) s.then.left s.then.right None
        down_step =
            rw (left-read, right-read) (down refl high S.level S.then.left S.then.right S.els.left S.els.right)

        pub runs-down : Runs width o σ a b τ index cache (set w n pair) (n + 1) s.then.left s.then.right None
        runs-down = record {
          rules = I.rules;
          found = I.found;
          cached = I.cached;
          long = length-set w n pair ∙ I.long;
          stands = rw pushed
              (goes_on limits o (join_of limits o σ a b) τ I.rules (first_pairs w n) left right None I.stands (pair ∷ first_pairs w n) s.then.left
              s.then.right None down_step);
        }

        pub down-less : steps_left τ.levels (first_pairs (set w n pair) (n + 1)) None < steps_left τ.levels (first_pairs w n) None
        down-less = rw pushed
            (goes-less limits o (join_of limits o σ a b) τ (first_pairs w n) left right None I.stands (pair ∷ first_pairs w n) s.then.left s.then.right
            None down_step)

  -- a result comes back
  module _ {x : ℤ} (I : Runs width o σ a b τ index cache w n left right (Some x)) where
    pub comes : Coming limits o (join_of limits o σ a b) τ (first_pairs w n) x
    comes = coming-of limits o (join_of limits o σ a b) τ (first_pairs w n) left right (Some x) x I.stands refl

    result-read : back x ≡ x
    result-read = edge-read τ x I.rules comes.edge

    -- to nothing that waits: it is the whole
    pub runs-end : n ≡ 0 → made x τ ≡ join_of limits o σ a b
    unfolding first_pairs
    runs-end e = stands-end limits o (join_of limits o σ a b) τ x (rw e at comes)

    -- to the pair that waits last
    module _ (k : 1 ≤ n) where
      abbrev last : Waiting
      last = get_or w (n - 1) nothing

      last-comes : Coming limits o (join_of limits o σ a b) τ (last ∷ first_pairs w (n - 1)) x
      last-comes = rw (last-pair w n k) at comes

      pub few : n ≤ 4096
      few =
          let c = waiting_few o τ (first_pairs w n) τ.levels comes.waiting in
          omega (arith, pairs-many w n, I.rules.sizes.levels_limit)

      -- which waits for its then sides
      module _ (q : lacks_then last ≡ true) where
        kept : first_pairs (set w (n - 1) (given x last)) n ≡ given x last ∷ first_pairs w (n - 1)
        kept =
            let e : n ≡ suc (n - 1) = omega arith in
            ap (first_pairs (set w (n - 1) (given x last))) e ∙ pairs_set w (n - 1) (given x last) (omega (arith, I.long, few))

        over-step : Goes o τ (first_pairs w n) left right (Some x) (given x last ∷ first_pairs w (n - 1)) last.els.left last.els.right None
        over-step = over (last-pair w n k) refl q

        pub runs-over : Runs width o σ a b τ index cache (set w (n - 1) (given (back x) last)) n last.els.left last.els.right None
        runs-over = rw result-read (record {
          rules = I.rules;
          found = I.found;
          cached = I.cached;
          long = length-set w (n - 1) (given x last) ∙ I.long;
          stands = rw kept
              (goes_on limits o (join_of limits o σ a b) τ I.rules (first_pairs w n) left right (Some x) I.stands (given x last ∷ first_pairs w (n - 1))
              last.els.left last.els.right None over-step);
        })

        pub over-less : steps_left τ.levels (first_pairs (set w (n - 1) (given (back x) last)) n) None < steps_left τ.levels (first_pairs w n) (Some x)
        over-less = rw (result-read, kept)
            (goes-less limits o (join_of limits o σ a b) τ (first_pairs w n) left right (Some x) I.stands (given x last ∷ first_pairs w (n - 1))
            last.els.left last.els.right None over-step)

      -- or for its else sides: its node may be made
      module _ (q : lacks_then last ≡ false) where
        level-is : last.level ≡ top_of τ last
        level-is = last-comes.waiting.1.0.level

        pub may-make : Makes τ last.level last.then (back x)
        may-make = rw (result-read, level-is) (makes-node limits o (join_of limits o σ a b) τ I.rules last (first_pairs w (n - 1)) x last-comes q)

        grown : Grows τ (make limits τ last.level last.then x).after
        grown = rw level-is (node-grows limits o (join_of limits o σ a b) τ I.rules last (first_pairs w (n - 1)) x last-comes q)

        -- its edges, as they are read back
        last-left : back last.left ≡ last.left
        last-left = edge-read τ last.left I.rules last-comes.waiting.1.0.left

        last-right : back last.right ≡ last.right
        last-right = edge-read τ last.right I.rules last-comes.waiting.1.0.right

        pub last-edges : IsEdge (back last.left) × IsEdge (back last.right)
        last-edges = (edge-again τ last.left I.rules last-comes.waiting.1.0.left, edge-again τ last.right I.rules last-comes.waiting.1.0.right)

        -- there is room for it, and the store is then υ
        module _ (υ : Store) (v : υ ≡ (make limits τ last.level last.then (back x)).after) where
          stored : υ ≡ (make limits τ (top_of τ last) last.then x).after
          stored = rw (result-read, level-is) at v

          module _ (y : ℤ) (e : value y ≡ (make limits τ last.level last.then (back x)).answer) where
            made_at : (make limits τ (top_of τ last) last.then x).answer ≡ value y
            made_at = sym (rw (result-read, level-is) at e)

            made-rules : Rules limits υ
            made-rules = rw stored (node-rules limits o (join_of limits o σ a b) τ I.rules last (first_pairs w (n - 1)) x last-comes q)

            made-says : SaysJoin o υ last.left last.right y
            made-says = rw stored (node-says limits o (join_of limits o σ a b) τ I.rules last (first_pairs w (n - 1)) x last-comes q y made_at)

            made-read : back y ≡ y
            made-read = edge-read υ y made-rules made-says.edge

            pub made-edge : IsEdge (back y)
            made-edge = edge-again υ y made-rules made-says.edge

            grows-to : Grows τ υ
            grows-to = rw stored (node-grows limits o (join_of limits o σ a b) τ I.rules last (first_pairs w (n - 1)) x last-comes q)

            pub runs-made : (index₁ : List ℕ) → KnownNodes width υ index₁ → (cache₁ : List ℤ)
                → Keeps cache cache₁ o (back last.left) (back last.right) (back y)
                → Runs width o σ a b υ index₁ cache₁ w (n - 1) left right (Some (back y))
            runs-made index₁ K cache₁ P =
                let W = last-comes.waiting.1.0 in
                rw made-read (record {
                  rules = made-rules;
                  found = K;
                  cached = (rw (last-left, last-right, made-read) at P) υ (cached-grows I.rules.nodes grows-to cache I.cached)
                      (grow-edge grows-to last.left W.left) (grow-edge grows-to last.right W.right) made-says;
                  long = I.long;
                  stands = coming {x = y}
                      (rw stored (node-comes limits o (join_of limits o σ a b) τ I.rules last (first_pairs w (n - 1)) x last-comes q y made_at));
                })

            pub made-less-steps : steps_left υ.levels (first_pairs w (n - 1)) (Some (back y)) < steps_left τ.levels (first_pairs w n) (Some x)
            made-less-steps = rw (grows-to.levels, last-pair w n k) (made-less τ.levels last (first_pairs w (n - 1)) x y q)

          -- there is none: the join is refused
          pub runs-full : refused 40 ≡ (make limits τ last.level last.then (back x)).answer
              → (refused 40 ≡ (join_of limits o σ a b).answer) × (υ ≡ (join_of limits o σ a b).after)
          runs-full e =
              let F = node-lacks limits o (join_of limits o σ a b) τ I.rules last (first_pairs w (n - 1)) x last-comes q 40
              (sym (rw (result-read, level-is) at e)) in
              (sym F.0, stored ∙ sym F.1)

          pub full-cached : Cached υ cache
          full-cached = cached-grows I.rules.nodes (rw v (rw result-read grown)) cache I.cached

        -- equal sides need no node: the store stays
        module _ (g : last.then ≡ x) where
          equal-store : τ ≡ (make limits τ last.level last.then (back x)).after
          unfolding make
          equal-store = rw (result-read, g, eq_z-refl x)

          equal-answer : value x ≡ (make limits τ last.level last.then (back x)).answer
          unfolding make
          equal-answer = rw (result-read, g, eq_z-refl x)

          pub runs-equal : (cache₁ : List ℤ) → Keeps cache cache₁ o (back last.left) (back last.right) x
              → Runs width o σ a b τ index cache₁ w (n - 1) left right (Some x)
          runs-equal cache₁ P =
              subst (λ (y : ℤ). Runs width o σ a b τ index cache₁ w (n - 1) left right (Some y)) result-read
              (runs-made τ equal-store x equal-answer index I.found cache₁
              (subst (λ (y : ℤ). Keeps cache cache₁ o (back last.left) (back last.right) y) (sym result-read) P))
