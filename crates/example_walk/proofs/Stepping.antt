-- One turn of the walk's loop, as the code reads the lists: an edge x as `to_z edge_width (of_z edge_width x)`.
use Prim.Native.Nat.{ℕ, ◌≤◌, ◌<◌}
use mathlib.Core.Path.{◌≡◌, refl, sym, ap, fun_ext, ◌∙◌}
use mathlib.Core.Bool.{Bool, true, false, not, xor, beq}
use mathlib.Core.List.{List, []}
use native.Mathlib.Omega.{arith}
use native.Mathlib.Nat.{le_refl}
use lib.ListN.{length, set}
use lib.IntN.{ℤ, pos, negsuc, nat_abs}
use mir.Val.{to_z, of_z}
use Rattle.edges.specs.Width.{edge_width}
use Rattle.edges.specs.Edge.{minus, turn}
use Rattle.edges.proofs.Signed.{edge-back}
use Rattle.codes.specs.Answer.{value}
use Rattle.store.specs.Store.{Store, store, level_at, then_at, else_at}
use Rattle.store.specs.Settings.{chosen}
use Rattle.store.specs.Rules.{depth}
use Rattle.store.specs.Meaning.{Setting, answer}
use Rattle.evaluation.specs.SettingBytes.{bytes_of}
use Rattle.evaluation.specs.Evaluated.{Walks}
use Rattle.evaluation.proofs.Walk.{lists-node, lists-answer, lists-depth, walks-lower, fits}
use Rattle.example_walk.specs.Example.{settings, first_of, answers_as}
use Rattle.example_walk.specs.Course.{never, WalkAsks}
use Rattle.example_walk.proofs.Walked.{Walking, walking_start, walking-no, walking-yes, walking-level, walking-end}

-- the store of the nodes up to the root's, for as many levels as the setting has bytes
abbrev pub walk_store : Store → List ℕ → ℤ → Store
walk_store σ start e = store (length start) (nat_abs e) σ.level σ.then σ.els [] []

-- it has the same lists, so an edge answers alike there, and the first setting is the same
answers-up : (σ : Store) (start : List ℕ) (e : ℤ) (wanted : Bool) → answers_as (walk_store σ start e) e wanted ≡ answers_as σ e wanted
answers-up σ start e wanted =
    fun_ext (λ t. ap (λ a. not (xor a wanted)) (lists-answer σ (length start) (nat_abs e) (chosen t) e))

first-up : (σ : Store) (start : List ℕ) (e : ℤ) (wanted : Bool) {b : List ℕ}
    → (s : List Bool) × (b ≡ bytes_of s) × (first_of (answers_as (walk_store σ start e) e wanted) (settings (length start)) ≡ value s)
    → (s : List Bool) × (b ≡ bytes_of s) × (first_of (answers_as σ e wanted) (settings (length start)) ≡ value s)
first-up σ start e wanted (s, q, r) = (s, q, ap (λ f. first_of f (settings (length start))) (sym (answers-up σ start e wanted)) ∙ r)

pub record Stepping (σ : Store) (e : ℤ) (wanted : Bool) (start b : List ℕ) (n : ℕ) (asked : Bool) : Type 0 where
  pub asks : WalkAsks σ e wanted start
  pub walks : Walks σ start n
  pub walking : Walking (walk_store σ start e) e wanted b n asked

-- what a node is to answer, as the code works it out
beq-turn : (e : ℤ) (b : Bool) → not (beq b (minus e)) ≡ turn e b
unfolding minus turn
beq-turn (pos n) true = refl
beq-turn (pos n) false = refl
beq-turn (negsuc n) true = refl
beq-turn (negsuc n) false = refl

module _ {σ : Store} {e : ℤ} {wanted : Bool} {start : List ℕ} where
  pub stepping-start : WalkAsks σ e wanted start → {k : ℕ} {m : Bool} → k ≡ nat_abs e → m ≡ minus e → Stepping σ e wanted start start k (not (beq wanted m))
  stepping-start w q r =
      rw (q, r, beq-turn e wanted) (record {
        asks = w;
        walks = w.walks;
        walking = walking_start (walk_store σ start e) e wanted start w.zeros refl (record { some = w.some; there = le_refl (nat_abs e) }) w.can;
      })

  module _ {b : List ℕ} {n : ℕ} {asked : Bool} (S : Stepping σ e wanted start b n asked) where
    pub same-long : length b ≡ length start
    same-long = S.walking.long

    module _ (h : 2 ≤ n) where
      then-back : to_z edge_width (of_z edge_width (then_at σ n)) ≡ then_at σ n
      then-back = edge-back edge_width (then_at σ n) (omega (arith, (fits S.walks h).then_low, S.walks.small))

      else-back : to_z edge_width (of_z edge_width (else_at σ n)) ≡ else_at σ n
      else-back = edge-back edge_width (else_at σ n) (omega (arith, (fits S.walks h).else_low, S.walks.small))

      pub level_inside : level_at σ n < length b
      level_inside = walking-level (walk_store σ start e) e wanted S.asks.walks.nodes S.walking h

      pub then_less : {k : ℕ} → k ≡ nat_abs (to_z edge_width (of_z edge_width (then_at σ n))) → k < n
      then_less q = rw (q, then-back) (fits S.walks h).then_low

      pub else-less : {k : ℕ} → k ≡ nat_abs (to_z edge_width (of_z edge_width (else_at σ n))) → k < n
      else-less q = rw (q, else-back) (fits S.walks h).else_low

      module _ {w : Bool} (q : w ≡ never (to_z edge_width (of_z edge_width (else_at σ n))) asked) where
        pub stepping-yes : w ≡ true → {k : ℕ} → k ≡ nat_abs (to_z edge_width (of_z edge_width (then_at σ n)))
            → Stepping σ e wanted start (set b (level_at σ n) 1) k asked
        stepping-yes t r =
            let z : never (else_at σ n) asked ≡ true = ap (λ x. never x asked) (sym else-back) ∙ sym q ∙ t in
            let l = walks-lower S.walks _ (omega (arith, (fits S.walks h).then_low)) in
            rw (r, then-back) (record {
              asks = S.asks;
              walks = l;
              walking = walking-yes (walk_store σ start e) e wanted S.asks.walks.nodes S.walking h z;
            })

        pub stepping-no : w ≡ false → {k : ℕ} {m : Bool} → k ≡ nat_abs (to_z edge_width (of_z edge_width (else_at σ n)))
            → m ≡ minus (to_z edge_width (of_z edge_width (else_at σ n))) → Stepping σ e wanted start b k (not (beq asked m))
        stepping-no t r v =
            let z : never (else_at σ n) asked ≡ false = ap (λ x. never x asked) (sym else-back) ∙ sym q ∙ t in
            let l = walks-lower S.walks _ (omega (arith, (fits S.walks h).else_low)) in
            rw (r, v, else-back, beq-turn (else_at σ n) asked) (record {
              asks = S.asks;
              walks = l;
              walking = walking-no (walk_store σ start e) e wanted S.asks.walks.nodes S.walking h z;
            })

    -- at node 1
    pub stepping-end : n ≤ 1 → (s : List Bool) × (b ≡ bytes_of s) × (first_of (answers_as σ e wanted) (settings (length start)) ≡ value s)
    stepping-end h =
        let one : n ≡ 1 = omega (arith, S.walking.taking.some) in
        first-up σ start e wanted (walking-end (walk_store σ start e) e wanted (rw one at S.walking))

-- What the walk has settled in the store of the nodes up to the root's, it has settled in the store itself, where that has the root, and as many
-- levels as the setting has bytes.
module _ {σ : Store} {e : ℤ} {wanted : Bool} {start b : List ℕ} {n : ℕ} {asked : Bool} (S : Stepping σ e wanted start b n asked)
    (there : nat_abs e ≤ σ.count) (long : length start ≡ σ.levels) where
  depth-whole : depth (walk_store σ start e) n ≡ depth σ n
  depth-whole = lists-depth σ (length start) (nat_abs e) long n

  pub walking-whole : Walking σ e wanted b n asked
  walking-whole =
      let T = S.walking.taking in
      let answers : (t : Setting) → answer (walk_store σ start e) t e ≡ answer σ t e = λ t. lists-answer σ (length start) (nat_abs e) t e in
      record {
        taking = record {
          some = T.some;
          there = omega (arith, T.there, there);
          left = λ t h.
              rw (answers t, lists-node σ (length start) (nat_abs e) t n) at (T.left t (λ j k. h j (omega (arith, k, depth-whole))));
          least = λ t a l k. T.least t (answers t ∙ a) l (omega (arith, k, depth-whole));
          unset = λ l k. T.unset l (omega (arith, k, depth-whole));
          can = T.can;
        };
        long = S.walking.long ∙ long;
        bits = S.walking.bits;
      }
