-- Nodes made in a store, and under limits that allow more in one with the same nodes: where the first gives an edge, and the nodes that it has then
-- have a slot each in the other, the other gives the same edge, and both have the same nodes again. Document 02, request 5: 'as if read into the wide
-- store from its start'.
use mathlib.Core.Path.{◌≡◌, refl, sym, ap, subst, ◌∙◌}
use mathlib.Core.List.{List, [], ◌∷◌, ◌++◌}
use Prim.Native.Nat.{ℕ, ◌+◌, ◌≤◌}
use native.Mathlib.Omega.{arith}
use native.Mathlib.Nat.{le_refl, le_trans}
use lib.ListN.{length, get_or}
use lib.IntN.{ℤ}
use Rattle.codes.specs.Answer.{Read, value, refused}
use Rattle.codes.specs.Limits.{Limits}
use Rattle.store.specs.Store.{Store}
use Rattle.store.specs.Make.{Made, make}
use Rattle.store.specs.Room.{roomier, with_room}
use Rattle.store.proofs.Room.{Beside, Pair, both, lacks, make-pair, roomier-beside}
use Rattle.node_lines.specs.Line.{Line, terminal, inner}
use Rattle.imported.specs.Build.{edge_for, add_line, Built, onwards, build_on, build}
use Rattle.imported.proofs.Room.{on-count, onwards-value, onwards-refused}
use Rattle.joined.specs.declared.Op.{Op}
use Rattle.joined.specs.Join.{join_by, join_of, Ready}
use Rattle.joined.specs.Room.{most_made}
use Rattle.joined.proofs.Room.{by-pair}
use Rattle.widened.specs.OldLimits.{Wider}
use Rattle.turns.proofs.Wider.{beside-further, beside-across}

-- what a step gives in the second store where the first gives this edge
pub record SameEdge (m w : Limits) (τ : Store) (a : ℤ) (r s : Made) : Type 0 where
  pub answer : s.answer ≡ value a
  pub long : length s.after.level ≡ length τ.level
  pub beside : Beside m w 0 r.after s.after

-- an edge is no refusal, and one edge is the other
edge-refused : {C : Type 0} (n : ℕ) (a : ℤ) (r : Read ℤ) → r ≡ refused n → r ≡ value a → C
edge-refused n a r p q = let y : ◌≡◌ {A = ℕ} 0 1 = cc in absurd (omega arith)

one-edge : (a b c : ℤ) (r t : Read ℤ) → r ≡ value b → t ≡ value b → t ≡ value c → r ≡ value a → ◌≡◌ {A = Read ℤ} (value c) (value a)
one-edge a b c r t p q x y = sym x ∙ q ∙ sym p ∙ y

-- Both steps are told from one in a roomier store.
pairs-same : {m w v : Limits} {k : ℕ} {σ τ : Store} (r s t : Made) → Wider m w → Pair m v k σ r t → Pair w v k τ s t → (a : ℤ) → r.answer ≡ value a
    → r.after.count ≤ length τ.level → SameEdge m w τ a r s
pairs-same r s t W (lacks b p q n) P a e h = edge-refused 40 a r.answer p e
pairs-same r s t W (both b p q z B) (both c x y g C) a e h =
    record { answer = x ∙ one-edge a b c r.answer t.answer p q y e; long = g; beside = beside-across B C }
pairs-same r s t W (both b p q z B) (lacks c x y n) a e h =
    absurd (n (omega (arith, B.count, h), omega (arith, B.count, B.sizes.count_limit, W.nodes)))

module _ {m w : Limits} (W : Wider m w) where
  -- an edge
  make_same : (σ τ : Store) → Beside m w 0 σ τ → (l : ℕ) (t e a : ℤ) → (make m σ l t e).answer ≡ value a
      → (make m σ l t e).after.count ≤ length τ.level → SameEdge m w τ a (make m σ l t e) (make w τ l t e)
  make_same σ τ B l t e a q h =
      let C = roomier-beside w 1 τ B.roomy in
      let υ : Store = roomier 1 τ in
      let v : Limits = with_room 1 τ in
      pairs-same (make m σ l t e) (make w τ l t e) (make v υ l t e) W (make-pair m v σ υ 0 (beside-further B C) l t e) (make-pair w v τ υ 0 C l t e) a q h

  -- a join
  by-same : (o : Op) (f : ℕ) (σ τ : Store) (a b : ℤ) → Ready m σ a b → Ready w τ a b → Beside m w 0 σ τ → σ.levels ≤ f → (x : ℤ)
      → (join_by f m o σ a b).answer ≡ value x → (join_by f m o σ a b).after.count ≤ length τ.level
      → SameEdge m w τ x (join_by f m o σ a b) (join_by f w o τ a b)
  by-same o f σ τ a b Q P B z x q h =
      let k : ℕ = most_made f + 0 in
      let C = roomier-beside w k τ B.roomy in
      let υ : Store = roomier k τ in
      let v : Limits = with_room k τ in
      let u = B.grows.levels in
      pairs-same (join_by f m o σ a b) (join_by f w o τ a b) (join_by f v o υ a b) W
      (by-pair m v o f 0 σ υ a b Q (omega arith) (beside-further B C)) (by-pair w v o f 0 τ υ a b P (omega arith) C) x q h

  pub join-same : (o : Op) (σ τ : Store) (a b : ℤ) → Ready m σ a b → Ready w τ a b → Beside m w 0 σ τ → (x : ℤ)
      → (join_of m o σ a b).answer ≡ value x → (join_of m o σ a b).after.count ≤ length τ.level
      → SameEdge m w τ x (join_of m o σ a b) (join_of w o τ a b)
  unfolding join_of
  join-same o σ τ a b Q P B x q h =
      subst (λ (f : ℕ). SameEdge m w τ x (join_by σ.levels m o σ a b) (join_by f w o τ a b)) (sym B.grows.levels)
      (by-same o σ.levels σ τ a b Q P B (le_refl σ.levels) x q h)

  -- a line of a file
  line_same : (levels : List ℕ) (σ τ : Store) (edges : List ℤ) (l : Line) → Beside m w 0 σ τ → (a : ℤ) → (add_line m levels σ edges l).answer ≡ value a
      → (add_line m levels σ edges l).after.count ≤ length τ.level
      → SameEdge m w τ a (add_line m levels σ edges l) (add_line w levels τ edges l)
  unfolding add_line
  line_same levels σ τ edges terminal B a q h = record { answer = q; long = refl; beside = B }
  line_same levels σ τ edges (inner p t e) B a q h = make_same σ τ B (get_or levels p 0) (edge_for edges t) (edge_for edges e) a q h

-- what lines give in the second store where all are made in the first
pub record SameEdges (m w : Limits) (τ : Store) (es : List ℤ) (r s : Built) : Type 0 where
  pub answer : s.answer ≡ value es
  pub long : length s.after.level ≡ length τ.level
  pub beside : Beside m w 0 r.after s.after

-- all lines were made, or not
made-refused : {C : Type 0} (n : ℕ) (es : List ℤ) (r : Read (List ℤ)) → r ≡ refused n → r ≡ value es → C
made-refused n es r p q = let y : ◌≡◌ {A = ℕ} 0 1 = cc in absurd (omega arith)

-- a line, and the lines left after it
module _ {m w : Limits} {τ : Store} (r s : Made) (K H : ℤ → Store → Built) (es : List ℤ)
    (first : (a : ℤ) → r.answer ≡ value a → r.after.count ≤ length τ.level → SameEdge m w τ a r s)
    (rest : (a : ℤ) (υ ω : Store) → Beside m w 0 υ ω → (K a υ).answer ≡ value es → (K a υ).after.count ≤ length ω.level → SameEdges m w ω es (K a υ) (H a ω))
    (up : (a : ℤ) (υ : Store) → υ.count ≤ (K a υ).after.count) where
  then_same : (onwards r K).answer ≡ value es → (onwards r K).after.count ≤ length τ.level → SameEdges m w τ es (onwards r K) (onwards s H)
  then_same q h = go r.answer refl
    where
      go : (x : Read ℤ) → r.answer ≡ x → SameEdges m w τ es (onwards r K) (onwards s H)
      go (refused n) e = made-refused n es (onwards r K).answer (ap (λ y. y.answer) (onwards-refused r K n e)) q
      go (value a) e =
          let k = onwards-value r K a e in
          let i : (K a r.after).after.count ≤ length τ.level = subst (λ (y : Built). y.after.count ≤ length τ.level) k h in
          let A = first a e (le_trans (up a r.after) i) in
          let I = rest a r.after s.after A.beside (sym (ap (λ y. y.answer) k) ∙ q) (omega (arith, A.long)) in
          rw (k, onwards-value s H a A.answer) (record { answer = I.answer; long = I.long ∙ A.long; beside = I.beside })

module _ {m w : Limits} (W : Wider m w) where
  -- the lines left
  on_same : (levels : List ℕ) (σ τ : Store) (edges : List ℤ) (ls : List Line) → Beside m w 0 σ τ → (es : List ℤ)
      → (build_on m levels σ edges ls).answer ≡ value es → (build_on m levels σ edges ls).after.count ≤ length τ.level
      → SameEdges m w τ es (build_on m levels σ edges ls) (build_on w levels τ edges ls)
  unfolding build_on
  on_same levels σ τ edges [] B es q h = record { answer = q; long = refl; beside = B }
  on_same levels σ τ edges (l ∷ ls) B es q h =
      then_same (add_line m levels σ edges l) (add_line w levels τ edges l) (λ a υ. build_on m levels υ (edges ++ (a ∷ [])) ls)
      (λ a υ. build_on w levels υ (edges ++ (a ∷ [])) ls) es (line_same W levels σ τ edges l B)
      (λ a υ ω C p k. on_same levels υ ω (edges ++ (a ∷ [])) ls C es p k) (λ a υ. on-count m levels υ (edges ++ (a ∷ [])) ls) q h

  -- all lines of a file
  pub build-same : (levels : List ℕ) (σ τ : Store) (ls : List Line) → Beside m w 0 σ τ → (es : List ℤ)
      → (build m levels σ ls).answer ≡ value es → (build m levels σ ls).after.count ≤ length τ.level
      → SameEdges m w τ es (build m levels σ ls) (build w levels τ ls)
  unfolding build
  build-same levels σ τ ls B es q h = on_same levels σ τ [] ls B es q h
