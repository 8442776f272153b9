-- Room for a file's node lines: they are all made exactly where the nodes that they need have a slot each, and are no more than the limit.
-- They are made twice, in the store as it is and in a roomier one. While the first has room both find and make the same nodes. Document 01,
-- 'Whoever filled the store': '40° a line needs a new node and every slot lent, or [the limit], is used'.
use mathlib.Core.Path.{◌≡◌, refl, sym, ap}
use mathlib.Core.Logic.{◌↔◌}
use mathlib.Core.List.{List, [], ◌∷◌, ◌++◌}
use Prim.Native.Nat.{ℕ, suc, ◌≤◌}
use native.Mathlib.Omega.{arith}
use native.Mathlib.Nat.{le_refl, le_trans}
use lib.ListN.{length, get_or}
use lib.IntN.{ℤ, pos}
use Rattle.codes.specs.Answer.{Read, value, refused}
use Rattle.codes.specs.Limits.{Limits}
use Rattle.store.specs.Store.{Store}
use Rattle.store.specs.Rules.{Sizes}
use Rattle.store.specs.Make.{Made}
use Rattle.store.specs.Room.{roomier, with_room}
use Rattle.store.proofs.Room.{Beside, beside-less, Within, Pair, both, lacks, make-pair, make-count, roomier-beside}
use Rattle.node_lines.specs.Line.{Line, terminal, inner}
use Rattle.imported.specs.Build.{edge_for, add_line, Built, built, onwards, build_on, build, count_needed}

-- a line in both
line-pair : (m w : Limits) (σ τ : Store) (k : ℕ) → Beside m w (suc k) σ τ → (levels : List ℕ) (edges : List ℤ) (l : Line)
    → Pair m w k σ (add_line m levels σ edges l) (add_line w levels τ edges l)
unfolding add_line
line-pair m w σ τ k B levels edges terminal = both (pos 1) refl refl refl (beside-less k B)
line-pair m w σ τ k B levels edges (inner p t e) = make-pair m w σ τ k B (get_or levels p 0) (edge_for edges t) (edge_for edges e)

-- The count never falls.
line-count : (m : Limits) (σ : Store) (levels : List ℕ) (edges : List ℤ) (l : Line) → σ.count ≤ (add_line m levels σ edges l).after.count
unfolding add_line
line-count m σ levels edges terminal = le_refl σ.count
line-count m σ levels edges (inner p t e) = make-count m σ (get_or levels p 0) (edge_for edges t) (edge_for edges e)

pub on-count : (m : Limits) (levels : List ℕ) (σ : Store) (edges : List ℤ) (ls : List Line) → σ.count ≤ (build_on m levels σ edges ls).after.count
unfolding build_on
on-count m levels σ edges [] = le_refl σ.count
on-count m levels σ edges (l ∷ ls) =
    let r = add_line m levels σ edges l in
    le_trans (line-count m σ levels edges l) (go r.answer r.after (λ a. on-count m levels r.after (edges ++ (a ∷ [])) ls))
  where
    go : (x : Read ℤ) (τ : Store) → ((a : ℤ) → τ.count ≤ (build_on m levels τ (edges ++ (a ∷ [])) ls).after.count)
        → τ.count ≤ (onwards (record { answer = x; after = τ }) (λ a τ. build_on m levels τ (edges ++ (a ∷ [])) ls)).after.count
    go (value a) τ f = f a
    go (refused n) τ f = le_refl τ.count

-- all lines were made
abbrev Complete : Built → Type 0
Complete r = (edges : List ℤ) × (r.answer ≡ value edges)

-- What lines left give in both: all are made in the first exactly where the other's nodes are within the first's slots and limit, and then
-- both have as many.
record Tells (m : Limits) (σ : Store) (r s : Built) : Type 0 where
  room : Complete r ↔ Within m σ s.after.count
  count : Complete r → r.after.count ≡ s.after.count

-- the lines left, by what the line before them gives
pub onwards-value : (r : Made) (k : ℤ → Store → Built) (a : ℤ) → r.answer ≡ value a → onwards r k ≡ k a r.after
onwards-value r k a q = ap (λ (x : Read ℤ). onwards (record { answer = x; after = r.after }) k) q

pub onwards-refused : (r : Made) (k : ℤ → Store → Built) (n : ℕ) → r.answer ≡ refused n → onwards r k ≡ built (refused n) r.after
onwards-refused r k n q = ap (λ (x : Read ℤ). onwards (record { answer = x; after = r.after }) k) q

-- no refusal is an end of all lines
refused-incomplete : (n : ℕ) (σ : Store) → Complete (built (refused n) σ) → ⊥
refused-incomplete n σ c = let q = c.1 in let y : ◌≡◌ {A = ℕ} 0 1 = cc in omega arith

-- a line and the lines left after it
pair-tells : (m w : Limits) (k : ℕ) (σ : Store) (r s : Made) (f g : ℤ → Store → Built)
    → ((a : ℤ) (υ ω : Store) → Beside m w k υ ω → Tells m υ (f a υ) (g a ω)) → ((a : ℤ) (ω : Store) → ω.count ≤ (g a ω).after.count)
    → Pair m w k σ r s → Tells m σ (onwards r f) (onwards s g)
pair-tells m w k σ r s f g ih up (both a p q h B) =
    rw (onwards-value r f a p, onwards-value s g a q) (same (ih a r.after s.after B))
  where
    same : Tells m r.after (f a r.after) (g a s.after) → Tells m σ (f a r.after) (g a s.after)
    same T = record {
      room = (λ c. let x = T.room.0 c in (omega (arith, h, x.0), x.1), λ x. T.room.1 (omega (arith, h, x.0), x.1));
      count = T.count;
    }
pair-tells m w k σ r s f g ih up (lacks a p q no_room) =
    rw (onwards-refused r f 40 p, onwards-value s g a q) (record {
      room = (
        λ c. absurd (refused-incomplete 40 r.after c),
        λ x. absurd (no_room (le_trans (up a s.after) x.0, le_trans (up a s.after) x.1)),
      );
      count = λ c. absurd (refused-incomplete 40 r.after c);
    })

-- all lines left
on-tells : (m w : Limits) (levels : List ℕ) (σ τ : Store) (edges : List ℤ) (ls : List Line) → Beside m w (length ls) σ τ
    → Tells m σ (build_on m levels σ edges ls) (build_on w levels τ edges ls)
unfolding build_on
on-tells m w levels σ τ edges [] B = record {
  room = (
    λ c. (omega (arith, B.count, B.sizes.count_slots), omega (arith, B.count, B.sizes.count_limit)),
    λ x. (edges, refl),
  );
  count = λ c. sym B.count;
}
on-tells m w levels σ τ edges (l ∷ ls) B =
    pair-tells m w (length ls) σ (add_line m levels σ edges l) (add_line w levels τ edges l)
    (λ a υ. build_on m levels υ (edges ++ (a ∷ [])) ls) (λ a ω. build_on w levels ω (edges ++ (a ∷ [])) ls)
    (λ a υ ω C. on-tells m w levels υ ω (edges ++ (a ∷ [])) ls C) (λ a ω. on-count w levels ω (edges ++ (a ∷ [])) ls)
    (line-pair m w σ τ (length ls) B levels edges l)

module _ (m : Limits) (levels : List ℕ) (σ : Store) (ls : List Line) (z : Sizes m σ) where
  -- the lines made in both
  build-tells : Tells m σ (build m levels σ ls)
      (build (with_room (length ls) σ) levels (roomier (length ls) σ) ls)
  unfolding build
  build-tells = on-tells m _ levels σ (roomier (length ls) σ) [] ls (roomier-beside m (length ls) σ z)

  -- All lines are made exactly where the nodes that they need are within the slots lent and the limit.
  pub build-room : ((edges : List ℤ) × ((build m levels σ ls).answer ≡ value edges))
      ↔ ((count_needed levels σ ls ≤ length σ.level) × (count_needed levels σ ls ≤ m.nodes))
  unfolding count_needed
  build-room = build-tells.room

  -- and then the store has that many
  pub build-count : (edges : List ℤ) → (build m levels σ ls).answer ≡ value edges
      → (build m levels σ ls).after.count ≡ count_needed levels σ ls
  unfolding count_needed
  build-count edges q = build-tells.count (edges, q)
