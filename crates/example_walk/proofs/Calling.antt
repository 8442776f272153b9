-- The call: what refuses it, what the walk is given, and what the whole leaves.
use Prim.Native.Nat.{ℕ, zero, suc, ◌-◌, ◌≤◌}
use mathlib.Core.Path.{◌≡◌, refl, sym, ap, ◌∙◌}
use mathlib.Core.Bool.{Bool, true, false, cond}
use mathlib.Core.List.{List, ◌∷◌, ◌++◌}
use native.Mathlib.Omega.{arith}
use lib.Dec.{ltb}
use lib.ListN.{length, take, drop, replicate, length-replicate}
use lib.IntN.{ℤ, nat_abs}
use mir.Val.{SFits, to_z, of_z}
use mir.ValLaws.{to_z-of_z}
use borrow.Author.Tests.{ltb-false, le-ltb}
use Rattle.codes.specs.Answer.{value, refused}
use Rattle.codes.specs.Limits.{limits}
use Rattle.edges.specs.Width.{edge_width}
use Rattle.store.specs.Store.{Store}
use Rattle.store.specs.Keeps.{keeps, keeps-true, rules-keeps}
use Rattle.store.specs.Rules.{Rules}
use Rattle.store.specs.Growth.{is_root, EdgeOf}
use Rattle.store.proofs.Growth.{root-edge, edge-root}
use Rattle.evaluation.specs.SettingBytes.{bytes_of}
use Rattle.evaluation.proofs.Evaluating.{rules-walk}
use Rattle.example_walk.specs.Example.{settings, first_of, answers_as, example_of, left_setting}
use Rattle.example_walk.specs.Course.{never, example_fault, WalkAsks}
use Rattle.example_walk.specs.Promises.{told}
use Rattle.example_walk.proofs.First.{none_first, first-exact}
use Rattle.example_walk.proofs.Walked.{never-none}

-- zeros, taken apart
take-zeros : (n m : ℕ) → n ≤ m → take {A = ℕ} n (replicate m 0) ≡ replicate n 0
take-zeros zero m h = refl
take-zeros (suc n) zero h = absurd (omega arith)
take-zeros (suc n) (suc m) h = ap (λ l. 0 ∷ l) (take-zeros n m (omega arith))

drop-zeros : (n m : ℕ) → drop {A = ℕ} n (replicate m 0) ≡ replicate (m - n) 0
drop-zeros zero m = let k : m - 0 ≡ m = omega arith in rw k
drop-zeros (suc n) zero = let k : 0 - suc n ≡ 0 = omega arith in rw k
drop-zeros (suc n) (suc m) = let k : suc m - suc n ≡ m - n = omega arith in rw k (drop-zeros n m)

-- and the call, as a caller reads its root and its wanted answer
pub example-read : (σ : Store) (e : ℤ) → SFits edge_width e → {w v : Bool} → w ≡ v → (long : ℕ)
    → example_of limits σ (to_z edge_width (of_z edge_width e)) w long ≡ example_of limits σ e v long
example-read σ e f q long = rw (to_z-of_z edge_width e f, q)

-- nothing refuses the call
pub record Clear (σ : Store) (e : ℤ) (wanted : Bool) (long : ℕ) : Type 0 where
  pub room : σ.levels ≤ long
  pub rules : Rules limits σ
  pub edge : EdgeOf σ e
  pub can : never e wanted ≡ false

module _ (σ : Store) (e : ℤ) (wanted : Bool) (long : ℕ) where
  -- what refuses it is the definition's refusal, or there is nothing
  abbrev Judged : ℕ → Type 0
  Judged n = (n ≡ 0 → Clear σ e wanted long) × ((n ≡ 0 → ⊥) → example_of limits σ e wanted long ≡ refused n)

  judged-by : (a b c d : Bool) → ltb long σ.levels ≡ a → keeps limits σ ≡ b → is_root σ e ≡ c → never e wanted ≡ d
      → Judged (cond a 1 (cond b (cond c (cond d 41 0) 4) 3))
  unfolding example_of
  judged-by true b c d p q r s = (λ z. absurd (omega arith), λ z. rw p)
  judged-by false false c d p q r s = (λ z. absurd (omega arith), λ z. rw (p, q))
  judged-by false true false d p q r s = (λ z. absurd (omega arith), λ z. rw (p, q, r))
  judged-by false true true true p q r s = (
    λ z. absurd (omega arith),
    λ z. rw (p, q, r) (none_first (answers_as σ e wanted) σ.levels (never-none σ e wanted σ.levels s)),
  )
  judged-by false true true false p q r s =
      (λ z. record { room = ltb-false long σ.levels p; rules = keeps-true limits σ q; edge = root-edge σ e r; can = s }, λ z. absurd (z refl))

  judged : Judged (example_fault limits σ e wanted long)
  judged = judged-by (ltb long σ.levels) (keeps limits σ) (is_root σ e) (never e wanted) refl refl refl refl

  -- A refusal: the setting is zeros.
  module _ {n : ℕ} (q : n ≡ example_fault limits σ e wanted long) (h : n ≡ 0 → ⊥) where
    refused-so : example_of limits σ e wanted long ≡ refused n
    refused-so = rw q (judged.1 (λ z. h (q ∙ z)))

    pub refused-answer : refused n ≡ told (example_of limits σ e wanted long)
    refused-answer = rw refused-so

    pub refused-left : {b : List ℕ} → b ≡ replicate long 0 → b ≡ left_setting long (example_of limits σ e wanted long)
    refused-left z = z ∙ rw refused-so

  -- Nothing refuses it: the walk is given what it asks,
  module _ (q : 0 ≡ example_fault limits σ e wanted long) where
    pub clear : Clear σ e wanted long
    clear = judged.0 (sym q)

    module _ {b : List ℕ} (z : b ≡ replicate long 0) where
      part : take σ.levels b ≡ replicate σ.levels 0
      part = ap (take σ.levels) z ∙ take-zeros σ.levels long clear.room

      pub part-long : length (take σ.levels b) ≡ σ.levels
      part-long = ap length part ∙ length-replicate σ.levels 0

      pub walk-asks : WalkAsks σ e wanted (take σ.levels b)
      walk-asks =
          record {
            walks = rules-walk clear.rules (nat_abs e) clear.edge.there part-long;
            some = clear.edge.some;
            can = clear.can;
            zeros = part ∙ ap (λ n. replicate n 0) (sym part-long);
          }

      -- and leaves the first setting, with zeros behind it.
      module _ {s : List Bool} {w : List ℕ} (first : first_of (answers_as σ e wanted) (settings (length (take σ.levels b))) ≡ value s)
          (left : w ≡ bytes_of s) where
        found : first_of (answers_as σ e wanted) (settings σ.levels) ≡ value s
        found = rw part-long at first

        example-found : example_of limits σ e wanted long ≡ value s
        unfolding example_of
        example-found = rw (le-ltb long σ.levels clear.room, rules-keeps limits σ clear.rules, edge-root σ e clear.edge) found

        pub found-answer : value tt ≡ told (example_of limits σ e wanted long)
        found-answer = rw example-found

        pub found_left : w ++ drop σ.levels b ≡ left_setting long (example_of limits σ e wanted long)
        found_left =
            let l : length s ≡ σ.levels = (first-exact (answers_as σ e wanted) σ.levels found).long in
            rw (example-found, left, z, drop-zeros σ.levels long, l)
