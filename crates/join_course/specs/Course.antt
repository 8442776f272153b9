-- Where a join stands on its way: which pairs wait, whether a pair is joined next or a result comes back, and that what is left to do gives the
-- join.
use Rattle.std.specs.Prelude.{ℕ, ◌<◌, ◌≡◌, Bool, true, false, Option, Some, None, List, [], ◌∷◌, ℤ, pos}
use Rattle.codes.specs.Limits.{Limits}
use Rattle.store.specs.Store.{Store}
use Rattle.store.specs.Growth.{EdgeOf}
use Rattle.store.specs.Make.{Made, made}
use Rattle.joined.specs.declared.Op.{Op}
use Rattle.joined.specs.Join.{side, top, join_of, SaysJoin}
use Rattle.join_course.specs.declared.Waiting.{Waiting}
use Rattle.join_course.specs.Pairs.{waiting, lacks_then, given, resume}

-- the level of a pair, and its sides there
abbrev pub top_of : Store → Waiting → ℕ
top_of τ p = top τ p.left p.right

abbrev pub left_of : Store → Bool → Waiting → ℤ
left_of τ y p = side τ (top_of τ p) y p.left

abbrev pub right_of : Store → Bool → Waiting → ℤ
right_of τ y p = side τ (top_of τ p) y p.right

-- a pair that waits: edges of the store, of which one lies at a level; its level and its else sides; and a result of its then sides, where it has
-- one, says the operation on them
pub record Waits (o : Op) (τ : Store) (p : Waiting) : Type 0 where
  pub left : EdgeOf τ p.left
  pub right : EdgeOf τ p.right
  pub high : top_of τ p < τ.levels
  pub level : p.level ≡ top_of τ p
  pub els_left : p.els.left ≡ left_of τ false p
  pub els_right : p.els.right ≡ right_of τ false p
  pub then : lacks_then p ≡ false → SaysJoin o τ (left_of τ true p) (right_of τ true p) p.then

-- two edges are the sides that the last pair waits for
abbrev pub SidesOfLast : Store → List Waiting → ℤ → ℤ → Type 0
SidesOfLast τ [] a b = Unit
SidesOfLast τ (p ∷ ps) a b = (a ≡ left_of τ (lacks_then p) p) × (b ≡ right_of τ (lacks_then p) p)

-- pairs that wait, the last first: each is the sides that the one before it waits for, at a deeper level, and the last one lies above level k
abbrev pub AllWait : Op → Store → List Waiting → ℕ → Type 0
AllWait o τ [] k = Unit
AllWait o τ (p ∷ ps) k = (top_of τ p < k) × (Waits o τ p × (SidesOfLast τ ps p.left p.right × AllWait o τ ps (top_of τ p)))

-- an edge says the operation on them
abbrev pub ResultForLast : Op → Store → List Waiting → ℤ → Type 0
ResultForLast o τ [] x = Unit
ResultForLast o τ (p ∷ ps) x = SaysJoin o τ (left_of τ (lacks_then p) p) (right_of τ (lacks_then p) p) x

-- a pair is joined next; then all that waits is done, and that is the whole join
pub record Going (m : Limits) (o : Op) (whole : Made) (τ : Store) (ps : List Waiting) (a b : ℤ) : Type 0 where
  pub left : EdgeOf τ a
  pub right : EdgeOf τ b
  pub waiting : AllWait o τ ps (top τ a b)
  pub sides : SidesOfLast τ ps a b
  pub rest : resume m o ps (join_of m o τ a b) ≡ whole

-- a result comes back to the last pair
pub record Coming (m : Limits) (o : Op) (whole : Made) (τ : Store) (ps : List Waiting) (x : ℤ) : Type 0 where
  pub edge : EdgeOf τ x
  pub waiting : AllWait o τ ps τ.levels
  pub result : ResultForLast o τ ps x
  pub rest : resume m o ps (made x τ) ≡ whole

-- either, by the result, where there is one yet
pub data JoinStands (m : Limits) (o : Op) (whole : Made) (τ : Store) (ps : List Waiting) (a b : ℤ) : Option ℤ → Type 0 where
  going : Going m o whole τ ps a b → JoinStands m o whole τ ps a b None
  coming : {x : ℤ} → Coming m o whole τ ps x → JoinStands m o whole τ ps a b (Some x)

-- One step that makes no node, from a pair and a result to the next: a result is known; else the pair waits, and its then sides come next; or a
-- result is that of the then sides of the last pair, and its else sides come next.
pub data Goes (o : Op) (τ : Store) (ps : List Waiting) (a b : ℤ) (r : Option ℤ) : List Waiting → ℤ → ℤ → Option ℤ → Type 0 where
  known : {x : ℤ} → r ≡ None → SaysJoin o τ a b x → Goes o τ ps a b r ps a b (Some x)
  down : {l line : ℕ} {c d e g : ℤ} → r ≡ None → top τ a b < τ.levels → l ≡ top τ a b → c ≡ side τ (top τ a b) true a
      → d ≡ side τ (top τ a b) true b → e ≡ side τ (top τ a b) false a → g ≡ side τ (top τ a b) false b
      → Goes o τ ps a b r (waiting a b l (pos 0) e g line ∷ ps) c d None
  over : {p : Waiting} {qs : List Waiting} {x : ℤ} → ps ≡ p ∷ qs → r ≡ Some x → lacks_then p ≡ true
      → Goes o τ ps a b r (given x p ∷ qs) p.els.left p.els.right None
