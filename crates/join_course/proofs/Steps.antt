-- Each step leads on: from where a join stands it comes to where it stands, with fewer steps left, and what is left to do gives the join.
use mathlib.Core.Path.{◌≡◌, refl, sym, ap, ap₂, ◌∙◌}
use mathlib.Core.Logic.{◌≢◌}
use mathlib.Core.Bool.{Bool, true, false, true≢false}
use mathlib.Core.List.{List, [], ◌∷◌}
use Prim.Native.Nat.{ℕ, ◌≤◌, ◌<◌}
use native.Mathlib.Omega.{arith}
use native.Mathlib.Nat.{le_trans}
use lib.IntN.{ℤ, pos, nat_abs}
use Rattle.codes.specs.Answer.{value, refused}
use Rattle.codes.specs.Limits.{Limits}
use Rattle.edges.proofs.Edge.{eq_z-ne, eq_z-refl}
use Rattle.store.specs.Store.{Store}
use Rattle.store.specs.Rules.{Rules}
use Rattle.store.specs.Growth.{EdgeOf, Grows}
use Rattle.store.specs.Make.{Made, made, make, Makes}
use Rattle.store.proofs.Meaning.{depth_low}
use Rattle.store.proofs.Growth.{grows-refl, grow-answer}
use Rattle.joined.specs.declared.Op.{Op}
use Rattle.joined.specs.Join.{apply, side, top, proceed, and_then, join_of, Ready, SaysJoin}
use Rattle.joined.proofs.Sides.{top_left}
use Rattle.joined.proofs.Joins.{Result, Joined, join_step, sides-ready, sides-deep, sides-make, made-joined}
use Rattle.joined.proofs.Known.{says-deep, join-known}
use Rattle.join_course.specs.declared.Waiting.{Waiting}
use Rattle.join_course.specs.Pairs.{waiting, lacks_then, finish_by, finish, resume, given}
use Rattle.join_course.specs.Course.{top_of, left_of, right_of, SidesOfLast, ResultForLast, Going, Coming}
use Rattle.join_course.proofs.Grown.{last-grown, waiting-grown, waiting-deeper}

-- an edge is not 0
pub edge-some : (τ : Store) (x : ℤ) → EdgeOf τ x → x ≢ pos 0
edge-some τ x E q = omega (arith, E.some, ap nat_abs q)

given-has : (τ : Store) (x : ℤ) (p : Waiting) → EdgeOf τ x → lacks_then (given x p) ≡ false
given-has τ x p E = eq_z-ne x (pos 0) (edge-some τ x E)

-- a refusal ends all that waits
resume-refused : (m : Limits) (o : Op) (ps : List Waiting) (r : Made) (n : ℕ) → r.answer ≡ refused n → resume m o ps r ≡ r
unfolding resume
resume-refused m o [] r n e = refl
resume-refused m o (p ∷ ps) r n e =
    ap (λ a. resume m o ps (proceed a r.after (finish m o p))) e
    ∙ ap (λ a. resume m o ps (record { answer = a; after = r.after })) (sym e) ∙ resume-refused m o ps r n e

-- what is left to do for a pair, by the sides that it waits for
finish-by : (m : Limits) (o : Op) (p : Waiting) (y : Bool) → lacks_then p ≡ y → (r : Made) → and_then r (finish m o p) ≡ and_then r (finish_by y m o p)
finish-by m o p y q r = ap (λ (z : Bool). and_then r (finish_by z m o p)) q

module _ (m : Limits) (o : Op) (whole : Made) (τ : Store) (R : Rules m τ) where
  ready : {a b : ℤ} → EdgeOf τ a → EdgeOf τ b → Ready m τ a b
  ready E F = record { rules = R; left = E; right = F }

  -- a result that is known comes back
  pub known-comes : (ps : List Waiting) (a b x : ℤ) → Going m o whole τ ps a b → SaysJoin o τ a b x → Coming m o whole τ ps x
  known-comes ps a b x S X = record {
    edge = X.edge;
    waiting = waiting-deeper o τ ps (top τ a b) τ.levels (top-low a b S.left) S.waiting;
    result = result ps S.sides;
    rest = ap (resume m o ps) (sym (join-known m o τ a b x (ready S.left S.right) X)) ∙ S.rest;
  }
    where
      top-low : (a b : ℤ) → EdgeOf τ a → top τ a b ≤ τ.levels
      top-low a b E = le_trans (top_left τ a b) (depth_low τ R.nodes (nat_abs a) E.there)

      result : (ps : List Waiting) → SidesOfLast τ ps a b → ResultForLast o τ ps x
      result [] s = tt
      result (p ∷ ps) s = rw (← s.0, ← s.1) X

  -- the then sides come next
  pub down-goes : (ps : List Waiting) (a b : ℤ) → Going m o whole τ ps a b → top τ a b < τ.levels → (l line : ℕ) (e g : ℤ) → l ≡ top τ a b
      → e ≡ side τ (top τ a b) false a → g ≡ side τ (top τ a b) false b
      → Going m o whole τ (waiting a b l (pos 0) e g line ∷ ps) (side τ (top τ a b) true a) (side τ (top τ a b) true b)
  unfolding resume
  down-goes ps a b S L l line e g u v w =
      let Q = ready S.left S.right in
      let P = sides-ready m o τ a b Q L true τ R (grows-refl τ) in
      let z = eq_z-refl (pos 0) in
      record {
        left = P.left;
        right = P.right;
        waiting = (
          sides-deep m o τ a b Q L true τ (grows-refl τ),
          (
            record {
              left = S.left;
              right = S.right;
              high = L;
              level = u;
              els_left = v;
              els_right = w;
              then = λ q. absurd (true≢false (sym z ∙ q));
            },
            (S.sides, S.waiting),
          ),
        );
        sides = rw z (refl, refl);
        rest = ap (resume m o ps) (finish-by m o (waiting a b l (pos 0) e g line) true z (join_of m o τ (side τ (top τ a b) true a) (side τ (top τ a b) true b)) ∙ rw (u, v, w) (sym (join_step m o τ a b Q L))) ∙ S.rest;
      }

  -- a result of the then sides comes back, and the else sides come next
  pub over-goes : (p : Waiting) (ps : List Waiting) (x : ℤ) → Coming m o whole τ (p ∷ ps) x → lacks_then p ≡ true
      → Going m o whole τ (given x p ∷ ps) p.els.left p.els.right
  unfolding resume
  over-goes p ps x C q =
      let W = C.waiting.1.0 in
      let Q = ready W.left W.right in
      let P = sides-ready m o τ p.left p.right Q W.high false τ R (grows-refl τ) in
      let h = given-has τ x p C.edge in
      record {
        left = rw W.els_left P.left;
        right = rw W.els_right P.right;
        waiting = (
          rw (W.els_left, W.els_right) (sides-deep m o τ p.left p.right Q W.high false τ (grows-refl τ)),
          (
            record {
              left = W.left;
              right = W.right;
              high = W.high;
              level = W.level;
              els_left = W.els_left;
              els_right = W.els_right;
              then = λ _. rw q at C.result;
            },
            C.waiting.1.1,
          ),
        );
        sides = rw h (W.els_left, W.els_right);
        rest = ap (resume m o ps) (finish-by m o (given x p) false h (join_of m o τ p.els.left p.els.right) ∙ sym (finish-by m o p true q (made x τ))) ∙ C.rest;
      }

  -- Both sides have come back: their node may be made.
  module _ (p : Waiting) (ps : List Waiting) (x : ℤ) (C : Coming m o whole τ (p ∷ ps) x) (q : lacks_then p ≡ false) where
    made-rest : resume m o ps (make m τ (top_of τ p) p.then x) ≡ whole
    unfolding resume
    made-rest = rw C.waiting.1.0.level at (ap (resume m o ps) (sym (finish-by m o p false q (made x τ))) ∙ C.rest)

    sides-of : Ready m τ p.left p.right
    sides-of = ready C.waiting.1.0.left C.waiting.1.0.right

    high : top_of τ p < τ.levels
    high = C.waiting.1.0.high

    result-of : (y : Bool) (z : ℤ) → SaysJoin o τ (left_of τ y p) (right_of τ y p) z → Result o τ (left_of τ y p) (right_of τ y p) τ z
    result-of y z X = record
        { edge = X.edge; says = X.says; deep = says-deep m o τ _ _ z (sides-ready m o τ p.left p.right sides-of high y τ R (grows-refl τ)) X }

    then-result : Result o τ (left_of τ true p) (right_of τ true p) τ p.then
    then-result = result-of true p.then (C.waiting.1.0.then q)

    else-result : Result o τ (left_of τ false p) (right_of τ false p) τ x
    else-result = result-of false x (rw q at C.result)

    pub makes-node : Makes τ (top_of τ p) p.then x
    makes-node = sides-make m o τ p.left p.right sides-of high p.then x τ τ (grows-refl τ) (grows-refl τ) then-result else-result

    abbrev after : Store
    after = (make m τ (top_of τ p) p.then x).after

    node-joined : Joined m o τ p.left p.right (make m τ (top_of τ p) p.then x)
    node-joined =
        made-joined m o τ p.left p.right sides-of high p.then x τ τ R (grows-refl τ) refl R (grows-refl τ) refl then-result else-result

    pub node-rules : Rules m after
    node-rules = node-joined.rules

    pub node-grows : Grows τ after
    node-grows = node-joined.grows

    -- it says the operation on the pair, and comes back to the pair before
    pub node-says : (z : ℤ) → (make m τ (top_of τ p) p.then x).answer ≡ value z → SaysJoin o after p.left p.right z
    node-says z e =
        let X = node-joined.edged z e in
        let G = node-grows in
        record {
          edge = X.edge;
          says = λ s. X.says s
              ∙ ap₂ (apply o) (sym (grow-answer G R.nodes s p.left sides-of.left)) (sym (grow-answer G R.nodes s p.right sides-of.right));
        }

    pub node-comes : (z : ℤ) → (make m τ (top_of τ p) p.then x).answer ≡ value z → Coming m o whole after ps z
    node-comes z e =
        let W = C.waiting.1.1 in
        record {
          edge = (node-says z e).edge;
          waiting = waiting-deeper o after ps (top_of τ p) after.levels (omega (arith, high, node-grows.levels))
              (waiting-grown node-grows R.nodes o ps (top_of τ p) W.1);
          result = result ps (last-grown node-grows R.nodes o ps (top_of τ p) p.left p.right W.1 W.0);
          rest = ap (λ r. resume m o ps (record { answer = r; after = after })) (sym e) ∙ made-rest;
        }
      where
        result : (ps : List Waiting) → SidesOfLast after ps p.left p.right → ResultForLast o after ps z
        result [] s = tt
        result (r ∷ rs) s = rw (← s.0, ← s.1) (node-says z e)

    -- there is no room for it: the whole join is refused, and the store is as it is
    pub node-lacks : (n : ℕ) → (make m τ (top_of τ p) p.then x).answer ≡ refused n → (whole.answer ≡ refused n) × (whole.after ≡ after)
    node-lacks n e = rw (← made-rest, resume-refused m o ps (make m τ (top_of τ p) p.then x) n e) (e, refl)
