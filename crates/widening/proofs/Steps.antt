-- The turn by its steps: what is found before a node is looked at, what the copy adds to it, and that what is left in the end is what the definition says.
use mathlib.Core.Path.{◌≡◌, refl, sym, ap, ◌∙◌}
use mathlib.Core.Bool.{Bool, true, false, cond}
use mathlib.Core.List.{List, [], ◌∷◌}
use Prim.Native.Nat.{ℕ, zero, suc}
use native.Mathlib.Omega.{arith}
use borrow.Author.Tests.{ne_eqb}
use lib.Dec.{eqb}
use lib.ListN.{length, take, replicate, length-replicate}
use lib.IntN.{ℤ, pos}
use Rattle.codes.specs.Faults.{first_fault, unless}
use Rattle.codes.specs.Lent.{laid}
use Rattle.codes.proofs.Lent.{length-laid}
use Rattle.codes.specs.Limits.{limits}
use Rattle.store.specs.Store.{Store, store}
use Rattle.store.specs.Rules.{Sizes, Zeros}
use Rattle.store.specs.Keeps.{keeps, keeps-true, keeps-false, is-keeps}
use Rattle.widened.specs.OldLimits.{old_limits}
use Rattle.widened.specs.Widen.{NewLengths, takes, widen_fault, widened, zeroed, left_by, widen_of}
use Rattle.old_stores.specs.Promises.{Judged}
use Rattle.old_stores.proofs.Judging.{fault-broken}
use Rattle.widening.specs.Course.{copy_fault, kept_unless}
use Rattle.widened.proofs.Old.{old-wider}
use Rattle.widened.proofs.Widened.{widened-rules, widened-back}
use Rattle.widened.proofs.Refusals.{takes-true}

module _ (l : NewLengths) (σ : Store) where
  fault-none : takes l σ.count ≡ true → keeps old_limits σ ≡ true → widen_fault l σ ≡ 0
  unfolding widen_fault first_fault
  fault-none q k = rw (q, k)

-- the whole of a list, copied into one of its length
pub laid-whole : (xs : List ℕ) (n : ℕ) → length xs ≡ n → laid (take n xs) (replicate n 0) ≡ xs
unfolding laid
laid-whole [] zero h = refl
laid-whole [] (suc n) h = absurd (omega arith)
laid-whole (x ∷ xs) zero h = absurd (omega arith)
laid-whole (x ∷ xs) (suc n) h = ap (λ l. x ∷ l) (laid-whole xs n (omega arith))

-- zeros over a copy
cleared : {A : Type 0} (d : A) (es : List A) (n : ℕ) → replicate (length (laid es (replicate n d))) d ≡ replicate n d
cleared d es n = ap (λ k. replicate k d) (length-laid es (replicate n d) ∙ length-replicate n d)

module _ (l : NewLengths) (σ : Store) where
  -- a copy of the first n slots and of k heads
  abbrev copy_of : ℕ → ℕ → Store
  copy_of n k =
      store σ.levels n (laid (take n σ.level) (replicate l.level 0)) (laid (take n σ.then) (replicate l.then (pos 0)))
      (laid (take n σ.els) (replicate l.els (pos 0))) (laid (take n σ.next) (replicate l.next 0))
      (laid (take k σ.heads) (replicate l.heads 0))

  -- what is left of a copy
  abbrev left_of : ℕ → Store → Store
  left_of f τ =
      store σ.levels (cond (eqb f 0) σ.count 0) (kept_unless f 0 τ.level) (kept_unless f (pos 0) τ.then) (kept_unless f (pos 0) τ.els)
      (kept_unless f 0 τ.next) (kept_unless f 0 τ.heads)

  some-fault : (f : ℕ) → eqb (suc f) 0 ≡ false
  some-fault f = ne_eqb (suc f) 0 (λ q. omega arith)

  -- on a refusal nothing is
  left-none : (f n k : ℕ) → left_of (suc f) (copy_of n k) ≡ zeroed l σ.levels
  unfolding zeroed
  left-none f n k =
      rw (
        some-fault f,
        cleared 0 (take n σ.level) l.level,
        cleared (pos 0) (take n σ.then) l.then,
        cleared (pos 0) (take n σ.els) l.els,
        cleared 0 (take n σ.next) l.next,
        cleared 0 (take k σ.heads) l.heads,
      )

  module _ (t : takes l σ.count ≡ true) (z : Sizes old_limits σ) (o : Zeros σ) where
    -- the copy of all nodes is the store turned
    pub copy-widened : copy_of σ.count 256 ≡ widened l.level σ
    unfolding widened
    copy-widened =
        let T = takes-true l σ.count t in
        rw (T.then_long, T.els_long, T.next_long, T.heads_long, laid-whole σ.heads 256 z.heads_long)

    -- which keeps the rules exactly where the old store keeps the old ones
    copy-judged : keeps limits (copy_of σ.count 256) ≡ keeps old_limits σ
    copy-judged =
        let T = takes-true l σ.count t in
        ap (keeps limits) copy-widened
        ∙ sym (is-keeps limits (widened l.level σ) (keeps old_limits σ) (record {
          yes = λ q. widened-rules l.level σ (keeps-true old_limits σ q) T.slots old-wider;
          no = λ q R. keeps-false old_limits σ q (widened-back l.level σ z T.slots o.unused R);
        }))

    whole-turned : (b : Bool) → keeps old_limits σ ≡ b
        → (unless b 3 ≡ widen_fault l σ) × (left_of (unless b 3) (copy_of σ.count 256) ≡ widen_of l σ)
    unfolding widen_of
    whole-turned true q = (sym (fault-none l σ t q), copy-widened ∙ ap (λ f. left_by f l σ) (sym (fault-none l σ t q)))
    whole-turned false q = (sym (fault-broken l σ t q), left-none 2 σ.count 256 ∙ ap (λ f. left_by f l σ) (sym (fault-broken l σ t q)))

  -- The turn by its steps: what was found, the copy, what the copy adds, and what is left.
  pub turned_by : (r : ℕ) → Judged l σ r
      → let τ = copy_of (cond (eqb r 0) σ.count 0) (cond (eqb r 0) 256 0) in
      (copy_fault r τ ≡ widen_fault l σ) × (left_of (copy_fault r τ) τ ≡ widen_of l σ)
  unfolding widen_of
  turned_by zero J =
      let w = J.none refl in
      rw (copy-judged w.0 w.1.0 w.1.1) (whole-turned w.0 w.1.0 w.1.1 (keeps old_limits σ) refl)
  turned_by (suc r) J =
      let q = J.found (omega arith) in
      let τ : Store = copy_of (cond (eqb (suc r) 0) σ.count 0) (cond (eqb (suc r) 0) 256 0) in
      let f : copy_fault (suc r) τ ≡ suc r = ap (λ (b : Bool). cond b (unless (keeps limits τ) 3) (suc r)) (some-fault r) in
      let e = left-none r (cond (eqb (suc r) 0) σ.count 0) (cond (eqb (suc r) 0) 256 0) ∙ ap (λ (x : ℕ). left_by x l σ) (sym q) in
      (f ∙ sym q, ap (λ (x : ℕ). left_of x τ) f ∙ e)

  -- The same, as the steps promise it.
  module _ (r : ℕ) (J : Judged l σ r) {n k c f g : ℕ} (pn : n ≡ cond (eqb r 0) σ.count 0) (pk : k ≡ cond (eqb r 0) 256 0) (pc : c ≡ cond (eqb r 0) σ.count 0)
      {L X H L' X' H' : List ℕ} {T E T' E' : List ℤ}
      (pL : L ≡ laid (take n σ.level) (replicate l.level 0)) (pT : T ≡ laid (take n σ.then) (replicate l.then (pos 0)))
      (pE : E ≡ laid (take n σ.els) (replicate l.els (pos 0))) (pX : X ≡ laid (take n σ.next) (replicate l.next 0))
      (pH : H ≡ laid (take k σ.heads) (replicate l.heads 0))
      (pf : f ≡ copy_fault r (store σ.levels c L T E X H))
      (qL : L' ≡ kept_unless f 0 L) (qT : T' ≡ kept_unless f (pos 0) T) (qE : E' ≡ kept_unless f (pos 0) E) (qX : X' ≡ kept_unless f 0 X) (qH : H' ≡ kept_unless f 0 H)
      (pg : g ≡ cond (eqb f 0) σ.count 0) where
    copied : store σ.levels c L T E X H ≡ copy_of (cond (eqb r 0) σ.count 0) (cond (eqb r 0) 256 0)
    copied = rw (pL, pT, pE, pX, pH, pn, pk, pc)

    pub steps-fault : f ≡ widen_fault l σ
    steps-fault = pf ∙ ap (copy_fault r) copied ∙ (turned_by r J).0

    pub steps-left : store σ.levels g L' T' E' X' H' ≡ widen_of l σ
    steps-left =
        let e : f ≡ copy_fault r (copy_of (cond (eqb r 0) σ.count 0) (cond (eqb r 0) 256 0)) = pf ∙ ap (copy_fault r) copied in
        rw (qL, qT, qE, qX, qH, pg) (ap (left_of f) copied ∙ rw e (turned_by r J).1)
