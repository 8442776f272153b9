-- Lists of calls under limits that allow more: the accepted calls of a list, made in a store with the same nodes and slots enough, leave the same nodes
-- and give the same roots with the same meanings. Document 02, request 5: 'as if read into the wide store from its start'.
use mathlib.Core.Path.{◌≡◌, refl, sym, ap, ap₂, subst, ◌∙◌}
use mathlib.Core.Bool.{not}
use mathlib.Core.List.{List, [], ◌∷◌}
use mathlib.Core.Option.{some}
use Prim.Native.Nat.{ℕ, suc, ◌≤◌}
use native.Mathlib.Omega.{arith}
use native.Mathlib.Nat.{le_trans}
use lib.ListN.{length, get_elem?}
use lib.IntN.{ℤ}
use Rattle.codes.specs.Limits.{Limits}
use Rattle.store.specs.Store.{Store}
use Rattle.store.specs.Rules.{Rules}
use Rattle.store.specs.Keeps.{rules?}
use Rattle.store.specs.Meaning.{Setting}
use Rattle.store.proofs.Growth.{grow-answer}
use Rattle.header.specs.Header.{Header, header, read_of}
use Rattle.joined.specs.Join.{apply}
use Rattle.joined.proofs.Roots.{join-gives, opposite-means}
use Rattle.calls.specs.Load.{Load, load_of}
use Rattle.calls.specs.Calls.{Call}
use Rattle.calls.specs.Outcome.{Verdict, accepted, refusal, leaves}
use Rattle.calls.specs.Lists.{run_calls, before}
use Rattle.calls.specs.Roots.{Meaning, roots_of, lines_under, root_says, load_says, join_says, opposite_says, Gives, loaded, joined, opposed, At, here, later}
use Rattle.calls.proofs.HeaderStands.{answer-stands, sound-read}
use Rattle.calls.proofs.Accepted.{answered-passes}
use Rattle.calls.proofs.Growing.{run-grows}
use Rattle.calls.proofs.Demand1.{demand-1}
use Rattle.widened.specs.OldLimits.{Wider}
use Rattle.turns.specs.Wide.{SameNodes, accepted_by, accepted_of}
use Rattle.turns.proofs.Asking.{opposite-same}
use Rattle.turns.proofs.Loading.{sound-wider}
use Rattle.turns.proofs.Joining.{roots-same}
use Rattle.turns.proofs.Accepted.{accepted-rules, gives-accepted}
use Rattle.turns.proofs.WiderLimits.{wider-call, wider-header, wider-roots}

-- A store that breaks the rules stays as it is,
module _ (m : Limits) (σ : Store) (f : Rules m σ → ⊥) where
  broken-call : (c : Call) → (leaves m c σ).after ≡ σ
  broken-call c = go (leaves m c σ).verdict refl
    where
      go : (v : Verdict) → (leaves m c σ).verdict ≡ v → (leaves m c σ).after ≡ σ
      go accepted q = absurd (f (accepted-rules m c σ q))
      go (refusal n line) q = (demand-1 m c σ n line q).0

  pub broken-run : (cs : List Call) → run_calls m σ cs ≡ σ
  unfolding run_calls
  broken-run [] = refl
  broken-run (c ∷ cs) = ap (λ (υ : Store). run_calls m υ cs) (broken-call c) ∙ broken-run cs

-- so one that keeps them at the end kept them from the start.
pub kept-start : (m : Limits) (σ : Store) (cs : List Call) → Rules m (run_calls m σ cs) → Rules m σ
kept-start m σ cs R = go (rules? m σ)
  where
    go : Dec (Rules m σ) → Rules m σ
    go (yes S) = S
    go (no f) = subst (Rules m) (broken-run m σ f cs) R

-- what the accepted calls of a list leave
pub record SameRun (m w : Limits) (τ : Store) (υ ω : Store) : Type 0 where
  pub nodes : SameNodes m w υ ω
  pub long : length ω.level ≡ length τ.level

module _ {m w : Limits} (W : Wider m w) where
  -- the nodes that a call of a list leaves are no more than those at the end
  call-slots : (c : Call) (cs : List Call) (σ : Store) (n : ℕ) → (run_calls m (leaves m c σ).after cs).count ≤ n → (leaves m c σ).after.count ≤ n
  call-slots c cs σ n h = le_trans (run-grows m (leaves m c σ).after cs).count h

  -- a refused call leaves the nodes that were there
  refused-same : (c : Call) {σ τ : Store} (n line : ℕ) → (leaves m c σ).verdict ≡ refusal n line → SameNodes m w σ τ → SameNodes m w (leaves m c σ).after τ
  refused-same c {σ} {τ} n line q S = subst (λ (υ : Store). SameNodes m w υ τ) (sym (demand-1 m c σ n line q).0) S

  pub run-same : (cs : List Call) (σ τ : Store) → SameNodes m w σ τ → (run_calls m σ cs).count ≤ length τ.level
      → SameRun m w τ (run_calls m σ cs) (run_calls w τ (accepted_of m σ cs))
  unfolding run_calls accepted_of
  run-same [] σ τ S h = record { nodes = S; long = refl }
  run-same (c ∷ cs) σ τ S h = go (leaves m c σ).verdict refl (run-same cs (leaves m c σ).after)
    where
      go : (v : Verdict) → (leaves m c σ).verdict ≡ v
          → ((ω : Store) → SameNodes m w (leaves m c σ).after ω → (run_calls m (leaves m c σ).after cs).count ≤ length ω.level
          → SameRun m w ω (run_calls m (leaves m c σ).after cs) (run_calls w ω (accepted_of m (leaves m c σ).after cs)))
          → SameRun m w τ (run_calls m (leaves m c σ).after cs) (run_calls w τ (accepted_by v c (accepted_of m (leaves m c σ).after cs)))
      go (refusal n line) q I = I τ (refused-same c n line q S) h
      go accepted q I =
          let A = wider-call W S c q (call-slots c cs σ (length τ.level) h) in
          let J = I (leaves w c τ).after A.nodes (omega (arith, A.long, h)) in
          record { nodes = J.nodes; long = J.long ∙ A.long }

  -- the header of a file is read the same
  read_same : (c : Load) (σ : Store) (h : Header) → (load_of m c σ).answer ≡ header h → read_of w c.file ≡ read_of m c.file
  read_same c σ h q =
      let s = (answer-stands m c σ h (answered-passes m c σ h q).header_read).sound in
      sound-read w c.file h (sound-wider W s) ∙ sym (sound-read m c.file h s)

  -- A root is given again, by the same number, and means the same.
  pub gives_same : {c : Call} {σ τ : Store} {e : ℤ} {x : Meaning} → Gives m c σ e x → SameNodes m w σ τ → (leaves m c σ).after.count ≤ length τ.level
      → (y : Meaning) × (Gives w c τ e y × ((s : Setting) → y s ≡ x s))
  gives_same {τ = τ} (loaded c σ h i e q k t) S n = (
    load_says w c τ i,
    (
      loaded c τ h i e (wider-header W S c h q n) k (ap (λ (l : List ℤ). get_elem? l i) (wider-roots W S c h q n) ∙ t),
      λ s. ap₂ (λ a l. root_says c.list (lines_under c.file c.list l a) s (get_elem? (roots_of c.file) i)) (read_same c σ h q) S.grows.levels,
    ),
  )
  gives_same {τ = τ} (joined o a b σ e q) S n =
      let Q = (join-gives m o σ a b e q).0 in (
        join_says o τ a b,
        (
          joined o a b τ e (roots-same W S o a b e q n).answer,
          λ s. ap₂ (λ y z. some (apply o y z)) (grow-answer S.grows S.rules.nodes s a Q.left)
              (grow-answer S.grows S.rules.nodes s b Q.right),
        ),
      )
  gives_same {τ = τ} (opposed a σ e q) S n = (
    opposite_says τ a,
    (opposed a τ e (opposite-same S a ∙ q), λ s. ap (λ y. some (not y)) (grow-answer S.grows S.rules.nodes s a (opposite-means m σ a e q).root)),
  )

-- a root that a list of calls gives, by a call, with a number and a meaning
pub record GivenIn (w : Limits) (τ : Store) (cs : List Call) (c : Call) (e : ℤ) (x : Meaning) : Type 0 where
  pub place : ℕ
  pub at : At cs place c
  pub meaning : Meaning
  pub given : Gives w c (before w τ cs place) e meaning
  pub agrees : (s : Setting) → meaning s ≡ x s

module _ {m w : Limits} (W : Wider m w) where
  -- the root of the first call
  first-given : {c : Call} {σ τ : Store} {e : ℤ} {x : Meaning} (cs : List Call) → Gives m c σ e x → SameNodes m w σ τ
      → (leaves m c σ).after.count ≤ length τ.level → GivenIn w τ (accepted_by (leaves m c σ).verdict c cs) c e x
  unfolding run_calls
  first-given {c} {σ} {τ} {e} {x} cs G S n =
      let y = gives_same W G S n in
      subst (λ (v : Verdict). GivenIn w τ (accepted_by v c cs) c e x) (sym (gives-accepted G))
      (record { place = 0; at = here; meaning = y.0; given = y.1.0; agrees = y.1.1 })

  pub given-same : {cs : List Call} {k : ℕ} {c : Call} → At cs k c → (σ τ : Store) → SameNodes m w σ τ → (run_calls m σ cs).count ≤ length τ.level
      → {e : ℤ} {x : Meaning} → Gives m c (before m σ cs k) e x → GivenIn w τ (accepted_of m σ cs) c e x
  unfolding run_calls accepted_of
  given-same (here {c} {cs}) σ τ S h G = first-given (accepted_of m (leaves m c σ).after cs) G S (call-slots W c cs σ (length τ.level) h)
  given-same {c = c} (later {d = d} {cs = cs} p) σ τ S h {e} {x} G = go (leaves m d σ).verdict refl
      (λ ω T g. given-same p (leaves m d σ).after ω T g G)
    where
      go : (v : Verdict) → (leaves m d σ).verdict ≡ v
          → ((ω : Store) → SameNodes m w (leaves m d σ).after ω → (run_calls m (leaves m d σ).after cs).count ≤ length ω.level
          → GivenIn w ω (accepted_of m (leaves m d σ).after cs) c e x)
          → GivenIn w τ (accepted_by v d (accepted_of m (leaves m d σ).after cs)) c e x
      go (refusal n line) q I = I τ (refused-same W d n line q S) h
      go accepted q I =
          let A = wider-call W S d q (call-slots W d cs σ (length τ.level) h) in
          let J = I (leaves w d τ).after A.nodes (omega (arith, A.long, h)) in
          record { place = suc J.place; at = later J.at; meaning = J.meaning; given = J.given; agrees = J.agrees }
