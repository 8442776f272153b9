-- Every refusal of every call is one of the numbers of documents 01 and 02, and so is never 0, which is no refusal for C.
use mathlib.Core.Path.{◌≡◌, refl, sym, ap, subst, ◌∙◌}
use mathlib.Core.Logic.{◌⊎◌, inl, inr, ⊎_elim, ◌↔◌}
use mathlib.Core.Bool.{Bool, true, false, ◌&&◌, cond}
use mathlib.Core.List.{List, [], ◌∷◌}
use Prim.Native.Nat.{ℕ, zero, suc, ◌≤◌}
use native.Mathlib.Omega.{arith}
use lib.IntN.{ℤ}
use Rattle.codes.specs.Answer.{Read, value, refused}
use Rattle.codes.specs.Faults.{first_fault, unless}
use Rattle.codes.proofs.Faults.{none_in, first-in}
use Rattle.codes.proofs.Refusals.{unless-in}
use Rattle.header_lines.specs.Sweep.{lines_of}
use Rattle.header_lines.specs.SoundLines.{cut_short, faulty}
use Rattle.imported.specs.Import.{Setup}
use Rattle.imported.specs.Refused.{NodesRefused, crowded, early, text, binary, unended}
use Rattle.header_lines.proofs.HeaderEnd.{refused-lines, lines-numbers}
use Rattle.header_checks.proofs.WholeNumbers.{whole_numbers}
use Rattle.store.specs.Store.{Store}
use Rattle.codes.specs.Limits.{Limits}
use Rattle.store.specs.Keeps.{keeps}
use Rattle.store.specs.Growth.{is_root}
use Rattle.evaluation.specs.Evaluation.{is_setting, evaluation}
use Rattle.header.specs.Header as head
use Rattle.header.specs.Header.{table_of}
use Rattle.level_list.proofs.LevelLists.{list-levels, list-allowed}
use Rattle.imported.proofs.NodesRefused.{refused-nodes, nodes-numbers}
use Rattle.example_walk.specs.Example.{example_of}
use Rattle.tipping.specs.Tip.{tip_of}
use Rattle.variable_order.specs.Order.{is_order}
use Rattle.exported.specs.Export.{roots_fit, long_enough, names_fit, export_fault, Export, export_by, export_fault_of, export_file_of, export_of}
use Rattle.joined.specs.declared.Op.{Op}
use Rattle.joined.specs.Roots.{join_roots, opposite_root}
use Rattle.calls.specs.Load.{Load, setup_of, load_of}
use Rattle.calls.specs.Calls.{Call, load, evaluate, example, tip, export, join, opposite, evaluate_of}
use Rattle.calls.specs.Outcome.{Verdict, accepted, refusal, Tells, verdict_of, verdict_read, leaves}
use Rattle.calls.specs.Refusals.{RefusalNumber, NumberOf, LoadRefused, lists_short, store_broken, input_long, line_refused, whole_refused, scratch_short, list_refused, nodes_refused, NodesCarryLine, CarriesLine, JoinRefused, join_broken, root_bad, join_crowded, OppositeRefused, opposite_broken, opposite_bad, ExampleRefused, setting_short, example_broken, example_bad, no_setting, TipRefused, tip_broken, tip_bad, no_flip, RefusedFor}
use Rattle.calls.proofs.ExampleRefusals.{example-refused-exactly}
use Rattle.calls.proofs.TipRefusals.{tip-refused-exactly}
use Rattle.calls.proofs.JoinRefusals.{join-refused-exactly, opposite-refused-exactly}
use Rattle.calls.proofs.Refusals.{refused-exactly}

-- what is accepted is not refused
pub not-refused : {n line : ℕ} {B : Type 0} → accepted ≡ refusal n line → B
not-refused q = absurd (let z : ◌≡◌ {A = ℕ} 0 1 = cc in omega arith)

-- one refusal is the other
same-verdict : {n line k at : ℕ} → refusal k at ≡ refusal n line → (k ≡ n) × (at ≡ line)
same-verdict {n} {line} {k} {at} q =
    let a : k ≡ n = cc in
    let b : at ≡ line = cc in
    (a, b)

-- a load
load-refuses : (m : Limits) (c : Load) (σ : Store) (n line : ℕ) → verdict_of (load_of m c σ).answer ≡ refusal n line → LoadRefused m c σ n line
load-refuses m c σ n line q = go (load_of m c σ).answer refl q
  where
    go : (a : head.HeaderAnswer) → (load_of m c σ).answer ≡ a → verdict_of a ≡ refusal n line → LoadRefused m c σ n line
    go (head.header h) e q = not-refused q
    go (head.refusal k at) e q =
        let s = same-verdict q in
        (refused-exactly m c σ n line).0 (e ∙ rw (s.0, s.1))

-- an evaluation: 'Evaluation gives 3, 4'
evaluate-refuses : (m : Limits) (e : ℤ) (s : List ℕ) (σ : Store) (n line : ℕ) → verdict_read (evaluate_of m e s σ) ≡ refusal n line
    → ((n ≡ 3) ⊎ (n ≡ 4)) × (line ≡ 0)
unfolding evaluation
evaluate-refuses m e s σ n line q = go (keeps m σ) (is_root σ e && is_setting σ s) _ q
  where
    go : (k r b : Bool) → verdict_read (cond k (cond r (value b) (refused 4)) (refused 3)) ≡ refusal n line → ((n ≡ 3) ⊎ (n ≡ 4)) × (line ≡ 0)
    go false r b q = let s = same-verdict q in (inl (sym s.0), sym s.1)
    go true false b q = let s = same-verdict q in (inr (sym s.0), sym s.1)
    go true true b q = not-refused q

-- an export: 'Export gives 1, 3, 4, 6, 5'; 0 where none of them is
abbrev ExportNumber : ℕ → Type 0
ExportNumber n = (n ≡ 0) ⊎ ((n ≡ 1) ⊎ ((3 ≤ n) × (n ≤ 6)))

-- a check more in front
checked : (n : ℕ) (b : Bool) (l : List ℕ) → (n ≡ 1) ⊎ ((3 ≤ n) × (n ≤ 6)) → ExportNumber (first_fault l) → ExportNumber (first_fault (unless b n ∷ l))
checked n b l h w = first-in ExportNumber (unless b n) l (unless-in ExportNumber (inl refl) {n = n} (inr h) b) w

fault-number : (m : Limits) (x : Export) (σ : Store) → ExportNumber (export_fault_of m x σ)
unfolding export_fault
fault-number m x σ =
    checked 1 (long_enough σ x.roots x.names x.slots x.numbers x.out) _ (inl refl)
    (checked 3 (keeps m σ) _ (inr (omega arith))
    (checked 4 (roots_fit σ.count x.roots) _ (inr (omega arith))
    (checked 6 (is_order σ.levels x.order) _ (inr (omega arith))
    (checked 5 (names_fit σ x.roots x.names) _ (inr (omega arith))
    (none_in ExportNumber (inl refl))))))

export-refuses : (m : Limits) (x : Export) (σ : Store) (n line : ℕ) → verdict_read (export_of m x σ).answer ≡ refusal n line
    → ((n ≡ 1) ⊎ ((3 ≤ n) × (n ≤ 6))) × (line ≡ 0)
export-refuses m x σ n line q = go (export_fault_of m x σ) (fault-number m x σ) q
  where
    some : (k : ℕ) → ExportNumber (suc k) → (suc k ≡ 1) ⊎ ((3 ≤ suc k) × (suc k ≤ 6))
    some k (inl z) = absurd (omega arith)
    some k (inr z) = z

    go : (k : ℕ) → ExportNumber k → verdict_read (export_by k (export_file_of x σ) x.out).answer ≡ refusal n line
        → ((n ≡ 1) ⊎ ((3 ≤ n) × (n ≤ 6))) × (line ≡ 0)
    go zero N q = not-refused q
    go (suc k) N q =
        let s = same-verdict q in
        (subst (λ (i : ℕ). (i ≡ 1) ⊎ ((3 ≤ i) × (i ≤ 6))) s.0 (some k N), sym s.1)

-- a call that reads no file and answers so
read-refused : {A : Type 0} (r : Read A) (n line : ℕ) → verdict_read r ≡ refusal n line → (r ≡ refused n) × (line ≡ 0)
read-refused (value a) n line q = not-refused q
read-refused (refused k) n line q = let s = same-verdict q in (ap refused s.0, sym s.1)

-- a join: '3, 4, 40'
join-refuses : (m : Limits) (o : Op) (a b : ℤ) (σ : Store) (n line : ℕ) → verdict_read (join_roots m o σ a b).answer ≡ refusal n line
    → JoinRefused m o σ a b n × (line ≡ 0)
join-refuses m o a b σ n line q =
    let w = read-refused (join_roots m o σ a b).answer n line q in
    ((join-refused-exactly m o σ a b n).0 w.0, w.1)

-- an opposite: '3, 4'
opposite-refuses : (m : Limits) (a : ℤ) (σ : Store) (n line : ℕ) → verdict_read (opposite_root m σ a) ≡ refusal n line
    → OppositeRefused m σ a n × (line ≡ 0)
opposite-refuses m a σ n line q =
    let w = read-refused (opposite_root m σ a) n line q in ((opposite-refused-exactly m σ a n).0 w.0, w.1)

-- an example: '1, 3, 4, 41'
example-refuses : (m : Limits) (e : ℤ) (wanted : Bool) (long : ℕ) (σ : Store) (n line : ℕ) → verdict_read (example_of m σ e wanted long) ≡ refusal n line
    → ExampleRefused m e wanted long σ n × (line ≡ 0)
example-refuses m e wanted long σ n line q =
    let w = read-refused (example_of m σ e wanted long) n line q in ((example-refused-exactly m e wanted long σ n).0 w.0, w.1)

-- a tipping point: '3, 4, 42'
tip-refuses : (m : Limits) (e : ℤ) (s : List ℕ) (σ : Store) (n line : ℕ) → verdict_read (tip_of m σ e s) ≡ refusal n line
    → TipRefused m e s σ n × (line ≡ 0)
tip-refuses m e s σ n line q = let w = read-refused (tip_of m σ e s) n line q in ((tip-refused-exactly m e s σ n).0 w.0, w.1)

-- Every call is refused by a rule that is broken, and at the line that document 01 names.
pub refused-for : (m : Limits) (c : Call) (σ : Store) (n line : ℕ) → (leaves m c σ).verdict ≡ refusal n line → RefusedFor m c σ n line
refused-for m (load c) σ n line q = load-refuses m c σ n line q
refused-for m (evaluate e s) σ n line q = evaluate-refuses m e s σ n line q
refused-for m (example e wanted long) σ n line q = example-refuses m e wanted long σ n line q
refused-for m (tip e s) σ n line q = tip-refuses m e s σ n line q
refused-for m (export x) σ n line q = export-refuses m x σ n line q
refused-for m (join o a b) σ n line q = join-refuses m o a b σ n line q
refused-for m (opposite a) σ n line q = opposite-refuses m a σ n line q

-- the numbers of a load's refusals
load-number : {m : Limits} (c : Load) (σ : Store) {n line : ℕ} → LoadRefused m c σ n line → RefusalNumber n
load-number c σ (lists_short w) = inl (omega arith)
load-number c σ (store_broken L w) = inl (omega arith)
load-number c σ (input_long L R w) = inr (inl (omega arith))
load-number c σ (line_refused {n} {line} O w) = go (lines-numbers c.file (lines_of c.file) n line ((refused-lines c.file (lines_of c.file) n line).1 w))
  where
    go : ((n ≡ 10) × (line ≡ 0)) ⊎ (((11 ≤ n) × (n ≤ 19)) × (1 ≤ line)) → RefusalNumber n
    go (inl z) = inr (inl (omega (arith, z.0)))
    go (inr z) = inr (inl (omega (arith, z.0.0, z.0.1)))
load-number {m} c σ (whole_refused {n} O s q k) = go (whole_numbers m c.file (table_of c.file) n q)
  where
    go : (n ≡ 0) ⊎ ((19 ≤ n) × (n ≤ 26)) → RefusalNumber n
    go (inl z) = absurd (omega arith)
    go (inr z) = inr (inl (omega (arith, z.0, z.1)))
load-number c σ (scratch_short H w) = inl (omega arith)
load-number c σ (list_refused H S w) = inl (omega arith)
load-number c σ (nodes_refused {h} {n} {line} H S L w) =
    let W = list-levels _ _ c.list ((list-allowed h.nsuppvars σ.levels c.list).1 (L.counted, L.levels)) in
    let R = H.opened.rules in
    let u = setup_of c σ.levels h in
    ⊎_elim (λ z. inr (inl (omega (arith, z.0, z.1)))) (λ z. inr (inr (omega (arith, z.0, z.1))))
    (nodes-numbers u σ c.file h.next [] R W n line ((refused-nodes u σ c.file h.next [] R W n line).1 w))

nodes-carried : {m : Limits} {u : Setup} {σ : Store} {f : List ℕ} {at n line : ℕ} (w : NodesRefused m u σ f at n line) → (1 ≤ line) ↔ NodesCarryLine w
nodes-carried (crowded w) = (λ h. omega arith, λ z. absurd z)
nodes-carried (early r a e) = (λ h. omega arith, λ z. absurd z)
nodes-carried (text r a e k t i l) = (λ h. tt, λ z. omega (arith, i))
nodes-carried (binary r a e k) = (λ h. omega arith, λ z. absurd z)
nodes-carried (unended r e w) = (λ h. omega arith, λ z. absurd z)

-- A load's refusal has a line from 1 on exactly where it carries one: else its line is 0.
pub line-carried : {m : Limits} (c : Load) (σ : Store) {n line : ℕ} (w : LoadRefused m c σ n line) → (1 ≤ line) ↔ CarriesLine w
line-carried c σ (lists_short w) = (λ h. omega arith, λ z. absurd z)
line-carried c σ (store_broken L w) = (λ h. omega arith, λ z. absurd z)
line-carried c σ (input_long L R w) = (λ h. omega arith, λ z. absurd z)
line-carried c σ (line_refused O (cut_short e s)) = (λ h. omega arith, λ z. absurd z)
line-carried c σ (line_refused O (faulty before s after e b q k)) = (λ h. tt, λ z. omega arith)
line-carried c σ (whole_refused O s q k) = (λ h. omega arith, λ z. absurd z)
line-carried c σ (scratch_short H w) = (λ h. omega arith, λ z. absurd z)
line-carried c σ (list_refused H S w) = (λ h. omega arith, λ z. absurd z)
line-carried c σ (nodes_refused H S L w) = nodes-carried w

-- the numbers of a join's, of an opposite's, of an example's, and of a tipping point's
join-number : {m : Limits} {o : Op} {σ : Store} {a b : ℤ} {n : ℕ} → JoinRefused m o σ a b n → RefusalNumber n
join-number (join_broken w) = inl (omega arith)
join-number (root_bad R w) = inl (omega arith)
join-number (join_crowded Q w) = inr (inr (omega arith))

opposite-number : {m : Limits} {σ : Store} {a : ℤ} {n : ℕ} → OppositeRefused m σ a n → RefusalNumber n
opposite-number (opposite_broken w) = inl (omega arith)
opposite-number (opposite_bad R w) = inl (omega arith)

example-number : {m : Limits} {e : ℤ} {wanted : Bool} {long : ℕ} {σ : Store} {n : ℕ} → ExampleRefused m e wanted long σ n → RefusalNumber n
example-number (setting_short h) = inl (omega arith)
example-number (example_broken h w) = inl (omega arith)
example-number (example_bad h R w) = inl (omega arith)
example-number (no_setting h R E w) = inr (inr (omega arith))

tip-number : {m : Limits} {e : ℤ} {s : List ℕ} {σ : Store} {n : ℕ} → TipRefused m e s σ n → RefusalNumber n ⊎ (n ≡ 42)
tip-number (tip_broken w) = inl (inl (omega arith))
tip-number (tip_bad R w) = inl (inl (omega arith))
tip-number (no_flip R E S w) = inr refl

-- The numbers of documents 01 and 02 are all that a call is refused with.
pub refusal-number : (m : Limits) (c : Call) (σ : Store) (n line : ℕ) → RefusedFor m c σ n line → NumberOf c n
refusal-number m (load c) σ n line w = load-number c σ w
refusal-number m (evaluate e s) σ n line w = ⊎_elim (λ z. inl (omega (arith, z))) (λ z. inl (omega (arith, z))) w.0
refusal-number m (example e wanted long) σ n line w = example-number w.0
refusal-number m (tip e s) σ n line w = tip-number w.0
refusal-number m (export x) σ n line w = ⊎_elim (λ z. inl (omega (arith, z))) (λ z. inl (omega (arith, z.0, z.1))) w.0
refusal-number m (join o a b) σ n line w = join-number w.0
refusal-number m (opposite a) σ n line w = opposite-number w.0

-- 0 is none of them
pub number-some : {n : ℕ} → RefusalNumber n → 1 ≤ n
number-some (inl z) = z.0
number-some (inr (inl z)) = omega (arith, z.0)
number-some (inr (inr z)) = omega (arith, z.0)

number_of-some : (c : Call) {n : ℕ} → NumberOf c n → 1 ≤ n
number_of-some (load c) z = number-some z
number_of-some (evaluate e s) z = number-some z
number_of-some (example e wanted long) z = number-some z
number_of-some (tip e s) (inl z) = number-some z
number_of-some (tip e s) (inr z) = omega (arith, z)
number_of-some (export x) z = number-some z
number_of-some (join o a b) z = number-some z
number_of-some (opposite a) z = number-some z

-- So C is told 0 exactly where a call isn't refused.
pub told-zero : (m : Limits) (c : Call) (σ : Store) (n line : ℕ) → Tells n line (leaves m c σ).verdict
    → (n ≡ 0) ↔ ((leaves m c σ).verdict ≡ accepted)
told-zero m c σ n line t = go (leaves m c σ).verdict refl t
  where
    go : (v : Verdict) → (leaves m c σ).verdict ≡ v → Tells n line v → (n ≡ 0) ↔ (v ≡ accepted)
    go accepted q t = (λ z. refl, λ z. t.0)
    go (refusal k at) q t = (
      λ z. absurd (omega (arith, number_of-some c (refusal-number m c σ k at (refused-for m c σ k at q)), t.0)),
      λ z. not-refused (sym z),
    )
