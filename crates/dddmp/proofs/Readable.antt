-- What the nodes lean on holds wherever the stages before them pass: the store's rules, the level list, and the limits.
use mathlib.Core.Path.{◌≡◌, refl, sym, ap, subst}
use mathlib.Core.Bool.{Bool, true, false}
use mathlib.Core.List.{List}
use Prim.Native.Nat.{ℕ, zero, suc, ◌+◌, ◌≤◌, ◌<◌}
use native.Mathlib.Omega.{arith}
use lib.Dec.{eqb, ltb}
use lib.ListN.{length}
use borrow.Author.Tests.{eqb-true}
use Rattle.codes.proofs.Bytes.{both}
use Rattle.read_lines.specs.Line.{line_of}
use Rattle.header_keys.specs.Keys.{slot_of, entry_of}
use Rattle.header_keys.specs.declared.Key.TheVariants.{Nodes}
use Rattle.header_lines.specs.Sweep.{key_at, value_at, said_word}
use Rattle.header_lines.specs.Sweep.{Lines, cut, nodes, line, Said, at_nodes, refused_at, fault_in, lines_from, lines_of, end_from, end_of}
use Rattle.header_values.specs.Values.{nnodes_in, nsuppvars_in}
use Rattle.header_checks.proofs.WholeRules.{whole-rules}
use Rattle.store.specs.Store.{Store}
use Rattle.header.specs.Header.{Header, HeaderAnswer, header, refusal, table_of}
use Rattle.level_list.specs.List.{list_fits}
use Rattle.imported.specs.Import.{Bounded}
use Rattle.level_list.proofs.LevelLists.{list-levels}
use Rattle.support.specs.Support.{ids_fit}
use Rattle.calls.specs.Load.{Load, header_of, before_nodes, setup_for}
use Rattle.stages.specs.Stages.{unless_refused, Readable}
use Rattle.calls.proofs.HeaderStands.{Stands, answer-stands}
use Rattle.calls.proofs.Passes.{between_none}
use Rattle.codes.specs.Limits.{limits}
use Rattle.store.specs.Keeps.{keeps-true}
use Rattle.dddmp.proofs.Staged.{ready, ready-header}

-- a refusal is no end at `.nodes`
no-nodes : {n at next lines : ℕ} {B : Type 0} → refused_at n at ≡ at_nodes next lines → B
no-nodes q = absurd (let z : ◌≡◌ {A = ℕ} 0 1 = cc in omega arith)

module _ (f : List ℕ) (next lines : ℕ) where
  -- after a line without a fault the next one decides
  line-few : (fuel n k : ℕ) (ls : Lines) → (end_from (n + 1) f ls ≡ at_nodes next lines → lines < n + 1 + fuel)
      → elim k [ zero ↦ end_from (n + 1) f ls | suc j ↦ refused_at (suc j) n ] ≡ at_nodes next lines → lines < n + suc fuel
  line-few fuel n zero ls g q = let w = g q in omega arith
  line-few fuel n (suc k) ls g q = no-nodes q

  -- `.nodes`' own line, another line, or the end of the input
  key-few : (fuel n m : ℕ) (s : Said) (ls : Lines) (b : Bool) → (end_from (n + 1) f ls ≡ at_nodes next lines → lines < n + 1 + fuel)
      → end_from n f (elim b [ true ↦ nodes m | false ↦ line s ls ]) ≡ at_nodes next lines → lines < n + suc fuel
  unfolding end_from
  key-few fuel n m s ls true g q = let w : n ≡ lines = cc in omega arith
  key-few fuel n m s ls false g q = line-few fuel n (fault_in f s) ls g q

  input-few : (fuel n : ℕ) (ls : Lines) (b : Bool) → (end_from n f ls ≡ at_nodes next lines → lines < n + suc fuel)
      → end_from n f (elim b [ true ↦ ls | false ↦ cut ]) ≡ at_nodes next lines → lines < n + suc fuel
  unfolding end_from
  input-few fuel n ls true g q = g q
  input-few fuel n ls false g q = no-nodes q

  -- each line takes one from the fuel
  lines-few : (fuel n at : ℕ) → end_from n f (lines_from fuel f at) ≡ at_nodes next lines → lines < n + fuel
  unfolding end_from lines_from
  lines-few zero n at q = no-nodes q
  lines-few (suc fuel) n at q =
      let after = (line_of f at).next in
      let is_nodes = eqb (entry_of (key_at f at)) (slot_of Nodes) in
      let here = said_word (key_at f at) (value_at f at) in
      let rest = lines_from fuel f after in
      input-few fuel n (elim is_nodes [ true ↦ nodes after | false ↦ line here rest ]) (ltb at (length f))
      (key-few fuel n after here rest is_nodes (lines-few fuel (n + 1) (line_of f at).next)) q

  -- a header has no more lines than the file has bytes
  pub lines-short : end_of f (lines_of f) ≡ at_nodes next lines → lines ≤ length f
  unfolding end_of lines_of
  lines-short q = let w = lines-few (length f) 1 0 q in omega arith

-- a level list that fits has one level per support variable
list_counted : (n m : ℕ) (l : List ℕ) → list_fits n m l ≡ true → length l ≡ n
unfolding list_fits
list_counted n m l q = eqb-true _ _ (both (eqb (length l) n) (ids_fit m l) q).0

module _ (c : Load) (σ : Store) where
  -- what passes scratch and level list
  bounded : (h : Header) → Stands limits c σ h → h.nnodes ≤ c.lent.edges → h.nnodes ≤ c.lent.seats
      → list_fits h.nsuppvars σ.levels c.list ≡ true → Bounded (setup_for c.list σ.levels h) c.lent.edges c.lent.seats
  bounded h S e s l =
      let w = S.sound in
      let R = (whole-rules limits c.file (table_of c.file)).0 w.whole in
      let few = lines-short c.file w.next w.lines w.ends in
      let n : h.nnodes ≡ nnodes_in c.file (table_of c.file) = ap (λ g. g.nnodes) w.is in
      let v : h.nsuppvars ≡ nsuppvars_in c.file (table_of c.file) = ap (λ g. g.nsuppvars) w.is in
      let m : h.lines ≡ w.lines = ap (λ g. g.lines) w.is in
      let a = R.few_nodes in
      let b = R.few_vars in
      let d = R.few_support in
      let k = list_counted h.nsuppvars σ.levels c.list l in
      let i = S.short in
      record { nodes = omega arith; edges_long = e; seats_long = s; few_levels = omega arith; few_lines = omega arith }

  checked-readable : (h : Header) → Stands limits c σ h → (k : ℕ) → before_nodes c σ h ≡ k
      → Readable (unless_refused h k) σ c.list c.lent.edges c.lent.seats
  checked-readable h S zero q =
      let b = between_none c σ h q in
      (keeps-true limits σ S.kept, (list-levels _ _ c.list b.1.1, bounded h S b.0 b.1.0 b.1.1))
  checked-readable h S (suc k) q = tt

  -- What scratch and level list let pass, the nodes can lean on.
  pub readable : (a : HeaderAnswer) → (header_of limits c σ).answer ≡ a → Readable (ready c σ a) σ c.list c.lent.edges c.lent.seats
  readable (header h) q =
      subst (λ a. Readable a σ c.list c.lent.edges c.lent.seats) (sym (ready-header c σ h))
      (checked-readable h (answer-stands limits c σ h q) _ refl)
  readable (refusal n at) q = tt
