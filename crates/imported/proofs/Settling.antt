-- What reading the nodes of a file leaves: the edges of the lines that lie over the front of the scratch, the roots, and the store, from
-- which what a refused file has made is taken back exactly. Document 01, 'On any refusal outputs are all zeros and the store is unchanged'.
use mathlib.Core.Path.{◌≡◌, refl, sym, ap, subst, ◌∙◌}
use mathlib.Core.Bool.{Bool, true, false, cond}
use mathlib.Core.List.{List, [], ◌∷◌, ◌++◌}
use Prim.Native.Nat.{ℕ, zero, suc, ◌+◌, ◌-◌, ◌≤◌, ◌<◌}
use native.Mathlib.Omega.{arith}
use native.Mathlib.Decide.{dec_lt}
use lib.ListN.{length, get_or, take, replicate, get_or-eq_default}
use lib.IntN.{ℤ, pos, nat_abs}
use Rattle.edges.specs.Width.{edge_limit}
use Rattle.codes.specs.Answer.{Read, value, refused, Step, got, fails}
use Rattle.store.specs.Store.{Store}
use Rattle.codes.specs.Limits.{Limits, limits}
use Rattle.store.specs.Rules.{Rules}
use Rattle.store.specs.Make.{back}
use Rattle.store.proofs.Back.{back-exact}
use Rattle.node_lines.specs.Line.{Line, seat_of_line}
use Rattle.node_lines.specs.Decode.{NodeLines, node_lines, DecodeEnd, all_read, stopped, more_lines, decode_from}
use Rattle.imported.specs.Build.{edge_for, AllEdges, LevelsOf, AllJudged}
use Rattle.imported.specs.Import.{Setup, line_at, lines_in, NodesAnswer, nodes, refusal, answer_by, ended_lines, built_from, lines_answer}
use Rattle.imported.specs.Import.{ends_well, with_end, edges_of, is_read, roots_by, import_of, Laid, EdgesIf}
use Rattle.imported.proofs.Building.{Builds, Roots, build-gives}
use Rattle.imported.proofs.Decoded.{decoded-judged}
use Rattle.imported.proofs.Reading.{line-judged}

module _ (read : List ℕ → ℕ → ℕ → Step Line) where
  -- as many lines as were asked for, where all could be read
  decoded-count : (k : ℕ) (seats : List ℕ) (n at next : ℕ) → (decode_from read k seats n at).end ≡ all_read next
      → length (decode_from read k seats n at).lines ≡ k
  unfolding decode_from
  decoded-count zero seats n at next q = refl
  decoded-count (suc k) seats n at next q =
      go (read seats n at) (λ l after. decoded-count k (seats ++ (seat_of_line l ∷ [])) (n + 1) after next) q
    where
      left : Step Line → NodeLines
      left (got l after) = more_lines l (decode_from read k (seats ++ (seat_of_line l ∷ [])) (n + 1) after)
      left (fails r) = node_lines [] (stopped r n)

      go : (x : Step Line)
          → ((l : Line) (after : ℕ) → (decode_from read k (seats ++ (seat_of_line l ∷ [])) (n + 1) after).end ≡ all_read next
          → length (decode_from read k (seats ++ (seat_of_line l ∷ [])) (n + 1) after).lines ≡ k)
          → (left x).end ≡ all_read next → length (left x).lines ≡ suc k
      go (got l after) ih q = ap suc (ih l after q)
      go (fails r) ih q = let z : ◌≡◌ {A = ℕ} 0 1 = cc in absurd (omega arith)

-- so it is of a file's lines
pub lines-count : (u : Setup) (f : List ℕ) (at next : ℕ) → (lines_in u f at).end ≡ all_read next → length (lines_in u f at).lines ≡ u.nnodes
unfolding lines_in
lines-count u f at next q = decoded-count _ u.nnodes [] 1 at next q

-- What an answer that the nodes are read stands for: all lines could be read and were made, and the file ends well.
pub record AllIn (f : List ℕ) (e : DecodeEnd) (x : Read (List ℤ)) (next : ℕ) : Type 0 where
  pub edges : List ℤ
  pub made : x ≡ value edges
  pub lines : e ≡ all_read next
  pub end : ends_well f next ≡ true

-- the answer of lines that end so, by the end of the file
ended-all : (u : Setup) (f : List ℕ) (edges : List ℤ) (e : DecodeEnd) (next : ℕ) → with_end f (ended_lines u e) ≡ nodes next
    → AllIn f e (value edges) next
ended-all u f edges (stopped k n) next q = let z : ◌≡◌ {A = ℕ} 0 1 = cc in absurd (omega arith)
ended-all u f edges (all_read at) next q = go (ends_well f at) refl q
  where
    go : (b : Bool) → ends_well f at ≡ b → cond b (nodes at) (refusal 39 0) ≡ nodes next → AllIn f (all_read at) (value edges) next
    go true w p =
        let y : at ≡ next = cc in
        record { edges = edges; made = refl; lines = ap all_read y; end = subst (λ (n : ℕ). ends_well f n ≡ true) y w }
    go false w p = let z : ◌≡◌ {A = ℕ} 0 1 = cc in absurd (omega arith)

pub answer-all : (u : Setup) (f : List ℕ) (e : DecodeEnd) (x : Read (List ℤ)) (next : ℕ) → with_end f (answer_by u e x) ≡ nodes next
    → AllIn f e x next
answer-all u f e (value edges) next q = ended-all u f edges e next q
answer-all u f e (refused k) next q = let z : ◌≡◌ {A = ℕ} 0 1 = cc in absurd (omega arith)

-- and the other way
pub all-answer : (u : Setup) (f : List ℕ) (e : DecodeEnd) (x : Read (List ℤ)) (next : ℕ) → AllIn f e x next
    → with_end f (answer_by u e x) ≡ nodes next
all-answer u f e x next A =
    ap (λ y. with_end f (answer_by u e y)) A.made ∙ ap (λ y. with_end f (ended_lines u y)) A.lines
    ∙ ap (λ b. cond b (nodes next) (refusal 39 0)) A.end

-- nodes that are read end at a position
read-position : (a : NodesAnswer) → is_read a ≡ true → (next : ℕ) × (a ≡ nodes next)
read-position (nodes at) q = (at, refl)
read-position (refusal k line) q = let z : ◌≡◌ {A = ℕ} 0 1 = cc in absurd (omega arith)

-- what lies over the front
laid-front : (x : Read (List ℤ)) (edges l : List ℤ) (n : ℕ) → x ≡ value edges → length edges ≡ n → Laid x l → take n l ≡ edges_of x
laid-front (value es) edges l n q k h = subst (λ (j : ℕ). take j l ≡ es) (let y : es ≡ edges = cc in ap length y ∙ k) h
laid-front (refused r) edges l n q k h = let z : ◌≡◌ {A = ℕ} 0 1 = cc in absurd (omega arith)

-- a length that has stayed reaches as far
pub kept-long : (n a b : ℕ) → a ≡ b → n ≤ b → n ≤ a
kept-long n a b q h = omega arith

-- nothing is taken back
back_none : (n : ℕ) (τ : Store) → back (n - n) τ ≡ τ
unfolding back
back_none n τ = let q : n - n ≡ 0 = omega arith in rw q

-- the lines of a file are judged
lines-judged : (u : Setup) (f : List ℕ) (at : ℕ) → AllJudged u.list [] (lines_in u f at).lines
unfolding lines_in
lines-judged u f at =
    decoded-judged u.list (line_at u f)
    (λ seats n from l next q e. line-judged u.ascii u.extra u.list u.levels f seats n from e)
    u.nnodes at

module _ {m : Limits} (u : Setup) (σ : Store) (f : List ℕ) (at : ℕ) (R : Rules m σ) (W : LevelsOf σ u.list) where
  -- the lines made into the store
  pub lines-built : Builds m u.list σ (lines_in u f at).lines (built_from m u σ f at)
  lines-built = build-gives m u.list σ (lines_in u f at).lines R W (lines-judged u f at)

module _ (u : Setup) (σ : Store) (f : List ℕ) (at : ℕ) (R : Rules limits σ) (W : LevelsOf σ u.list) where
  -- each entry of the edges of all lines is an edge
  built-edges : (edges : List ℤ) → (built_from limits u σ f at).answer ≡ value edges → AllEdges edges
  unfolding edge_for
  built-edges edges q i = go (dec_lt i (length edges))
    where
      B : Roots u.list (lines_in u f at).lines (built_from limits u σ f at).after edges
      B = (lines-built u σ f at R W).roots edges q

      go : Dec (i < length edges) → nat_abs (get_or edges i (pos 1)) < edge_limit
      go (yes h) =
          let k : i + 1 - 1 ≡ i = omega arith in
          let E = (B.edge (pos (i + 1)) (omega arith) (omega (arith, B.lines))).there in
          let E' = rw k at E in
          omega (arith, E', (lines-built u σ f at R W).rules.sizes.count_limit)
      go (no h) = rw (get_or-eq_default edges (pos 1) {n = i} (omega arith)) (omega arith)

  -- where the nodes are read, the front of the scratch is the edges of all lines
  read-front : (l : List ℤ) → Laid (built_from limits u σ f at).answer l → is_read (with_end f (lines_answer limits u σ f at)) ≡ true
      → (take u.nnodes l ≡ edges_of (built_from limits u σ f at).answer) × AllEdges (take u.nnodes l)
  unfolding lines_answer
  read-front l h q =
      let p = read-position (with_end f (lines_answer limits u σ f at)) q in
      let A = answer-all u f (lines_in u f at).end (built_from limits u σ f at).answer p.0 p.1 in
      let k = ((lines-built u σ f at R W).roots A.edges A.made).lines ∙ lines-count u f at p.0 A.lines in
      let t = laid-front (built_from limits u σ f at).answer A.edges l u.nnodes A.made k h in
      (t, subst AllEdges (sym (t ∙ ap edges_of A.made)) (built-edges A.edges A.made))

  -- what the roots lean on
  pub front-edges : (l : List ℤ) (ok : Bool) {read answer : NodesAnswer}
      → read ≡ lines_answer limits u σ f at → answer ≡ with_end f read → ok ≡ is_read answer
      → Laid (built_from limits u σ f at).answer l → EdgesIf ok (take u.nnodes l)
  front-edges l true e1 e2 e3 h = (read-front l h (sym (e3 ∙ ap is_read (e2 ∙ ap (with_end f) e1)))).1
  front-edges l false e1 e2 e3 h = tt

  -- the roots
  front-roots : (l ids : List ℤ) (ok : Bool) → ok ≡ is_read (with_end f (lines_answer limits u σ f at)) → Laid (built_from limits u σ f at).answer l
      → roots_by ok (take u.nnodes l) ids ≡ roots_by ok (edges_of (built_from limits u σ f at).answer) ids
  front-roots l ids true q h = ap (λ es. roots_by true es ids) (read-front l h (sym q)).0
  front-roots l ids false q h = refl

  -- the store, by how many nodes stay
  settled-store : (ok : Bool)
      → back ((built_from limits u σ f at).after.count - cond ok (built_from limits u σ f at).after.count σ.count)
      (built_from limits u σ f at).after
      ≡ cond ok (built_from limits u σ f at).after σ
  settled-store true = back_none (built_from limits u σ f at).after.count (built_from limits u σ f at).after
  settled-store false =
      let B = lines-built u σ f at R W in
      back-exact limits σ (built_from limits u σ f at).after R B.rules B.grows B.long

  -- what taking back leans on: the rules, and how many nodes may stay
  pub stay-settled : (ok : Bool) {τ : Store} {to : ℕ} → τ ≡ (built_from limits u σ f at).after → to ≡ cond ok τ.count σ.count
      → Rules limits τ × ((1 ≤ to) × (to ≤ τ.count))
  stay-settled true {τ} e q =
      let S : Rules limits τ = subst (Rules limits) (sym e) (lines-built u σ f at R W).rules in
      (S, (omega (arith, S.sizes.count_some, q), omega (arith, q)))
  stay-settled false {τ} e q =
      let S : Rules limits τ = subst (Rules limits) (sym e) (lines-built u σ f at R W).rules in
      (S, (omega (arith, R.sizes.count_some, q), omega (arith, q, (lines-built u σ f at R W).grows.count, ap (λ (s : Store). s.count) e)))

  -- All that is left: the answer, the store, the roots, and the scratch, which ends as zeros.
  pub import-leaves : (ids l : List ℤ) {read answer : NodesAnswer} {ok : Bool} {to : ℕ} {τ υ : Store} {roots cleared : List ℤ}
      {seats : List ℕ} {n m k : ℕ}
      → read ≡ lines_answer limits u σ f at → τ ≡ (built_from limits u σ f at).after → Laid (built_from limits u σ f at).answer l
      → answer ≡ with_end f read → ok ≡ is_read answer → roots ≡ roots_by ok (take u.nnodes l) ids
      → to ≡ cond ok τ.count σ.count → υ ≡ back (τ.count - to) τ
      → cleared ≡ replicate (length l) (pos 0) → length l ≡ n → seats ≡ replicate m 0 → m ≡ k
      → (answer ≡ (import_of limits u σ f at ids).answer)
      × ((υ ≡ (import_of limits u σ f at ids).after)
      × ((roots ≡ (import_of limits u σ f at ids).roots)
      × ((cleared ≡ replicate n (pos 0))
      × (seats ≡ replicate k 0))))
  unfolding import_of
  import-leaves ids l {read} {answer} {ok} {to} {τ} {υ} {roots} e1 e2 h e3 e4 e5 e6 e7 e8 k8 e9 k9 =
      let a : answer ≡ with_end f (lines_answer limits u σ f at) = e3 ∙ ap (with_end f) e1 in
      let b : ok ≡ is_read (with_end f (lines_answer limits u σ f at)) = e4 ∙ ap is_read a in (
        a,
        (
          e7 ∙ ap (λ (n : ℕ). back (τ.count - n) τ) e6
              ∙ ap (λ (s : Store). back (s.count - cond ok s.count σ.count) s) e2 ∙ settled-store ok
              ∙ ap (λ (x : Bool). cond x (built_from limits u σ f at).after σ) b,
          (
            e5 ∙ front-roots l ids ok b h ∙ ap (λ (x : Bool). roots_by x (edges_of (built_from limits u σ f at).answer) ids) b,
            (e8 ∙ ap (λ (n : ℕ). replicate n (pos 0)) k8, e9 ∙ ap (λ (n : ℕ). replicate n 0) k9),
          ),
        ),
      )
