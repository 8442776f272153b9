-- A file's node lines made into a store: the store keeps the rules and has only grown, and the edge of each root or child says what the
-- file's own lines say. Document 01, 'Store and meaning' and 'Node lines'.
use mathlib.Core.Path.{◌≡◌, refl, sym, ap, ap₂, subst, ◌∙◌}
use mathlib.Core.Bool.{Bool, true, false, cond}
use mathlib.Core.Option.{some}
use mathlib.Core.List.{List, [], ◌∷◌, ◌++◌}
use Prim.Native.Nat.{ℕ, suc, ◌+◌, ◌-◌, ◌≤◌, ◌<◌}
use native.Mathlib.Omega.{arith}
use native.Mathlib.Decide.{dec_lt}
use borrow.Author.Tests.{ltb-true}
use lib.ListN.{length, get_or, get_elem?, length-append, get_or-append}
use lib.Seq.{append_snoc, get_or_at}
use lib.IntN.{ℤ, pos, negsuc, nat_abs}
use Rattle.codes.specs.Answer.{Read, value, refused}
use Rattle.edges.specs.Edge.{turn}
use Rattle.edges.proofs.Edge.{abs_neg}
use Rattle.store.specs.Store.{Store}
use Rattle.store.specs.Meaning.{Setting, answer}
use Rattle.codes.specs.Limits.{Limits}
use Rattle.store.specs.Rules.{depth, Nodes, Rules}
use Rattle.store.specs.Make.{Made, Makes}
use Rattle.store.specs.Growth.{EdgeOf, Grows}
use Rattle.store.proofs.Meaning.{node-one, opposite-edge, answer-opposite}
use Rattle.store.proofs.Growth.{grows-refl, grows-trans, grow-edge, grow-depth, grow-answer}
use Rattle.store.proofs.Makes.{Edged, make-gives, make-kept}
use Rattle.node_lines.specs.Line.{Line, terminal, inner, seat_of_line, seat_deeper, deeper}
use Rattle.node_lines.specs.Says.{line_numbered, turn_said, says_by, says}
use Rattle.imported.specs.Build.{turned_over, edge_for, add_line, Built, built, onwards, build_on, build}
use Rattle.imported.specs.Build.{LevelsOf, ChildBelow, Inner, Judged, AllJudged, none, one}
use Rattle.imported.proofs.SaysAs.{get_d-there, Falls, judged-falls, terminal-says, inner-says}

-- an edge turned over under a minus names the same node, and its answer is turned over
pub turned-abs : (c a : ℤ) → nat_abs (turned_over c a) ≡ nat_abs a
turned-abs (pos n) a = refl
turned-abs (negsuc n) a = abs_neg a

pub turned-edge : (τ : Store) (c a : ℤ) → EdgeOf τ a → EdgeOf τ (turned_over c a)
turned-edge τ (pos n) a E = E
turned-edge τ (negsuc n) a E = opposite-edge τ a E

turned-answer : (τ : Store) (s : Setting) (c a : ℤ) → 1 ≤ nat_abs a → answer τ s (turned_over c a) ≡ turn c (answer τ s a)
unfolding turn
turned-answer τ s (pos n) a h = refl
turned-answer τ s (negsuc n) a h = answer-opposite τ s a h

-- The edge a of line n, which has this seat, in the store as it is now: it says what the line says, and lies as deep as the line or deeper.
record Stands (levels : List ℕ) (ls : List Line) (τ : Store) (n seat : ℕ) (a : ℤ) : Type 0 where
  edge : EdgeOf τ a
  agrees : (s : Setting) → says_by n levels ls s n ≡ some (answer τ s a)
  deep : (l : ℕ) → l < τ.levels → seat_deeper levels l seat ≡ true → l < depth τ (nat_abs a)

-- the lines so far
record Lined (levels : List ℕ) (ls : List Line) (τ : Store) (seats : List ℕ) (edges : List ℤ) : Type 0 where
  even : length seats ≡ length edges
  each : (i : ℕ) → i < length edges → Stands levels ls τ (i + 1) (get_or seats i 0) (get_or edges i (pos 1))

module _ (levels : List ℕ) (ls : List Line) where
  -- it does so in a store that has grown too
  grow-stands : {τ υ : Store} (n seat : ℕ) (a : ℤ) → Grows τ υ → Nodes τ → Stands levels ls τ n seat a → Stands levels ls υ n seat a
  grow-stands n seat a G N S = record {
    edge = grow-edge G a S.edge;
    agrees = λ s. S.agrees s ∙ ap some (sym (grow-answer G N s a S.edge));
    deep = λ l h d. rw (grow-depth G (nat_abs a) S.edge.there) (S.deep l (rw G.levels at h) d);
  }

  -- one line more, in a store that has grown
  lined-more : (τ υ : Store) (seats : List ℕ) (edges : List ℤ) (seat : ℕ) (a : ℤ) → Lined levels ls τ seats edges → Grows τ υ → Nodes τ
      → Stands levels ls υ (length edges + 1) seat a → Lined levels ls υ (seats ++ (seat ∷ [])) (edges ++ (a ∷ []))
  lined-more τ υ seats edges seat a L G N S = record {
    even = omega (arith, length-append seats (seat ∷ []), length-append edges (a ∷ []), L.even);
    each = λ i h. at i (omega (arith, length-append edges (a ∷ []))) (dec_lt i (length edges));
  }
    where
      at : (i : ℕ) → i < length edges + 1 → Dec (i < length edges)
          → Stands levels ls υ (i + 1) (get_or (seats ++ (seat ∷ [])) i 0) (get_or (edges ++ (a ∷ [])) i (pos 1))
      at i h (yes k) =
          rw (get_or-append seats (seat ∷ []) 0 i (omega (arith, L.even)), get_or-append edges (a ∷ []) (pos 1) i k)
          (grow-stands (i + 1) (get_or seats i 0) (get_or edges i (pos 1)) G N (L.each i k))
      at i h (no k) =
          let q : i ≡ length edges = omega arith in
          rw (q, get_or_at seats seat [] 0 (length edges) L.even, get_or_at edges a [] (pos 1) (length edges) refl) S

-- A root or child c of lines so far by its edge a: the edge is one of the store, and says what c says.
record Root (levels : List ℕ) (ls : List Line) (τ : Store) (c a : ℤ) : Type 0 where
  edge : EdgeOf τ a
  agrees : (s : Setting) → says levels ls s c ≡ some (answer τ s a)

module _ (levels : List ℕ) (ls : List Line) (τ : Store) (seats : List ℕ) (edges : List ℤ) (L : Lined levels ls τ seats edges) where
  -- the line of a root or child
  line-stands : (c : ℤ) → 1 ≤ nat_abs c → nat_abs c ≤ length edges
      → Stands levels ls τ (nat_abs c) (get_or seats (nat_abs c - 1) 0) (get_or edges (nat_abs c - 1) (pos 1))
  line-stands c h k =
      let q : nat_abs c - 1 + 1 ≡ nat_abs c = omega arith in
      subst (λ (n : ℕ). Stands levels ls τ n (get_or seats (nat_abs c - 1) 0) (get_or edges (nat_abs c - 1) (pos 1))) q
      (L.each (nat_abs c - 1) (omega arith))

  -- the edge of a root or child, turned over under a minus
  root-of : (c : ℤ) → 1 ≤ nat_abs c → nat_abs c ≤ length edges → Root levels ls τ c (edge_for edges c)
  unfolding edge_for says
  root-of c h k =
      let S = line-stands c h k in
      let a : ℤ = get_or edges (nat_abs c - 1) (pos 1) in
      record {
        edge = turned-edge τ c a S.edge;
        agrees = λ s. ap (turn_said c) (S.agrees s) ∙ ap some (sym (turned-answer τ s c a S.edge.some));
      }

  -- a child of the next line, which lies deeper than level l
  child-deep : (n l : ℕ) (c : ℤ) → n ≡ length seats + 1 → l < τ.levels → ChildBelow levels seats n l c → l < depth τ (nat_abs (edge_for edges c))
  unfolding edge_for deeper
  child-deep n l c q h C =
      let S = line-stands c C.some (omega (arith, C.below, L.even)) in
      rw (turned-abs c (get_or edges (nat_abs c - 1) (pos 1))) (S.deep l h C.deep)

-- the line after lines of as many edges
numbered_next : (ls : List Line) (n : ℕ) (l : Line) → get_elem? ls n ≡ some l → line_numbered ls (n + 1) ≡ some l
numbered_next ls n l q =
    let e : suc n ≡ n + 1 = omega arith in
    subst (λ (k : ℕ). line_numbered ls k ≡ some l) e q

-- either side says something
some-side : (b x y : Bool) → cond b (some x) (some y) ≡ some (cond b x y)
some-side true x y = refl
some-side false x y = refl

-- the entry after others
there-at : {A : Type 0} (done : List A) (a : A) (rest : List A) → get_elem? (done ++ (a ∷ rest)) (length done) ≡ some a
there-at [] a rest = refl
there-at (x ∷ done) a rest = there-at done a rest

-- a value has one answer
value-one : {A : Type 0} (a b : A) → ◌≡◌ {A = Read A} (value a) (value b) → b ≡ a
value-one a b q = cc

-- What adding one line to the store gives.
record Adds (m : Limits) (levels : List ℕ) (ls : List Line) (τ : Store) (n seat : ℕ) (r : Made) : Type 0 where
  rules : Rules m r.after
  grows : Grows τ r.after
  long : length r.after.level ≡ length τ.level
  stands : (a : ℤ) → r.answer ≡ value a → Stands levels ls r.after n seat a

module _ (m : Limits) (levels : List ℕ) (ls : List Line) (F : Falls ls) (τ : Store) (seats : List ℕ) (edges : List ℤ)
    (R : Rules m τ) (L : Lined levels ls τ seats edges) where
  -- 'A terminal line says yes at every setting', as node 1 does
  one-stands : get_elem? ls (length edges) ≡ some terminal → Stands levels ls τ (length edges + 1) 0 (pos 1)
  unfolding turn
  one-stands q =
      record {
        edge = record { some = omega arith; there = R.sizes.count_some };
        agrees = λ s. terminal-says levels ls F s (length edges + 1) (numbered_next ls (length edges) terminal q) ∙ ap some (sym (node-one τ s));
        deep = λ l h d. h;
      }

  -- the two children of an inner line may be made into a node
  inner-makes : LevelsOf τ levels → (p : ℕ) (t e : ℤ) → Inner levels seats (length seats + 1) p t e
      → Makes τ (get_or levels p 0) (edge_for edges t) (edge_for edges e)
  inner-makes W p t e j =
      let T = root-of levels ls τ seats edges L t j.then.some (omega (arith, j.then.below, L.even)) in
      let E = root-of levels ls τ seats edges L e j.els.some (omega (arith, j.els.below, L.even)) in
      let v = W p j.position in
      record {
        then_some = T.edge.some;
        then_there = T.edge.there;
        then_deep = child-deep levels ls τ seats edges L (length seats + 1) (get_or levels p 0) t refl v j.then;
        else_some = E.edge.some;
        else_there = E.edge.there;
        else_deep = child-deep levels ls τ seats edges L (length seats + 1) (get_or levels p 0) e refl v j.els;
        level_low = v;
      }

  -- and the node says what the line says
  made-stands : (p : ℕ) (t e : ℤ) → Inner levels seats (length seats + 1) p t e → get_elem? ls (length edges) ≡ some (inner p t e) → (υ : Store) (a : ℤ)
      → Edged υ τ (get_or levels p 0) (edge_for edges t) (edge_for edges e) a → Stands levels ls υ (length edges + 1) (suc p) a
  made-stands p t e j q υ a X =
      let T = root-of levels ls τ seats edges L t j.then.some (omega (arith, j.then.below, L.even)) in
      let E = root-of levels ls τ seats edges L e j.els.some (omega (arith, j.els.below, L.even)) in
      record {
        edge = X.edge;
        agrees = λ s.
            inner-says levels ls F s (length edges + 1) p (get_or levels p 0) t e (numbered_next ls (length edges) (inner p t e) q)
            (get_d-there levels p 0 j.position)
            ∙ ap₂ (cond (s (get_or levels p 0))) (T.agrees s) (E.agrees s)
            ∙ some-side (s (get_or levels p 0)) _ _
            ∙ ap some (sym (X.says s));
        deep = λ l h d. omega (arith, ltb-true l (get_or levels p 0) d, X.deep);
      }

  -- the next line
  line-adds : LevelsOf τ levels → (l : Line) → Judged levels seats (length seats + 1) l → get_elem? ls (length edges) ≡ some l
      → Adds m levels ls τ (length edges + 1) (seat_of_line l) (add_line m levels τ edges l)
  unfolding add_line
  line-adds W terminal j q = record {
    rules = R;
    grows = grows-refl τ;
    long = refl;
    stands = λ a x. rw (value-one (pos 1) a x) (one-stands q);
  }
  line-adds W (inner p t e) j q =
      let G = make-gives m τ (get_or levels p 0) (edge_for edges t) (edge_for edges e) R (inner-makes W p t e j) in
      record {
        rules = G.rules;
        grows = G.grows;
        long = G.long;
        stands = λ a x. made-stands p t e j q _ a (G.edged a x);
      }

-- The edges of all lines: one for each, and the edge of a root or child is one of the store and says what the file's lines say of it.
pub record Roots (levels : List ℕ) (ls : List Line) (τ : Store) (edges : List ℤ) : Type 0 where
  pub lines : length edges ≡ length ls
  pub edge : (c : ℤ) → 1 ≤ nat_abs c → nat_abs c ≤ length ls → EdgeOf τ (edge_for edges c)
  pub agrees : (c : ℤ) → 1 ≤ nat_abs c → nat_abs c ≤ length ls → (s : Setting) → says levels ls s c ≡ some (answer τ s (edge_for edges c))

-- The rules are kept, the store has only grown, in as many slots, and the edges of all lines are as the lines say.
pub record Builds (m : Limits) (levels : List ℕ) (σ : Store) (ls : List Line) (r : Built) : Type 0 where
  pub rules : Rules m r.after
  pub grows : Grows σ r.after
  pub long : length r.after.level ≡ length σ.level
  pub roots : (edges : List ℤ) → r.answer ≡ value edges → Roots levels ls r.after edges

module _ (m : Limits) (levels : List ℕ) (σ : Store) (ls : List Line) where
  -- all lines are made
  all-built : (τ : Store) (seats : List ℕ) (edges : List ℤ) → Rules m τ → Grows σ τ → length τ.level ≡ length σ.level
      → length ls ≡ length edges → Lined levels ls τ seats edges → Builds m levels σ ls (built (value edges) τ)
  all-built τ seats edges R G long q L =
      let roots : Roots levels ls τ edges = record {
        lines = sym q;
        edge = λ c h k. (root-of levels ls τ seats edges L c h (omega arith)).edge;
        agrees = λ c h k. (root-of levels ls τ seats edges L c h (omega arith)).agrees;
      } in
      record { rules = R; grows = G; long = long; roots = λ es x. subst (Roots levels ls τ) (sym (value-one edges es x)) roots }

  -- one line more
  one-built : {n seat : ℕ} (τ : Store) (r : Made) (k : ℤ → Store → Built) → Grows σ τ → length τ.level ≡ length σ.level
      → Adds m levels ls τ n seat r → ((a : ℤ) → r.answer ≡ value a → Builds m levels σ ls (k a r.after)) → Builds m levels σ ls (onwards r k)
  one-built τ r k G long A f = go r.answer refl
    where
      go : (x : Read ℤ) → r.answer ≡ x → Builds m levels σ ls (elim x [ value a ↦ k a r.after | refused n ↦ built (refused n) r.after ])
      go (value a) q = f a q
      go (refused n) q = record {
        rules = A.rules;
        grows = grows-trans G A.grows;
        long = A.long ∙ long;
        roots = λ es x. let y : ◌≡◌ {A = ℕ} 0 1 = cc in absurd (omega arith);
      }

  -- all lines left, after those so far
  on-built : {seats : List ℕ} {rest : List Line} → AllJudged levels seats rest → Falls ls → LevelsOf σ levels
      → (done : List Line) (edges : List ℤ) (τ : Store) → ls ≡ done ++ rest → length done ≡ length edges
      → Rules m τ → Grows σ τ → length τ.level ≡ length σ.level → Lined levels ls τ seats edges
      → Builds m levels σ ls (build_on m levels τ edges rest)
  unfolding build_on
  on-built (none {seats}) F W done edges τ q c R G long L =
      all-built τ seats edges R G long (rw q (length-append done [] ∙ omega (arith, c))) L
  on-built (one {seats} {l} {ls = rest} j js) F W done edges τ q c R G long L =
      let here : get_elem? ls (length edges) ≡ some l = rw (q, sym c) (there-at done l rest) in
      let low : LevelsOf τ levels = λ p h. rw G.levels (W p h) in
      let A = line-adds m levels ls F τ seats edges R L low l j here in
      one-built τ (add_line m levels τ edges l) (λ a υ. build_on m levels υ (edges ++ (a ∷ [])) rest) G long A
      (λ a x. on-built js F W (done ++ (l ∷ [])) (edges ++ (a ∷ [])) (add_line m levels τ edges l).after
      (q ∙ sym (append_snoc done l rest)) (omega (arith, length-append done (l ∷ []), length-append edges (a ∷ [])))
      A.rules (grows-trans G A.grows) (A.long ∙ long)
      (lined-more levels ls τ (add_line m levels τ edges l).after seats edges (seat_of_line l) a L A.grows R.nodes (A.stands a x)))

  -- Node lines that their checks have let pass, made into a store that keeps the rules.
  pub build-gives : Rules m σ → LevelsOf σ levels → AllJudged levels [] ls → Builds m levels σ ls (build m levels σ ls)
  unfolding build
  build-gives R W J = on-built J (judged-falls J) W [] [] σ refl refl R (grows-refl σ) refl
      (record { even = refl; each = λ i h. absurd (omega arith) })

module _ (m : Limits) (levels : List ℕ) where
  -- a line's own refusal
  line-40 : (σ : Store) (edges : List ℤ) (l : Line) (k : ℕ) → (add_line m levels σ edges l).answer ≡ refused k → k ≡ 40
  unfolding add_line
  line-40 σ edges terminal k q = let y : ◌≡◌ {A = ℕ} 0 1 = cc in absurd (omega arith)
  line-40 σ edges (inner p t e) k q = (make-kept m σ (get_or levels p 0) (edge_for edges t) (edge_for edges e) k q).0

  -- a refusal of the lines left
  on-40 : (σ : Store) (edges : List ℤ) (ls : List Line) (k : ℕ) → (build_on m levels σ edges ls).answer ≡ refused k → k ≡ 40
  unfolding build_on
  on-40 σ edges [] k q = let y : ◌≡◌ {A = ℕ} 0 1 = cc in absurd (omega arith)
  on-40 σ edges (l ∷ ls) k q =
      let r = add_line m levels σ edges l in
      go r.answer r.after (line-40 σ edges l k) (λ a. on-40 r.after (edges ++ (a ∷ [])) ls k) q
    where
      go : (x : Read ℤ) (τ : Store) → (x ≡ refused k → k ≡ 40) → ((a : ℤ) → (build_on m levels τ (edges ++ (a ∷ [])) ls).answer ≡ refused k → k ≡ 40)
          → (onwards (record { answer = x; after = τ }) (λ a τ. build_on m levels τ (edges ++ (a ∷ [])) ls)).answer ≡ refused k → k ≡ 40
      go (value a) τ f g y = g a y
      go (refused n) τ f g y = f cc

  -- No other refusal than 40, whatever the lines and the store.
  pub build-40 : (σ : Store) (ls : List Line) (k : ℕ) → (build m levels σ ls).answer ≡ refused k → k ≡ 40
  unfolding build
  build-40 σ ls k q = on-40 σ [] ls k q
