-- The node lines of a file, made into the store one after the other: how far reading has come, and what each way out leaves. Document 01,
-- 'Node lines', and 'Whoever filled the store': '40°'.
use mathlib.Core.Path.{◌≡◌, refl, sym, ap, ◌∙◌}
use mathlib.Core.Bool.{true}
use mathlib.Core.List.{List, [], ◌∷◌, ◌++◌}
use Prim.Native.Nat.{ℕ, suc, ◌+◌, ◌-◌, ◌≤◌, ◌<◌}
use native.Mathlib.Omega.{arith}
use native.Mathlib.Decide.{dec_lt}
use borrow.Author.Tests.{ltb-true}
use lib.ListN.{length, get_or, take, set, length-set, get_or-append, get_or-eq_default}
use lib.Seq.{get_or_at, take-suc-set, length-take-le}
use lib.IntN.{ℤ, pos, nat_abs}
use Rattle.edges.specs.Width.{edge_limit, position_limit}
use Rattle.codes.specs.Answer.{value, refused, Step, got, fails}
use Rattle.store.specs.Store.{Store}
use Rattle.codes.specs.Limits.{limits}
use Rattle.store.specs.Rules.{Rules, depth}
use Rattle.store.specs.Growth.{EdgeOf, Grows}
use Rattle.store.proofs.Growth.{grows-refl, grow-edge, grow-depth}
use Rattle.store.proofs.Makes.{make-gives}
use Rattle.std.specs.Prelude.{Option, Some, None, Err}
use Rattle.std.specs.Option.{ok_or}
use Rattle.insertion.specs.Known.{KnownNodes}
use Rattle.nodes.specs.Promises.{MakePromise}
use Rattle.import_lines.specs.Promises.{AddPromise, LineAsks}
use Rattle.node_lines.specs.Line.{Line, terminal, inner, seat_of_line, seat_deeper, deeper}
use Rattle.node_lines.specs.Decode.{NodeLines, node_lines, DecodeEnd, all_read, stopped, more_lines, decode_from}
use Rattle.imported.specs.Build.{edge_for, add_line, Judged, Built, built, build_on, build, LevelsOf, AllEdges, ChildBelow}
use Rattle.imported.specs.Import.{Setup, line_at, lines_in, NodesAnswer, nodes, refusal, line_for, answer_by, built_from, lines_answer, Laid}
use Rattle.imported.proofs.Building.{turned-abs, turned-edge}

-- The edge a of a line of this seat: it is one of the store, and lies as deep as the line or deeper.
pub record Lies (levels : List ℕ) (τ : Store) (seat : ℕ) (a : ℤ) : Type 0 where
  pub edge : EdgeOf τ a
  pub deep : (l : ℕ) → l < τ.levels → seat_deeper levels l seat ≡ true → l < depth τ (nat_abs a)

-- the lines left, after n lines of these seats
abbrev pub rest : Setup → List ℕ → List ℕ → ℕ → ℕ → NodeLines
rest u f seats n at = decode_from (line_at u f) (u.nnodes - n) seats (n + 1) at

-- After n lines, where the store is τ, whose edges and seats lie over the front of two lists of lengths e and s: what is left to make is
-- the rest of the lines, from a position on.
pub record Progress (u : Setup) (σ : Store) (f : List ℕ) (from e s : ℕ) (τ : Store) (edges : List ℤ) (seats : List ℕ) (n at : ℕ) : Type 0 where
  pub rules : Rules limits τ
  pub low : LevelsOf τ u.list
  pub slots : length τ.level ≡ length σ.level
  pub edges_same : length edges ≡ e
  pub seats_same : length seats ≡ s
  pub edges_long : u.nnodes ≤ e
  pub seats_long : u.nnodes ≤ s
  pub within : n ≤ u.nnodes
  pub each : (i : ℕ) → i < n → Lies u.list τ (get_or (take n seats) i 0) (get_or (take n edges) i (pos 1))
  pub builds : built_from limits u σ f from ≡ build_on limits u.list τ (take n edges) (rest u f (take n seats) n at).lines
  pub ends : (lines_in u f from).end ≡ (rest u f (take n seats) n at).end

-- a line that is read, and one that is refused
decode-got : (read : List ℕ → ℕ → ℕ → Step Line) (k : ℕ) (seats : List ℕ) (n at : ℕ) (l : Line) (next : ℕ) → read seats n at ≡ got l next
    → decode_from read (suc k) seats n at ≡ more_lines l (decode_from read k (seats ++ (seat_of_line l ∷ [])) (n + 1) next)
unfolding decode_from
decode-got read k seats n at l next q = rw (decode_from, q)

decode-fails : (read : List ℕ → ℕ → ℕ → Step Line) (k : ℕ) (seats : List ℕ) (n at r : ℕ) → read seats n at ≡ fails r
    → decode_from read (suc k) seats n at ≡ node_lines [] (stopped r n)
unfolding decode_from
decode-fails read k seats n at r q = rw (decode_from, q)

-- no line is left
decode-none : (read : List ℕ → ℕ → ℕ → Step Line) (seats : List ℕ) (n at : ℕ) → decode_from read 0 seats n at ≡ node_lines [] (all_read at)
unfolding decode_from
decode-none read seats n at = refl

-- no line made
build-none : (levels : List ℕ) (τ : Store) (edges : List ℤ) → build_on limits levels τ edges [] ≡ built (value edges) τ
unfolding build_on
build-none levels τ edges = refl

-- one line made, and one that finds no room
build-more : (levels : List ℕ) (τ : Store) (edges : List ℤ) (l : Line) (ls : List Line) (a : ℤ)
    → (add_line limits levels τ edges l).answer ≡ value a
    → build_on limits levels τ edges (l ∷ ls) ≡ build_on limits levels (add_line limits levels τ edges l).after (edges ++ (a ∷ [])) ls
unfolding build_on
build-more levels τ edges l ls a q = rw q

build-full : (levels : List ℕ) (τ : Store) (edges : List ℤ) (l : Line) (ls : List Line) (k : ℕ)
    → (add_line limits levels τ edges l).answer ≡ refused k
    → build_on limits levels τ edges (l ∷ ls) ≡ built (refused k) (add_line limits levels τ edges l).after
unfolding build_on
build-full levels τ edges l ls k q = rw q

-- the error in place of none
pub error-is : {A E : Type 0} {x e : E} (o : Option A) → o ≡ None → Err x ≡ ok_or o e → x ≡ e
error-is o q p = let r = rw q at p in cc

-- an answer has one value
same_value : {a b : ℤ} → value a ≡ value b → a ≡ b
same_value q = cc

-- a line that is made
module _ (σ : Store) (width : ℕ) (levels : List ℕ) (edges : List ℤ) where
  pub terminal-added : (index : List ℕ) → KnownNodes width σ index → AddPromise σ σ index width levels edges terminal (Some (pos 1))
  unfolding add_line
  terminal-added index K = record { answer = refl; store = refl; known = K }

  pub inner-added : (τ : Store) (index : List ℕ) (p : ℕ) (t x : ℤ) (r : Option ℤ)
      → MakePromise σ τ index width (get_or levels p 0) (edge_for edges t) (edge_for edges x) r
      → AddPromise σ τ index width levels edges (inner p t x) r
  unfolding add_line
  inner-added τ index p t x r M = record { answer = M.answer; store = M.store; known = M.known }

module _ (u : Setup) (σ : Store) (f : List ℕ) (from : ℕ) where
  -- before the first line all are left
  all_left : u.nnodes - 0 ≡ u.nnodes
  all_left = omega arith

  pub progress_start : (edges : List ℤ) (seats : List ℕ) → Rules limits σ → LevelsOf σ u.list → u.nnodes ≤ length edges
      → u.nnodes ≤ length seats → Progress u σ f from (length edges) (length seats) σ edges seats 0 from
  unfolding build lines_in
  progress_start edges seats R W h k = record {
    rules = R;
    low = W;
    slots = refl;
    edges_same = refl;
    seats_same = refl;
    edges_long = h;
    seats_long = k;
    within = omega arith;
    each = λ i x. absurd (omega arith);
    builds = rw all_left;
    ends = rw all_left;
  }

  -- what the code leaves
  abbrev pub Ends : NodesAnswer → Store → List ℤ → Type 0
  Ends a τ edges = (a ≡ lines_answer limits u σ f from) × ((τ ≡ (built_from limits u σ f from).after) × Laid (built_from limits u σ f from).answer edges)

  -- by what was made and how reading ended
  ends_by : (b : Built) (e : DecodeEnd) (edges : List ℤ) → built_from limits u σ f from ≡ b → (lines_in u f from).end ≡ e → Laid b.answer edges
      → Ends (answer_by u e b.answer) b.after edges
  unfolding lines_answer
  ends_by b e edges p q d = rw (p, q) (refl, (refl, d))

module _ {u : Setup} {σ : Store} {f : List ℕ} {from e s : ℕ} {τ : Store} {edges : List ℤ} {seats : List ℕ} {n at : ℕ}
    (P : Progress u σ f from e s τ edges seats n at) where
  -- as long as at first
  pub edges-length : length (take n edges) ≡ n
  edges-length = length-take-le n edges (omega (arith, P.within, P.edges_long, P.edges_same))

  pub seats-length : length (take n seats) ≡ n
  seats-length = length-take-le n seats (omega (arith, P.within, P.seats_long, P.seats_same))

  -- each is an edge
  pub progress-edges : AllEdges (take n edges)
  progress-edges i = go (dec_lt i n)
    where
      go : Dec (i < n) → nat_abs (get_or (take n edges) i (pos 1)) < edge_limit
      go (yes h) = omega (arith, (P.each i h).edge.there, P.rules.sizes.count_limit)
      go (no h) = rw (get_or-eq_default (take n edges) (pos 1) {n = i} (omega (arith, edges-length))) (omega arith)

  -- all lines are made
  pub progress-all : u.nnodes ≤ n → Ends u σ f from (nodes at) τ edges
  progress-all h =
      let q : u.nnodes - n ≡ 0 = omega arith in
      let d : rest u f (take n seats) n at ≡ node_lines [] (all_read at) = rw q (decode-none (line_at u f) (take n seats) (n + 1) at) in
      let b : built_from limits u σ f from ≡ built (value (take n edges)) τ =
      P.builds ∙ ap (λ (r : NodeLines). build_on limits u.list τ (take n edges) r.lines) d ∙ build-none u.list τ (take n edges) in
      ends_by u σ f from (built (value (take n edges)) τ) (all_read at) edges b (P.ends ∙ ap (λ (r : NodeLines). r.end) d) (rw edges-length refl)

  module _ (h : n < u.nnodes) where
    -- one line is left at least
    left : u.nnodes - n ≡ suc (u.nnodes - (n + 1))
    left = omega arith

    -- the next line is refused
    pub progress-refused : (k : ℕ) → fails k ≡ line_at u f (take n seats) (n + 1) at → (line : ℕ)
        → line ≡ line_for u.ascii (u.lines + (n + 1)) k → Ends u σ f from (refusal k line) τ edges
    progress-refused k q line o =
        let d : rest u f (take n seats) n at ≡ node_lines [] (stopped k (n + 1)) =
        rw left (decode-fails (line_at u f) (u.nnodes - (n + 1)) (take n seats) (n + 1) at k (sym q)) in
        let b : built_from limits u σ f from ≡ built (value (take n edges)) τ =
        P.builds ∙ ap (λ (r : NodeLines). build_on limits u.list τ (take n edges) r.lines) d ∙ build-none u.list τ (take n edges) in
        rw o
        (ends_by u σ f from (built (value (take n edges)) τ) (stopped k (n + 1)) edges b (P.ends ∙ ap (λ (r : NodeLines). r.end) d) (rw edges-length refl))

    module _ (l : Line) (next : ℕ) (q : got l next ≡ line_at u f (take n seats) (n + 1) at) where
      -- the lines left after it
      abbrev after : NodeLines
      after = decode_from (line_at u f) (u.nnodes - (n + 1)) (take n seats ++ (seat_of_line l ∷ [])) (n + 1 + 1) next

      line-left : rest u f (take n seats) n at ≡ more_lines l after
      line-left = rw left (decode-got (line_at u f) (u.nnodes - (n + 1)) (take n seats) (n + 1) at l next (sym q))

      -- the next line is made
      progress-more : (υ : Store) (a : ℤ) → (add_line limits u.list τ (take n edges) l).answer ≡ value a
          → υ ≡ (add_line limits u.list τ (take n edges) l).after → Rules limits υ → Grows τ υ → length υ.level ≡ length τ.level
          → Lies u.list υ (seat_of_line l) a → Progress u σ f from e s υ (set edges n a) (set seats n (seat_of_line l)) (n + 1) next
      progress-more υ a x y R G long L =
          let z : n + 1 ≡ suc n = omega arith in
          let es : take (n + 1) (set edges n a) ≡ take n edges ++ (a ∷ []) =
          rw z (take-suc-set edges n a (omega (arith, P.edges_long, P.edges_same))) in
          let ss : take (n + 1) (set seats n (seat_of_line l)) ≡ take n seats ++ (seat_of_line l ∷ []) =
          rw z (take-suc-set seats n (seat_of_line l) (omega (arith, P.seats_long, P.seats_same))) in
          record {
            rules = R;
            low = λ p v. rw G.levels (P.low p v);
            slots = long ∙ P.slots;
            edges_same = length-set edges n a ∙ P.edges_same;
            seats_same = length-set seats n (seat_of_line l) ∙ P.seats_same;
            edges_long = P.edges_long;
            seats_long = P.seats_long;
            within = omega (arith, h);
            each = λ i v. rw (es, ss) (each_more i (omega (arith, v)) (dec_lt i n));
            builds = rw (es, ss) (P.builds ∙ ap (λ (r : NodeLines). build_on limits u.list τ (take n edges) r.lines) line-left
                ∙ build-more u.list τ (take n edges) l after.lines a x
                ∙ ap (λ (ω : Store). build_on limits u.list ω (take n edges ++ (a ∷ [])) after.lines) (sym y));
            ends = rw ss (P.ends ∙ ap (λ (r : NodeLines). r.end) line-left);
          }
        where
          each_more : (i : ℕ) → i < n + 1 → Dec (i < n)
              → Lies u.list υ (get_or (take n seats ++ (seat_of_line l ∷ [])) i 0) (get_or (take n edges ++ (a ∷ [])) i (pos 1))
          each_more i v (yes k) =
              let K = P.each i k in
              rw (
                get_or-append (take n seats) (seat_of_line l ∷ []) 0 i (omega (arith, seats-length)),
                get_or-append (take n edges) (a ∷ []) (pos 1) i (omega (arith, edges-length)),
              ) (record {
                edge = grow-edge G _ K.edge;
                deep = λ m w d. rw (grow-depth G (nat_abs (get_or (take n edges) i (pos 1))) K.edge.there) (K.deep m (rw G.levels at w) d);
              })
          each_more i v (no k) =
              let o : i ≡ n = omega arith in
              rw (o, get_or_at (take n seats) (seat_of_line l) [] 0 n seats-length, get_or_at (take n edges) a [] (pos 1) n edges-length) L

    -- the line of a child
    child-lies : (c : ℤ) (l : ℕ) → ChildBelow u.list (take n seats) (n + 1) l c
        → Lies u.list τ (get_or (take n seats) (nat_abs c - 1) 0) (get_or (take n edges) (nat_abs c - 1) (pos 1))
    child-lies c l C = P.each (nat_abs c - 1) (omega (arith, C.some, C.below))

    child-edge : (c : ℤ) (l : ℕ) → ChildBelow u.list (take n seats) (n + 1) l c → EdgeOf τ (edge_for (take n edges) c)
    unfolding edge_for
    child-edge c l C = turned-edge τ c (get_or (take n edges) (nat_abs c - 1) (pos 1)) (child-lies c l C).edge

    child-deep : (c : ℤ) (l : ℕ) → l < τ.levels → ChildBelow u.list (take n seats) (n + 1) l c → l < depth τ (nat_abs (edge_for (take n edges) c))
    unfolding edge_for deeper
    child-deep c l v C =
        rw (turned-abs c (get_or (take n edges) (nat_abs c - 1) (pos 1))) ((child-lies c l C).deep l v C.deep)

    -- a line that was judged may be made
    pub progress-asks : (l : Line) → Judged u.list (take n seats) (n + 1) l → LineAsks τ u.list (take n edges) l
    progress-asks terminal J = tt
    progress-asks (inner p t x) J =
        let v = P.low p J.position in
        let l = get_or u.list p 0 in
        let T = child-edge t l J.then in
        let E = child-edge x l J.els in
        record {
          position = J.position;
          then = J.then.some;
          els = J.els.some;
          children = record {
            then_some = T.some;
            then_there = T.there;
            then_deep = child-deep t l v J.then;
            else_some = E.some;
            else_there = E.there;
            else_deep = child-deep x l v J.els;
            level_low = v;
          };
        }

    module _ (l : Line) (J : Judged u.list (take n seats) (n + 1) l) (next : ℕ) (q : got l next ≡ line_at u f (take n seats) (n + 1) at) (υ : Store)
        (y : υ ≡ (add_line limits u.list τ (take n edges) l).after) where
      -- it is made
      pub progress-made : (r : ℤ) → value r ≡ (add_line limits u.list τ (take n edges) l).answer
          → Progress u σ f from e s υ (set edges n r) (set seats n (seat_of_line l)) (n + 1) next
      unfolding add_line
      progress-made r z = go l J q y z
        where
          go : (l : Line) → Judged u.list (take n seats) (n + 1) l → got l next ≡ line_at u f (take n seats) (n + 1) at
              → υ ≡ (add_line limits u.list τ (take n edges) l).after → value r ≡ (add_line limits u.list τ (take n edges) l).answer
              → Progress u σ f from e s υ (set edges n r) (set seats n (seat_of_line l)) (n + 1) next
          go terminal J q y z =
              progress-more terminal next q υ r (sym z) y (rw y P.rules) (rw y (grows-refl τ)) (ap (λ (ω : Store). length ω.level) y)
              (rw (y, same_value z) (record { edge = record { some = omega arith; there = P.rules.sizes.count_some }; deep = λ l v d. v }))
          go (inner p t x) J q y z =
              let l = get_or u.list p 0 in
              let A = progress-asks (inner p t x) J in
              let G = make-gives limits τ l (edge_for (take n edges) t) (edge_for (take n edges) x) P.rules A.children in
              let X = G.edged r (sym z) in
              progress-more (inner p t x) next q υ r (sym z) y (rw y G.rules) (rw y G.grows) (rw y G.long)
              (rw y (record { edge = X.edge; deep = λ m v d. omega (arith, ltb-true m l d, X.deep) }))

      -- it finds no room
      pub progress-full : refused 40 ≡ (add_line limits u.list τ (take n edges) l).answer → Ends u σ f from (refusal 40 0) υ edges
      progress-full z =
          let d : built_from limits u σ f from ≡ built (refused 40) υ =
          P.builds ∙ ap (λ (r : NodeLines). build_on limits u.list τ (take n edges) r.lines) (line-left l next q)
          ∙ build-full u.list τ (take n edges) l (after l next q).lines 40 (sym z) ∙ ap (built (refused 40)) (sym y) in
          ends_by u σ f from (built (refused 40) υ) (lines_in u f from).end edges d refl tt

-- the seat of a line that was judged is one of the level list, or 0
pub seat-small : (levels seats : List ℕ) (n : ℕ) (l : Line) → Judged levels seats n l → length levels < position_limit → seat_of_line l < 65536
seat-small levels seats n terminal J h = omega arith
seat-small levels seats n (inner p t x) J h = omega (arith, J.position)
