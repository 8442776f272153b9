-- The theorem of acceptance: the nodes of a file are read exactly where all lines can be read, the file ends well, and the store has room;
-- and then each root answers in the store what the file's own lines say. Document 01, 'Node lines' and 'Whoever filled the store'.
use mathlib.Core.Path.{◌≡◌, refl, sym, ap, subst, ◌∙◌}
use mathlib.Core.Logic.{◌⊎◌, inl, inr, ⊎_elim, ◌↔◌}
use mathlib.Core.Bool.{Bool, true, false, cond}
use mathlib.Core.List.{List, map}
use Prim.Native.Nat.{ℕ, ◌+◌, ◌≤◌, ◌<◌}
use native.Mathlib.Omega.{arith}
use native.Mathlib.Decide.{dec_lt}
use borrow.Author.Tests.{eq-eqb, ne_eqb}
use lib.ListN.{length, get_or, get_or-map, length-map}
use lib.IntN.{ℤ, pos, nat_abs}
use Rattle.codes.specs.Answer.{Read, value, refused}
use Rattle.codes.specs.Limits.{Limits}
use Rattle.store.specs.Store.{Store}
use Rattle.store.specs.Rules.{Rules}
use Rattle.store.specs.Growth.{Grows}
use Rattle.node_lines.specs.Decode.{DecodeEnd, all_read, stopped}
use Rattle.import_bin.specs.BinaryNumbers.{BinaryNumber}
use Rattle.imported.specs.Build.{LevelsOf, edge_for, count_needed}
use Rattle.imported.specs.Import.{Setup, lines_in, NodesAnswer, nodes, refusal, line_for, answer_by, built_from, lines_answer}
use Rattle.imported.specs.Import.{ends_well, with_end, edges_of, root_edge, roots_by, is_read, Imported, import_of}
use Rattle.imported.specs.Acceptance.{StoreRoom, Crowded, NodesAccepted, NodesLeft}
use Rattle.imported.proofs.Building.{build-40}
use Rattle.imported.proofs.Room.{build-room, build-count}
use Rattle.imported.proofs.Refusals.{lines-stopped}
use Rattle.imported.proofs.Settling.{lines-count, AllIn, answer-all, all-answer, lines-built}

-- room, or too little of it
room-or : (n slots limit : ℕ) → (n ≤ slots → n ≤ limit → ⊥) → (slots < n) ⊎ (limit < n)
room-or n slots limit h = go (dec_lt slots n) (dec_lt limit n)
  where
    go : Dec (slots < n) → Dec (limit < n) → (slots < n) ⊎ (limit < n)
    go (yes p) d = inl p
    go (no p) (yes q) = inr q
    go (no p) (no q) = absurd (h (omega arith) (omega arith))

-- a line's own refusal isn't 40 at line 0: a binary line has none from 40 on, and a text line's is at a line from 1 on
stopped-40 : (u : Setup) (k n : ℕ) → (u.ascii ≡ false → k < 40) → 1 ≤ n
    → refusal k (line_for u.ascii (u.lines + n) k) ≡ refusal 40 0 → ⊥
stopped-40 u k n h p q = go u.ascii h q
  where
    go : (b : Bool) → (b ≡ false → k < 40) → refusal k (line_for b (u.lines + n) k) ≡ refusal 40 0 → ⊥
    go true h q =
        let a : k ≡ 40 = cc in
        let b : line_for true (u.lines + n) k ≡ 0 = cc in
        let c : line_for true (u.lines + n) 40 ≡ 0 = ap (line_for true (u.lines + n)) (sym a) ∙ b in
        omega (arith, c)
    go false h q = let a : k ≡ 40 = cc in omega (arith, h refl)

-- a binary line's number is below 40
binary-under : (k : ℕ) → BinaryNumber k → k < 40
binary-under k h = ⊎_elim (λ z. omega arith) (λ z. omega (arith, z.1)) h

module _ {m : Limits} (u : Setup) (σ : Store) (f : List ℕ) (at : ℕ) (ids : List ℤ) (R : Rules m σ) (W : LevelsOf σ u.list) where
  -- the answer, taken apart
  accepted-all : (next : ℕ) → (import_of m u σ f at ids).answer ≡ nodes next → AllIn f (lines_in u f at).end (built_from m u σ f at).answer next
  unfolding import_of lines_answer
  accepted-all next q = answer-all u f (lines_in u f at).end (built_from m u σ f at).answer next q

  all-accepted : (next : ℕ) → AllIn f (lines_in u f at).end (built_from m u σ f at).answer next → (import_of m u σ f at ids).answer ≡ nodes next
  unfolding import_of lines_answer
  all-accepted next A = all-answer u f (lines_in u f at).end (built_from m u σ f at).answer next A

  -- lines that have room are made
  pub room-made : StoreRoom m u.list σ (lines_in u f at).lines → (edges : List ℤ) × ((built_from m u σ f at).answer ≡ value edges)
  room-made r = (build-room m u.list σ (lines_in u f at).lines R.sizes).1 (r.slots, r.limit)

  pub made-room : (edges : List ℤ) → (built_from m u σ f at).answer ≡ value edges → StoreRoom m u.list σ (lines_in u f at).lines
  made-room edges q =
      let w = (build-room m u.list σ (lines_in u f at).lines R.sizes).0 (edges, q) in record { slots = w.0; limit = w.1 }

  -- Where the conditions hold the nodes are read, up to their position.
  pub accepted-next : (A : NodesAccepted m u σ f at) → (import_of m u σ f at ids).answer ≡ nodes A.next
  accepted-next A =
      let w = room-made A.room in
      all-accepted A.next (record { edges = w.0; made = w.1; lines = A.lines; end = A.end })

  -- The nodes of a file are read exactly where its lines can be read, the file ends well and the store has room.
  pub accepted : ((next : ℕ) × ((import_of m u σ f at ids).answer ≡ nodes next)) ↔ NodesAccepted m u σ f at
  accepted = (
    λ p. let A = accepted-all p.0 p.1 in
        record { next = p.0; lines = A.lines; end = A.end; room = made-room A.edges A.made },
    λ A. (A.next, accepted-next A),
  )

  -- what is left where the nodes are read
  read-after : (next : ℕ) → (import_of m u σ f at ids).answer ≡ nodes next → (import_of m u σ f at ids).after ≡ (built_from m u σ f at).after
  unfolding import_of
  read-after next q = ap (λ (a : NodesAnswer). cond (is_read a) (built_from m u σ f at).after σ) q

  read-roots : (next : ℕ) (edges : List ℤ) → (import_of m u σ f at ids).answer ≡ nodes next → (built_from m u σ f at).answer ≡ value edges
      → (import_of m u σ f at ids).roots ≡ map (root_edge edges) ids
  unfolding import_of
  read-roots next edges q e =
      ap (λ (a : NodesAnswer). roots_by (is_read a) (edges_of (built_from m u σ f at).answer) ids) q
      ∙ ap (λ (x : Read (List ℤ)). map (root_edge (edges_of x)) ids) e

  -- an entry of the roots
  root-at : (edges : List ℤ) (i : ℕ) → get_or (map (root_edge edges) ids) i (pos 0) ≡ root_edge edges (get_or ids i (pos 0))
  root-at edges i = get_or-map (root_edge edges) ids i (pos 0)

  -- a root that is used
  root-used : (edges : List ℤ) (c : ℤ) → 1 ≤ nat_abs c → root_edge edges c ≡ edge_for edges c
  root-used edges c h = ap (λ (b : Bool). cond b (pos 0) (edge_for edges c)) (ne_eqb (nat_abs c) 0 (λ q. omega arith))

  root-unused : (edges : List ℤ) (c : ℤ) → nat_abs c ≡ 0 → root_edge edges c ≡ pos 0
  root-unused edges c h = ap (λ (b : Bool). cond b (pos 0) (edge_for edges c)) (eq-eqb (nat_abs c) 0 h)

  -- what the lines made leave
  made-leaves : (edges : List ℤ) (r : Imported) → (built_from m u σ f at).answer ≡ value edges → length (lines_in u f at).lines ≡ u.nnodes
      → r.after ≡ (built_from m u σ f at).after → r.roots ≡ map (root_edge edges) ids → NodesLeft m u σ f at ids r
  made-leaves edges r e n a q =
      let B = lines-built u σ f at R W in
      let T = B.roots edges e in
      record {
        rules = subst (Rules m) (sym a) B.rules;
        grows = subst (Grows σ) (sym a) B.grows;
        slots = ap (λ (s : Store). length s.level) a ∙ B.long;
        count = ap (λ (s : Store). s.count) a ∙ build-count m u.list σ (lines_in u f at).lines R.sizes edges e;
        as_many = ap length q ∙ length-map ids (root_edge edges);
        root = λ i h k.
            let c : ℤ = get_or ids i (pos 0) in
            let e : get_or r.roots i (pos 0) ≡ edge_for edges c =
            ap (λ (l : List ℤ). get_or l i (pos 0)) q ∙ root-at edges i ∙ root-used edges c h in
            rw (a, e) (record { edge = T.edge c h (omega arith); agrees = T.agrees c h (omega arith) });
        unused = λ i h. ap (λ (l : List ℤ). get_or l i (pos 0)) q ∙ root-at edges i ∙ root-unused edges (get_or ids i (pos 0)) h;
      }

  -- Where they are read each root answers what the file's own lines say, and the store keeps the rules and has only grown.
  pub roots-say : (next : ℕ) → (import_of m u σ f at ids).answer ≡ nodes next → NodesLeft m u σ f at ids (import_of m u σ f at ids)
  roots-say next q =
      let A = accepted-all next q in
      made-leaves A.edges (import_of m u σ f at ids) A.made (lines-count u f at next A.lines) (read-after next q)
      (read-roots next A.edges q A.made)

  -- an answer of 40 is the store's own
  forty-built : (x : Read (List ℤ)) (e : DecodeEnd) → (lines_in u f at).end ≡ e → with_end f (answer_by u e x) ≡ refusal 40 0
      → (k : ℕ) × (x ≡ refused k)
  forty-built (refused k) e p q = (k, refl)
  forty-built (value edges) (stopped k n) p q =
      let w = lines-stopped u f at k n p in absurd (stopped-40 u k n (λ b. binary-under k (w.binary b)) w.from_one q)
  forty-built (value edges) (all_read next) p q = absurd (go (ends_well f next) q)
    where
      go : (b : Bool) → cond b (nodes next) (refusal 39 0) ≡ refusal 40 0 → ⊥
      go true q = let z : ◌≡◌ {A = ℕ} 0 1 = cc in omega arith
      go false q = let z : ◌≡◌ {A = ℕ} 39 40 = cc in omega arith

  forty-refused : (import_of m u σ f at ids).answer ≡ refusal 40 0 → (k : ℕ) × ((built_from m u σ f at).answer ≡ refused k)
  unfolding import_of lines_answer
  forty-refused q = forty-built (built_from m u σ f at).answer (lines_in u f at).end refl q

  pub refused-forty : (k : ℕ) → (built_from m u σ f at).answer ≡ refused k → (import_of m u σ f at ids).answer ≡ refusal 40 0
  unfolding import_of lines_answer
  refused-forty k q =
      ap (λ (x : Read (List ℤ)). with_end f (answer_by u (lines_in u f at).end x)) q
      ∙ ap (λ (n : ℕ). refusal n 0) (build-40 m u.list σ (lines_in u f at).lines k q)

  -- lines that are too many aren't made
  crowded-refused : Crowded m u.list σ (lines_in u f at).lines → (x : Read (List ℤ)) → (built_from m u σ f at).answer ≡ x
      → (k : ℕ) × (x ≡ refused k)
  crowded-refused c (refused k) q = (k, refl)
  crowded-refused c (value edges) q = absurd (go (made-room edges q) c)
    where
      go : StoreRoom m u.list σ (lines_in u f at).lines → Crowded m u.list σ (lines_in u f at).lines → ⊥
      go r (inl h) = omega (arith, r.slots)
      go r (inr h) = omega (arith, r.limit)

  -- Refusal 40: exactly where the lines, as far as they can be read, need more than the slots lent or the limit.
  pub refused-40 : ((import_of m u σ f at ids).answer ≡ refusal 40 0) ↔ Crowded m u.list σ (lines_in u f at).lines
  refused-40 = (
    λ q.
        let k = forty-refused q in
        room-or (count_needed u.list σ (lines_in u f at).lines) (length σ.level) m.nodes
        (λ h j. both k.0 k.1 (room-made (record { slots = h; limit = j }))),
    λ c. let k = crowded-refused c (built_from m u σ f at).answer refl in refused-forty k.0 k.1,
  )
    where
      both : (k : ℕ) → (built_from m u σ f at).answer ≡ refused k → (edges : List ℤ) × ((built_from m u σ f at).answer ≡ value edges) → ⊥
      both k q w = let e = w.1 in let z : ◌≡◌ {A = ℕ} 0 1 = cc in omega arith
