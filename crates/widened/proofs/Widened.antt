-- The turned store. Document 02, request 5: 'A call turns an old store .. into a new one with its level count and every node, chain and root number
-- kept.' Its slots up to the count hold what the old ones hold, and the others zeros; so it keeps the rules where the old store does, under limits that
-- allow at least as much, and every edge says what it said.
use mathlib.Core.Path.{◌≡◌, refl, sym, ◌∙◌}
use mathlib.Core.List.{List, [], ◌∷◌}
use Prim.Native.Nat.{ℕ, zero, suc, ◌-◌, ◌≤◌, ◌<◌}
use native.Mathlib.Omega.{arith}
use native.Mathlib.Nat.{le_refl, le_trans}
use native.Mathlib.Decide.{dec_lt}
use lib.ListN.{length, get_or, take, replicate, length-replicate, get_or-replicate, get_or-eq_default}
use lib.Seq.{get_or-take, length-take-le}
use lib.IntN.{ℤ, pos}
use Rattle.codes.specs.Limits.{Limits}
use Rattle.codes.specs.Lent.{laid}
use Rattle.codes.proofs.Lent.{length-laid}
use Rattle.store.specs.Store.{Store, level_at, then_at, else_at, next_at}
use Rattle.store.specs.Rules.{Sizes, Zero, Rules}
use Rattle.store.specs.Meaning.{Setting, answer}
use Rattle.store.specs.Growth.{EdgeOf, Grows}
use Rattle.store.proofs.Growth.{grow-edge, grow-answer, fewer-nodes}
use Rattle.store.proofs.Chain.{Linked, linked-chains, chains-linked, Agree, agree-newest, agree-next}
use Rattle.widened.specs.OldLimits.{Wider}
use Rattle.widened.specs.Widen.{widened}

-- entries laid over a list: its front is theirs,
laid-front : {A : Type 0} (es old : List A) (i : ℕ) (d : A) → length es ≤ length old → i < length es → get_or (laid es old) i d ≡ get_or es i d
unfolding laid
laid-front [] old i d h k = absurd (omega arith)
laid-front (e ∷ es) [] i d h k = absurd (omega arith)
laid-front (e ∷ es) (o ∷ old) zero d h k = refl
laid-front (e ∷ es) (o ∷ old) (suc i) d h k = laid-front es old i d (omega arith) (omega arith)

-- and what follows is as it was
laid-beyond : {A : Type 0} (es old : List A) (i : ℕ) (d : A) → length es ≤ i → get_or (laid es old) i d ≡ get_or old i d
unfolding laid
laid-beyond [] old i d h = refl
laid-beyond (e ∷ es) [] i d h = refl
laid-beyond (e ∷ es) (o ∷ old) zero d h = absurd (omega arith)
laid-beyond (e ∷ es) (o ∷ old) (suc i) d h = laid-beyond es old i d (omega arith)

-- an entry of a list of one value
one_value : {A : Type 0} (n i : ℕ) (d : A) → get_or (replicate n d) i d ≡ d
one_value n i d = go (dec_lt i n)
  where
    go : Dec (i < n) → get_or (replicate n d) i d ≡ d
    go (yes h) = get_or-replicate n i d d h
    go (no f) = get_or-eq_default (replicate n d) d (omega (arith, length-replicate n d))

-- one slot list of the new store, by the count and the old list
module _ {A : Type 0} (d : A) (slots count : ℕ) (xs : List A) (h : count ≤ slots) (k : count ≤ length xs) where
  list-long : length (laid (take count xs) (replicate slots d)) ≡ slots
  list-long = length-laid (take count xs) (replicate slots d) ∙ length-replicate slots d

  list-kept : (i : ℕ) → i < count → get_or (laid (take count xs) (replicate slots d)) i d ≡ get_or xs i d
  list-kept i p =
      laid-front (take count xs) (replicate slots d) i d (omega (arith, length-take-le count xs k, length-replicate slots d))
      (omega (arith, length-take-le count xs k))
      ∙ get_or-take count xs i d p

  list-zero : (i : ℕ) → count ≤ i → get_or (laid (take count xs) (replicate slots d)) i d ≡ d
  list-zero i p = laid-beyond (take count xs) (replicate slots d) i d (omega (arith, length-take-le count xs k)) ∙ one_value slots i d

module _ {m : Limits} (slots : ℕ) (σ : Store) (z : Sizes m σ) (h : σ.count ≤ slots) where
  -- the slots up to the count
  pub widened-level : (n : ℕ) → 1 ≤ n → n ≤ σ.count → level_at (widened slots σ) n ≡ level_at σ n
  unfolding widened
  widened-level n p k = list-kept 0 slots σ.count σ.level h z.count_slots (n - 1) (omega arith)

  pub widened-then : (n : ℕ) → 1 ≤ n → n ≤ σ.count → then_at (widened slots σ) n ≡ then_at σ n
  unfolding widened
  widened-then n p k = list-kept (pos 0) slots σ.count σ.then h (omega (arith, z.count_slots, z.then_long)) (n - 1) (omega arith)

  pub widened-els : (n : ℕ) → 1 ≤ n → n ≤ σ.count → else_at (widened slots σ) n ≡ else_at σ n
  unfolding widened
  widened-els n p k = list-kept (pos 0) slots σ.count σ.els h (omega (arith, z.count_slots, z.els_long)) (n - 1) (omega arith)

  pub widened-next : (n : ℕ) → 1 ≤ n → n ≤ σ.count → next_at (widened slots σ) n ≡ next_at σ n
  unfolding widened
  widened-next n p k = list-kept 0 slots σ.count σ.next h (omega (arith, z.count_slots, z.next_long)) (n - 1) (omega arith)

  -- 'unused slots are zero'
  pub widened-unused : (n : ℕ) → σ.count < n → Zero (widened slots σ) n
  unfolding widened
  widened-unused n k = record {
    level = list-zero 0 slots σ.count σ.level h z.count_slots (n - 1) (omega arith);
    then = list-zero (pos 0) slots σ.count σ.then h (omega (arith, z.count_slots, z.then_long)) (n - 1) (omega arith);
    els = list-zero (pos 0) slots σ.count σ.els h (omega (arith, z.count_slots, z.els_long)) (n - 1) (omega arith);
    next = list-zero 0 slots σ.count σ.next h (omega (arith, z.count_slots, z.next_long)) (n - 1) (omega arith);
  }

  -- a slot of a node that is zero
  zero-kept : (n : ℕ) → 1 ≤ n → n ≤ σ.count → Zero σ n → Zero (widened slots σ) n
  zero-kept n p k Z = record {
    level = widened-level n p k ∙ Z.level;
    then = widened-then n p k ∙ Z.then;
    els = widened-els n p k ∙ Z.els;
    next = widened-next n p k ∙ Z.next;
  }

  zero-back : (n : ℕ) → 1 ≤ n → n ≤ σ.count → Zero (widened slots σ) n → Zero σ n
  zero-back n p k Z = record {
    level = sym (widened-level n p k) ∙ Z.level;
    then = sym (widened-then n p k) ∙ Z.then;
    els = sym (widened-els n p k) ∙ Z.els;
    next = sym (widened-next n p k) ∙ Z.next;
  }

  -- all four lists are as long as was asked
  pub widened-long : length (widened slots σ).level ≡ slots
  unfolding widened
  widened-long = list-long 0 slots σ.count σ.level h z.count_slots

  pub widened-sizes : {w : Limits} → Wider m w → Sizes w (widened slots σ)
  unfolding widened
  widened-sizes W = record {
    then_long = list-long (pos 0) slots σ.count σ.then h (omega (arith, z.count_slots, z.then_long)) ∙ sym widened-long;
    els_long = list-long (pos 0) slots σ.count σ.els h (omega (arith, z.count_slots, z.els_long)) ∙ sym widened-long;
    next_long = list-long 0 slots σ.count σ.next h (omega (arith, z.count_slots, z.next_long)) ∙ sym widened-long;
    count_some = z.count_some;
    count_slots = omega (arith, widened-long);
    count_limit = le_trans z.count_limit W.nodes;
    heads_long = z.heads_long;
    levels_limit = le_trans z.levels_limit W.levels;
  }

  -- 'its level count and every node .. kept'
  sizes-grow : Grows σ (widened slots σ)
  unfolding widened
  sizes-grow = record {
    levels = refl;
    count = le_refl σ.count;
    level = λ n p k. widened-level n (omega arith) k;
    then = λ n p k. widened-then n (omega arith) k;
    els = λ n p k. widened-els n (omega arith) k;
  }

  -- and back
  shrinks : Grows (widened slots σ) σ
  unfolding widened
  shrinks = record {
    levels = refl;
    count = le_refl σ.count;
    level = λ n p k. sym (widened-level n (omega arith) k);
    then = λ n p k. sym (widened-then n (omega arith) k);
    els = λ n p k. sym (widened-els n (omega arith) k);
  }

  same_nodes : Agree (widened slots σ) σ σ.count
  same_nodes = record {
    level = λ n p k. widened-level n (omega arith) k;
    then = λ n p k. widened-then n (omega arith) k;
    els = λ n p k. widened-els n (omega arith) k;
  }

  other-nodes : Agree σ (widened slots σ) σ.count
  other-nodes = record {
    level = λ n p k. sym (widened-level n (omega arith) k);
    then = λ n p k. sym (widened-then n (omega arith) k);
    els = λ n p k. sym (widened-els n (omega arith) k);
  }

  -- 'chain .. kept'
  widened-linked : Linked σ → Linked (widened slots σ)
  unfolding widened
  widened-linked L = record {
    head = λ b k. L.head b k ∙ sym (agree-newest (widened slots σ) σ σ.count same_nodes b σ.count (le_refl σ.count));
    next = λ n p k. widened-next n (omega arith) k ∙ agree-next (widened slots σ) σ σ.count same_nodes n p k (L.next n p k);
  }

  linked-back : Linked (widened slots σ) → Linked σ
  unfolding widened
  linked-back L = record {
    head = λ b k. L.head b k ∙ sym (agree-newest σ (widened slots σ) σ.count other-nodes b σ.count (le_refl σ.count));
    next = λ n p k. sym (widened-next n (omega arith) k) ∙ agree-next σ (widened slots σ) σ.count other-nodes n p k (L.next n p k);
  }

  -- What the check of a turn leans on: an old store of these sizes whose unused slots are zeros keeps the rules where the turned one does.
  pub widened-back : {w : Limits} → ((n : ℕ) → σ.count < n → n ≤ length σ.level → Zero σ n) → Rules w (widened slots σ) → Rules m σ
  widened-back Z R = record {
    sizes = z;
    nodes = fewer-nodes sizes-grow R.nodes;
    chains = linked-chains σ (linked-back (chains-linked (widened slots σ) R.chains));
    zeros = record { first = zero-back 1 (omega arith) z.count_some R.zeros.first; unused = Z };
  }

module _ {m : Limits} (slots : ℕ) (σ : Store) (R : Rules m σ) (h : σ.count ≤ slots) where
  pub widened-grows : Grows σ (widened slots σ)
  widened-grows = sizes-grow slots σ R.sizes h

  -- the rules are kept, under limits that allow at least as much
  pub widened-rules : {w : Limits} → Wider m w → Rules w (widened slots σ)
  unfolding widened
  widened-rules W = record {
    sizes = widened-sizes slots σ R.sizes h W;
    nodes = fewer-nodes (shrinks slots σ R.sizes h) R.nodes;
    chains = linked-chains (widened slots σ) (widened-linked slots σ R.sizes h (chains-linked σ R.chains));
    zeros = record {
      first = zero-kept slots σ R.sizes h 1 (omega arith) R.sizes.count_some R.zeros.first;
      unused = λ n p k. widened-unused slots σ R.sizes h n p;
    };
  }

  -- 'root number kept': every edge is one of the new store, and says what it said
  pub turned-answers : (e : ℤ) → EdgeOf σ e → EdgeOf (widened slots σ) e × ((s : Setting) → answer (widened slots σ) s e ≡ answer σ s e)
  turned-answers e E = (grow-edge widened-grows e E, λ s. grow-answer widened-grows R.nodes s e E)
