-- How many entries a list has: as many as its answer says, and no more than its limit.
use mathlib.Core.Path.{◌≡◌, refl, sym, subst}
use mathlib.Core.Bool.{Bool, true, false}
use mathlib.Core.List.{List, [], ◌∷◌, ◌++◌}
use Prim.Native.Nat.{ℕ, ◌≤◌}
use native.Mathlib.Omega.{arith}
use lib.ListN.{length}
use lib.Dec.{ltb}
use borrow.Author.Tests.{ltb-true, ltb-false}
use Rattle.codes.specs.Answer.{Read, value, refused}
use Rattle.codes.specs.Limits.{var_limit, root_limit}
use Rattle.read_lines.specs.Words.{Word, words}
use Rattle.read_lists.specs.Lists.{Listed, listed, judged, judge, u32_of, u32_list}
use Rattle.read_text.specs.Text.{name_of, name_list}
use Rattle.read_edges.specs.Edges.{entry_of, edge_list}
use Rattle.read_lists.specs.Judged.{Judged, whole, fault, full}
use Rattle.read_lists.proofs.Another.{another-more, another-full}
use Rattle.read_lists.proofs.Judged.{judge-judged}
use Rattle.header_lines.specs.Sweep.{Span}
use Rattle.header_keys.specs.declared.Key.{Key}
use Rattle.header_keys.specs.declared.Key.TheVariants.{Rootids}
use Rattle.header_values.specs.Values.{span_in, value_in, value_or, entries_by, entries_of, u32s_in, names_in, roots_in}

-- what is read as one number is that number
value-one : {m n : ℕ} → ◌≡◌ {A = Read ℕ} (value m) (value n) → m ≡ n
value-one e = cc

-- what is refused is not read
pub refused_none : {k n : ℕ} {B : Type 0} → ◌≡◌ {A = Read ℕ} (refused k) (value n) → B
refused_none e = absurd (let z : ◌≡◌ {A = ℕ} 0 1 = cc in omega arith)

-- the list has as many entries as its answer says
abbrev pub Counts : {A : Type 0} → Listed A → Type 0
Counts l = (n : ℕ) → l.answer ≡ value n → length l.entries ≡ n

module _ {A : Type 0} where
  -- the entries of a list, by the answer: as many as it says,
  by_count : (es : List A) (r : Read ℕ) → ((n : ℕ) → r ≡ value n → length es ≡ n) → length (entries_by es r) ≡ value_or 0 r
  by_count es (value n) h = h n refl
  by_count es (refused n) h = refl

  -- and no more than were read
  by_most : (es : List A) (r : Read ℕ) → length (entries_by es r) ≤ length es
  by_most es (value n) = omega arith
  by_most es (refused n) = omega arith

  -- the entries of a list that was read: as many as its answer says, none where it is refused,
  pub entries-count : (l : Listed A) → Counts l → length (entries_of l) ≡ value_or 0 l.answer
  entries-count l h = by_count l.entries l.answer h

  -- and no more than were read
  pub entries-most : (l : Listed A) → length (entries_of l) ≤ length l.entries
  entries-most l = by_most l.entries l.answer

module _ {A : Type 0} (read : Word → Read A) (max : ℕ) where
  -- one more word, where what follows it is counted
  judged-count : (es : List A) (r : Read A) (go_on : List A → Listed A) (b : Bool) → ltb (length es) max ≡ b
      → ((fs : List A) → Counts (go_on fs)) → Counts (judged max es r go_on)
  judged-count es (value a) go_on true t h =
      subst Counts (sym (another-more max es a go_on (listed (refused 19)) (ltb-true _ _ t))) (h (es ++ (a ∷ [])))
  judged-count es (value a) go_on false t h =
      subst Counts (sym (another-full max es a go_on (listed (refused 19)) (ltb-false _ _ t))) (λ n e. refused_none e)
  judged-count es (refused k) go_on b t h = λ n e. refused_none e

  -- a judged list has as many entries as its answer says, whatever stood before,
  pub judge-count : (es : List A) (ws : List Word) → Counts (judge read max es ws)
  unfolding judge
  judge-count es [] = λ n e. value-one e
  judge-count es (w ∷ ws) = judged-count es (read w) (λ fs. judge read max fs ws) (ltb (length es) max) refl (λ fs. judge-count fs ws)

  -- and no more than its limit
  judged-most : {es : List A} {ws : List Word} {r : Listed A} → Judged read max es ws r → length r.entries ≤ max
  judged-most (whole k h) = h
  judged-most (fault front w rest i k h e) = h
  judged-most (full front w rest i k h e) = omega arith

  pub judge-most : (es : List A) (ws : List Word) → length es ≤ max → length (judge read max es ws).entries ≤ max
  judge-most es ws h = judged-most (judge-judged read max es ws h)

module _ (max : ℕ) (s : List ℕ) where
  -- a list of numbers, of names, of edges has as many entries as its answer says,
  pub u32-count : Counts (u32_list max s)
  unfolding u32_list
  u32-count = judge-count u32_of max [] (words 0 s)

  pub name-count : (at : ℕ) → Counts (name_list max at s)
  unfolding name_list
  name-count at = judge-count name_of max [] (words at s)

  pub edge_count : Counts (edge_list max s)
  unfolding edge_list
  edge_count = judge-count entry_of max [] (words 0 s)

  -- and no more than its limit
  pub u32-most : length (u32_list max s).entries ≤ max
  unfolding u32_list
  u32-most = judge-most u32_of max [] (words 0 s) (omega arith)

  pub name-most : (at : ℕ) → length (name_list max at s).entries ≤ max
  unfolding name_list
  name-most at = judge-most name_of max [] (words at s) (omega arith)

  pub edge-most : length (edge_list max s).entries ≤ max
  unfolding edge_list
  edge-most = judge-most entry_of max [] (words 0 s) (omega arith)

module _ (f : List ℕ) (t : List Span) where
  -- so the lists of a header: as many entries as their answers say, none where they are missing,
  pub u32s-count : (k : Key) → length (u32s_in f t k) ≡ value_or 0 (u32_list var_limit (value_in f t k)).answer
  unfolding u32s_in
  u32s-count k = entries-count (u32_list var_limit (value_in f t k)) (u32-count var_limit (value_in f t k))

  pub names-count : (max : ℕ) (k : Key) → length (names_in max f t k) ≡ value_or 0 (name_list max (span_in t k).start (value_in f t k)).answer
  unfolding names_in
  names-count max k =
      entries-count (name_list max (span_in t k).start (value_in f t k)) (name-count max (value_in f t k) (span_in t k).start)

  pub roots-count : length (roots_in f t) ≡ value_or 0 (edge_list root_limit (value_in f t Rootids)).answer
  unfolding roots_in
  roots-count = entries-count (edge_list root_limit (value_in f t Rootids)) (edge_count root_limit (value_in f t Rootids))

  -- and no more than their limits
  pub u32s-most : (k : Key) → length (u32s_in f t k) ≤ var_limit
  unfolding u32s_in
  u32s-most k =
      let a = entries-most (u32_list var_limit (value_in f t k)) in
      let b = u32-most var_limit (value_in f t k) in
      omega arith

  pub names-most : (max : ℕ) (k : Key) → length (names_in max f t k) ≤ max
  unfolding names_in
  names-most max k =
      let a = entries-most (name_list max (span_in t k).start (value_in f t k)) in
      let b = name-most max (value_in f t k) (span_in t k).start in
      omega arith

  pub roots-most : length (roots_in f t) ≤ root_limit
  unfolding roots_in
  roots-most =
      let a = entries-most (edge_list root_limit (value_in f t Rootids)) in
      let b = edge-most root_limit (value_in f t Rootids) in
      omega arith
