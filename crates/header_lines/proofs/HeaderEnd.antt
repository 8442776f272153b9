-- The lines of a header end with `.nodes` exactly where they are sound, and with a refusal exactly where they are refused so.
use mathlib.Core.Path.{◌≡◌, refl, sym, ap, ◌∙◌}
use mathlib.Core.List.{List, [], ◌∷◌, ◌++◌}
use mathlib.Core.Logic.{◌⊎◌, inl, inr, ⊎_elim, ◌↔◌}
use Prim.Native.Nat.{ℕ, zero, suc, ◌+◌, ◌≤◌}
use native.Mathlib.Omega.{arith}
use lib.ListN.{length}
use mathlib.Core.Option.{none, some}
use Rattle.read_lines.specs.Each.{Each, each}
use Rattle.header_faults.proofs.SoundValues.{word-sound, word-numbers}
use Rattle.header_lines.specs.Sweep.{part, Said, Lines, cut, nodes, line, fault_in, SweepEnd, at_nodes, refused_at, end_from, end_of, all_of}
use Rattle.header_lines.specs.SoundLines.{nodes_next, SoundLine, SoundLines, RefusedLines, cut_short, faulty}

-- A line has no fault exactly where it is sound,
pub line-sound : (f : List ℕ) (s : Said) → (fault_in f s ≡ 0) ↔ SoundLine f s
line-sound f s = word-sound s.key s.value.start (part f s.value.start s.value.end)

-- and its fault is one of the numbers from 11 to 19.
pub line-numbers : (f : List ℕ) (s : Said) (n : ℕ) → fault_in f s ≡ n → 1 ≤ n → (11 ≤ n) × (n ≤ 19)
line-numbers f s n e h =
    ⊎_elim (λ z. absurd (omega arith)) (λ z. z) (word-numbers s.key s.value.start (part f s.value.start s.value.end) n e)

-- How lines end, the first of which is the m-th.
data Ending (f : List ℕ) (m : ℕ) (ls : Lines) : SweepEnd → Type 0 where
  whole : {next n : ℕ} → nodes_next ls ≡ some next → Each (SoundLine f) (all_of ls) → n ≡ length (all_of ls) + m → Ending f m ls (at_nodes next n)
  short : nodes_next ls ≡ none → Each (SoundLine f) (all_of ls) → Ending f m ls (refused_at 10 0)
  fault : {n at : ℕ} (before : List Said) (s : Said) (after : List Said) → all_of ls ≡ before ++ (s ∷ after) → Each (SoundLine f) before
      → fault_in f s ≡ n → 1 ≤ n → at ≡ length before + m → Ending f m ls (refused_at n at)

module _ (f : List ℕ) where
  -- a sound line more in front
  ending-more : {m : ℕ} (s : Said) {ls : Lines} {e : SweepEnd} → SoundLine f s → Ending f (m + 1) ls e → Ending f m (line s ls) e
  unfolding nodes_next all_of
  ending-more s h (whole {n = n} a b c) = whole {n = n} a (each h b) (omega arith)
  ending-more s h (short a b) = short a (each h b)
  ending-more s h (fault {at = i} before t after a b c d k) = fault {at = i} (s ∷ before) t after (ap (λ ss. s ∷ ss) a) (each h b) c d (omega arith)

  ending-line : (m : ℕ) (s : Said) (ls : Lines) (k : ℕ) → fault_in f s ≡ k → Ending f (m + 1) ls (end_from (m + 1) f ls)
      → Ending f m (line s ls) (end_from m f (line s ls))
  unfolding end_from all_of
  ending-line m s ls zero q r = rw (q, end_from) (ending-more s ((line-sound f s).0 q) r)
  ending-line m s ls (suc k) q r = rw (q, end_from) (fault {at = m} [] s (all_of ls) refl Each.none q (omega arith) (omega arith))

  -- Lines end in one of these ways,
  ending : (m : ℕ) (ls : Lines) → Ending f m ls (end_from m f ls)
  unfolding end_from nodes_next all_of
  ending m cut = short refl Each.none
  ending m (nodes next) = whole {n = m} refl Each.none (omega arith)
  ending m (line s ls) = ending-line m s ls (fault_in f s) refl (ending (m + 1) ls)

  -- and in no other: sound lines in front are passed,
  end-passes : (m : ℕ) (s : Said) (ls : Lines) → SoundLine f s → end_from m f (line s ls) ≡ end_from (m + 1) f ls
  unfolding end_from
  end-passes m s ls h = rw ((line-sound f s).1 h, end_from)

  -- a line with a fault refuses,
  end-refuses : (m : ℕ) (s : Said) (ls : Lines) (n : ℕ) → fault_in f s ≡ n → 1 ≤ n → end_from m f (line s ls) ≡ refused_at n m
  unfolding end_from
  end-refuses m s ls zero e h = absurd (omega arith)
  end-refuses m s ls (suc n) e h = rw (e, end_from)

  module _ {s : Said} {ss : List Said} where
    front-sound : Each (SoundLine f) (s ∷ ss) → SoundLine f s
    front-sound (each h k) = h

    rest-sound : Each (SoundLine f) (s ∷ ss) → Each (SoundLine f) ss
    rest-sound (each h k) = k

  end-nodes : (m : ℕ) (ls : Lines) (next : ℕ) → nodes_next ls ≡ some next → Each (SoundLine f) (all_of ls)
      → end_from m f ls ≡ at_nodes next (length (all_of ls) + m)
  unfolding end_from nodes_next all_of
  end-nodes m cut next e h = absurd (let z : ◌≡◌ {A = ℕ} 0 1 = cc in omega arith)
  end-nodes m (nodes p) next e h =
      let z : p ≡ next = cc in
      let y : m ≡ 0 + m = omega arith in rw z (ap (at_nodes next) y)
  end-nodes m (line s ls) next e h =
      let z : length (all_of ls) + (m + 1) ≡ suc (length (all_of ls)) + m = omega arith in
      end-passes m s ls (front-sound h) ∙ end-nodes (m + 1) ls next e (rest-sound h) ∙ ap (at_nodes next) z

  end-cut : (m : ℕ) (ls : Lines) → nodes_next ls ≡ none → Each (SoundLine f) (all_of ls) → end_from m f ls ≡ refused_at 10 0
  unfolding end_from nodes_next all_of
  end-cut m cut e h = refl
  end-cut m (nodes p) e h = absurd (let z : ◌≡◌ {A = ℕ} 0 1 = cc in omega arith)
  end-cut m (line s ls) e h = end-passes m s ls (front-sound h) ∙ end-cut (m + 1) ls e (rest-sound h)

  end-fault : (m : ℕ) (ls : Lines) {before : List Said} (s : Said) (after : List Said) (n : ℕ) → all_of ls ≡ before ++ (s ∷ after)
      → Each (SoundLine f) before → fault_in f s ≡ n → 1 ≤ n → end_from m f ls ≡ refused_at n (length before + m)
  unfolding all_of
  end-fault m cut {before} s after n i b e h = absurd (of before i)
    where
      of : (l : List Said) → [] ≡ l ++ (s ∷ after) → ⊥
      of [] z = let y : ◌≡◌ {A = ℕ} 0 1 = cc in omega arith
      of (t ∷ l) z = let y : ◌≡◌ {A = ℕ} 0 1 = cc in omega arith
  end-fault m (nodes p) {before} s after n i b e h = absurd (of before i)
    where
      of : (l : List Said) → [] ≡ l ++ (s ∷ after) → ⊥
      of [] z = let y : ◌≡◌ {A = ℕ} 0 1 = cc in omega arith
      of (t ∷ l) z = let y : ◌≡◌ {A = ℕ} 0 1 = cc in omega arith
  end-fault m (line t ls) s after n i Each.none e h =
      let z : t ≡ s = cc in
      let y : m ≡ 0 + m = omega arith in end-refuses m t ls n (rw (← z) at e) h ∙ ap (refused_at n) y
  end-fault m (line t ls) s after n i (each {a = u} {l = l} g b) e h =
      let z : t ≡ u = cc in
      let y : all_of ls ≡ l ++ (s ∷ after) = cc in
      let w : length l + (m + 1) ≡ suc (length l) + m = omega arith in
      end-passes m t ls (rw z g) ∙ end-fault (m + 1) ls s after n y b e h ∙ ap (refused_at n) w

module _ (f : List ℕ) (ls : Lines) where
  -- The lines end with `.nodes` exactly where they are sound.
  pub sound-lines : (next lines : ℕ) → (end_of f ls ≡ at_nodes next lines) ↔ SoundLines f ls next lines
  unfolding end_of
  sound-lines next lines = (
    λ e. of (ending f 1 ls) e,
    λ s. end-nodes f 1 ls next s.nodes_there s.each_sound ∙ ap (at_nodes next) (sym s.counted),
  )
    where
      of : {e : SweepEnd} → Ending f 1 ls e → e ≡ at_nodes next lines → SoundLines f ls next lines
      of (whole {next = p} {n = n} a b c) q =
          let z : p ≡ next = cc in
          let y : n ≡ lines = cc in
          record { nodes_there = rw z at a; each_sound = b; counted = rw y at c }
      of (short a b) q = absurd (let z : ◌≡◌ {A = ℕ} 0 1 = cc in omega arith)
      of (fault before s after a b c d k) q = absurd (let z : ◌≡◌ {A = ℕ} 0 1 = cc in omega arith)

  -- They end with a refusal exactly where they are refused so: the first line with a fault decides.
  pub refused-lines : (n at : ℕ) → (end_of f ls ≡ refused_at n at) ↔ RefusedLines f ls n at
  unfolding end_of
  refused-lines n at = (λ e. of (ending f 1 ls) e, back)
    where
      of : {e : SweepEnd} {n at : ℕ} → Ending f 1 ls e → e ≡ refused_at n at → RefusedLines f ls n at
      of (whole a b c) q = absurd (let z : ◌≡◌ {A = ℕ} 0 1 = cc in omega arith)
      of {n = n} {at = at} (short a b) q =
          let z : 10 ≡ n = cc in
          let y : 0 ≡ at = cc in rw (← z, ← y) (cut_short a b)
      of {n = n} {at = at} (fault {n = k} {at = i} before s after a b c d j) q =
          let z : k ≡ n = cc in
          let y : length before + 1 ≡ at = cc in rw (← z, ← y) (faulty before s after a b c d)

      back : {n at : ℕ} → RefusedLines f ls n at → end_from 1 f ls ≡ refused_at n at
      back (cut_short a b) = end-cut f 1 ls a b
      back (faulty {n = n} before s after a b c d) = end-fault f 1 ls s after n a b c d

  -- A refusal of the lines is 10 with line 0, or a number from 11 to 19 with a line, counted from 1.
  pub lines-numbers : (n at : ℕ) → end_of f ls ≡ refused_at n at → ((n ≡ 10) × (at ≡ 0)) ⊎ (((11 ≤ n) × (n ≤ 19)) × (1 ≤ at))
  lines-numbers n at e = of ((refused-lines n at).0 e)
    where
      of : {n at : ℕ} → RefusedLines f ls n at → ((n ≡ 10) × (at ≡ 0)) ⊎ (((11 ≤ n) × (n ≤ 19)) × (1 ≤ at))
      of (cut_short a b) = inl (refl, refl)
      of (faulty {n = n} before s after a b c d) = inr (line-numbers f s n c d, omega arith)
