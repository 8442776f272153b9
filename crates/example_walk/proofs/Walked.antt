-- The walk's setting as bytes: its start, a level set to yes, and the end, at which it is the first.
use Prim.Native.Nat.{ℕ, zero, suc, ◌≤◌, ◌<◌}
use mathlib.Core.Path.{◌≡◌, refl, sym, ap, fun_ext, ◌∙◌}
use mathlib.Core.Bool.{Bool, true, false, not, xor, true≢false}
use mathlib.Core.List.{List, [], ◌∷◌}
use native.Mathlib.Omega.{arith}
use native.Mathlib.Decide.{ℕ_discrete}
use lib.Dec.{leb}
use lib.ListN.{length, get_or, set, replicate, length-set, length-map}
use lib.Seq.{get_or-set_same, get_or-set_other}
use lib.IntN.{ℤ, nat_abs}
use Rattle.codes.specs.Answer.{value}
use Rattle.codes.proofs.Bytes.{both}
use Rattle.edges.specs.Edge.{turn}
use Rattle.store.specs.Store.{Store, level_at, then_at, else_at}
use Rattle.store.specs.Meaning.{setting_of, answer}
use Rattle.store.specs.Settings.{chosen}
use Rattle.store.specs.Rules.{Nodes}
use Rattle.store.specs.Growth.{EdgeOf}
use Rattle.store.proofs.Meaning.{node-one}
use Rattle.store.proofs.Canonicity.{put, put_same, put_other}
use Rattle.evaluation.specs.Evaluation.{only_bits}
use Rattle.evaluation.specs.SettingBytes.{byte_of, bytes_of}
use Rattle.evaluation.proofs.SettingBytes.{setting-bytes, setting-chosen}
use Rattle.example_walk.specs.Example.{settings, first_of, answers_as}
use Rattle.example_walk.specs.First.{Before, here, later, IsFirst, NoneIs}
use Rattle.example_walk.specs.Course.{never}
use Rattle.example_walk.proofs.First.{is-first}
use Rattle.example_walk.proofs.Taking.{Taking, taking-start, taking-answers, take_no, take-yes, never-one, never_other}

-- A setting comes before another at a level above which they are alike.
pub record Differs (t s : List Bool) : Type 0 where
  pub level : ℕ
  pub within : level < length s
  pub above : (j : ℕ) → j < level → chosen t j ≡ chosen s j
  pub no_there : chosen t level ≡ false
  pub yes_there : chosen s level ≡ true

pub before-differs : {t s : List Bool} → Before t s → Differs t s
before-differs here = record { level = 0; within = omega arith; above = λ j k. absurd (omega arith); no_there = refl; yes_there = refl }
before-differs (later {b = b} {s = t} {t = s} k) =
    let d = before-differs k in
    record { level = suc d.level; within = omega (arith, d.within); above = above d; no_there = d.no_there; yes_there = d.yes_there }
  where
    above : (d : Differs t s) (j : ℕ) → j < suc d.level → chosen (b ∷ t) j ≡ chosen (b ∷ s) j
    above d zero h = refl
    above d (suc j) h = d.above j (omega arith)

-- a list of zeros is all no
zero-byte : (n j : ℕ) → ◌≡◌ {A = ℕ} (get_or (replicate n 0) j 0) 0
zero-byte zero j = refl
zero-byte (suc n) zero = refl
zero-byte (suc n) (suc j) = zero-byte n j

pub zeros-no : (n : ℕ) → setting_of (replicate n 0) ≡ (λ j. false)
zeros-no n = fun_ext (λ j. rw (zero-byte n j))

pub zeros-bits : (n : ℕ) → only_bits (replicate n 0) ≡ true
unfolding only_bits
zeros-bits zero = refl
zeros-bits (suc n) = zeros-bits n

-- a level set to yes
pub set-yes : (b : List ℕ) (l : ℕ) → l < length b → setting_of (set b l 1) ≡ put (setting_of b) l true
set-yes b l h = fun_ext at
  where
    at : (j : ℕ) → setting_of (set b l 1) j ≡ put (setting_of b) l true j
    at j = of (ℕ_discrete j l)
      where
        of : Dec (j ≡ l) → setting_of (set b l 1) j ≡ put (setting_of b) l true j
        of (yes z) = rw (z, get_or-set_same b l 1 0 h, put_same (setting_of b) l true)
        of (no z) = rw (get_or-set_other b l j 1 0 z, put_other (setting_of b) l true j z)

pub set-bits : (b : List ℕ) (l : ℕ) → only_bits b ≡ true → only_bits (set b l 1) ≡ true
unfolding only_bits
set-bits [] l q = q
set-bits (x ∷ b) zero q = (both (leb x 1) (only_bits b) q).1
set-bits (x ∷ b) (suc l) q = let w = both (leb x 1) (only_bits b) q in rw w.0 (set-bits b l w.1)

-- The loop: b is the setting so far.
pub record Walking (σ : Store) (e : ℤ) (wanted : Bool) (b : List ℕ) (n : ℕ) (asked : Bool) : Type 0 where
  pub taking : Taking σ e wanted (setting_of b) n asked
  pub long : length b ≡ σ.levels
  pub bits : only_bits b ≡ true

module _ (σ : Store) (e : ℤ) (wanted : Bool) where
  pub walking_start : (b : List ℕ) → b ≡ replicate (length b) 0 → length b ≡ σ.levels → EdgeOf σ e → never e wanted ≡ false
      → Walking σ e wanted b (nat_abs e) (turn e wanted)
  walking_start b z l E h =
      let q : setting_of b ≡ (λ j. false) = ap setting_of z ∙ zeros-no (length b) in
      record { taking = rw q (taking-start σ e wanted E h); long = l; bits = ap only_bits z ∙ zeros-bits (length b) }

  module _ (N : Nodes σ) {b : List ℕ} {n : ℕ} {asked : Bool} (W : Walking σ e wanted b n asked) where
    pub walking-no : 2 ≤ n → never (else_at σ n) asked ≡ false → Walking σ e wanted b (nat_abs (else_at σ n)) (turn (else_at σ n) asked)
    walking-no h w = record { taking = take_no σ e wanted N W.taking h w; long = W.long; bits = W.bits }

    pub walking-level : 2 ≤ n → level_at σ n < length b
    walking-level h = omega (arith, (N.fits n h W.taking.there).level_low, W.long)

    pub walking-yes : 2 ≤ n → never (else_at σ n) asked ≡ true → Walking σ e wanted (set b (level_at σ n) 1) (nat_abs (then_at σ n)) asked
    walking-yes h w =
        record {
          taking = rw (set-yes b (level_at σ n) (walking-level h)) (take-yes σ e wanted N W.taking h w);
          long = length-set b (level_at σ n) 1 ∙ W.long;
          bits = set-bits b (level_at σ n) W.bits;
        }

-- Answers that are alike,
pub alike-yes : (a b : Bool) → a ≡ b → not (xor a b) ≡ true
unfolding xor
alike-yes true b h = rw (← h)
alike-yes false b h = rw (← h)

pub yes-alike : (a b : Bool) → not (xor a b) ≡ true → a ≡ b
unfolding xor
yes-alike true true h = refl
yes-alike true false h = absurd (true≢false (sym h))
yes-alike false true h = absurd (true≢false (sym h))
yes-alike false false h = refl

module _ (σ : Store) (e : ℤ) (wanted : Bool) {b : List ℕ} {asked : Bool} (W : Walking σ e wanted b 1 asked) where
  -- The setting at the end is the first.
  pub walking-first : (s : List Bool) → b ≡ bytes_of s → IsFirst (answers_as σ e wanted) σ.levels s
  walking-first s q =
      let z : setting_of b ≡ chosen s = ap setting_of q ∙ setting-chosen s in
      record {
        long = sym (length-map s byte_of) ∙ ap length (sym q) ∙ W.long;
        holds = alike-yes _ _ (rw z at (taking-answers σ e wanted W.taking));
        least = λ t l k. least t l (before-differs k) z (answers_as σ e wanted t) refl;
      }
    where
      least : (t : List Bool) → length t ≡ σ.levels → (d : Differs t s) → setting_of b ≡ chosen s → (c : Bool) → answers_as σ e wanted t ≡ c → c ≡ false
      least t l d z false k = refl
      least t l d z true k =
          let here : setting_of b d.level ≡ true = ap (λ f. f d.level) z ∙ d.yes_there in
          let same : (j : ℕ) → j < d.level → chosen t j ≡ setting_of b j = λ j h. d.above j h ∙ sym (ap (λ f. f j) z) in
          let low : d.level < σ.levels = omega (arith, d.within, W.long, length-map s byte_of, ap length q) in
          absurd (true≢false (sym (W.taking.least (chosen t) (yes-alike _ _ k) d.level low same here) ∙ d.no_there))

  pub walking-end : (s : List Bool) × (b ≡ bytes_of s) × (first_of (answers_as σ e wanted) (settings σ.levels) ≡ value s)
  walking-end =
      let w = setting-bytes b W.bits in
      (w.0, w.1, is-first (answers_as σ e wanted) σ.levels w.0 (walking-first w.0 w.1))

unlike : (b : Bool) → not (xor (not b) b) ≡ false
unfolding xor
unlike true = refl
unlike false = refl

-- An edge that never answers so does so at no setting.
pub never-none : (σ : Store) (e : ℤ) (wanted : Bool) (n : ℕ) → never e wanted ≡ true → NoneIs (answers_as σ e wanted) n
never-none σ e wanted n h s l =
    let k : answer σ (chosen s) e ≡ not wanted = rw (never-one e wanted h, node-one) (never_other e wanted h) in
    rw k (unlike wanted)
