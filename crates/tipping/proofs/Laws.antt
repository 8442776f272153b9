-- What the call gives: by the rules that it is judged by, the lowest level whose flip alone turns the answer over and nothing else; through the call
-- evaluate too; and only a level that the root's way passes.
use Prim.Native.Nat.{ℕ, zero, suc, ◌-◌, ◌≤◌, ◌<◌}
use mathlib.Core.Path.{◌≡◌, refl, sym, ap, fun_ext, ◌∙◌}
use mathlib.Core.Logic.{◌↔◌}
use mathlib.Core.Bool.{Bool, true, false, not, xor, true≢false}
use mathlib.Core.List.{List, [], ◌∷◌}
use native.Mathlib.Omega.{arith}
use native.Mathlib.Decide.{ℕ_discrete}
use lib.Dec.{eqb, leb}
use lib.ListN.{length, get_or, length-set}
use lib.Seq.{get_or-set_same, get_or-set_other}
use lib.IntN.{ℤ, nat_abs}
use borrow.Author.Tests.{eq-eqb, ne_eqb, eqb-true, leb-true, le-leb}
use Rattle.codes.specs.Answer.{Read, value, refused}
use Rattle.codes.specs.Limits.{Limits}
use Rattle.codes.proofs.Bytes.{both}
use Rattle.store.specs.Store.{Store}
use Rattle.store.specs.Keeps.{keeps, keeps-true, keeps-false, rules-keeps}
use Rattle.store.specs.Meaning.{setting_of, answer}
use Rattle.store.specs.Rules.{Rules}
use Rattle.store.specs.Growth.{is_root, EdgeOf}
use Rattle.store.specs.Settings.{IsSetting}
use Rattle.store.proofs.Growth.{root-edge, edge-root}
use Rattle.evaluation.specs.Evaluation.{only_bits, is_setting, evaluation}
use Rattle.tipping.specs.Tip.{flipped, tips, lowest_from, tip_of}
use Rattle.tipping.specs.Given.{Asked, Given, NoFlip, flipped_byte}
use Rattle.tipping.specs.Way.{Passes}
use Rattle.tipping.proofs.Least.{is-lowest, none-lowest, lowest-exact, none-exact}
use Rattle.tipping.proofs.Ways.{tips-passed}

-- bytes 00 and 01, by the test and one by one
bits_each : (b : List ℕ) → only_bits b ≡ true → (l : ℕ) → l < length b → get_or b l 0 ≤ 1
unfolding only_bits
bits_each [] q l h = absurd (omega arith)
bits_each (x ∷ b) q zero h = leb-true x 1 (both (leb x 1) (only_bits b) q).0
bits_each (x ∷ b) q (suc l) h = bits_each b (both (leb x 1) (only_bits b) q).1 l (omega arith)

each_bits : (b : List ℕ) → ((l : ℕ) → l < length b → get_or b l 0 ≤ 1) → only_bits b ≡ true
unfolding only_bits
each_bits [] f = refl
each_bits (x ∷ b) f = rw (le-leb x 1 (f 0 (omega arith)), each_bits b (λ l h. f (suc l) (omega arith)))

-- a setting of the store passes the test, and nothing else does
pub setting-passes : (σ : Store) (s : List ℕ) → (is_setting σ s ≡ true) ↔ IsSetting σ s
setting-passes σ s = (
  λ q. let w = both (eqb (length s) σ.levels) (only_bits s) q in record {
    long = eqb-true (length s) σ.levels w.0;
    bytes = bits_each s w.1;
  },
  λ S. rw (eq-eqb (length s) σ.levels S.long, each_bits s S.bytes),
)

module _ (m : Limits) (σ : Store) (e : ℤ) (s : List ℕ) where
  -- The rules in their order.
  pub tip-cases : (P : Read ℕ → Type 0) → ((Rules m σ → ⊥) → P (refused 3)) → (Rules m σ → ((EdgeOf σ e × IsSetting σ s) → ⊥) → P (refused 4))
      → (Asked m σ e s → P (lowest_from (tips σ e (setting_of s)) 0 σ.levels)) → P (tip_of m σ e s)
  unfolding tip_of
  tip-cases P broken bad good = of (keeps m σ) (is_root σ e) (is_setting σ s) refl refl refl
    where
      of : (a b c : Bool) → keeps m σ ≡ a → is_root σ e ≡ b → is_setting σ s ≡ c → P (tip_of m σ e s)
      of false b c p q r = rw p (broken (keeps-false m σ p))
      of true false c p q r = rw (p, q) (bad (keeps-true m σ p) (λ w. true≢false (sym (edge-root σ e w.0) ∙ q)))
      of true true false p q r = rw (p, q, r) (bad (keeps-true m σ p) (λ w. true≢false (sym ((setting-passes σ s).1 w.1) ∙ r)))
      of true true true p q r =
          rw (p, q, r) (good (record { rules = keeps-true m σ p; edge = root-edge σ e q; setting = (setting-passes σ s).0 r }))

  -- What is given is the lowest level that tips, where no rule is broken;
  pub tip-given : {l : ℕ} → tip_of m σ e s ≡ value l → Given m σ e s l
  tip-given {l} = tip-cases (λ r. r ≡ value l → Given m σ e s l) (λ w q. none q) (λ R w q. none q)
      (λ A q. record { asked = A; lowest = lowest-exact (tips σ e (setting_of s)) σ.levels l q })
    where
      none : {k : ℕ} {A : Type 0} → ◌≡◌ {A = Read ℕ} (refused k) (value l) → A
      none q = absurd (let z : ◌≡◌ {A = ℕ} 0 1 = cc in omega arith)

  -- wherever there is one, it is given;
  pub given-tip : {l : ℕ} → Given m σ e s l → tip_of m σ e s ≡ value l
  given-tip {l} G =
      tip-cases (λ r. r ≡ value l) (λ w. absurd (w G.asked.rules)) (λ R w. absurd (w (G.asked.edge, G.asked.setting)))
      (λ A. is-lowest (tips σ e (setting_of s)) σ.levels l G.lowest)

  -- and 42 comes exactly where no single flip does.
  pub no-flip-exactly : (tip_of m σ e s ≡ refused 42) ↔ NoFlip m σ e s
  no-flip-exactly = (
    tip-cases (λ r. r ≡ refused 42
        → NoFlip m σ e s) (λ w q. other q (λ z. absurd (omega (arith, z)))) (λ R w q. other q (λ z. absurd (omega (arith, z))))
        (λ A q. record { asked = A; none = (none-exact (tips σ e (setting_of s)) σ.levels 42 q).1 }),
    λ N. tip-cases (λ r. r ≡ refused 42) (λ w. absurd (w N.asked.rules)) (λ R w. absurd (w (N.asked.edge, N.asked.setting)))
        (λ A. none-lowest (tips σ e (setting_of s)) σ.levels N.none),
  )
    where
      number : Read ℕ → ℕ
      number (value x) = 0
      number (refused n) = n

      other : {k : ℕ} {A : Type 0} → ◌≡◌ {A = Read ℕ} (refused k) (refused 42) → (k ≡ 42 → A) → A
      other q f = f (ap number q)

xor-true : (a b : Bool) → xor a b ≡ true → a ≡ not b
unfolding xor
xor-true true true h = absurd (true≢false (sym h))
xor-true true false h = refl
xor-true false true h = refl
xor-true false false h = absurd (true≢false (sym h))

-- a byte flipped
module _ (s : List ℕ) (l : ℕ) (h : l < length s) (b : get_or s l 0 ≤ 1) where
  flip-byte : (x : ℕ) → x ≤ 1 → eqb (1 - x) 1 ≡ not (eqb x 1)
  flip-byte zero k = refl
  flip-byte (suc zero) k = refl
  flip-byte (suc (suc x)) k = absurd (omega arith)

  byte-flips : (j : ℕ) → setting_of (flipped_byte s l) j ≡ flipped (setting_of s) l j
  byte-flips j = of (ℕ_discrete j l)
    where
      of : Dec (j ≡ l) → setting_of (flipped_byte s l) j ≡ flipped (setting_of s) l j
      of (yes z) = rw (z, get_or-set_same s l (1 - get_or s l 0) 0 h, eq-eqb l l refl) (flip-byte (get_or s l 0) b)
      of (no z) = rw (get_or-set_other s l j (1 - get_or s l 0) 0 z, ne_eqb j l z)

-- a level that is given
module _ {m : Limits} {σ : Store} {e : ℤ} {s : List ℕ} {l : ℕ} (G : Given m σ e s l) where
  -- The root's way passes it.
  pub given-passed : Passes σ (setting_of s) (nat_abs e) l
  given-passed = tips-passed σ G.asked.rules.nodes e (setting_of s) G.asked.edge l G.lowest.holds

  inside : l < length s
  inside = omega (arith, G.lowest.low, G.asked.setting.long)

  flips : setting_of (flipped_byte s l) ≡ flipped (setting_of s) l
  flips = fun_ext (byte-flips s l inside (G.asked.setting.bytes l inside))

  flipped-setting : IsSetting σ (flipped_byte s l)
  flipped-setting =
      record {
        long = length-set s l (1 - get_or s l 0) ∙ G.asked.setting.long;
        bytes = λ j k. of j (rw (length-set s l (1 - get_or s l 0)) at k) (ℕ_discrete j l);
      }
    where
      of : (j : ℕ) → j < length s → Dec (j ≡ l) → get_or (flipped_byte s l) j 0 ≤ 1
      of j k (yes z) = rw (z, get_or-set_same s l (1 - get_or s l 0) 0 inside) (omega arith)
      of j k (no z) = rw (get_or-set_other s l j (1 - get_or s l 0) 0 z) (G.asked.setting.bytes j k)

  -- The call evaluate gives the one answer at the setting, and the other where that byte is flipped.
  pub given-evaluates : (evaluation m σ e s ≡ value (answer σ (setting_of s) e))
      × (evaluation m σ e (flipped_byte s l) ≡ value (not (answer σ (setting_of s) e)))
  unfolding evaluation
  given-evaluates =
      let R = rules-keeps m σ G.asked.rules in
      let E = edge-root σ e G.asked.edge in
      let S = (setting-passes σ s).1 G.asked.setting in
      let F = (setting-passes σ (flipped_byte s l)).1 flipped-setting in
      (rw (R, E, S), rw (R, E, F, flips) (ap value (xor-true _ _ G.lowest.holds)))
