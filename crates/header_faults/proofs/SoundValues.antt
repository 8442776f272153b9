-- A value has no fault exactly where it is sound, and a fault is one of document 01's numbers: '11 unknown key' to '19 (added) over a
-- limit'. So a fault is never 0, which stands for none.
use mathlib.Core.Path.{◌≡◌, refl, sym}
use mathlib.Core.Bool.{Bool, true, false, cond, ◌&&◌, ◌||◌}
use mathlib.Core.List.{List, [], ◌∷◌}
use mathlib.Core.Logic.{◌⊎◌, inl, inr, ⊎_elim, ◌↔◌}
use Prim.Native.Nat.{ℕ, ◌+◌, ◌-◌, ◌^◌, ◌≤◌}
use native.Mathlib.Omega.{arith}
use Rattle.std.specs.Prelude.{Option, Some, None}
use lib.Dec.{leb}
use borrow.Author.Tests.{le-leb, leb-true}
use Rattle.codes.specs.Answer.{Read, value, refused}
use Rattle.codes.specs.Limits.{var_limit, root_limit}
use Rattle.read_numbers.specs.Number.{single}
use Rattle.read_lists.specs.Lists.{u32_list}
use Rattle.read_edges.specs.Edges.{edge_list}
use Rattle.read_text.specs.Text.{name_list, text_at}
use Rattle.read_text.specs.Alike.{alike}
use Rattle.header_keys.specs.declared.Key.{Key}
use Rattle.header_keys.specs.declared.Key.TheVariants.{Ver, Mode, Varinfo, Dd, Nnodes, Nvars, Nsuppvars, Nroots, Nodes, Varnames, Suppvarnames, Orderedvarnames, Ids, Permids, Auxids, Rootids, Rootnames}
use Rattle.header_faults.specs.Judge.{why, version20, version30, version_fault, mode_a, mode_b, mode_fault, is_varinfo, varinfo_fault, text_fault, single_fault, u32_list_fault, root_list_fault, name_list_fault, fault_of, word_fault}
use Rattle.header_faults.specs.Sound.{SoundNumber, SoundNumbers, SoundNames, SoundValue, SoundWord}
use Rattle.read_numbers.proofs.Refusals.{single-refuses}
use Rattle.read_lists.proofs.Refusals.{u32-list-refuses}
use Rattle.read_edges.proofs.Refusals.{edge-list-refuses}
use Rattle.read_text.proofs.Alike.{alike_is, alike_self}
use Rattle.read_text.proofs.Refusals.{name-list-refuses, text-refuses}

-- one of the numbers from 11 to 19
abbrev Lined : ℕ → Type 0
Lined n = (11 ≤ n) × (n ≤ 19)

-- the numbers that a reader refuses with are such numbers
abbrev RefusesLined : {A : Type 0} → Read A → Type 0
RefusesLined r = (n : ℕ) → r ≡ refused n → Lined n

single-lined : (lim : ℕ) (s : List ℕ) → RefusesLined (single lim s)
single-lined lim s n e = ⊎_elim (λ z. omega arith) (λ z. omega arith) (single-refuses lim s n e)

numbers-lined : (s : List ℕ) → RefusesLined (u32_list var_limit s).answer
numbers-lined s n e = ⊎_elim (λ z. omega arith) (⊎_elim (λ z. omega arith) (λ z. omega arith)) (u32-list-refuses var_limit s n e)

roots-lined : (s : List ℕ) → RefusesLined (edge_list root_limit s).answer
roots-lined s n e =
    ⊎_elim (λ z. omega arith) (⊎_elim (λ z. omega arith) (⊎_elim (λ z. omega arith) (λ z. omega arith))) (edge-list-refuses root_limit s n e)

names-lined : (max at : ℕ) (s : List ℕ) → RefusesLined (name_list max at s).answer
names-lined max at s n e = ⊎_elim (λ z. omega arith) (λ z. omega arith) (name-list-refuses max at s n e)

text-lined : (at : ℕ) (s : List ℕ) → RefusesLined (text_at at s)
text-lined at s n e = omega (arith, text-refuses at s n e)

-- An answer has no refusal exactly where it has a value,
why-sound : {A : Type 0} (r : Read A) → RefusesLined r → (why r ≡ 0) ↔ ((a : A) × (r ≡ value a))
why-sound (value a) h = (λ e. (a, refl), λ p. refl)
why-sound (refused n) h = (λ e. absurd (omega (arith, h n refl)), λ p. absurd (let q = p.1 in let z : ◌≡◌ {A = ℕ} 0 1 = cc in omega arith))

-- and its refusal is then one of the numbers.
why-numbers : {A : Type 0} (r : Read A) → RefusesLined r → (n : ℕ) → why r ≡ n → (n ≡ 0) ⊎ Lined n
why-numbers (value a) h n e = inl (sym e)
why-numbers (refused k) h n e = inr (rw e at (h k refl))

-- one of two texts
module _ (s a b : List ℕ) (k : ℕ) where
  either-sound : (p q : Bool) → alike s a ≡ p → alike s b ≡ q → (cond (p || q) 0 (11 + k) ≡ 0) ↔ ((s ≡ a) ⊎ (s ≡ b))
  either-sound true q x y = (λ e. inl (alike_is s a x), λ w. refl)
  either-sound false true x y = (λ e. inr (alike_is s b y), λ w. refl)
  either-sound false false x y = (λ e. absurd (omega arith), λ w. absurd (⊎_elim first second w))
    where
      first : s ≡ a → ⊥
      first w = let v = alike_self a in let u : alike a a ≡ false = rw w at x in let z : ◌≡◌ {A = ℕ} 0 1 = cc in omega arith

      second : s ≡ b → ⊥
      second w = let v = alike_self b in let u : alike b b ≡ false = rw w at y in let z : ◌≡◌ {A = ℕ} 0 1 = cc in omega arith

cond-numbers : (b : Bool) (k n : ℕ) → Lined k → cond b 0 k ≡ n → (n ≡ 0) ⊎ Lined n
cond-numbers true k n h e = inl (sym e)
cond-numbers false k n h e = inr (rw e at h)

version-sound : (at : ℕ) (s : List ℕ) → (version_fault s ≡ 0) ↔ SoundValue Ver at s
unfolding version_fault
version-sound at s = either-sound s version20 version30 1 (alike s version20) (alike s version30) refl refl

mode-sound : (at : ℕ) (s : List ℕ) → (mode_fault s ≡ 0) ↔ SoundValue Mode at s
unfolding mode_fault
mode-sound at s = either-sound s mode_a mode_b 2 (alike s mode_a) (alike s mode_b) refl refl

-- one digit from 0 to 4
varinfo-sound : (at : ℕ) (s : List ℕ) → (varinfo_fault s ≡ 0) ↔ SoundValue Varinfo at s
unfolding varinfo_fault
varinfo-sound at [] = (λ e. absurd (omega arith), λ p. absurd (let q = p.1.1 in let z : ◌≡◌ {A = ℕ} 0 1 = cc in omega arith))
varinfo-sound at (x ∷ y ∷ s) = (λ e. absurd (omega arith), λ p. absurd (let q = p.1.1 in let z : ◌≡◌ {A = ℕ} 0 1 = cc in omega arith))
varinfo-sound at (x ∷ []) = (to (leb 0x30 x) (leb x 0x34) refl refl, from)
  where
    to : (p q : Bool) → leb 0x30 x ≡ p → leb x 0x34 ≡ q → ◌≡◌ {A = ℕ} (cond (p && q) 0 13) 0 → SoundValue Varinfo at (x ∷ [])
    to true true a b e =
        let h = leb-true 0x30 x a in
        let k = leb-true x 0x34 b in
        let z : x ≡ 0x30 + (x - 0x30) = omega arith in (x - 0x30, (omega arith, cc))
    to true false a b e = absurd (omega arith)
    to false q a b e = absurd (omega arith)

    from : SoundValue Varinfo at (x ∷ []) → ◌≡◌ {A = ℕ} (cond (leb 0x30 x && leb x 0x34) 0 13) 0
    from p =
        let q = p.1.1 in
        let h = p.1.0 in
        let z : x ≡ 0x30 + p.0 = cc in rw (le-leb 0x30 x (omega arith), le-leb x 0x34 (omega arith))

number-sound : (lim : ℕ) (s : List ℕ) → (single_fault lim s ≡ 0) ↔ SoundNumber lim s
unfolding single_fault
number-sound lim s = why-sound (single lim s) (single-lined lim s)

numbers-sound : (s : List ℕ) → (u32_list_fault s ≡ 0) ↔ SoundNumbers s
unfolding u32_list_fault
numbers-sound s = why-sound (u32_list var_limit s).answer (numbers-lined s)

roots-sound : (at : ℕ) (s : List ℕ) → (root_list_fault s ≡ 0) ↔ SoundValue Rootids at s
unfolding root_list_fault
roots-sound at s = why-sound (edge_list root_limit s).answer (roots-lined s)

names-sound : (max at : ℕ) (s : List ℕ) → (name_list_fault max at s ≡ 0) ↔ SoundNames max at s
unfolding name_list_fault
names-sound max at s = why-sound (name_list max at s).answer (names-lined max at s)

text-sound : (at : ℕ) (s : List ℕ) → (text_fault at s ≡ 0) ↔ SoundValue Dd at s
unfolding text_fault
text-sound at s = why-sound (text_at at s) (text-lined at s)

-- A value has no fault exactly where it is sound.
pub fault-sound : (k : Key) (at : ℕ) (s : List ℕ) → (fault_of k at s ≡ 0) ↔ SoundValue k at s
unfolding fault_of
fault-sound Ver at s = version-sound at s
fault-sound Mode at s = mode-sound at s
fault-sound Varinfo at s = varinfo-sound at s
fault-sound Dd at s = text-sound at s
fault-sound Nnodes at s = number-sound (2 ^ 64) s
fault-sound Nvars at s = number-sound (2 ^ 32) s
fault-sound Nsuppvars at s = number-sound (2 ^ 32) s
fault-sound Nroots at s = number-sound (2 ^ 64) s
fault-sound Nodes at s = (λ e. tt, λ u. refl)
fault-sound Varnames at s = names-sound var_limit at s
fault-sound Suppvarnames at s = names-sound var_limit at s
fault-sound Orderedvarnames at s = names-sound var_limit at s
fault-sound Ids at s = numbers-sound s
fault-sound Permids at s = numbers-sound s
fault-sound Auxids at s = numbers-sound s
fault-sound Rootids at s = roots-sound at s
fault-sound Rootnames at s = names-sound root_limit at s

-- and so has a line's.
pub word-sound : (k : Option Key) (at : ℕ) (s : List ℕ) → (word_fault k at s ≡ 0) ↔ SoundWord k at s
word-sound (Some k) at s = fault-sound k at s
word-sound None at s = (λ e. absurd (omega arith), λ z. absurd z)

-- A fault is one of the numbers from 11 to 19.
pub fault-numbers : (k : Key) (at : ℕ) (s : List ℕ) (n : ℕ) → fault_of k at s ≡ n → (n ≡ 0) ⊎ ((11 ≤ n) × (n ≤ 19))
unfolding fault_of version_fault mode_fault varinfo_fault text_fault single_fault u32_list_fault root_list_fault name_list_fault
fault-numbers Ver at s n e = cond-numbers (alike s version20 || alike s version30) 12 n (omega arith) e
fault-numbers Mode at s n e = cond-numbers (alike s mode_a || alike s mode_b) 13 n (omega arith) e
fault-numbers Varinfo at s n e = cond-numbers (is_varinfo s) 13 n (omega arith) e
fault-numbers Dd at s n e = why-numbers (text_at at s) (text-lined at s) n e
fault-numbers Nnodes at s n e = why-numbers (single (2 ^ 64) s) (single-lined (2 ^ 64) s) n e
fault-numbers Nvars at s n e = why-numbers (single (2 ^ 32) s) (single-lined (2 ^ 32) s) n e
fault-numbers Nsuppvars at s n e = why-numbers (single (2 ^ 32) s) (single-lined (2 ^ 32) s) n e
fault-numbers Nroots at s n e = why-numbers (single (2 ^ 64) s) (single-lined (2 ^ 64) s) n e
fault-numbers Nodes at s n e = inl (sym e)
fault-numbers Varnames at s n e = why-numbers (name_list var_limit at s).answer (names-lined var_limit at s) n e
fault-numbers Suppvarnames at s n e = why-numbers (name_list var_limit at s).answer (names-lined var_limit at s) n e
fault-numbers Orderedvarnames at s n e = why-numbers (name_list var_limit at s).answer (names-lined var_limit at s) n e
fault-numbers Ids at s n e = why-numbers (u32_list var_limit s).answer (numbers-lined s) n e
fault-numbers Permids at s n e = why-numbers (u32_list var_limit s).answer (numbers-lined s) n e
fault-numbers Auxids at s n e = why-numbers (u32_list var_limit s).answer (numbers-lined s) n e
fault-numbers Rootids at s n e = why-numbers (edge_list root_limit s).answer (roots-lined s) n e
fault-numbers Rootnames at s n e = why-numbers (name_list root_limit at s).answer (names-lined root_limit at s) n e

-- So is a line's.
pub word-numbers : (k : Option Key) (at : ℕ) (s : List ℕ) (n : ℕ) → word_fault k at s ≡ n → (n ≡ 0) ⊎ ((11 ≤ n) × (n ≤ 19))
word-numbers (Some k) at s n e = fault-numbers k at s n e
word-numbers None at s n e = inr (omega arith)
