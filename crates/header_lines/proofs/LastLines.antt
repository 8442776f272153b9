-- The last value of a key, as the table has it, is that of the key's last line.
use mathlib.Core.Path.{◌≡◌, refl, sym, ap, subst, ◌∙◌}
use mathlib.Core.Logic.{◌⊎◌, inl, inr}
use mathlib.Core.Bool.{cond}
use mathlib.Core.List.{List, [], ◌∷◌, ◌++◌}
use Prim.Native.Nat.{ℕ}
use native.Mathlib.Decide.{ℕ_discrete}
use lib.Dec.{eqb}
use lib.ListN.{get_or}
use borrow.Author.Tests.{eq-eqb, ne_eqb}
use native.Mathlib.Omega.{arith}
use Rattle.std.specs.Prelude.{Option, Some, None}
use Rattle.read_lines.specs.Each.{Each, none, each}
use Rattle.header_keys.specs.declared.Key.{Key}
use Rattle.header_keys.specs.declared.Key.TheVariants.{Ver, Mode, Varinfo, Dd, Nnodes, Nvars, Nsuppvars, Nroots, Nodes, Varnames, Suppvarnames, Orderedvarnames, Ids, Permids, Auxids, Rootids, Rootnames}
use Rattle.header_keys.specs.Keys.{slot_of, entry_of}
use Rattle.header_lines.specs.Sweep.{Span, no_span, Said, said, said_word, all, last_from, last_of}
use Rattle.header_lines.specs.Last.{OtherKey, Missing, LastLine, SaidOf, missing, last}
use Rattle.header_lines.proofs.Entries.{slot-known}

-- the key of an entry
key-at : (k : Key) → get_or all (slot_of k) Ver ≡ k
key-at Ver = refl
key-at Mode = refl
key-at Varinfo = refl
key-at Dd = refl
key-at Nnodes = refl
key-at Nvars = refl
key-at Nsuppvars = refl
key-at Nroots = refl
key-at Nodes = refl
key-at Varnames = refl
key-at Suppvarnames = refl
key-at Orderedvarnames = refl
key-at Ids = refl
key-at Permids = refl
key-at Auxids = refl
key-at Rootids = refl
key-at Rootnames = refl

-- 'Two keys are one exactly where they have one entry.'
pub one_key : (j k : Key) → slot_of j ≡ slot_of k → j ≡ k
one_key j k q = sym (key-at j) ∙ ap (λ (n : ℕ). get_or all n Ver) q ∙ key-at k

-- and so is a line's, if its word is one
pub one-word : (k : Key) (o : Option Key) → slot_of k ≡ entry_of o → o ≡ Some k
one-word k (Some j) q = ap Some (sym (one_key k j q))
one-word k None q = absurd (omega (arith, slot-known k))

-- a line with another key changes nothing
other-slot : (k : Key) (s : Said) → OtherKey k s → slot_of k ≡ entry_of s.key → ⊥
other-slot k s h q = h (one-word k s.key q)

-- after lines with other keys the last value is the one before them
missing-from : (v : Span) (k : Key) (ss : List Said) → Missing k ss → last_from v k ss ≡ v
unfolding last_from
missing-from v k [] none = refl
missing-from v k (s ∷ ss) (each h m) =
    ap (λ b. last_from (cond b s.value v) k ss) (ne_eqb (slot_of k) (entry_of s.key) (other-slot k s h)) ∙ missing-from v k ss m

-- a line with the key makes its value the last so far
stands_from : (v w : Span) (k : Key) (before rest : List Said) → Missing k rest → last_from v k (before ++ (said k w ∷ rest)) ≡ w
unfolding last_from
stands_from v w k [] rest m =
    ap (λ b. last_from (cond b w v) k rest) (eq-eqb (slot_of k) (slot_of k) refl) ∙ missing-from w k rest m
stands_from v w k (s ∷ before) rest m = stands_from (cond (eqb (slot_of k) (entry_of s.key)) s.value v) w k before rest m

module _ (k : Key) (ss : List Said) where
  -- of a missing key the table has no span
  pub missing-none : Missing k ss → last_of k ss ≡ no_span
  unfolding last_of
  missing-none m = missing-from no_span k ss m

  -- and of another one the value of its last line
  pub last-value : {v : Span} → LastLine k ss v → last_of k ss ≡ v
  unfolding last_of
  last-value {v} l = rw l.stands (stands_from no_span v k l.before l.rest l.last)

-- one line more in front
further : {k : Key} {ss : List Said} {v : Span} (s : Said) → LastLine k ss v → LastLine k (s ∷ ss) v
further s l = record { before = s ∷ l.before; rest = l.rest; stands = ap (λ t. s ∷ t) l.stands; last = l.last }

-- A key is missing, or has a last line.
pub missing-or-last : (k : Key) (ss : List Said) → Missing k ss ⊎ ((v : Span) × LastLine k ss v)
missing-or-last k [] = inl none
missing-or-last k (s ∷ ss) = go (missing-or-last k ss) (ℕ_discrete (slot_of k) (entry_of s.key))
  where
    go : Missing k ss ⊎ ((v : Span) × LastLine k ss v) → Dec (slot_of k ≡ entry_of s.key) → Missing k (s ∷ ss) ⊎ ((v : Span) × LastLine k (s ∷ ss) v)
    go (inr l) d = inr (l.0, further s l.1)
    go (inl m) (yes q) =
        let e = one-word k s.key q in
        inr (s.value, record { before = []; rest = ss; stands = ap (λ j. said_word j s.value ∷ ss) e; last = m })
    go (inl m) (no q) = inl (each (λ e. q (sym (ap entry_of e))) m)

-- what holds of each line holds of one of them
each_at : {P : Said → Type 0} (before : List Said) (s : Said) (rest : List Said) → Each P (before ++ (s ∷ rest)) → P s
each_at [] s rest (each h e) = h
each_at (t ∷ before) s rest (each h e) = each_at before s rest e

pub last-each : {P : Said → Type 0} {k : Key} {ss : List Said} {v : Span} → LastLine k ss v → Each P ss → P (said k v)
last-each {P} {k} {v = v} l e = each_at l.before (said k v) l.rest (subst (Each P) l.stands e)

-- A value got from the last span of a key, by a function that reads it: it is what the lines say, and nothing else is.
module _ {A : Type 0} (k : Key) (reads : Span → A → Type 0) (d : A) (get : Span → A) (get_none : get no_span ≡ d) (ss : List Said) where
  pub is_said : ((v : Span) → LastLine k ss v → reads v (get v)) → SaidOf k reads d ss (get (last_of k ss))
  is_said h = go (missing-or-last k ss)
    where
      go : Missing k ss ⊎ ((v : Span) × LastLine k ss v) → SaidOf k reads d ss (get (last_of k ss))
      go (inl m) = subst (SaidOf k reads d ss) (sym (ap get (missing-none k ss m) ∙ get_none)) (missing m)
      go (inr l) = rw (last-value k ss l.1) (last l.1 (h l.0 l.1))

  pub said-is : ((v : Span) (a : A) → reads v a → get v ≡ a) → (a : A) → SaidOf k reads d ss a → a ≡ get (last_of k ss)
  said-is h a (missing m) = sym (ap get (missing-none k ss m) ∙ get_none)
  said-is h a (last {v} l r) = sym (ap get (last-value k ss l) ∙ h v a r)
