-- The keys and their entries in a table with one for each.
use mathlib.Core.Path.{◌≡◌, refl}
use mathlib.Core.Bool.{cond}
use mathlib.Core.List.{List, map}
use Prim.Native.Nat.{ℕ, ◌<◌}
use native.Mathlib.Omega.{arith}
use lib.Dec.{eqb}
use lib.ListN.{get_or, set}
use Rattle.std.specs.Prelude.{Option, Some, None}
use Rattle.header_keys.specs.declared.Key.{Key}
use Rattle.header_keys.specs.declared.Key.TheVariants.{Ver, Mode, Varinfo, Dd, Nnodes, Nvars, Nsuppvars, Nroots, Nodes, Varnames, Suppvarnames, Orderedvarnames, Ids, Permids, Auxids, Rootids, Rootnames}
use Rattle.header_keys.specs.Keys.{slot_of, entry_of}
use Rattle.header_faults.specs.Judge.{word_fault}
use Rattle.header_lines.specs.Sweep.{all, keys}

-- a key has an entry,
pub slot-known : (k : Key) → slot_of k < keys
slot-known Ver = omega arith
slot-known Mode = omega arith
slot-known Varinfo = omega arith
slot-known Dd = omega arith
slot-known Nnodes = omega arith
slot-known Nvars = omega arith
slot-known Nsuppvars = omega arith
slot-known Nroots = omega arith
slot-known Nodes = omega arith
slot-known Varnames = omega arith
slot-known Suppvarnames = omega arith
slot-known Orderedvarnames = omega arith
slot-known Ids = omega arith
slot-known Permids = omega arith
slot-known Auxids = omega arith
slot-known Rootids = omega arith
slot-known Rootnames = omega arith

-- and so has the key of a line without a fault
pub entry_known : (k : Option Key) (at : ℕ) (s : List ℕ) → word_fault k at s ≡ 0 → entry_of k < keys
entry_known (Some k) at s e = slot-known k
entry_known None at s e = absurd (omega arith)

-- a table's element at a key's entry is the key's own
pub entry_at : {A : Type 0} (g : Key → A) (d : A) (k : Key) → slot_of k < keys → get_or (map g all) (slot_of k) d ≡ g k
entry_at g d Ver h = refl
entry_at g d Mode h = refl
entry_at g d Varinfo h = refl
entry_at g d Dd h = refl
entry_at g d Nnodes h = refl
entry_at g d Nvars h = refl
entry_at g d Nsuppvars h = refl
entry_at g d Nroots h = refl
entry_at g d Nodes h = refl
entry_at g d Varnames h = refl
entry_at g d Suppvarnames h = refl
entry_at g d Orderedvarnames h = refl
entry_at g d Ids h = refl
entry_at g d Permids h = refl
entry_at g d Auxids h = refl
entry_at g d Rootids h = refl
entry_at g d Rootnames h = refl

-- to set the entry of a key changes the element of that key alone; a word that is no key has none
pub entry_set : {A B : Type 0} (part : A → B) (g : Key → A) (k : Option Key) (a : A)
    → set (map part (map g all)) (entry_of k) (part a) ≡ map part (map (λ j. cond (eqb (slot_of j) (entry_of k)) a (g j)) all)
entry_set part g (Some Ver) a = refl
entry_set part g (Some Mode) a = refl
entry_set part g (Some Varinfo) a = refl
entry_set part g (Some Dd) a = refl
entry_set part g (Some Nnodes) a = refl
entry_set part g (Some Nvars) a = refl
entry_set part g (Some Nsuppvars) a = refl
entry_set part g (Some Nroots) a = refl
entry_set part g (Some Nodes) a = refl
entry_set part g (Some Varnames) a = refl
entry_set part g (Some Suppvarnames) a = refl
entry_set part g (Some Orderedvarnames) a = refl
entry_set part g (Some Ids) a = refl
entry_set part g (Some Permids) a = refl
entry_set part g (Some Auxids) a = refl
entry_set part g (Some Rootids) a = refl
entry_set part g (Some Rootnames) a = refl
entry_set part g None a = refl
