-- An index of the nodes of a store, by which a node is found in a few steps: one list of node numbers, 0 for none. Its first `width`
-- entries are heads; two more belong to each node n, at width + 2 * n and the entry after it: where a search goes on from n, by the next
-- bit of its key. Document 01, 'Store and meaning': 'no two nodes alike'.
use Rattle.std.specs.Prelude.{ℕ, ◌+◌, ◌-◌, ◌*◌, ◌/◌, ◌%◌, ◌^◌, ◌≤◌, ◌<◌, ◌≡◌, true, cond, List, ltb, leb, length, get_or, ℤ, nat_abs}
use Rattle.edges.specs.Width.{edge_bits}
use Rattle.edges.specs.Edge.{bits}
use Rattle.store.specs.Store.{Store, level_at, then_at, else_at}
use Rattle.store.specs.Rules.{AlikeNodes}
use Rattle.store.specs.Make.{holds}

-- how many heads the index of n nodes has in work of some length, beside two entries for each number from 0 to n: what is left, up to four
-- for each of them, or none where less than one for each is
abbrev pub width_for : ℕ → ℕ → ℕ
width_for n len = cond (ltb len (3 * (n + 1))) 0 (cond (ltb len (6 * (n + 1))) (len - 2 * (n + 1)) (4 * (n + 1)))

-- what of an edge stands in a key: 24 bits, by which no two edges of a store of up to 8,388,607 nodes are the same
abbrev pub key_part : ℤ → ℕ
key_part e = bits edge_bits e % 2 ^ 24

-- the key of a level, a then and an else: all their bits, so that no two have one key
unfoldable pub node_key : ℕ → ℤ → ℤ → ℕ
node_key l t e = key_part e + 2 ^ 24 * key_part t + 2 ^ 48 * l

-- a mix of the three, of which the upper 30 bits of 32 count
unfoldable pub mix_of : ℕ → ℤ → ℤ → ℕ
mix_of l t e = (l * 2654435769 + key_part t * 1315298017 + key_part e * 628009085) % 2 ^ 32 / 4

-- the head where a search for them starts: the mix, scaled to the width; in a wide index near that of nodes with near children
unfoldable pub head_entry : ℕ → ℕ → ℤ → ℤ → ℕ
head_entry width l t e =
    cond (leb width 65536) (mix_of l t e * width / 2 ^ 30) ((2 * (nat_abs t + nat_abs e) + mix_of l t e / 2 ^ 20) % width)

-- the entry where a search with key k goes on from node n
abbrev pub on_from : ℕ → ℕ → ℕ → ℕ
on_from width k n = width + 2 * n + k % 2

-- A search with key k that stands at an entry comes to the entry `to`, over entries that aren't 0.
pub data LeadsOn (width : ℕ) (ix : List ℕ) (to : ℕ) : ℕ → ℕ → Type 0 where
  arrived : {k at : ℕ} → at ≡ to → LeadsOn width ix to k at
  on : {k at : ℕ} → 0 < get_or ix at 0 → LeadsOn width ix to (k / 2) (on_from width k (get_or ix at 0)) → LeadsOn width ix to k at

-- It meets node m there.
pub record MeetsEntry (width : ℕ) (ix : List ℕ) (m k at : ℕ) : Type 0 where
  pub place : ℕ
  pub leads : LeadsOn width ix place k at
  pub node : get_or ix place 0 ≡ m

-- The index of the nodes 2 to c.
pub record Indexed (width : ℕ) (σ : Store) (c : ℕ) (ix : List ℕ) : Type 0 where
  pub some : 1 ≤ width
  pub wide : width ≤ 2 ^ 34
  pub room : width + 2 * c + 2 ≤ length ix
  -- an entry is 0, or one of these nodes
  pub low : (i : ℕ) → 0 < get_or ix i 0 → 2 ≤ get_or ix i 0
  pub high : (i : ℕ) → get_or ix i 0 ≤ c
  -- from a node a search goes on to a higher one, so it ends
  pub up : (n b : ℕ) → b < 2 → 0 < get_or ix (width + 2 * n + b) 0 → n < get_or ix (width + 2 * n + b) 0
  -- a search for what a node holds meets the node
  pub meets : (m : ℕ) → 2 ≤ m → m ≤ c
      → MeetsEntry width ix m (node_key (level_at σ m) (then_at σ m) (else_at σ m)) (head_entry width (level_at σ m) (then_at σ m) (else_at σ m))

-- What a search for a level, a then and an else gives: the entry of the node that holds them, or, where none of the nodes 2 to c does, the
-- empty entry where such a node belongs.
pub record Sought (width : ℕ) (σ : Store) (c : ℕ) (ix : List ℕ) (l : ℕ) (t e : ℤ) (at : ℕ) : Type 0 where
  pub within : at < length ix
  pub leads : LeadsOn width ix at (node_key l t e) (head_entry width l t e)
  pub hit : 0 < get_or ix at 0 → holds σ l t e (get_or ix at 0) ≡ true
  pub none : get_or ix at 0 ≡ 0 → (m : ℕ) → 2 ≤ m → m ≤ c → holds σ l t e m ≡ true → ⊥

-- 'no two nodes alike', of the nodes 2 to c: none is like an older one
abbrev pub AllAlone : Store → ℕ → Type 0
AllAlone σ c = (n : ℕ) → 2 ≤ n → n ≤ c → (m : ℕ) → 2 ≤ m → m < n → AlikeNodes σ m n → ⊥

-- What finds the nodes 2 to c of a store: where there are heads, their index; else their chains, which need nothing more.
pub record Finds (width : ℕ) (σ : Store) (c : ℕ) (ix : List ℕ) : Type 0 where
  pub indexed : 1 ≤ width → Indexed width σ c ix
