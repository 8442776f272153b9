-- A store of nodes, as it is lent. Document 01, 'Store and meaning': 'Slots, counted from 1, hold level, then, else, next.'
use Rattle.std.specs.Prelude.{ℕ, ◌-◌, List, [], get_or, ℤ, pos}

-- the level count, the count of nodes, the four slot lists and the bucket heads
pub record Store : Type 0 where
  pub levels : ℕ
  pub count : ℕ
  pub level : List ℕ
  pub then : List ℤ
  pub els : List ℤ
  pub next : List ℕ
  pub heads : List ℕ

abbrev pub store : ℕ → ℕ → List ℕ → List ℤ → List ℤ → List ℕ → List ℕ → Store
store levels count level then els next heads =
    record { levels = levels; count = count; level = level; then = then; els = els; next = next; heads = heads }

-- what the slot of node n holds
abbrev pub level_at : Store → ℕ → ℕ
level_at σ n = get_or σ.level (n - 1) 0

abbrev pub then_at : Store → ℕ → ℤ
then_at σ n = get_or σ.then (n - 1) (pos 0)

abbrev pub else_at : Store → ℕ → ℤ
else_at σ n = get_or σ.els (n - 1) (pos 0)

abbrev pub next_at : Store → ℕ → ℕ
next_at σ n = get_or σ.next (n - 1) 0

abbrev pub head_at : Store → ℕ → ℕ
head_at σ b = get_or σ.heads b 0

-- A store by the lists that an answer comes from: it has neither counts nor chains, which no answer looks at.
abbrev pub slots : List ℕ → List ℤ → List ℤ → Store
slots level then els = store 0 0 level then els [] []
