-- What is made of the lists that were read, and laid over the lent lists.
use mathlib.Core.Path.{◌≡◌, sym, ap, ◌∙◌}
use mathlib.Core.List.{List, map}
use Prim.Native.Nat.{ℕ, ◌≤◌}
use native.Mathlib.Omega.{arith}
use lib.ListN.{length, take, replicate}
use lib.IntN.{ℤ, pos}
use Rattle.codes.specs.Limits.{var_limit, root_limit}
use Rattle.codes.specs.Lent.{laid}
use Rattle.read_text.specs.Text.{start_of, len_of}
use Rattle.header_lines.specs.Sweep.{Span}
use Rattle.header_keys.specs.declared.Key.{Key}
use Rattle.header_keys.specs.declared.Key.TheVariants.{Ids, Permids}
use Rattle.variable_names.specs.Names.{name_at_seat, entry_at, ordered_seats, supp_seats}
use Rattle.file_roots.specs.Roots.{edge_of}
use Rattle.seats.specs.Seats.{Below}
use Rattle.support.specs.Support.{support_order}
use Rattle.variable_names.proofs.Placed.{starts-gathered, lens-gathered}
use Rattle.header_values.specs.Values.{pad, nvars_in, u32s_in, names_in, roots_in}
use Rattle.header_values.proofs.Counted.{u32s-most, roots-most}
use Rattle.header_values.proofs.Fronts.{front-is, front_long}
use Rattle.header_checks.specs.Whole.{IdsListed}
use Rattle.header_lists.specs.Settled.{Settled, HeldList}

-- permids are below the limit
pub permids-below : (f : List ℕ) (t : List Span) → Settled f t → {ids permids : List ℕ} → IdsListed f t ids permids → Below var_limit permids
permids-below f t s l i = rw l.permids_are (s.below i)

-- there are few ids
pub ids_few : (f : List ℕ) (t : List Span) {ids permids : List ℕ} → IdsListed f t ids permids → length ids ≤ var_limit
ids_few f t l = rw l.ids_are (u32s-most f t Ids)

-- and few permids
pub permids_few : (f : List ℕ) (t : List Span) {ids permids : List ℕ} → IdsListed f t ids permids → length permids ≤ var_limit
permids_few f t l = rw l.permids_are (u32s-most f t Permids)

-- what is made of the ids and the permids, over the front of a list
module _ (f : List ℕ) (t : List Span) {nvars : ℕ} (v : nvars ≡ nvars_in f t) {ids permids : List ℕ} (l : IdsListed f t ids permids) (old : List ℕ)
    {dst : List ℕ} where
  -- the seats of names in `.suppvarnames`
  pub supp-laid : dst ≡ laid (supp_seats nvars ids) old → dst ≡ laid (supp_seats (nvars_in f t) (u32s_in f t Ids)) old
  supp-laid d = d ∙ rw (v, l.ids_are)

  -- the seats of names in `.orderedvarnames`
  pub ordered-laid : dst ≡ laid (ordered_seats nvars ids permids) old
      → dst ≡ laid (ordered_seats (nvars_in f t) (u32s_in f t Ids) (u32s_in f t Permids)) old
  ordered-laid d = d ∙ rw (v, l.ids_are, l.permids_are)

  -- the support order, over zeros
  pub order-laid : (k : ℕ) → old ≡ replicate k 0 → dst ≡ laid (support_order nvars ids permids) old
      → dst ≡ pad k (support_order (nvars_in f t) (u32s_in f t Ids) (u32s_in f t Permids))
  order-laid k o d = d ∙ rw (v, l.ids_are, l.permids_are, o)

-- the names at seats, over the front of a list
module _ (f : List ℕ) (t : List Span) (k : Key) (seats old : List ℕ) {from dst : List ℕ} where
  -- their starts
  pub starts-laid : from ≡ map start_of (names_in var_limit f t k) → dst ≡ laid (map (entry_at from) seats) old
      → dst ≡ laid (map start_of (map (name_at_seat (names_in var_limit f t k)) seats)) old
  starts-laid a d = d ∙ rw (a, starts-gathered (names_in var_limit f t k) seats)

  -- their lengths
  pub lens-laid : from ≡ map len_of (names_in var_limit f t k) → dst ≡ laid (map (entry_at from) seats) old
      → dst ≡ laid (map len_of (map (name_at_seat (names_in var_limit f t k)) seats)) old
  lens-laid a d = d ∙ rw (a, lens-gathered (names_in var_limit f t k) seats)

-- numbers that were read into a lent list are its front
module _ (f : List ℕ) (t : List Span) (k : Key) {l : List ℕ} (h : HeldList f t k l) {n m : ℕ} (c : length (u32s_in f t k) ≡ m) (e : n ≡ m) where
  pub held-is : take n l ≡ u32s_in f t k
  held-is = front-is (length l) (u32s_in f t k) h.room (e ∙ sym c) h.list

  pub held-long : n ≡ length (take n l)
  held-long = front_long (length l) (u32s_in f t k) h.room (e ∙ sym c) h.list

-- a list that was padded to its length
pub padded-as : (es : List ℕ) {k m : ℕ} {l : List ℕ} → l ≡ pad k es → k ≡ m → l ≡ pad m es
padded-as es e q = e ∙ ap (λ n. pad n es) q

-- n roots were read into the front of a list
module _ (f : List ℕ) (t : List Span) {n : ℕ} (l : List ℤ) (e : n ≡ length (roots_in f t)) where
  -- which it has
  pub roots_do_fit : length l ≡ root_limit → n ≤ length l
  roots_do_fit h = omega (arith, roots-most f t)

  module _ (p : take n l ≡ roots_in f t) where
    -- which has n of them
    pub roots_long : n ≡ length (take n l)
    roots_long = e ∙ ap length (sym p)

    -- as edges, over the front of zeros
    pub roots-laid : (k : ℕ) {old dst : List ℤ} → old ≡ replicate k (pos 0) → dst ≡ laid (map edge_of (take n l)) old
        → dst ≡ laid (map edge_of (roots_in f t)) (replicate k (pos 0))
    roots-laid k o d = d ∙ rw (p, o)
