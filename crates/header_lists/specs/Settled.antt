-- What filling the lists of a header leans on.
use Rattle.std.specs.Prelude.{◌≡◌, ℕ, ◌≤◌, List, length}
use Rattle.codes.specs.Limits.{var_limit}
use Rattle.header_lines.specs.Sweep.{Span}
use Rattle.header_keys.specs.declared.Key.{Key}
use Rattle.header_keys.specs.declared.Key.TheVariants.{Ids, Permids, Orderedvarnames, Suppvarnames}
use Rattle.seats.specs.Seats.{Below}
use Rattle.header_values.specs.Values.{pad, nvars_in, nsuppvars_in, u32s_in, names_in}

-- the header was checked,
pub record Settled (f : List ℕ) (t : List Span) : Type 0 where
  pub few : nvars_in f t ≤ var_limit
  pub below : Below var_limit (u32s_in f t Permids)
  pub ids_counted : length (u32s_in f t Ids) ≡ nsuppvars_in f t
  pub permids_counted : length (u32s_in f t Permids) ≡ nsuppvars_in f t

-- a list of numbers was read into its lent list, which has room for it,
pub record HeldList (f : List ℕ) (t : List Span) (k : Key) (l : List ℕ) : Type 0 where
  pub room : length (u32s_in f t k) ≤ length l
  pub list : l ≡ pad (length l) (u32s_in f t k)

-- two lists have room for the starts and the lengths of a list's names,
pub record NamesRoom (f : List ℕ) (t : List Span) (k : Key) (from sizes : List ℕ) : Type 0 where
  pub from_room : length (names_in var_limit f t k) ≤ length from
  pub sizes_room : length (names_in var_limit f t k) ≤ length sizes

-- and lists that are scratch at first have room for an entry of each variable, and for names
pub record ListsRoom (f : List ℕ) (t : List Span) (from sizes lens : List ℕ) : Type 0 where
  pub from_seats : nvars_in f t ≤ length from
  pub sizes_seats : nvars_in f t ≤ length sizes
  pub lens_seats : nvars_in f t ≤ length lens
  pub ordered_room : NamesRoom f t Orderedvarnames from sizes
  pub supp_room : NamesRoom f t Suppvarnames from sizes
