-- What filling the lent lists of a header promises, over the parts that are lent to it.
use Rattle.std.specs.Prelude.{ℕ, ◌≡◌, List, map, ◌⊎◌, ℤ, pos, length, take, replicate}
use Rattle.codes.specs.Limits.{var_limit}
use Rattle.codes.specs.Lent.{Part, old, new, laid}
use Rattle.read_text.specs.Text.{Place, start_of, len_of}
use Rattle.header_lines.specs.Sweep.{Span}
use Rattle.header_keys.specs.declared.Key.{Key}
use Rattle.header_keys.specs.declared.Key.TheVariants.{Ids, Permids, Auxids, Orderedvarnames, Suppvarnames}
use Rattle.variable_names.specs.Names.{name_at_seat, ordered_seats, supp_seats}
use Rattle.file_roots.specs.Roots.{edge_of}
use Rattle.support.specs.Support.{support_order}
use Rattle.header_values.specs.Promises.{table}
use Rattle.header_values.specs.Values.{pad, nvars_in, u32s_in, names_in, roots_in}
use Rattle.header_checks.specs.Names.{orderedvarnames_in, variable_names_in}

module _ (f starts ends : Part (List ℕ)) where
  -- the last values of the keys, and by them the number of variables, the ids and the permids
  abbrev t : List Span
  t = table starts ends

  abbrev nvars : ℕ
  nvars = nvars_in (old f) t

  abbrev ids : List ℕ
  ids = u32s_in (old f) t Ids

  abbrev permids : List ℕ
  permids = u32s_in (old f) t Permids

  -- 'Support order is `.ids` arranged by ascending permid.'
  pub record FillOrderPromise (dst : Part (List ℕ)) : Type 0 where
    pub list : new dst ≡ pad (length (old dst)) (support_order nvars ids permids)

  -- where each variable's name stands: in `.orderedvarnames`, 'support variables by permid and the rest in order', where that is given;
  -- else in `.suppvarnames`, 'with empty names elsewhere'
  pub record SeatNamesPromise (dst : Part (List ℕ)) (r : Key) : Type 0 where
    pub seated : ((r ≡ Orderedvarnames) × ((length (orderedvarnames_in (old f) t) ≡ 0 → ⊥) × (new dst ≡ laid (ordered_seats nvars ids permids) (old dst))))
        ⊎ ((r ≡ Suppvarnames) × ((length (orderedvarnames_in (old f) t) ≡ 0) × (new dst ≡ laid (supp_seats nvars ids) (old dst))))

  -- the names at seats of a key's list
  abbrev gathered : Key → List ℕ → List Place
  gathered key seats = map (name_at_seat (names_in var_limit (old f) t key)) seats

  -- the seats are the front of the second list; the names there lie over the fronts: where each starts, and how long it is
  pub record GatherPromise (key : Key) (count : ℕ) (names lens : Part (List ℕ)) : Type 0 where
    pub names_left : new names ≡ laid (map start_of (gathered key (take count (old lens)))) (old names)
    pub lens_left : new lens ≡ laid (map len_of (gathered key (take count (old lens)))) (old lens)

  -- 'Names: `.varnames` first; else `.orderedvarnames`, ..; else `.suppvarnames`': where each starts, and how long it is
  pub record FillNamesPromise (names lens : Part (List ℕ)) : Type 0 where
    pub names_left : new names ≡ pad (length (old names)) (map start_of (variable_names_in (old f) t))
    pub lens_left : new lens ≡ pad (length (old lens)) (map len_of (variable_names_in (old f) t))

  -- the lists of variables beside `.ids` and `.permids`; 'on success unused output is zero'
  pub record FillListsPromise (order auxids names lens : Part (List ℕ)) : Type 0 where
    pub order_left : new order ≡ pad (length (old order)) (support_order nvars ids permids)
    pub auxids_left : new auxids ≡ pad (length (old auxids)) (u32s_in (old f) t Auxids)
    pub names_left : new names ≡ pad (length (old names)) (map start_of (variable_names_in (old f) t))
    pub lens_left : new lens ≡ pad (length (old lens)) (map len_of (variable_names_in (old f) t))

  -- the roots as edges; 'on success unused output is zero'
  pub record FillRootsPromise (dst : Part (List ℤ)) : Type 0 where
    pub list : new dst ≡ laid (map edge_of (roots_in (old f) t)) (replicate (length (old dst)) (pos 0))
