-- What reading a list of the header promises, over the parts that are lent to it.
use Rattle.std.specs.Prelude.{ℕ, ◌≡◌, List, map, length, take, ℤ}
use Rattle.codes.specs.Lent.{Part, old, new, laid}
use Rattle.read_text.specs.Text.{start_of, len_of}
use Rattle.header_keys.specs.declared.Key.{Key}
use Rattle.header_lines.specs.Sweep.{Span}
use Rattle.header_values.specs.Values.{spans, pad, u32s_in, names_in, roots_in, roots_read}

-- the spans of the last values, by lent starts and ends
abbrev pub table : Part (List ℕ) → Part (List ℕ) → List Span
table starts ends = spans (old starts) (old ends)

module _ (f starts ends : Part (List ℕ)) where
  -- the numbers of a key's list, counted; 'on success unused output is zero'
  pub record U32sPromise (key : Key) (dst : Part (List ℕ)) (r : ℕ) : Type 0 where
    pub answer : r ≡ length (u32s_in (old f) (table starts ends) key)
    pub list : new dst ≡ pad (length (old dst)) (u32s_in (old f) (table starts ends) key)

  -- the names of a key's list, counted: where each starts, and how long it is; 'on success unused output is zero'
  pub record NamesPromise (key : Key) (max : ℕ) (names lens : Part (List ℕ)) (r : ℕ) : Type 0 where
    pub answer : r ≡ length (names_in max (old f) (table starts ends) key)
    pub names_left : new names ≡ pad (length (old names)) (map start_of (names_in max (old f) (table starts ends) key))
    pub lens_left : new lens ≡ pad (length (old lens)) (map len_of (names_in max (old f) (table starts ends) key))

  -- the same as the fronts of the lent lists, whatever stands behind them
  pub record NamesOverPromise (key : Key) (max : ℕ) (names lens : Part (List ℕ)) (r : ℕ) : Type 0 where
    pub answer : r ≡ length (names_in max (old f) (table starts ends) key)
    pub names_front : take r (new names) ≡ map start_of (names_in max (old f) (table starts ends) key)
    pub lens_front : take r (new lens) ≡ map len_of (names_in max (old f) (table starts ends) key)

  -- the roots, counted, as the front of the lent list; all of it: the entries up to one that is refused, and the rest as it was
  pub record RootsInPromise (dst : Part (List ℤ)) (r : ℕ) : Type 0 where
    pub answer : r ≡ length (roots_in (old f) (table starts ends))
    pub front : take r (new dst) ≡ roots_in (old f) (table starts ends)
    pub list : new dst ≡ laid (roots_read (old f) (table starts ends)) (old dst)
