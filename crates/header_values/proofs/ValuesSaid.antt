-- What a table's values are is what the lines say, each of its key's last value: where the lines are sound none of them is a default but of
-- a key that is missing. And nothing else is said.
use mathlib.Core.Path.{◌≡◌, refl, sym, ap, subst, ◌∙◌}
use mathlib.Core.Logic.{◌⊎◌, inl, inr}
use mathlib.Core.Bool.{Bool, true, not}
use mathlib.Core.List.{List, [], ◌∷◌}
use Prim.Native.Nat.{ℕ, ◌+◌, ◌<◌, ◌≤◌}
use native.Mathlib.Omega.{arith}
use lib.IntN.{ℤ}
use Rattle.codes.specs.Machine.{run}
use Rattle.codes.specs.Answer.{Read, value}
use Rattle.codes.specs.Limits.{var_limit, root_limit}
use Rattle.read_lines.specs.Each.{Each}
use Rattle.read_lines.specs.Words.{words_from, words}
use Rattle.read_numbers.specs.Number.{single}
use Rattle.read_lists.specs.Lists.{Listed, listed, judge, u32_list}
use Rattle.read_edges.specs.Edges.{edge_list}
use Rattle.read_text.specs.Text.{Place, place, is_utf8, name_list, text_at}
use Rattle.read_text.specs.Alike.{alike}
use Rattle.header_faults.specs.Judge.{mode_a, mode_b}
use Rattle.header_faults.specs.Sound.{SoundNumber, SoundNumbers, SoundNames}
use Rattle.header_keys.specs.Keys.{slot_of}
use Rattle.header_keys.specs.declared.Key.{Key}
use Rattle.header_keys.specs.declared.Key.TheVariants.{Mode, Varinfo, Dd, Rootids}
use Rattle.header_lines.specs.Sweep.{Span, no_span, keys, Said, lasts}
use Rattle.header_lines.specs.SoundLines.{SoundLine}
use Rattle.header_lines.specs.Last.{bytes_at, LastLine, SaidOf}
use Rattle.header_lines.proofs.LastLines.{last-each, is_said, said-is}
use Rattle.header_lines.proofs.Lasts.{last-at}
use Rattle.header_values.specs.Values.{value_or, entries_by, entries_of, number_in, ascii_in, varinfo_of, varinfo_in, dd_in, u32s_in, names_in, roots_in}
use Rattle.header_values.proofs.Single.{digit-is}
use Rattle.header_values.specs.Reading.{ReadsNumber, ReadsMode, ReadsVarinfo, ReadsText, ReadsNumbers, ReadsNames, ReadsRoots}

-- a list that was read is its entries
listed-is : {A : Type 0} (l : Listed A) (n : ℕ) → l.answer ≡ value n → l ≡ listed (value n) (entries_of l)
listed-is l n q = go l.answer q
  where
    go : (a : Read ℕ) → a ≡ value n → listed a l.entries ≡ listed (value n) (entries_by l.entries a)
    go a q = rw q

is-listed : {A : Type 0} (l : Listed A) (n : ℕ) (es : List A) → l ≡ listed (value n) es → entries_of l ≡ es
is-listed l n es q = ap entries_of q

-- what is got of a value
module _ (f : List ℕ) where
  abbrev number_at : ℕ → Span → ℕ
  number_at lim v = value_or 0 (single lim (bytes_at f v))

  abbrev mode_at : Span → Bool
  mode_at v = not (alike (bytes_at f v) mode_b)

  abbrev varinfo_at : Span → ℕ
  varinfo_at v = varinfo_of (bytes_at f v)

  abbrev text_in : Span → Place
  text_in v = value_or (place 0 0) (text_at v.start (bytes_at f v))

  abbrev numbers_at : Span → List ℕ
  numbers_at v = entries_of (u32_list var_limit (bytes_at f v))

  abbrev names_at : ℕ → Span → List Place
  names_at max v = entries_of (name_list max v.start (bytes_at f v))

  abbrev roots_at : Span → List ℤ
  roots_at v = entries_of (edge_list root_limit (bytes_at f v))

  -- of a missing key it is the default
  no_number : (lim : ℕ) → number_at lim no_span ≡ 0
  unfolding single
  no_number lim = refl

  no_mode : mode_at no_span ≡ true
  unfolding alike
  no_mode = refl

  no-varinfo : varinfo_at no_span ≡ 4
  unfolding alike
  no-varinfo = refl

  no_text : text_in no_span ≡ place 0 0
  unfolding text_at is_utf8 run
  no_text = refl

  no-numbers : numbers_at no_span ≡ []
  unfolding u32_list judge words words_from
  no-numbers = refl

  no_names : (max : ℕ) → names_at max no_span ≡ []
  unfolding name_list judge words words_from
  no_names max = refl

  no-roots : roots_at no_span ≡ []
  unfolding edge_list judge words words_from
  no-roots = refl

  -- of a sound value it is what is read
  mode-reads : (v : Span) → (bytes_at f v ≡ mode_a) ⊎ (bytes_at f v ≡ mode_b) → ReadsMode f v (mode_at v)
  unfolding alike
  mode-reads v (inl q) = inl (q, ap (λ s. not (alike s mode_b)) q)
  mode-reads v (inr q) = inr (q, ap (λ s. not (alike s mode_b)) q)

  reads-mode : (v : Span) (b : Bool) → ReadsMode f v b → mode_at v ≡ b
  unfolding alike
  reads-mode v b (inl w) = ap (λ s. not (alike s mode_b)) w.0 ∙ sym w.1
  reads-mode v b (inr w) = ap (λ s. not (alike s mode_b)) w.0 ∙ sym w.1

  reads-varinfo : (v : Span) (n : ℕ) → ReadsVarinfo f v n → varinfo_at v ≡ n
  reads-varinfo v n w = ap varinfo_of w.1 ∙ digit-is n w.0

  varinfo-reads : (v : Span) → (d : ℕ) × ((d ≤ 4) × (bytes_at f v ≡ (0x30 + d) ∷ [])) → ReadsVarinfo f v (varinfo_at v)
  varinfo-reads v w = subst (ReadsVarinfo f v) (sym (reads-varinfo v w.0 w.1)) w.1

  -- Where the lines are sound,
  module _ (ss : List Said) where
    module _ (k : Key) (known : slot_of k < keys) where
      -- a number is said,
      pub number-said : (lim : ℕ) → ((v : Span) → LastLine k ss v → SoundNumber lim (bytes_at f v))
          → SaidOf k (ReadsNumber lim f) 0 ss (number_in lim f (lasts ss) k)
      unfolding number_in
      number-said lim h =
          rw (last-at k ss known)
          (is_said k (ReadsNumber lim f) 0 (number_at lim) (no_number lim) ss (λ v l. let w = h v l in rw w.1))

      pub said-number : (lim n : ℕ) → SaidOf k (ReadsNumber lim f) 0 ss n → n ≡ number_in lim f (lasts ss) k
      unfolding number_in
      said-number lim n w =
          rw (last-at k ss known)
          (said-is k (ReadsNumber lim f) 0 (number_at lim) (no_number lim) ss (λ v a r. ap (value_or 0) r) n w)

      -- a list of numbers,
      pub numbers-said : ((v : Span) → LastLine k ss v → SoundNumbers (bytes_at f v))
          → SaidOf k (ReadsNumbers f) [] ss (u32s_in f (lasts ss) k)
      unfolding u32s_in
      numbers-said h =
          rw (last-at k ss known)
          (is_said k (ReadsNumbers f) [] numbers_at no-numbers ss (λ v l. let w = h v l in (w.0, listed-is _ w.0 w.1)))

      pub said-numbers : (l : List ℕ) → SaidOf k (ReadsNumbers f) [] ss l → l ≡ u32s_in f (lasts ss) k
      unfolding u32s_in
      said-numbers l w =
          rw (last-at k ss known)
          (said-is k (ReadsNumbers f) [] numbers_at no-numbers ss (λ v a r. is-listed _ r.0 a r.1) l w)

      -- a list of names,
      pub names_said : (max : ℕ) → ((v : Span) → LastLine k ss v → SoundNames max v.start (bytes_at f v))
          → SaidOf k (ReadsNames max f) [] ss (names_in max f (lasts ss) k)
      unfolding names_in
      names_said max h =
          rw (last-at k ss known)
          (is_said k (ReadsNames max f) [] (names_at max) (no_names max) ss (λ v l. let w = h v l in (w.0, listed-is _ w.0 w.1)))

      pub said-names : (max : ℕ) (l : List Place) → SaidOf k (ReadsNames max f) [] ss l → l ≡ names_in max f (lasts ss) k
      unfolding names_in
      said-names max l w =
          rw (last-at k ss known)
          (said-is k (ReadsNames max f) [] (names_at max) (no_names max) ss (λ v a r. is-listed _ r.0 a r.1) l w)

    -- the roots,
    pub roots_said : Each (SoundLine f) ss → SaidOf Rootids (ReadsRoots f) [] ss (roots_in f (lasts ss))
    unfolding roots_in
    roots_said e =
        rw (last-at Rootids ss (omega arith))
        (is_said Rootids (ReadsRoots f) [] roots_at no-roots ss (λ v l. let w = last-each l e in (w.0, listed-is _ w.0 w.1)))

    pub said-roots : (l : List ℤ) → SaidOf Rootids (ReadsRoots f) [] ss l → l ≡ roots_in f (lasts ss)
    unfolding roots_in
    said-roots l w =
        rw (last-at Rootids ss (omega arith))
        (said-is Rootids (ReadsRoots f) [] roots_at no-roots ss (λ v a r. is-listed _ r.0 a r.1) l w)

    -- the mode,
    pub mode_said : Each (SoundLine f) ss → SaidOf Mode (ReadsMode f) true ss (ascii_in f (lasts ss))
    unfolding ascii_in
    mode_said e =
        rw (last-at Mode ss (omega arith))
        (is_said Mode (ReadsMode f) true mode_at no_mode ss (λ v l. mode-reads v (last-each l e)))

    pub said-mode : (b : Bool) → SaidOf Mode (ReadsMode f) true ss b → b ≡ ascii_in f (lasts ss)
    unfolding ascii_in
    said-mode b w = rw (last-at Mode ss (omega arith)) (said-is Mode (ReadsMode f) true mode_at no_mode ss reads-mode b w)

    -- varinfo,
    pub varinfo_said : Each (SoundLine f) ss → SaidOf Varinfo (ReadsVarinfo f) 4 ss (varinfo_in f (lasts ss))
    unfolding varinfo_in
    varinfo_said e =
        rw (last-at Varinfo ss (omega arith))
        (is_said Varinfo (ReadsVarinfo f) 4 varinfo_at no-varinfo ss (λ v l. varinfo-reads v (last-each l e)))

    pub said-varinfo : (n : ℕ) → SaidOf Varinfo (ReadsVarinfo f) 4 ss n → n ≡ varinfo_in f (lasts ss)
    unfolding varinfo_in
    said-varinfo n w =
        rw (last-at Varinfo ss (omega arith)) (said-is Varinfo (ReadsVarinfo f) 4 varinfo_at no-varinfo ss reads-varinfo n w)

    -- and the diagram's name.
    pub text-said : Each (SoundLine f) ss → SaidOf Dd (ReadsText f) (place 0 0) ss (dd_in f (lasts ss))
    unfolding dd_in
    text-said e =
        rw (last-at Dd ss (omega arith))
        (is_said Dd (ReadsText f) (place 0 0) text_in no_text ss (λ v l. let w = last-each l e in rw w.1))

    pub said-text : (p : Place) → SaidOf Dd (ReadsText f) (place 0 0) ss p → p ≡ dd_in f (lasts ss)
    unfolding dd_in
    said-text p w =
        rw (last-at Dd ss (omega arith))
        (said-is Dd (ReadsText f) (place 0 0) text_in no_text ss (λ v a r. ap (value_or (place 0 0)) r) p w)
