-- Which list gives the names of the variables, and what is then read into the lent lists.
use mathlib.Core.Path.{◌≡◌, refl, sym, ap, ◌∙◌}
use mathlib.Core.Logic.{◌⊎◌, inl, inr}
use mathlib.Core.List.{List, [], ◌∷◌, map}
use Prim.Native.Nat.{ℕ, zero, suc, ◌≤◌}
use native.Mathlib.Omega.{arith}
use lib.ListN.{length, take, replicate, length-map}
use Rattle.codes.specs.Lent.{laid}
use Rattle.codes.specs.Limits.{var_limit}
use Rattle.read_text.specs.Text.{Place, start_of, len_of}
use Rattle.header_lines.specs.Sweep.{Span}
use Rattle.header_keys.specs.declared.Key.{Key}
use Rattle.header_keys.specs.declared.Key.TheVariants.{Ids, Permids, Orderedvarnames, Suppvarnames}
use Rattle.variable_names.proofs.Free.{length-ordered_seats, length-supp_seats}
use Rattle.variable_names.specs.Names.{empty_name, name_at_seat, ordered_seats, supp_seats, variable_names}
use Rattle.header_values.specs.Values.{pad, nvars_in, u32s_in, names_in, KnownKey}
use Rattle.header_values.proofs.Padded.{pad-none}
use Rattle.header_values.proofs.Fronts.{front-is}
use Rattle.header_lists.specs.Settled.{NamesRoom, ListsRoom}
use Rattle.header_checks.specs.Names.{varnames_in, orderedvarnames_in, suppvarnames_in, variable_names_in}

module _ (nvars : ℕ) (ids permids : List ℕ) where
  -- `.varnames` first
  by_varnames : (vs os ss : List Place) → (length vs ≡ 0 → ⊥) → variable_names nvars ids permids vs os ss ≡ vs
  unfolding variable_names
  by_varnames [] os ss h = absurd (h refl)
  by_varnames (v ∷ vs) os ss h = refl

  -- else `.orderedvarnames`
  by_ordered : (vs os ss : List Place) → length vs ≡ 0 → (length os ≡ 0 → ⊥)
      → variable_names nvars ids permids vs os ss ≡ map (name_at_seat os) (ordered_seats nvars ids permids)
  unfolding variable_names
  by_ordered [] [] ss z h = absurd (h refl)
  by_ordered [] (o ∷ os) ss z h = refl
  by_ordered (v ∷ vs) os ss z h = absurd (omega arith)

  -- else `.suppvarnames`
  by-supp : (vs os ss : List Place) → length vs ≡ 0 → length os ≡ 0 → (length ss ≡ 0 → ⊥)
      → variable_names nvars ids permids vs os ss ≡ map (name_at_seat ss) (supp_seats nvars ids)
  unfolding variable_names
  by-supp [] [] [] z y h = absurd (h refl)
  by-supp [] [] (s ∷ ss) z y h = refl
  by-supp [] (o ∷ os) ss z y h = absurd (omega arith)
  by-supp (v ∷ vs) os ss z y h = absurd (omega arith)

  -- else there are none
  by-none : (vs os ss : List Place) → length vs ≡ 0 → length os ≡ 0 → length ss ≡ 0 → variable_names nvars ids permids vs os ss ≡ []
  unfolding variable_names
  by-none [] [] [] z y x = refl
  by-none [] [] (s ∷ ss) z y x = absurd (omega arith)
  by-none [] (o ∷ os) ss z y x = absurd (omega arith)
  by-none (v ∷ vs) os ss z y x = absurd (omega arith)

-- where each variable's name stands in `.orderedvarnames`, and in `.suppvarnames`
abbrev pub ordered_in : List ℕ → List Span → List ℕ
ordered_in f t = ordered_seats (nvars_in f t) (u32s_in f t Ids) (u32s_in f t Permids)

abbrev pub supp_in : List ℕ → List Span → List ℕ
supp_in f t = supp_seats (nvars_in f t) (u32s_in f t Ids)

-- entries laid over others, of which there are as many
laid-again : (es ds old : List ℕ) → length es ≡ length ds → laid es (laid ds old) ≡ laid es old
unfolding laid
laid-again [] [] old h = refl
laid-again [] (d ∷ ds) old h = absurd (omega arith)
laid-again (e ∷ es) [] old h = absurd (omega arith)
laid-again (e ∷ es) (d ∷ ds) [] h = refl
laid-again (e ∷ es) (d ∷ ds) (o ∷ old) h = ap (λ l. e ∷ l) (laid-again es ds old (omega arith))

-- where there are no names, those at seats are empty
no-gathered : (of : Place → ℕ) → of empty_name ≡ 0 → (seats : List ℕ) (k : ℕ) → laid (map of (map (name_at_seat []) seats)) (replicate k 0) ≡ replicate k 0
unfolding laid
no-gathered of z [] k = refl
no-gathered of z (s ∷ seats) zero = refl
no-gathered of z (s ∷ seats) (suc k) = rw (at s, no-gathered of z seats k)
  where
    at : (i : ℕ) → of (name_at_seat [] i) ≡ 0
    at zero = z
    at (suc i) = z

-- a list of zeros, over whose front seats are laid, one for each variable
module _ {nvars n m : ℕ} (v : n ≡ nvars) (h : nvars ≤ m) {zs l : List ℕ} (z : zs ≡ replicate m 0) (es : List ℕ) (c : length es ≡ nvars)
    (d : l ≡ laid es zs) where
  -- they are its front
  pub seats-front : take n l ≡ es
  seats-front = front-is m es (omega (arith, c, h)) (v ∙ sym c) (d ∙ ap (laid es) z)

  -- what is made of each lies over the zeros
  pub seats-over : (ds : List ℕ) → length ds ≡ length es → laid ds l ≡ laid ds zs
  seats-over ds q = ap (laid ds) d ∙ laid-again ds es zs q

-- no names leave zeros
no_names : (of : Place → ℕ) (ns : List Place) (k : ℕ) → length ns ≡ 0 → pad k (map of ns) ≡ replicate k 0
no_names of [] k z = pad-none k
no_names of (n ∷ ns) k z = absurd (omega arith)

-- A part of each name, its start or its length, in a lent list of k entries, into which `.varnames` was read, n names.
module _ (f : List ℕ) (t : List Span) (of : Place → ℕ) (k : ℕ) {n : ℕ} (e : n ≡ length (varnames_in f t))
    {old : List ℕ} (o : old ≡ pad k (map of (varnames_in f t))) where
  -- other names for what is laid over zeros
  renamed : {ns : List Place} → variable_names_in f t ≡ ns → pad k (map of ns) ≡ pad k (map of (variable_names_in f t))
  renamed q = ap (λ ns. pad k (map of ns)) (sym q)

  -- `.varnames` is given
  pub filled-varnames : (n ≡ 0 → ⊥) → old ≡ pad k (map of (variable_names_in f t))
  unfolding variable_names_in
  filled-varnames h = o ∙ renamed (by_varnames _ _ _ (varnames_in f t) _ _ (λ q. h (e ∙ q)))

  module _ (z : n ≡ 0) {m : ℕ} (e2 : m ≡ length (orderedvarnames_in f t)) where
    -- it isn't: the list is zeros
    over_zeros : (es : List ℕ) → laid es old ≡ pad k es
    over_zeros es = ap (laid es) (o ∙ no_names of (varnames_in f t) k (sym e ∙ z))

    -- `.orderedvarnames` is given
    pub filled-ordered : (m ≡ 0 → ⊥) → {seats l : List ℕ} → seats ≡ ordered_in f t
        → l ≡ laid (map of (map (name_at_seat (orderedvarnames_in f t)) seats)) old → l ≡ pad k (map of (variable_names_in f t))
    unfolding variable_names_in
    filled-ordered h q d =
        rw q at d
        ∙ over_zeros (map of (map (name_at_seat (orderedvarnames_in f t)) (ordered_in f t)))
        ∙ renamed (by_ordered _ _ _ (varnames_in f t) (orderedvarnames_in f t) _ (sym e ∙ z) (λ r. h (e2 ∙ r)))

    -- it isn't: `.suppvarnames` has the names, or there are none
    pub filled-supp : of empty_name ≡ 0 → m ≡ 0 → {seats l : List ℕ} → seats ≡ supp_in f t
        → l ≡ laid (map of (map (name_at_seat (suppvarnames_in f t)) seats)) old → l ≡ pad k (map of (variable_names_in f t))
    unfolding variable_names_in
    filled-supp empty y q d =
        rw q at d
        ∙ over_zeros (map of (map (name_at_seat (suppvarnames_in f t)) (supp_in f t)))
        ∙ go (suppvarnames_in f t)
      where
        go : (ss : List Place) → pad k (map of (map (name_at_seat ss) (supp_in f t)))
            ≡ pad k (map of (variable_names (nvars_in f t) (u32s_in f t Ids) (u32s_in f t Permids) (varnames_in f t) (orderedvarnames_in f t) ss))
        go [] =
            no-gathered of empty (supp_in f t) k
            ∙ sym (pad-none k)
            ∙ ap (λ ns. pad k (map of ns)) (sym (by-none _ _ _ (varnames_in f t) (orderedvarnames_in f t) [] (sym e ∙ z) (sym e2 ∙ y) refl))
        go (s ∷ ss) =
            ap (λ ns. pad k (map of ns))
            (sym (by-supp _ _ _ (varnames_in f t) (orderedvarnames_in f t) (s ∷ ss) (sym e ∙ z) (sym e2 ∙ y) (λ r. omega arith)))

-- where each variable's name stands was laid over a list: in `.orderedvarnames`, where that is given, else in `.suppvarnames`
abbrev pub Seated : List ℕ → List Span → Key → List ℕ → List ℕ → Type 0
Seated f t r old dst =
    ((r ≡ Orderedvarnames) × ((length (orderedvarnames_in f t) ≡ 0 → ⊥) × (dst ≡ laid (ordered_in f t) old)))
    ⊎ ((r ≡ Suppvarnames) × ((length (orderedvarnames_in f t) ≡ 0) × (dst ≡ laid (supp_in f t) old)))

module _ (f : List ℕ) (t : List Span) (old dst : List ℕ) where
  -- the key is one of two
  pub seated-known : (r : Key) → Seated f t r old dst → KnownKey r
  seated-known r (inl a) = rw a.0 (omega arith)
  seated-known r (inr a) = rw a.0 (omega arith)

  -- whose names have room
  pub seated-room : (r : Key) → Seated f t r old dst → {from sizes lens : List ℕ} → ListsRoom f t from sizes lens
      → (from2 sizes2 : List ℕ) → length from2 ≡ length from → length sizes2 ≡ length sizes → NamesRoom f t r from2 sizes2
  seated-room r (inl a) l from2 sizes2 p q =
      record { from_room = rw (a.0, p) l.ordered_room.from_room; sizes_room = rw (a.0, q) l.ordered_room.sizes_room }
  seated-room r (inr a) l from2 sizes2 p q =
      record { from_room = rw (a.0, p) l.supp_room.from_room; sizes_room = rw (a.0, q) l.supp_room.sizes_room }

-- `.varnames` isn't given, and the names at the seats of another list were laid over the lent lists
module _ (f : List ℕ) (t : List Span) {n : ℕ} (e : n ≡ length (varnames_in f t)) (z : n ≡ 0) (k m count : ℕ) {names0 lens0 : List ℕ}
    (o : names0 ≡ pad k (map start_of (varnames_in f t))) (p : lens0 ≡ pad m (map len_of (varnames_in f t)))
    (c : count ≡ nvars_in f t) (h : nvars_in f t ≤ m) where
  -- the list of lengths was zeros
  lens-zeros : lens0 ≡ replicate m 0
  lens-zeros = p ∙ no_names len_of (varnames_in f t) m (sym e ∙ z)

  -- as many names as seats
  as_many : (ns : List Place) (seats es : List ℕ) → seats ≡ es → length (map len_of (map (name_at_seat ns) seats)) ≡ length es
  as_many ns seats es q = length-map (map (name_at_seat ns) seats) len_of ∙ length-map seats (name_at_seat ns) ∙ ap length q

  -- they are the names of the variables
  pub named : (r : Key) (lens1 : List ℕ) → Seated f t r lens0 lens1 → {names2 lens2 : List ℕ}
      → names2 ≡ laid (map start_of (map (name_at_seat (names_in var_limit f t r)) (take count lens1))) names0
      → lens2 ≡ laid (map len_of (map (name_at_seat (names_in var_limit f t r)) (take count lens1))) lens1
      → (names2 ≡ pad k (map start_of (variable_names_in f t))) × (lens2 ≡ pad m (map len_of (variable_names_in f t)))
  named r lens1 (inl a) g1 g2 =
      let len = length-ordered_seats (nvars_in f t) (u32s_in f t Ids) (u32s_in f t Permids) in
      let q = seats-front c h lens-zeros (ordered_in f t) len a.1.1 in
      let d1 = rw a.0 at g1 in
      let d2 = rw a.0 at g2 ∙ seats-over c h lens-zeros (ordered_in f t) len a.1.1 _
      (as_many (orderedvarnames_in f t) (take count lens1) (ordered_in f t) q) in
      (filled-ordered f t start_of k e o z refl a.1.0 q d1, filled-ordered f t len_of m e p z refl a.1.0 q d2)
  named r lens1 (inr a) g1 g2 =
      let len = length-supp_seats (nvars_in f t) (u32s_in f t Ids) in
      let q = seats-front c h lens-zeros (supp_in f t) len a.1.1 in
      let d1 = rw a.0 at g1 in
      let d2 = rw a.0 at g2 ∙ seats-over c h lens-zeros (supp_in f t) len a.1.1 _
      (as_many (suppvarnames_in f t) (take count lens1) (supp_in f t) q) in
      (filled-supp f t start_of k e o z refl refl a.1.0 q d1, filled-supp f t len_of m e p z refl refl a.1.0 q d2)
