-- Laws of entries that a loop lays, one after the other, over the front of a lent list.
use mathlib.Core.Path.{◌≡◌, refl, sym, ap, ◌∙◌}
use mathlib.Core.List.{List, [], ◌∷◌, ◌++◌, map, append-nil}
use Prim.Native.Nat.{ℕ, ◌+◌, ◌≤◌, ◌<◌}
use native.Mathlib.Numerals.{add-one}
use native.Mathlib.Omega.{arith}
use lib.ListN.{length, get_or, drop, set, take, length-append, length-take, drop_of_length-le}
use lib.Seq.{drop-cons, append_snoc, get_or-take}
use Rattle.codes.specs.Lent.{laid}
use Rattle.codes.proofs.Lent.{laid_none, laid_more, length-laid}
use Rattle.variable_names.specs.Names.{entry_at}

-- n entries of the whole lie in the lent list, and the rest is still to come
pub record Laying (whole old dst : List ℕ) (n : ℕ) (rest : List ℕ) : Type 0 where
  pub front : List ℕ
  pub lies : dst ≡ laid front old
  pub all : whole ≡ front ++ rest
  pub count : length front ≡ n

-- no entry lies there yet
pub laying-start : (whole old : List ℕ) → Laying whole old old 0 whole
laying-start whole old = record { front = []; lies = laid_none old; all = refl; count = refl }

module _ {whole old dst : List ℕ} {n : ℕ} {rest : List ℕ} (l : Laying whole old dst n rest) where
  -- the first of the rest is stored after those that lie there
  pub laying-more : (a : ℕ) (more : List ℕ) → rest ≡ a ∷ more → Laying whole old (set dst n a) (n + 1) more
  laying-more a more e =
      record {
        front = l.front ++ (a ∷ []);
        lies = rw (l.lies, ← l.count) (laid_more l.front old a);
        all = l.all ∙ ap (λ r. l.front ++ r) e ∙ sym (append_snoc l.front a more);
        count = simp length-append (omega (arith, l.count));
      }

  -- another way to write what is still to come
  pub laying-rest : (more : List ℕ) → rest ≡ more → Laying whole old dst n more
  laying-rest more e = rw e at l

  -- nothing is to come: the whole lies there
  pub laying-end : rest ≡ [] → dst ≡ laid whole old
  laying-end e = l.lies ∙ ap (λ w. laid w old) (sym (l.all ∙ ap (λ r. l.front ++ r) e ∙ append-nil l.front))

  -- the lent list keeps its length
  pub laying-length : length dst ≡ length old
  laying-length = ap length l.lies ∙ length-laid l.front old

-- the entries at seats, of which the first i lie in the lent list
pub record Gathering (seats from old dst : List ℕ) (i : ℕ) : Type 0 where
  pub laying : Laying (map (entry_at from) seats) old dst i (map (entry_at from) (drop i seats))
  pub within : i ≤ length seats

-- no entry lies there yet
pub gathering-start : (seats from old : List ℕ) → Gathering seats from old old 0
gathering-start seats from old = record { laying = laying-start _ old; within = omega arith }

module _ {seats from old dst : List ℕ} {i : ℕ} (g : Gathering seats from old dst i) where
  -- the entry at seat i
  pub gathering-by : (x : ℕ) → i < length seats → x ≡ entry_at from (get_or seats i 0) → Gathering seats from old (set dst i x) (i + 1)
  gathering-by x h e = record { laying = laying-more g.laying x _ (rw (drop-cons seats i 0 h, e, add-one)); within = omega arith }

  -- all seats are passed
  pub gathering-end : length seats ≤ i → dst ≡ laid (map (entry_at from) seats) old
  gathering-end h = laying-end g.laying (ap (map (entry_at from)) (drop_of_length-le seats h))

-- entries that were laid over the front of a list leave the next one as it was
laid-ahead : (es old : List ℕ) → get_or (laid es old) (length es) 0 ≡ get_or old (length es) 0
unfolding laid
laid-ahead [] old = refl
laid-ahead (e ∷ es) [] = refl
laid-ahead (e ∷ es) (o ∷ old) = laid-ahead es old

-- the seats are the first n entries of the lent list itself
module _ {from old dst : List ℕ} {n i : ℕ} (g : Gathering (take n old) from old dst i) where
  -- the next seat is still there
  seat-ahead : i < n → get_or dst i 0 ≡ get_or (take n old) i 0
  seat-ahead h =
      ap (λ l. get_or l i 0) g.laying.lies
      ∙ rw g.laying.count at (laid-ahead g.laying.front old)
      ∙ sym (get_or-take n old i 0 h)

  -- what stands there takes its place
  pub gathering-own : i < n → n ≤ length old → {x : ℕ} → x ≡ entry_at from (get_or dst i 0) → Gathering (take n old) from old (set dst i x) (i + 1)
  gathering-own h m {x} e = gathering-by g x (omega (arith, length-take n old)) (e ∙ ap (entry_at from) (seat-ahead h))

  -- all are replaced
  pub gathering-owned : n ≤ i → dst ≡ laid (map (entry_at from) (take n old)) old
  gathering-owned h = gathering-end g (omega (arith, length-take n old))
