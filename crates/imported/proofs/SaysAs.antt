-- What a file's own lines say, where the children of each line are lines before it: as many steps down as a line's number are enough, so
-- that a line says what document 01, 'Node lines', has it say of its children.
use mathlib.Core.Path.{◌≡◌, refl, ap, ap₂, subst, ◌∙◌}
use mathlib.Core.Bool.{Bool, true, cond}
use mathlib.Core.Option.{Option, none, some, none-ne-some, some-injective}
use mathlib.Core.List.{List, [], ◌∷◌, ◌++◌}
use Prim.Native.Nat.{ℕ, zero, suc, ◌+◌, ◌-◌, ◌≤◌, ◌<◌}
use native.Mathlib.Omega.{arith}
use native.Mathlib.Nat.{le_refl}
use lib.ListN.{length, get_or, get_elem?, length-append}
use lib.IntN.{ℤ, nat_abs}
use Rattle.node_lines.specs.Line.{Line, terminal, inner, seat_of_line}
use Rattle.node_lines.specs.Says.{line_numbered, turn_said, side_says, line_says, says_by, says}
use Rattle.imported.specs.Build as build
use Rattle.imported.specs.Build.{Judged, AllJudged, one}

-- The two children of line n are lines before it.
pub record Before (n : ℕ) (t e : ℤ) : Type 0 where
  pub then_some : 1 ≤ nat_abs t
  pub then_low : nat_abs t < n
  pub else_some : 1 ≤ nat_abs e
  pub else_low : nat_abs e < n

-- a terminal line has none
abbrev pub Low : ℕ → Line → Type 0
Low n terminal = Unit
Low n (inner p t e) = Before n t e

-- each line's are
abbrev pub Falls : List Line → Type 0
Falls ls = (n : ℕ) → 1 ≤ n → Low n (get_or ls (n - 1) terminal)

-- a line that its checks have let pass, and each of many
judged-low : (levels seats : List ℕ) (n : ℕ) (l : Line) → Judged levels seats n l → Low n l
judged-low levels seats n terminal j = tt
judged-low levels seats n (inner p t e) j =
    record { then_some = j.then.some; then_low = j.then.below; else_some = j.els.some; else_low = j.els.below }

all-low : {levels seats : List ℕ} {ls : List Line} → AllJudged levels seats ls → (i : ℕ) → Low (length seats + 1 + i) (get_or ls i terminal)
all-low {levels} build.none i = tt
all-low {levels} (one {seats} {l} {ls} j js) zero =
    let q : length seats + 1 + 0 ≡ length seats + 1 = omega arith in
    rw q (judged-low levels seats (length seats + 1) l j)
all-low {levels} (one {seats} {l} {ls} j js) (suc i) =
    let q : length (seats ++ (seat_of_line l ∷ [])) + 1 + i ≡ length seats + 1 + suc i = omega (arith, length-append seats (seat_of_line l ∷ [])) in
    subst (λ (k : ℕ). Low k (get_or ls i terminal)) q (all-low js i)

-- so it is of judged lines
pub judged-falls : {levels : List ℕ} {ls : List Line} → AllJudged levels [] ls → Falls ls
judged-falls {ls} J n h =
    let q : 0 + 1 + (n - 1) ≡ n = omega arith in
    subst (λ (k : ℕ). Low k (get_or ls (n - 1) terminal)) q (all-low J (n - 1))

-- an entry that is there is what the list has at its position
pub there-get_d : {A : Type 0} (l : List A) (i : ℕ) (a d : A) → get_elem? l i ≡ some a → get_or l i d ≡ a
there-get_d [] i a d q = absurd (none-ne-some a q)
there-get_d (x ∷ l) zero a d q = some-injective x a q
there-get_d (x ∷ l) (suc i) a d q = there-get_d l i a d q

-- and below the length there is one
pub get_d-there : {A : Type 0} (l : List A) (i : ℕ) (d : A) → i < length l → get_elem? l i ≡ some (get_or l i d)
get_d-there [] i d h = absurd (omega arith)
get_d-there (x ∷ l) zero d h = refl
get_d-there (x ∷ l) (suc i) d h = get_d-there l i d (omega arith)

-- the children of a line that is there are lines before it
there-low : (ls : List Line) → Falls ls → (n : ℕ) (l : Line) → line_numbered ls n ≡ some l → Low n l
there-low ls F zero l q = absurd (none-ne-some l q)
there-low ls F (suc i) l q =
    let e : suc i - 1 ≡ i = omega arith in
    subst (Low (suc i)) (ap (λ (k : ℕ). get_or ls k terminal) e ∙ there-get_d ls i l terminal q) (F (suc i) (omega arith))

module _ (levels : List ℕ) (ls : List Line) (F : Falls ls) (s : ℕ → Bool) where
  -- more steps than a line's number change nothing
  same-steps : (f g n : ℕ) → 1 ≤ n → n ≤ f → n ≤ g → says_by f levels ls s n ≡ says_by g levels ls s n
  unfolding says_by
  same-steps zero g n h i j = absurd (omega arith)
  same-steps (suc f) zero n h i j = absurd (omega arith)
  same-steps (suc f) (suc g) n h i j = go (line_numbered ls n) (there-low ls F n) (λ k. same-steps f g k)
    where
      go : (l : Option Line) → ((x : Line) → l ≡ some x → Low n x)
          → ((k : ℕ) → 1 ≤ k → k ≤ f → k ≤ g → says_by f levels ls s k ≡ says_by g levels ls s k)
          → line_says levels s (λ c. turn_said c (says_by f levels ls s (nat_abs c))) l
          ≡ line_says levels s (λ c. turn_said c (says_by g levels ls s (nat_abs c))) l
      go none b ih = refl
      go (some terminal) b ih = refl
      go (some (inner p t e)) b ih =
          let w = b (inner p t e) refl in
          ap₂ (λ x y. side_says s (get_elem? levels p) (turn_said t x) (turn_said e y))
          (ih (nat_abs t) w.then_some (omega (arith, w.then_low)) (omega (arith, w.then_low)))
          (ih (nat_abs e) w.else_some (omega (arith, w.else_low)) (omega (arith, w.else_low)))

  -- as many as its number are enough
  pub says-steps : (d n : ℕ) → 1 ≤ n → n ≤ d → says_by d levels ls s n ≡ says_by n levels ls s n
  says-steps d n h p = same-steps d n n h p (le_refl n)

  -- 'A terminal line says yes at every setting.'
  pub terminal-says : (n : ℕ) → line_numbered ls n ≡ some terminal → says_by n levels ls s n ≡ some true
  unfolding says_by
  terminal-says zero q = absurd (none-ne-some terminal q)
  terminal-says (suc k) q = rw q

  -- 'Another line says what its then child says where the setting has yes at the line's level, else what its else child says.'
  pub inner-says : (n p l : ℕ) (t e : ℤ) → line_numbered ls n ≡ some (inner p t e) → get_elem? levels p ≡ some l
      → says_by n levels ls s n ≡ cond (s l) (says levels ls s t) (says levels ls s e)
  unfolding says_by says
  inner-says zero p l t e q r = absurd (none-ne-some (inner p t e) q)
  inner-says (suc k) p l t e q r =
      let b = there-low ls F (suc k) (inner p t e) q in
      rw (q, r)
      (ap₂ (λ x y. cond (s l) (turn_said t x) (turn_said e y))
      (says-steps k (nat_abs t) b.then_some (omega (arith, b.then_low)))
      (says-steps k (nat_abs e) b.else_some (omega (arith, b.else_low))))
