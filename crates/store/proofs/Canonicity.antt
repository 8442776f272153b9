-- Canonicity: two edges of a store that keeps the rules of nodes answer alike at every setting of the store's levels exactly where they
-- are one number. At the all-yes setting every positive edge says yes, so edges that answer alike have one sign; their nodes lie at one
-- level, since a node that does not look at a level has equal children there; and then their children answer alike in turn.
use mathlib.Core.Path.{◌≡◌, refl, sym, ap, ◌∙◌}
use mathlib.Core.Logic.{◌≢◌, ◌⊎◌, inl, inr, ◌↔◌}
use mathlib.Core.Bool.{Bool, true, false, not, cond, not-not, true≢false}
use mathlib.Core.List.{List, [], ◌∷◌}
use Prim.Native.Nat.{ℕ, zero, suc, ◌≤◌, ◌<◌}
use native.Mathlib.Omega.{arith}
use native.Mathlib.Decide.{dec_lt}
use lib.Dec.{eqb}
use lib.ListN.{length, get_or}
use lib.IntN.{ℤ, pos, negsuc, nat_abs}
use borrow.Author.Tests.{eq-eqb, ne_eqb}
use Rattle.edges.specs.Edge.{turn}
use Rattle.store.specs.Store.{Store, level_at, then_at, else_at}
use Rattle.store.specs.Meaning.{Setting, setting_of, node, answer}
use Rattle.store.specs.Rules.{depth, Nodes}
use Rattle.store.specs.Growth.{EdgeOf}
use Rattle.store.specs.Settings.{chosen, IsSetting}
use Rattle.store.proofs.Meaning.{depth_low, node-one, node-step, then_edge, else_edge, answer-from, answer-below, answer-yes}

-- A setting with one level set anew.
abbrev pub put : Setting → ℕ → Bool → Setting
put s i b j = cond (eqb j i) b (s j)

pub put_same : (s : Setting) (i : ℕ) (b : Bool) → put s i b i ≡ b
put_same s i b = rw (eq-eqb i i refl)

pub put_other : (s : Setting) (i : ℕ) (b : Bool) (j : ℕ) → j ≢ i → put s i b j ≡ s j
put_other s i b j h = rw (ne_eqb j i h)

module _ (σ : Store) (N : Nodes σ) where
  -- an edge below level i does not see it
  pub put-below : (s : Setting) (i : ℕ) (b : Bool) (e : ℤ) → EdgeOf σ e → i < depth σ (nat_abs e) → answer σ (put s i b) e ≡ answer σ s e
  put-below s i b e E h = answer-from σ N (put s i b) s e E (λ j d _. put_other s i b j (omega arith))

  -- the two halves of a node
  pub half-yes : (s : Setting) (n : ℕ) → 2 ≤ n → n ≤ σ.count → node σ (put s (level_at σ n) true) n ≡ answer σ s (then_at σ n)
  half-yes s n p h = rw (node-step σ N (put s (level_at σ n) true) n, put_same s (level_at σ n) true)
      (put-below s (level_at σ n) true (then_at σ n) (then_edge σ N n p h) (N.fits n p h).then_deep)

  pub half-no : (s : Setting) (n : ℕ) → 2 ≤ n → n ≤ σ.count → node σ (put s (level_at σ n) false) n ≡ answer σ s (else_at σ n)
  half-no s n p h = rw (node-step σ N (put s (level_at σ n) false) n, put_same s (level_at σ n) false)
      (put-below s (level_at σ n) false (else_at σ n) (else_edge σ N n p h) (N.fits n p h).else_deep)

  abbrev Same : ℤ → ℤ → Type 0
  Same a b = (s : Setting) → answer σ s a ≡ answer σ s b

  abbrev SameNode : ℕ → ℕ → Type 0
  SameNode m n = (s : Setting) → node σ s m ≡ node σ s n

  -- what is proved by induction on a bound for both nodes
  abbrev UpTo : ℕ → Type 0
  UpTo k = (a b : ℤ) → EdgeOf σ a → EdgeOf σ b → nat_abs a ≤ k → nat_abs b ≤ k → Same a b → a ≡ b

  -- a node that lies above another does not say the same
  apart : (k : ℕ) → UpTo k → (m n : ℕ) → m ≤ suc k → 1 ≤ m → m ≤ σ.count → 1 ≤ n → n ≤ σ.count → depth σ m < depth σ n → SameNode m n → ⊥
  unfolding turn
  apart k IH zero n b m1 mc n1 nc d S = omega arith
  apart k IH (suc zero) n b m1 mc n1 nc d S = omega (arith, depth_low σ N n nc)
  apart k IH (suc (suc j)) n b m1 mc n1 nc d S =
      let m : ℕ = suc (suc j) in
      let two : 2 ≤ m = omega arith in
      let F = N.fits m two mc in
      let E : EdgeOf σ (pos n) = record { some = n1; there = nc } in
      F.differ (IH (then_at σ m) (else_at σ m) (then_edge σ N m two mc) (else_edge σ N m two mc) (omega arith) (omega arith)
      (λ s. sym (half-yes s m two mc) ∙ S (put s (level_at σ m) true) ∙ put-below s (level_at σ m) true (pos n) E d
      ∙ sym (put-below s (level_at σ m) false (pos n) E d) ∙ sym (S (put s (level_at σ m) false)) ∙ half-no s m two mc))

  -- two that lie at one level and say the same are one
  level-same : (k : ℕ) → UpTo k → (m n : ℕ) → m ≤ suc k → n ≤ suc k → 1 ≤ m → m ≤ σ.count → 1 ≤ n → n ≤ σ.count → depth σ m ≡ depth σ n → SameNode m n → m ≡ n
  level-same k IH zero n b c m1 mc n1 nc e S = absurd (omega arith)
  level-same k IH (suc i) zero b c m1 mc n1 nc e S = absurd (omega arith)
  level-same k IH (suc zero) (suc zero) b c m1 mc n1 nc e S = refl
  level-same k IH (suc zero) (suc (suc j)) b c m1 mc n1 nc e S = let F = N.fits (suc (suc j)) (omega arith) nc in absurd (omega arith)
  level-same k IH (suc (suc i)) (suc zero) b c m1 mc n1 nc e S = let F = N.fits (suc (suc i)) (omega arith) mc in absurd (omega arith)
  level-same k IH (suc (suc i)) (suc (suc j)) b c m1 mc n1 nc e S =
      let m : ℕ = suc (suc i) in
      let n : ℕ = suc (suc j) in
      let m2 : 2 ≤ m = omega arith in
      let n2 : 2 ≤ n = omega arith in
      let F = N.fits m m2 mc in
      let G = N.fits n n2 nc in
      N.alone m n m2 mc n2 nc (record {
        level = e;
        then = IH (then_at σ m) (then_at σ n) (then_edge σ N m m2 mc) (then_edge σ N n n2 nc) (omega arith) (omega arith)
            (λ s. sym (half-yes s m m2 mc) ∙ S (put s (level_at σ m) true) ∙ (rw e (half-yes s n n2 nc)));
        els = IH (else_at σ m) (else_at σ n) (else_edge σ N m m2 mc) (else_edge σ N n n2 nc) (omega arith) (omega arith)
            (λ s. sym (half-no s m m2 mc) ∙ S (put s (level_at σ m) false) ∙ (rw e (half-no s n n2 nc)));
      })

  nodes-same : (k : ℕ) → UpTo k → (m n : ℕ) → m ≤ suc k → n ≤ suc k → 1 ≤ m → m ≤ σ.count → 1 ≤ n → n ≤ σ.count → SameNode m n → m ≡ n
  nodes-same k IH m n b c m1 mc n1 nc S = go (dec_lt (depth σ m) (depth σ n)) (dec_lt (depth σ n) (depth σ m))
    where
      go : Dec (depth σ m < depth σ n) → Dec (depth σ n < depth σ m) → m ≡ n
      go (yes d) x = absurd (apart k IH m n b m1 mc n1 nc d S)
      go (no f) (yes d) = absurd (apart k IH n m c n1 nc m1 mc d (λ s. sym (S s)))
      go (no f) (no g) = level-same k IH m n b c m1 mc n1 nc (omega arith) S

  -- a positive edge and one under a minus differ at the all-yes setting
  signs : (m n : ℕ) → EdgeOf σ (pos m) → EdgeOf σ (negsuc n) → Same (pos m) (negsuc n) → ⊥
  unfolding turn
  signs m n E F S =
      true≢false (sym (answer-yes σ N m E) ∙ S (λ j. true) ∙ ap not (answer-yes σ N (suc n) (record { some = F.some; there = F.there })))

  edges_same : (k : ℕ) → UpTo k
  unfolding turn
  edges_same zero a b E F c d S = absurd (omega arith)
  edges_same (suc k) (pos m) (pos n) E F c d S = ap pos (nodes-same k (edges_same k) m n c d E.some E.there F.some F.there S)
  edges_same (suc k) (pos m) (negsuc n) E F c d S = absurd (signs m n E F S)
  edges_same (suc k) (negsuc m) (pos n) E F c d S = absurd (signs n m F E (λ s. sym (S s)))
  edges_same (suc k) (negsuc m) (negsuc n) E F c d S =
      let z : suc m ≡ suc n = nodes-same k (edges_same k) (suc m) (suc n) c d E.some E.there F.some F.there
      (λ s. sym (not-not (node σ s (suc m))) ∙ ap not (S s) ∙ not-not (node σ s (suc n))) in
      ap negsuc (omega arith)

-- A list with an entry for each number below n.
tabulate : {A : Type 0} → (ℕ → A) → ℕ → List A
tabulate f zero = []
tabulate f (suc n) = f zero ∷ tabulate (λ j. f (suc j)) n

tabulate-length : {A : Type 0} (f : ℕ → A) (n : ℕ) → length (tabulate f n) ≡ n
unfolding tabulate
tabulate-length f zero = refl
tabulate-length f (suc n) = ap suc (tabulate-length (λ j. f (suc j)) n)

tabulate-at : {A : Type 0} (f : ℕ → A) (n j : ℕ) (d : A) → j < n → get_or (tabulate f n) j d ≡ f j
unfolding tabulate
tabulate-at f zero j d h = absurd (omega arith)
tabulate-at f (suc n) zero d h = refl
tabulate-at f (suc n) (suc j) d h = tabulate-at (λ i. f (suc i)) n j d (omega arith)

-- a setting as bytes
byte_of : Bool → ℕ
byte_of b = cond b 1 0

byte-back : (b : Bool) → eqb (byte_of b) 1 ≡ b
unfolding byte_of
byte-back true = refl
byte-back false = refl

byte_low : (b : Bool) → byte_of b ≤ 1
unfolding byte_of
byte_low true = omega arith
byte_low false = omega arith

module _ (σ : Store) (N : Nodes σ) where
  -- two edges that answer alike at every setting are one
  pub canonical : (a b : ℤ) → EdgeOf σ a → EdgeOf σ b → ((s : Setting) → answer σ s a ≡ answer σ s b) → a ≡ b
  canonical a b E F S = edges_same σ N σ.count a b E F E.there F.there S

  -- Any kind of settings will do that has each choice of the store's levels.
  module _ {S : Type 0} (of : S → Setting) (each : (t : Setting) → (s : S) × ((j : ℕ) → j < σ.levels → t j ≡ of s j)) where
    enough : (a b : ℤ) → EdgeOf σ a → EdgeOf σ b → ((s : S) → answer σ (of s) a ≡ answer σ (of s) b) → a ≡ b
    enough a b E F h = canonical a b E F (λ t. let p = each t in
        answer-below σ N t (of p.0) a E p.1 ∙ h p.0 ∙ sym (answer-below σ N t (of p.0) b F p.1))

    one_answer : (a : ℤ) → EdgeOf σ a → ((s t : S) → answer σ (of s) a ≡ answer σ (of t) a) → (a ≡ pos 1) ⊎ (a ≡ negsuc 0)
    unfolding turn
    one_answer a E h = let u = (each (λ j. true)).0 in go u (answer σ (of u) a) refl
      where
        one : (e : ℤ) → nat_abs e ≡ 1 → EdgeOf σ e
        one e q = record { some = omega arith; there = omega (arith, E.some, E.there) }

        go : (u : S) (b : Bool) → answer σ (of u) a ≡ b → (a ≡ pos 1) ⊎ (a ≡ negsuc 0)
        go u true q = inl (enough a (pos 1) E (one (pos 1) refl) (λ s. h s u ∙ q ∙ sym (node-one σ (of s))))
        go u false q = inr (enough a (negsuc 0) E (one (negsuc 0) refl) (λ s. h s u ∙ q ∙ sym (ap not (node-one σ (of s)))))

  -- The settings of the store's levels are the lists of as many yes or no.
  abbrev Choice : Type 0
  Choice = (s : List Bool) × (length s ≡ σ.levels)

  abbrev choice : Choice → Setting
  choice s = chosen s.0

  each-choice : (t : Setting) → (s : Choice) × ((j : ℕ) → j < σ.levels → t j ≡ choice s j)
  each-choice t = ((tabulate t σ.levels, tabulate-length t σ.levels), λ j h. sym (tabulate-at t σ.levels j false h))

  -- two edges that answer alike at every setting of the store's levels are one number, and one number answers alike
  pub canonicity : (a b : ℤ) → EdgeOf σ a → EdgeOf σ b → ((s : List Bool) → length s ≡ σ.levels → answer σ (chosen s) a ≡ answer σ (chosen s) b) ↔ (a ≡ b)
  canonicity a b E F = (λ S. enough choice each-choice a b E F (λ s. S s.0 s.1), λ q s _. ap (answer σ (chosen s)) q)

  -- an edge that gives one and the same answer at every setting is 1 or -1
  pub constant : (a : ℤ) → EdgeOf σ a
      → ((s t : List Bool) → length s ≡ σ.levels → length t ≡ σ.levels → answer σ (chosen s) a ≡ answer σ (chosen t) a) → (a ≡ pos 1) ⊎ (a ≡ negsuc 0)
  constant a E S = one_answer choice each-choice a E (λ s t. S s.0 t.0 s.1 t.1)

  -- The same for settings as they are lent.
  abbrev Lent : Type 0
  Lent = (s : List ℕ) × IsSetting σ s

  abbrev lent : Lent → Setting
  lent s = setting_of s.0

  each_lent : (t : Setting) → (s : Lent) × ((j : ℕ) → j < σ.levels → t j ≡ lent s j)
  each_lent t = ((bytes, record { long = long; bytes = λ j h. omega (arith, at j (rw long at h), byte_low (t j)) }), λ j h. sym (rw (at j h) (byte-back (t j))))
    where
      bytes : List ℕ
      bytes = tabulate (λ j. byte_of (t j)) σ.levels

      long : length bytes ≡ σ.levels
      long = tabulate-length (λ j. byte_of (t j)) σ.levels

      at : (j : ℕ) → j < σ.levels → get_or bytes j 0 ≡ byte_of (t j)
      at j h = tabulate-at (λ i. byte_of (t i)) σ.levels j 0 h

  pub canonicity-lent : (a b : ℤ) → EdgeOf σ a → EdgeOf σ b → ((s : List ℕ) → IsSetting σ s → answer σ (setting_of s) a ≡ answer σ (setting_of s) b) ↔ (a ≡ b)
  canonicity-lent a b E F = (λ S. enough lent each_lent a b E F (λ s. S s.0 s.1), λ q s _. ap (answer σ (setting_of s)) q)

  pub constant-lent : (a : ℤ) → EdgeOf σ a
      → ((s t : List ℕ) → IsSetting σ s → IsSetting σ t → answer σ (setting_of s) a ≡ answer σ (setting_of t) a) → (a ≡ pos 1) ⊎ (a ≡ negsuc 0)
  constant-lent a E S = one_answer lent each_lent a E (λ s t. S s.0 t.0 s.1 t.1)
