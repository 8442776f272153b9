-- The rules as a Bool, for the definitions of the calls' outcomes: `keeps` is true exactly where the rules hold. Document 01, 'Answers, by
-- who can cause them': '3 the store breaks its rules.'
use Rattle.std.specs.Prelude.{◌≡◌, refl, Bool, true, false, ℕ, zero, suc, ◌≤◌, ◌<◌, ℤ, pos, nat_abs, length}
use Rattle.std.proofs.Common.{sym, true≢false, arith}
use mathlib.Core.List.{List-discrete}
use Rattle.std.proofs.Math.Logic.Dec as dec
use Rattle.std.proofs.Math.Decide.{map_dec, dec_lt, dec_le, ℕ_discrete}
use Rattle.std.proofs.Math.IntN.{ℤ_discrete}
use Rattle.store.specs.Store.{Store, level_at, then_at, else_at}
use Rattle.codes.specs.Limits.{Limits}
use Rattle.store.specs.Rules.{Sizes, depth, Fits, AlikeNodes, Nodes, Chains, Zero, Zeros, Rules}

-- an answer that is true exactly where P holds
pub record Decides (r : Bool) (P : Type 0) : Type 0 where
  pub yes : r ≡ true → P
  pub no : r ≡ false → P → ⊥

pub says-yes : {P : Type 0} → P → Decides true P
says-yes p = record { yes = λ _. p; no = λ q _. true≢false q }

pub says-no : {P : Type 0} → (P → ⊥) → Decides false P
says-no f = record { yes = λ q. absurd (true≢false (sym q)); no = λ _. f }

-- there is one such answer
pub decides-one : {P : Type 0} (a b : Bool) → Decides a P → Decides b P → a ≡ b
decides-one true true d e = refl
decides-one true false d e = absurd (e.no refl (d.yes refl))
decides-one false true d e = absurd (d.no refl (e.yes refl))
decides-one false false d e = refl

-- parts of a decision
both : {A B : Type 0} → Dec A → Dec B → Dec (A × B)
both (yes a) (yes b) = yes (a, b)
both (yes a) (no g) = no (λ p. g p.1)
both (no f) d = no (λ p. f p.0)

implies : {A B : Type 0} → Dec A → Dec B → Dec (A → B)
implies d (yes b) = yes (λ _. b)
implies (yes a) (no g) = no (λ f. g (f a))
implies (no f) (no g) = yes (λ a. absurd (f a))

-- every number from a on and below k
every : (P : ℕ → Type 0) → ((n : ℕ) → Dec (P n)) → (a k : ℕ) → Dec ((n : ℕ) → a ≤ n → n < k → P n)
every P d a zero = yes (λ n p h. absurd (omega arith))
every P d a (suc k) = step (dec_le a k) (d k) (every P d a k)
  where
    step : Dec (a ≤ k) → Dec (P k) → Dec ((n : ℕ) → a ≤ n → n < k → P n) → Dec ((n : ℕ) → a ≤ n → n < suc k → P n)
    step (no f) x y = yes (λ n p h. absurd (omega arith))
    step (yes l) (no f) y = no (λ g. f (g k l (omega arith)))
    step (yes l) (yes x) (no f) = no (λ g. f (λ n p h. g n p (omega arith)))
    step (yes l) (yes x) (yes g) = yes (λ n p h. go n p h (ℕ_discrete n k))
      where
        go : (n : ℕ) → a ≤ n → n < suc k → Dec (n ≡ k) → P n
        go n p h (yes q) = rw q x
        go n p h (no f) = g n p (omega arith)

-- every number from a to k
up_to : (P : ℕ → Type 0) → ((n : ℕ) → Dec (P n)) → (a k : ℕ) → Dec ((n : ℕ) → a ≤ n → n ≤ k → P n)
up_to P d a k = map_dec (λ f n p h. f n p (omega arith)) (λ f n p h. f n p (omega arith)) (every P d a (suc k))

-- each rule can be tested
sizes? : (m : Limits) (σ : Store) → Dec (Sizes m σ)
sizes? m σ = map_dec
    (λ x. record {
      then_long = x.0;
      els_long = x.1.0;
      next_long = x.1.1.0;
      count_some = x.1.1.1.0;
      count_slots = x.1.1.1.1.0;
      count_limit = x.1.1.1.1.1.0;
      heads_long = x.1.1.1.1.1.1.0;
      levels_limit = x.1.1.1.1.1.1.1;
    })
    (λ z. (z.then_long, (z.els_long, (z.next_long, (z.count_some, (z.count_slots, (z.count_limit, (z.heads_long, z.levels_limit))))))))
    (both (ℕ_discrete _ _) (both (ℕ_discrete _ _) (both (ℕ_discrete _ _) (both (dec_le _ _) (both (dec_le _ _) (both (dec_le _ _) (both (ℕ_discrete _ _) (dec_le _ _))))))))

fits? : (σ : Store) (n l : ℕ) (t e : ℤ) → Dec (Fits σ n l t e)
fits? σ n l t e = map_dec
    (λ x. record {
      positive = x.0;
      differ = x.1.0;
      then_some = x.1.1.0;
      then_low = x.1.1.1.0;
      then_deep = x.1.1.1.1.0;
      else_some = x.1.1.1.1.1.0;
      else_low = x.1.1.1.1.1.1.0;
      else_deep = x.1.1.1.1.1.1.1.0;
      level_low = x.1.1.1.1.1.1.1.1;
    })
    (λ F. (F.positive, (F.differ, (F.then_some, (F.then_low, (F.then_deep, (F.else_some, (F.else_low, (F.else_deep, F.level_low)))))))))
    (both (ℤ_discrete t (pos (nat_abs t))) (both (dec.not (ℤ_discrete t e))
    (both (dec_le 1 (nat_abs t)) (both (dec_lt (nat_abs t) n) (both (dec_lt l (depth σ (nat_abs t)))
    (both (dec_le 1 (nat_abs e)) (both (dec_lt (nat_abs e) n) (both (dec_lt l (depth σ (nat_abs e))) (dec_lt l σ.levels)))))))))

alike? : (σ : Store) (m n : ℕ) → Dec (AlikeNodes σ m n)
alike? σ m n = map_dec (λ x. record { level = x.0; then = x.1.0; els = x.1.1 }) (λ a. (a.level, (a.then, a.els)))
    (both (ℕ_discrete _ _) (both (ℤ_discrete _ _) (ℤ_discrete _ _)))

nodes? : (σ : Store) → Dec (Nodes σ)
nodes? σ = map_dec (λ x. record { fits = x.0; alone = λ m n a b c d e. x.1 m a b n c d e }) (λ N. (N.fits, λ m a b n c d e. N.alone m n a b c d e))
    (both (up_to (λ n. Fits σ n (level_at σ n) (then_at σ n) (else_at σ n)) (λ n. fits? σ n (level_at σ n) (then_at σ n) (else_at σ n)) 2 σ.count)
    (up_to (λ m. (n : ℕ) → 2 ≤ n → n ≤ σ.count → AlikeNodes σ m n → m ≡ n) (λ m. up_to (λ n. AlikeNodes σ m n → m ≡ n) (λ n. implies (alike? σ m n) (ℕ_discrete m n)) 2 σ.count) 2 σ.count))

chains? : (σ : Store) → Dec (Chains σ)
chains? σ = map_dec (λ f b h. f b (omega arith) h) (λ f b p h. f b h) (every _ (λ b. List-discrete ℕ_discrete _ _) 0 256)

zero? : (σ : Store) (n : ℕ) → Dec (Zero σ n)
zero? σ n = map_dec (λ x. record { level = x.0; then = x.1.0; els = x.1.1.0; next = x.1.1.1 }) (λ z. (z.level, (z.then, (z.els, z.next))))
    (both (ℕ_discrete _ _) (both (ℤ_discrete _ _) (both (ℤ_discrete _ _) (ℕ_discrete _ _))))

zeros? : (σ : Store) → Dec (Zeros σ)
zeros? σ = map_dec (λ x. record { first = x.0; unused = x.1 }) (λ z. (z.first, z.unused)) (both (zero? σ 1) (up_to (Zero σ) (zero? σ) (suc σ.count) (length σ.level)))

pub rules? : (m : Limits) (σ : Store) → Dec (Rules m σ)
rules? m σ = map_dec (λ x. record { sizes = x.0; nodes = x.1.0; chains = x.1.1.0; zeros = x.1.1.1 }) (λ R. (R.sizes, (R.nodes, (R.chains, R.zeros))))
    (both (sizes? m σ) (both (nodes? σ) (both (chains? σ) (zeros? σ))))

unfoldable pub is_yes : {A : Type 0} → Dec A → Bool
is_yes (yes a) = true
is_yes (no f) = false

-- does the store keep the rules?
unfoldable pub keeps : Limits → Store → Bool
keeps m σ = is_yes (rules? m σ)

pub keeps-decides : (m : Limits) (σ : Store) → Decides (keeps m σ) (Rules m σ)
unfolding keeps is_yes
keeps-decides m σ = go (rules? m σ)
  where
    go : (d : Dec (Rules m σ)) → Decides (is_yes d) (Rules m σ)
    go (yes a) = says-yes a
    go (no f) = says-no f

-- true exactly where the rules hold
pub keeps-true : (m : Limits) (σ : Store) → keeps m σ ≡ true → Rules m σ
keeps-true m σ = (keeps-decides m σ).yes

pub keeps-false : (m : Limits) (σ : Store) → keeps m σ ≡ false → Rules m σ → ⊥
keeps-false m σ = (keeps-decides m σ).no

pub rules-keeps : (m : Limits) (σ : Store) → Rules m σ → keeps m σ ≡ true
rules-keeps m σ R = decides-one (keeps m σ) true (keeps-decides m σ) (says-yes R)

-- an answer that decides the rules is this one
pub is-keeps : (m : Limits) (σ : Store) (r : Bool) → Decides r (Rules m σ) → r ≡ keeps m σ
is-keeps m σ r d = decides-one r (keeps m σ) d (keeps-decides m σ)
