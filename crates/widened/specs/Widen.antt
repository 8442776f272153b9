-- The turn of an old store into a new one. Document 02, request 5: 'A call turns an old store, judged by the old rules, into a new one with its
-- level count and every node, chain and root number kept. The new one is output: slot lists unequal or shorter than the old count, or other than 256
-- heads, meet 1, before 3.'
use Rattle.std.specs.Prelude.{ℕ, zero, suc, ◌≤◌, ◌≡◌, Bool, ◌&&◌, [], ◌∷◌, eqb, leb, length, take, replicate, pos}
use Rattle.codes.specs.Answer.{Read, value, refused}
use Rattle.codes.specs.Faults.{first_fault, unless}
use Rattle.codes.specs.Lent.{laid}
use Rattle.widened.specs.OldLimits.{old_limits}
use Rattle.store.specs.Store.{Store, store}
use Rattle.store.specs.Keeps.{keeps}
use Rattle.widened.specs.Old.{OldRules}

-- the lengths of the lists that are lent for the new store
pub record NewLengths : Type 0 where
  pub level : ℕ
  pub then : ℕ
  pub els : ℕ
  pub next : ℕ
  pub heads : ℕ

abbrev pub lengths : ℕ → ℕ → ℕ → ℕ → ℕ → NewLengths
lengths level then els next heads = record { level = level; then = then; els = els; next = next; heads = heads }

-- the lengths of the lists that a store is lent in
abbrev pub lengths_of : Store → NewLengths
lengths_of τ = lengths (length τ.level) (length τ.then) (length τ.els) (length τ.next) (length τ.heads)

-- 'slot lists unequal or shorter than the old count, or other than 256 heads': where none of it holds they can take the store
pub record Takes (l : NewLengths) (count : ℕ) : Type 0 where
  pub then_long : l.then ≡ l.level
  pub els_long : l.els ≡ l.level
  pub next_long : l.next ≡ l.level
  pub slots : count ≤ l.level
  pub heads_long : l.heads ≡ 256

abbrev pub takes : NewLengths → ℕ → Bool
takes l count = eqb l.then l.level && eqb l.els l.level && eqb l.next l.level && leb count l.level && eqb l.heads 256

-- '1, before 3'; 0 stands for no refusal. Whether a store keeps the old rules is `OldRules`; that it does exactly where it keeps today's rules under the
-- old limits is a law, since the sum of a bucket leaves the same remainder wherever it wraps.
unfoldable pub widen_fault : NewLengths → Store → ℕ
widen_fault l σ = first_fault (unless (takes l σ.count) 1 ∷ unless (keeps old_limits σ) 3 ∷ [])

-- 'a new one with its level count and every node, chain and root number kept', in lists of so many slots; unused slots are zeros
unfoldable pub widened : ℕ → Store → Store
widened slots σ =
    store σ.levels σ.count (laid (take σ.count σ.level) (replicate slots 0)) (laid (take σ.count σ.then) (replicate slots (pos 0)))
    (laid (take σ.count σ.els) (replicate slots (pos 0))) (laid (take σ.count σ.next) (replicate slots 0)) σ.heads

-- 'On any refusal outputs are all zeros'
unfoldable pub zeroed : NewLengths → ℕ → Store
zeroed l levels =
    store levels 0 (replicate l.level 0) (replicate l.then (pos 0)) (replicate l.els (pos 0)) (replicate l.next 0) (replicate l.heads 0)

-- what the turn answers, and the new store that it leaves
abbrev pub answer_by : ℕ → Read Unit
answer_by zero = value tt
answer_by (suc n) = refused (suc n)

abbrev pub widen_answer : NewLengths → Store → Read Unit
widen_answer l σ = answer_by (widen_fault l σ)

abbrev pub left_by : ℕ → NewLengths → Store → Store
left_by zero l σ = widened l.level σ
left_by (suc n) l σ = zeroed l σ.levels

unfoldable pub widen_of : NewLengths → Store → Store
widen_of l σ = left_by (widen_fault l σ) l σ

-- How a turn is refused.
pub data WidenRefused (l : NewLengths) (σ : Store) : ℕ → Type 0 where
  new_short : (Takes l σ.count → ⊥) → WidenRefused l σ 1
  old_broken : Takes l σ.count → (OldRules σ → ⊥) → WidenRefused l σ 3
