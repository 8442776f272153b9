-- What joining two edges asks, and what it promises.
use Rattle.std.specs.Prelude.{ℕ, ◌≡◌, List, ℤ, Option, IfSome, None}
use Rattle.codes.specs.Limits.{limits}
use Rattle.store.specs.Store.{Store}
use Rattle.store.specs.Rules.{Rules}
use Rattle.store.specs.Growth.{EdgeOf}
use Rattle.insertion.specs.Kinds.{of_making}
use Rattle.insertion.specs.Known.{KnownNodes}
use Rattle.joined.specs.declared.Op.{Op}
use Rattle.joined.specs.Join.{join_of, Ready, SaysJoin}
use Rattle.joined.specs.Shortcuts.{Apart}
use Rattle.join_cache.specs.Cache.{Cached}

-- a result that is known says the operation, in whatever store the lines of the cache are right; where none is, the edges are apart
pub record Known (c : List ℤ) (o : Op) (a b : ℤ) (r : Option ℤ) : Type 0 where
  pub says : (σ : Store) → Rules limits σ → Cached σ c → EdgeOf σ a → EdgeOf σ b → IfSome r (SaysJoin o σ a b)
  pub none : (σ : Store) → Rules limits σ → EdgeOf σ a → EdgeOf σ b → r ≡ None → Apart a b

-- two edges of a store that keeps its rules, an index that knows its nodes, and a cache whose lines are right in it
pub record JoiningAsks (σ : Store) (index : List ℕ) (width : ℕ) (cache : List ℤ) (a b : ℤ) : Type 0 where
  pub ready : Ready limits σ a b
  pub known : KnownNodes width σ index
  pub cached : Cached σ cache

-- The edge and the store of the definition, from the store as the call starts; the index and the cache are ready for another join.
pub record JoiningPromise (before after : Store) (index : List ℕ) (width : ℕ) (cache : List ℤ) (op : Op) (a b : ℤ) (r : Option ℤ) : Type 0 where
  pub answer : of_making r ≡ (join_of limits op before a b).answer
  pub store : after ≡ (join_of limits op before a b).after
  pub known : KnownNodes width after index
  pub cached : Cached after cache
