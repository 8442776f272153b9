-- Two roots joined, and the opposite of one, as calls on a store. Document 02, request 2: 'Full stores and bad roots meet the existing refusals, in
-- the order 3, 4, 40, and 40 only where those nodes don't fit.'
use Rattle.std.specs.Prelude.{ℕ, cond, ◌&&◌, ℤ, neg_ℤ}
use Rattle.codes.specs.Answer.{Read, value, refused}
use Rattle.codes.specs.Limits.{Limits}
use Rattle.store.specs.Store.{Store}
use Rattle.store.specs.Keeps.{keeps}
use Rattle.store.specs.Make.{Made, made}
use Rattle.store.specs.Growth.{is_root}
use Rattle.joined.specs.declared.Op.{Op}
use Rattle.joined.specs.Join.{join_of}

-- 'On any refusal .. the store is unchanged'
abbrev pub refused_with : ℕ → Store → Made
refused_with n σ = record { answer = refused n; after = σ }

-- what a call leaves that gives a root, or is refused on the way
abbrev pub settled_join_by : Store → Read ℤ → Store → Made
settled_join_by σ (value x) τ = made x τ
settled_join_by σ (refused n) τ = refused_with n σ

abbrev pub settled_join : Store → Made → Made
settled_join σ r = settled_join_by σ r.answer r.after

-- 'A call takes two roots of a store and gives the root of their and, their or, or their exclusive or'; '3, 4, 40'
unfoldable pub join_roots : Limits → Op → Store → ℤ → ℤ → Made
join_roots m o σ a b =
    cond (keeps m σ) (cond (is_root σ a && is_root σ b) (settled_join σ (join_of m o σ a b)) (refused_with 4 σ)) (refused_with 3 σ)

-- 'another gives the opposite of one root': 'a minus turns its answer over'; it needs no node, so '3, 4'
unfoldable pub opposite_root : Limits → Store → ℤ → Read ℤ
opposite_root m σ a = cond (keeps m σ) (cond (is_root σ a) (value (neg_ℤ a)) (refused 4)) (refused 3)
