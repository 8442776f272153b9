-- What is known of a join: its shortcut, or a result that is remembered.
use mathlib.Core.Path.{◌≡◌, refl, sym, ap, ◌∙◌}
use mathlib.Core.Bool.{true, false, true≢false}
use mathlib.Core.List.{List}
use lib.IntN.{ℤ}
use Rattle.std.specs.Prelude.{Option, Some, None}
use Rattle.std.specs.Option.{is_some}
use Rattle.edges.specs.Edge.{IsEdge}
use Rattle.codes.specs.Limits.{limits}
use Rattle.store.specs.Store.{Store}
use Rattle.store.specs.Rules.{Rules}
use Rattle.store.specs.Growth.{EdgeOf}
use Rattle.joined.specs.declared.Op.{Op}
use Rattle.joined.specs.Join.{Ready}
use Rattle.joined.specs.Shortcuts.{short}
use Rattle.joined.proofs.Shortcut.{short-says, short_none}
use Rattle.join_steps.proofs.ReadBack.{read_back, read_back-is}
use Rattle.join_cache.specs.Cache.{FindsJoin}
use Rattle.joining.specs.Promises.{Known}

ready : (σ : Store) (a b : ℤ) → Rules limits σ → EdgeOf σ a → EdgeOf σ b → Ready limits σ a b
ready σ a b R E F = record { rules = R; left = E; right = F }

pub none_is : (r : Option ℤ) → is_some r ≡ false → r ≡ None
none_is None e = refl
none_is (Some x) e = absurd (true≢false e)

-- r is the shortcut, as the code has it
module _ (c : List ℤ) (o : Op) (a b : ℤ) (A : IsEdge a) (B : IsEdge b) (r : Option ℤ) (q : r ≡ short o (read_back a) (read_back b)) where
  is-short : r ≡ short o a b
  is-short = rw (read_back-is a A, read_back-is b B) at q

  pub known-short : is_some r ≡ true → Known c o a b r
  known-short f = record {
    says = λ σ R C E F. short-says limits o σ a b (ready σ a b R E F) r is-short;
    none = λ σ R E F z. absurd (true≢false (sym f ∙ ap is_some z));
  }

  pub known-found : is_some r ≡ false → (y : Option ℤ) → FindsJoin c o (read_back a) (read_back b) y → Known c o a b y
  known-found e y H = record {
    says = λ σ R C E F. (rw (read_back-is a A, read_back-is b B) at H) σ C E F;
    none = λ σ R E F z. short_none limits o σ a b (ready σ a b R E F) (sym is-short ∙ none_is r e);
  }
