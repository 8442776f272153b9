-- What an accepted header says: limits that it was judged by, and how many entries its lists have.
use mathlib.Core.Path.{◌≡◌, sym, subst}
use mathlib.Core.List.{List}
use Prim.Native.Nat.{ℕ, ◌≤◌}
use native.Mathlib.Omega.{arith}
use lib.ListN.{length}
use Rattle.codes.specs.Limits.{limits, var_limit, root_limit}
use Rattle.header_keys.specs.declared.Key.TheVariants.{Ids, Permids}
use Rattle.support.specs.Support.{IdsAllowed, PermidsAllowed}
use Rattle.header_values.specs.Values.{u32s_in}
use Rattle.header_values.proofs.Counted.{u32s-most, roots-most}
use Rattle.header_checks.proofs.WholeRules.{whole-rules}
use Rattle.store.specs.Store.{Store}
use Rattle.header.specs.Header.{Header, HeaderAnswer, header, refusal, table_of, lists_by, after, load_header}
use Rattle.header.proofs.Faultless.{faultless-settled}
use Rattle.calls.specs.Load as calls
use Rattle.calls.proofs.HeaderStands.{Sound, no_header, answer-sound}
use Rattle.calls.proofs.Passes.{passes-load}
use Rattle.calls.proofs.Accepted.{answered-passes}
use Rattle.recode_levels.specs.Levels.{JudgedLevels}

-- the limits, and as many ids and permids as support variables, which are allowed
pub record Says (h : Header) (ids permids : List ℕ) : Type 0 where
  pub judged : JudgedLevels h.nvars ids permids
  pub ids_counted : length ids ≡ h.nsuppvars
  pub permids_counted : length permids ≡ h.nsuppvars
  pub ids_are : IdsAllowed h.nvars ids
  pub permids_are : PermidsAllowed h.nvars permids
  pub few_support : h.nsuppvars ≤ var_limit
  pub few_roots : h.nroots ≤ root_limit

-- what the file's own lists and numbers say where the header as a whole has no fault
table-says : (f : List ℕ) (h : Header) → Sound limits f h → Says h (u32s_in f (table_of f) Ids) (u32s_in f (table_of f) Permids)
table-says f h s =
    let t = table_of f in
    let R = (whole-rules limits f t).0 s.whole in
    let S = faultless-settled f t s.whole in
    let ids = u32s-most f t Ids in
    let permids = u32s-most f t Permids in
    let roots = roots-most f t in
    let a = R.ids_counted in
    let b = R.roots_counted in
    subst (λ g. Says g (u32s_in f t Ids) (u32s_in f t Permids)) (sym s.is) (record {
      judged = record { few = R.few_vars; ids_few = ids; permids_few = permids; below = S.below };
      ids_counted = R.ids_counted;
      permids_counted = R.permids_counted;
      ids_are = R.ids;
      permids_are = R.permids;
      few_support = omega arith;
      few_roots = omega arith;
    })

module _ (found : ℕ) (f : List ℕ) (h : Header) where
  -- the lists of an accepted header are the file's own
  lists-say : (a : HeaderAnswer) → (lists_by f a).answer ≡ header h → Sound limits f h → Says h (lists_by f a).ids (lists_by f a).permids
  lists-say (header g) q s = table-says f h s
  lists-say (refusal n line) q s = no_header q

  -- What an accepted header says.
  pub header-says : (load_header limits found f).answer ≡ header h → Says h (load_header limits found f).ids (load_header limits found f).permids
  unfolding load_header
  header-says q = lists-say (after limits found f) q (answer-sound limits found f h q).1

module _ (c : calls.Load) (σ : Store) (h : Header) where
  -- a header that a load reads
  read-says : (calls.header_of limits c σ).answer ≡ header h → Says h (calls.header_of limits c σ).ids (calls.header_of limits c σ).permids
  unfolding calls.header_of
  read-says q = header-says _ c.file h q

  -- What the header of an accepted load says.
  pub load-says : (calls.load_of limits c σ).answer ≡ header h → Says h (calls.load_of limits c σ).ids (calls.load_of limits c σ).permids
  load-says q =
      let p = answered-passes limits c σ h q in
      subst (λ r. Says h r.ids r.permids) (sym (passes-load limits c σ h p)) (read-says p.header_read)
