use native.Mathlib.Omega.{arith}
use Rattle.codes.specs.Limits.{var_limit}
use Rattle.header_keys.specs.declared.Key.TheVariants.{Varnames, Orderedvarnames, Suppvarnames}
use Rattle.header_values.specs.Values.{spans}
use Rattle.header_values.proofs.Counted.{names-most}
use Rattle.header_checks.proofs.Agreeing.{names-room, starts_fit, lens-fit, starts_long, lens_long, names-held}
use Rattle.header_checks.proofs.Agreeing.{both-like, one-unlike, varnames-missing, varnames-judged}
use Rattle.header_checks.proofs.names.varnames_fault.Goals as goal

pub returns-then-count_names-eq0 : goal.returns-then-count_names-eq0
returns-then-count_names-eq0 c =
    record {
      answer = varnames-missing c.args.f.now (spans c.args.starts.now c.args.ends.now) c.args.ids.now c.args.permids.now c.count_names.ensures
          c.if-count_names-eq0.true;
    }

pub names_over-n-requires-clause-key_in_bounds : goal.names_over-n-requires-clause-key_in_bounds
names_over-n-requires-clause-key_in_bounds c =
    names-room _ _ _ c.args.names.now c.requires.long_names.names_long

pub names_over-n-requires-clause-key_in_bounds_2 : goal.names_over-n-requires-clause-key_in_bounds_2
names_over-n-requires-clause-key_in_bounds_2 c =
    names-room _ _ _ c.args.lens.now c.requires.long_names.lens_long

pub names_over-m-requires-clause-key_in_bounds : goal.names_over-m-requires-clause-key_in_bounds
names_over-m-requires-clause-key_in_bounds c =
    names-room _ _ _ c.args.names2.now c.requires.long_names.names2_long

pub names_over-m-requires-clause-key_in_bounds_2 : goal.names_over-m-requires-clause-key_in_bounds_2
names_over-m-requires-clause-key_in_bounds_2 c =
    names-room _ _ _ c.args.lens2.now c.requires.long_names.lens2_long

pub slice_bounds-agree-end : goal.slice_bounds-agree-end
slice_bounds-agree-end c =
    starts_fit _ _ Varnames _ _ c.names_over-n.ensures.answer c.names_over-n.ensures.names_front c.names_over-n.ensures.lens_front

pub slice_bounds-agree-end-2 : goal.slice_bounds-agree-end-2
slice_bounds-agree-end-2 c =
    starts_long _ _ Varnames _ _ c.names_over-n.ensures.answer c.names_over-n.ensures.names_front c.names_over-n.ensures.lens_front

pub slice_bounds-agree-end-3 : goal.slice_bounds-agree-end-3
slice_bounds-agree-end-3 c =
    lens-fit _ _ Varnames _ _ c.names_over-n.ensures.answer c.names_over-n.ensures.names_front c.names_over-n.ensures.lens_front

pub slice_bounds-agree-end-4 : goal.slice_bounds-agree-end-4
slice_bounds-agree-end-4 c =
    lens_long _ _ Varnames _ _ c.names_over-n.ensures.answer c.names_over-n.ensures.names_front c.names_over-n.ensures.lens_front

pub slice_bounds-agree-end-5 : goal.slice_bounds-agree-end-5
slice_bounds-agree-end-5 c =
    starts_fit _ _ Orderedvarnames _ _ c.names_over-m.ensures.answer c.names_over-m.ensures.names_front c.names_over-m.ensures.lens_front

pub slice_bounds-agree-end-6 : goal.slice_bounds-agree-end-6
slice_bounds-agree-end-6 c =
    starts_long _ _ Orderedvarnames _ _ c.names_over-m.ensures.answer c.names_over-m.ensures.names_front c.names_over-m.ensures.lens_front

pub slice_bounds-agree-end-7 : goal.slice_bounds-agree-end-7
slice_bounds-agree-end-7 c =
    lens-fit _ _ Orderedvarnames _ _ c.names_over-m.ensures.answer c.names_over-m.ensures.names_front c.names_over-m.ensures.lens_front

pub slice_bounds-agree-end-8 : goal.slice_bounds-agree-end-8
slice_bounds-agree-end-8 c =
    lens_long _ _ Orderedvarnames _ _ c.names_over-m.ensures.answer c.names_over-m.ensures.names_front c.names_over-m.ensures.lens_front

pub agree-first-requires-clause-lens_len : goal.agree-first-requires-clause-lens_len
agree-first-requires-clause-lens_len c =
    (names-held _ _ Varnames _
    _ c.names_over-n.ensures.answer c.names_over-n.ensures.names_front c.names_over-n.ensures.lens_front).even

pub agree-first-requires-clause-lens2_len : goal.agree-first-requires-clause-lens2_len
agree-first-requires-clause-lens2_len c =
    (names-held _ _ Orderedvarnames _ _ c.names_over-m.ensures.answer c.names_over-m.ensures.names_front c.names_over-m.ensures.lens_front).even

pub names_over-k-requires-clause-key_in_bounds : goal.names_over-k-requires-clause-key_in_bounds
names_over-k-requires-clause-key_in_bounds c =
    let most = names-most c.args.f.now (spans c.args.starts.now c.args.ends.now) var_limit Suppvarnames in
    omega (
      arith,
      most,
      c.requires.long_names.names2_long,
      c.names_over-m.auto.names,
    )

pub names_over-k-requires-clause-key_in_bounds_2 : goal.names_over-k-requires-clause-key_in_bounds_2
names_over-k-requires-clause-key_in_bounds_2 c =
    let most = names-most c.args.f.now (spans c.args.starts.now c.args.ends.now) var_limit Suppvarnames in
    omega (
      arith,
      most,
      c.requires.long_names.lens2_long,
      c.names_over-m.auto.lens,
    )

pub slice_bounds-supp_agrees-end : goal.slice_bounds-supp_agrees-end
slice_bounds-supp_agrees-end c =
    starts_fit _ _ Varnames _ _ c.names_over-n.ensures.answer c.names_over-n.ensures.names_front c.names_over-n.ensures.lens_front

pub slice_bounds-supp_agrees-end-2 : goal.slice_bounds-supp_agrees-end-2
slice_bounds-supp_agrees-end-2 c =
    starts_long _ _ Varnames _ _ c.names_over-n.ensures.answer c.names_over-n.ensures.names_front c.names_over-n.ensures.lens_front

pub slice_bounds-supp_agrees-end-3 : goal.slice_bounds-supp_agrees-end-3
slice_bounds-supp_agrees-end-3 c =
    lens-fit _ _ Varnames _ _ c.names_over-n.ensures.answer c.names_over-n.ensures.names_front c.names_over-n.ensures.lens_front

pub slice_bounds-supp_agrees-end-4 : goal.slice_bounds-supp_agrees-end-4
slice_bounds-supp_agrees-end-4 c =
    lens_long _ _ Varnames _ _ c.names_over-n.ensures.answer c.names_over-n.ensures.names_front c.names_over-n.ensures.lens_front

pub slice_bounds-supp_agrees-end-5 : goal.slice_bounds-supp_agrees-end-5
slice_bounds-supp_agrees-end-5 c =
    starts_fit _ _ Suppvarnames _ _ c.names_over-k.ensures.answer c.names_over-k.ensures.names_front c.names_over-k.ensures.lens_front

pub slice_bounds-supp_agrees-end-6 : goal.slice_bounds-supp_agrees-end-6
slice_bounds-supp_agrees-end-6 c =
    starts_long _ _ Suppvarnames _ _ c.names_over-k.ensures.answer c.names_over-k.ensures.names_front c.names_over-k.ensures.lens_front

pub slice_bounds-supp_agrees-end-7 : goal.slice_bounds-supp_agrees-end-7
slice_bounds-supp_agrees-end-7 c =
    lens-fit _ _ Suppvarnames _ _ c.names_over-k.ensures.answer c.names_over-k.ensures.names_front c.names_over-k.ensures.lens_front

pub slice_bounds-supp_agrees-end-8 : goal.slice_bounds-supp_agrees-end-8
slice_bounds-supp_agrees-end-8 c =
    lens_long _ _ Suppvarnames _ _ c.names_over-k.ensures.answer c.names_over-k.ensures.names_front c.names_over-k.ensures.lens_front

pub supp_agrees-second-requires-clause-lens_len : goal.supp_agrees-second-requires-clause-lens_len
supp_agrees-second-requires-clause-lens_len c =
    (names-held _ _ Varnames _ _ c.names_over-n.ensures.answer
    c.names_over-n.ensures.names_front c.names_over-n.ensures.lens_front).even

pub supp_agrees-second-requires-clause-lens2_len : goal.supp_agrees-second-requires-clause-lens2_len
supp_agrees-second-requires-clause-lens2_len c =
    (names-held _ _ Suppvarnames _ _ c.names_over-k.ensures.answer c.names_over-k.ensures.names_front c.names_over-k.ensures.lens_front).even

pub returns-then-second : goal.returns-then-second
returns-then-second c =
    record {
      answer = varnames-judged c.args.f.now (spans c.args.starts.now c.args.ends.now) c.args.ids.now c.args.permids.now
          (names-held _ _ Varnames _ _ c.names_over-n.ensures.answer c.names_over-n.ensures.names_front c.names_over-n.ensures.lens_front)
          (names-held _ _ Orderedvarnames _ _ c.names_over-m.ensures.answer c.names_over-m.ensures.names_front c.names_over-m.ensures.lens_front)
          (names-held _ _ Suppvarnames _ _ c.names_over-k.ensures.answer c.names_over-k.ensures.names_front c.names_over-k.ensures.lens_front)
          c.agree-first.ensures.answer c.supp_agrees-second.ensures.answer (both-like c.if-first.true c.if-second.true);
    }

pub returns : goal.returns
returns c =
    record {
      answer = varnames-judged c.args.f.now (spans c.args.starts.now c.args.ends.now) c.args.ids.now c.args.permids.now
          (names-held _ _ Varnames _ _ c.names_over-n.ensures.answer c.names_over-n.ensures.names_front c.names_over-n.ensures.lens_front)
          (names-held _ _ Orderedvarnames _ _ c.names_over-m.ensures.answer c.names_over-m.ensures.names_front c.names_over-m.ensures.lens_front)
          (names-held _ _ Suppvarnames _ _ c.names_over-k.ensures.answer c.names_over-k.ensures.names_front c.names_over-k.ensures.lens_front)
          c.agree-first.ensures.answer c.supp_agrees-second.ensures.answer (one-unlike c.else-first.either);
    }
