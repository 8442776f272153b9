-- `export_fault` meets its contract: the first test that fails decides.
use mathlib.Core.Path.{sym, ◌∙◌}
use Rattle.exported.specs.Export.{long_enough, names_fit}
use Rattle.export_faults.proofs.Refusals.{refused-short, refused-store, refused-root, refused-order, refused-name, refused_none, vars_long, seats-there}
use Rattle.export_faults.proofs.export_fault.Goals as goal

pub returns-then-not-long_enough : goal.returns-then-not-long_enough
unfolding long_enough
returns-then-not-long_enough c =
    record { answer = refused-short _ _ _ _ _ _ _ (sym c.long_enough.ensures ∙ c.if-not-long_enough.true); vars_left = tt }

pub returns-then-not-keeps_rules : goal.returns-then-not-keeps_rules
unfolding long_enough
returns-then-not-keeps_rules c =
    let long = sym c.long_enough.ensures ∙ c.if-not-long_enough.false in
    record { answer = refused-store _ _ _ _ _ _ _ long (sym c.keeps_rules.ensures.kept ∙ c.if-not-keeps_rules.true); vars_left = tt }

pub returns-then-not-roots_fit : goal.returns-then-not-roots_fit
unfolding long_enough
returns-then-not-roots_fit c =
    let long = sym c.long_enough.ensures ∙ c.if-not-long_enough.false in
    let kept = sym c.keeps_rules.ensures.kept ∙ c.if-not-keeps_rules.false in
    record { answer = refused-root _ _ _ _ _ _ _ long kept (sym c.roots_fit.ensures ∙ c.if-not-roots_fit.true); vars_left = tt }

pub is_order-requires-clause-levels_in_bounds : goal.is_order-requires-clause-levels_in_bounds
is_order-requires-clause-levels_in_bounds c =
    vars_long _ _ (sym c.keeps_rules.ensures.kept ∙ c.if-not-keeps_rules.false) c.requires

pub returns-then-not-is_order : goal.returns-then-not-is_order
unfolding long_enough
returns-then-not-is_order c =
    let long = sym c.long_enough.ensures ∙ c.if-not-long_enough.false in
    let kept = sym c.keeps_rules.ensures.kept ∙ c.if-not-keeps_rules.false in
    let roots = sym c.roots_fit.ensures ∙ c.if-not-roots_fit.false in
    record { answer = refused-order _ _ _ _ _ _ _ long kept roots (sym c.is_order.ensures.value ∙ c.if-not-is_order.true); vars_left = tt }

pub returns-then-not-names_fit : goal.returns-then-not-names_fit
unfolding long_enough names_fit
returns-then-not-names_fit c =
    let long = sym c.long_enough.ensures ∙ c.if-not-long_enough.false in
    let kept = sym c.keeps_rules.ensures.kept ∙ c.if-not-keeps_rules.false in
    let roots = sym c.roots_fit.ensures ∙ c.if-not-roots_fit.false in
    let ordered = sym c.is_order.ensures.value ∙ c.if-not-is_order.false in
    record {
      answer = refused-name _ _ _ _ _ _ _ long kept roots ordered (sym c.names_fit.ensures ∙ c.if-not-names_fit.true);
      vars_left = tt;
    }

pub returns : goal.returns
unfolding long_enough names_fit
returns c =
    let long = sym c.long_enough.ensures ∙ c.if-not-long_enough.false in
    let kept = sym c.keeps_rules.ensures.kept ∙ c.if-not-keeps_rules.false in
    let roots = sym c.roots_fit.ensures ∙ c.if-not-roots_fit.false in
    let ordered = sym c.is_order.ensures.value ∙ c.if-not-is_order.false in
    record {
      answer = refused_none _ _ _ _ _ _ _ long kept roots ordered (sym c.names_fit.ensures ∙ c.if-not-names_fit.false);
      vars_left = seats-there _ _ c.if-not-is_order.false c.is_order.ensures.seats_if;
    }
