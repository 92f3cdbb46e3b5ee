use Rattle.std.proofs.Common.{refl, sym, ◌∙◌}
use Rattle.mm_query.specs.declared.bound_query.Bound.{Bound}
use Rattle.mm_session.proofs.FilledForms.{of_true}
use Rattle.mm_session.proofs.FormLemmas.{change_filled, change_stays, query_again}
use Rattle.mm_session.specs.declared.bound_form.BoundForm.TheVariants as form
use Rattle.mm_session.proofs.refilling.refill.Goals as goal

pub returns-in-Query-clause-kept : goal.returns-in-Query-clause-kept
returns-in-Query-clause-kept c done schema command has =
    let new : Bound = record { query = c.refill_query.new.query; tables = c.in-Query.bound.tables } in (
      c.args.values.now,
      query_again schema c.args.holes.now c.args.values.now command c.requires c.in-Query.bound new (rw c.in-Query.is at has) refl
          (of_true _ c.refill_query.result c.refill_query.ensures (sym c.unwrap_or.ensures ∙ done)),
    )

pub returns-in-Query-clause-filled : goal.returns-in-Query-clause-filled
returns-in-Query-clause-filled c done schema command has =
    let new : Bound = record { query = c.refill_query.new.query; tables = c.in-Query.bound.tables } in
    record {
      ran = form.Query new;
      is = refl;
      binds = query_again schema c.args.holes.now c.args.values.now command c.requires c.in-Query.bound new (rw c.in-Query.is at has) refl
          (of_true _ c.refill_query.result c.refill_query.ensures (sym c.unwrap_or.ensures ∙ done));
    }

pub returns-in-Change-clause-kept : goal.returns-in-Change-clause-kept
returns-in-Change-clause-kept c done schema command has =
    change_stays schema c.args.holes.now c.args.values.now command c.requires c.in-Change.bound c.refill_change.new.change c.refill_change.new.rows
    (rw c.in-Change.is at has) (c.refill_change.ensures done)

pub returns-in-Change-clause-filled : goal.returns-in-Change-clause-filled
returns-in-Change-clause-filled c done schema command has =
    change_filled schema c.args.holes.now c.args.values.now command c.requires c.in-Change.bound c.refill_change.new.change c.refill_change.new.rows
    (rw c.in-Change.is at has) (c.refill_change.ensures done)
