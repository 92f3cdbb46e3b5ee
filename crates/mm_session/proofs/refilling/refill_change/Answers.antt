use Rattle.std.proofs.Common.{inr, refl, sym, ◌∙◌}
use Rattle.mm_query.specs.declared.bind.BoundChange.TheVariants as bound
use Rattle.mm_session.proofs.FilledForms.{of_true}
use Rattle.mm_session.proofs.refilling.refill_change.Goals as goal

pub returns-in-Insert : goal.returns-in-Insert
returns-in-Insert c done = rw c.in-Insert.is (c.refill_rows.ensures done c.in-Insert.table)

pub returns-in-Update : goal.returns-in-Update
returns-in-Update c done =
    rw c.in-Update.is (record {
      ran = bound.Update c.in-Update.table c.refill_update.new.assignments c.refill_update.new.tests;
      is = refl;
      refills = of_true _ c.refill_update.result c.refill_update.ensures (sym c.unwrap_or.ensures ∙ done) c.in-Update.table;
      kept = inr refl;
    })

pub returns-in-Delete : goal.returns-in-Delete
returns-in-Delete c done =
    rw c.in-Delete.is (record {
      ran = bound.Delete c.in-Delete.table c.refill_delete.new.tests;
      is = refl;
      refills = of_true _ c.refill_delete.result c.refill_delete.ensures (sym c.unwrap_or-in-Delete.ensures ∙ done) c.in-Delete.table;
      kept = inr refl;
    })
