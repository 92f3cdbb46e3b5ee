use Rattle.std.proofs.Common.{inl, refl}
use Rattle.mm_query.specs.declared.bind.BoundChange.TheVariants as bound
use Rattle.mm_session.proofs.refilling.refill_rows.Goals as goal

pub returns-in-Ok-Some : goal.returns-in-Ok-Some
returns-in-Ok-Some c done table = record {
  ran = bound.Insert table c.in-Ok-Some.filled;
  is = refl;
  refills = (rw c.in-Ok-Some.field-0-is at c.in-Ok-Some.ensures) table;
  kept = inl refl;
}
