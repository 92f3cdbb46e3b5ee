use Rattle.std.proofs.Common.{length, sym, ap, subst, arith}
use Rattle.mm_store.specs.Looked.{IsIndexOn}
use Rattle.mm_store.specs.Tables.{IsAt, Tables}
use Rattle.store_tests.proofs.PlainStores.{plain_at}
use Rattle.store_tests.proofs.growths.reads.by_value.Goals as goal

pub rows_by_index-requires-clause-index : goal.rows_by_index-requires-clause-index
rows_by_index-requires-clause-index c = λ stored at.
    subst (IsIndexOn stored 1) c.in-Some-Hash.field-0-is
    (c.in-Some-Hash.ensures stored (subst (λ (s : Tables). IsAt s 1 stored) (sym c.view-view.ensures.store) at)).0

pub rows_by_index-requires-clause-column : goal.rows_by_index-requires-clause-column
rows_by_index-requires-clause-column c = λ stored at. omega (arith, ap length (plain_at c.args.store.now 1 c.requires.plain stored at).types)
