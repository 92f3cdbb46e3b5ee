use Rattle.std.proofs.Common.{sym, subst}
use Rattle.std.specs.List.{AllPairs}
use Rattle.std.proofs.lemmas.List.Kept.{AllPairs-cons}
use Rattle.mm_tables.specs.Commands.{IsApart}
use Rattle.mm_tables.proofs.Slots.{on_true, on_true_from}
use Rattle.tables_tests.proofs.ready.+all_apart.Goals as goal

pub returns-then-is_apart_from : goal.returns-then-is_apart_from
returns-then-is_apart_from t c =
    on_true_from _ c.all_apart.result (λ yes.
    subst (AllPairs IsApart) (sym c.in-Some.ensures.cases.0)
    (AllPairs-cons IsApart c.in-Some.first.now c.in-Some.rest.now (on_true _ _ c.if-is_apart_from.true c.is_apart_from.ensures)
    (on_true _ _ yes c.all_apart.ensures)))
