use Rattle.std.proofs.Common.{sym, subst}
use Rattle.std.proofs.lemmas.Bool.{eqb-true}
use Rattle.mm_store.specs.Tables.{IsAt, Tables}
use Rattle.standing_tests.proofs.TableRows.{no_rows}
use Rattle.standing_tests.proofs.steps.is_first_empty.Goals as goal

pub returns : goal.returns
returns c = λ empty.
    no_rows c.args.store.now 0 c.len_of.result (eqb-true c.len_of.result 0 empty)
    (λ stored here. c.len_of.ensures.count stored (subst (λ (s : Tables). IsAt s 0 stored) (sym c.view.ensures.store) here))
