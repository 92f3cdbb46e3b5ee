-- The view is of the store, and the edits of one table are those of a list with only it.
use Rattle.std.proofs.Common.{◌∷◌, [], sym, subst}
use Rattle.mm_delta.specs.Steps.{EachFit}
use Rattle.mm_store.specs.Tables.{Tables}
use Rattle.standing_tests.proofs.TableRows.{fit_each, tested_one}
use Rattle.standing_tests.proofs.steps.changes_of.Goals as goal

pub delta-requires-clause-fit : goal.delta-requires-clause-fit
delta-requires-clause-fit c =
    subst (λ (s : Tables). EachFit s (record { table = c.args.table; edits = c.args.edits } ∷ [])) (sym c.view-view.ensures.store)
    (fit_each c.args.store.now (record { table = c.args.table; edits = c.args.edits }) c.requires.fit)

pub delta-requires-clause-typed : goal.delta-requires-clause-typed
delta-requires-clause-typed c =
    tested_one _ (record { table = c.args.table; edits = c.args.edits } ∷ []) c.args.query.now c.args.tables.now c.requires.whole c.requires.unshifted
