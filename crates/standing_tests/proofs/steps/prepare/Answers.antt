-- The view is of the store, and the edits of one table are those of a list with only it.
use Rattle.std.proofs.Common.{◌∷◌, [], OnOk, sym, ap, subst, ◌∙◌}
use Rattle.std.specs.List.{All}
use Rattle.mm_delta.specs.Edited.{after_at, before_at}
use Rattle.mm_delta.specs.Steps.{EachFit}
use Rattle.mm_delta.specs.declared.edited.TableChange.{TableChange}
use Rattle.mm_schema.specs.Refused.{AnswersDue, first_refusal}
use Rattle.mm_standing.specs.Queries.{GivesTyped, RowsByPlace, change_conditions}
use Rattle.mm_standing.specs.State.{FitPrepared}
use Rattle.mm_store.specs.Tables.{Tables}
use Rattle.standing_tests.specs.Cases.{rows_edited}
use Rattle.standing_tests.proofs.NumberRows.{all_give, numbers_edited}
use Rattle.standing_tests.proofs.TableRows.{after_is, fit_each, type_tested}
use Rattle.standing_tests.proofs.steps.prepare.Goals as goal

pub prepare-requires-clause-edits : goal.prepare-requires-clause-edits
prepare-requires-clause-edits c =
    subst (λ (s : Tables). EachFit s (record { table = c.args.table; edits = c.args.edits } ∷ [])) (sym c.view-view.ensures.store)
    (fit_each c.args.store.now (record { table = c.args.table; edits = c.args.edits }) c.requires.fit)

pub prepare-requires-clause-typed : goal.prepare-requires-clause-typed
prepare-requires-clause-typed c = type_tested _ (record { table = c.args.table; edits = c.args.edits } ∷ []) c.args.standing.now.queries c.requires.whole

pub prepare-requires-clause-before : goal.prepare-requires-clause-before
prepare-requires-clause-before c =
    subst (λ (s : Tables). All (GivesTyped (before_at s)) c.args.standing.now.queries) (sym c.view-view.ensures.store)
    (all_give (before_at c.args.store.now) c.requires.typed c.args.standing.now.queries c.requires.whole)

pub prepare-requires-clause-after : goal.prepare-requires-clause-after
prepare-requires-clause-after c =
    let store = c.args.store.now in
    let change : TableChange = record { table = c.args.table; edits = c.args.edits } in
    let edits = c.args.edits.now in
    let rows : RowsByPlace = rows_edited store c.args.table edits in
    subst (λ (s : Tables). All (GivesTyped (after_at s (change ∷ []))) c.args.standing.now.queries) (sym c.view-view.ensures.store)
    (subst (λ (r : RowsByPlace). All (GivesTyped r) c.args.standing.now.queries) (sym (after_is store change))
    (all_give rows (numbers_edited store c.args.table edits c.requires.plain c.requires.typed c.requires.fit) c.args.standing.now.queries c.requires.whole))

pub returns-clause-ok : goal.returns-clause-ok
returns-clause-ok c =
    subst (λ (r : RowsByPlace). OnOk c.prepare.result (FitPrepared r c.prepare.new.self))
    (ap (λ (s : Tables). after_at s (record { table = c.args.table; edits = c.args.edits } ∷ [])) c.view-view.ensures.store
    ∙ after_is c.args.store.now (record { table = c.args.table; edits = c.args.edits })) c.prepare.ensures.ok
