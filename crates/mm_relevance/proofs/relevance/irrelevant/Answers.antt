use Rattle.std.proofs.Common.{inr, sym, ◌∙◌}
use Rattle.std.proofs.lemmas.Result.{IfOk-weaker}
use Rattle.mm_relevance.proofs.Found.{answered}
use Rattle.mm_relevance.proofs.OnTexts.{found, none_found}
use Rattle.mm_relevance.proofs.relevance.irrelevant.Goals as goal

pub returns-in-Some : goal.returns-in-Some
returns-in-Some g c =
    let row = g.R.AsRow.row in
    inr (found c.args.query.now c.args.place (row c.args.row.now) c.in_ok-lower_alone.field-0.edges.items c.in-Some.conjunct
    (sym c.false_text.ensures ∙ c.in-Some.is) c.in_ok-lower_alone.ensures)

pub returns : goal.returns
returns g c =
    let row = g.R.AsRow.row in
    IfOk-weaker c.negative_cycle.result _ _
    (λ found. answered c.args.query.now c.args.place (row c.args.row.now) found
    (none_found c.args.query.now c.args.place (row c.args.row.now) (sym c.false_text.ensures ∙ c.in_default.is)))
    c.negative_cycle.ensures
