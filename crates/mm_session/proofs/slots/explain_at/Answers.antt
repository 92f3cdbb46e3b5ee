use Rattle.std.proofs.Common.{◌≡◌, false, ap, sym, ◌∙◌}
use Rattle.mm_reply.proofs.Delivered.{delivers_as}
use Rattle.mm_session.proofs.KindLemmas.{kind_plans, no_query}
use Rattle.mm_session.proofs.ReadyStatements.{counted}
use Rattle.mm_session.specs.Kinds.{has_plan, query_of}
use Rattle.mm_session.proofs.slots.explain_at.Goals as goal

pub returns-then-not-has_plan-clause-err : goal.returns-then-not-has_plan-clause-err
returns-then-not-has_plan-clause-err g c =
    let statement = c.in-Some.found.now in
    let ready = c.in-Some.ensures.ready c.args.database.now.schema c.requires.ready in
    let told = c.has_plan.ensures in let test = c.if-not-has_plan.true in let tested = c.if-not-has_plan.ensures in
    let lacks : has_plan statement.kind ≡ false = cc in (
      statement.line.items,
      c.in-Some.ensures.line,
      (
        ready.command,
        ready.read,
        no_query (query_of ready.command) (sym (kind_plans ready.command) ∙ (ap has_plan (sym ready.kind) ∙ lacks)),
      ),
    )

pub returns-then-count-values-clause-err : goal.returns-then-count-values-clause-err
returns-then-count-values-clause-err g c =
    let statement = c.in-Some.found.now in
    let schema = c.args.database.now.schema in
    let holes = c.count.ensures ∙ counted schema statement (c.in-Some.ensures.ready schema c.requires.ready) in (
      statement.line.items,
      c.in-Some.ensures.line,
      λ same. c.if-count-values.true (holes ∙ sym same),
    )

pub explain-requires-clause-values : goal.explain-requires-clause-values
explain-requires-clause-values g c =
    let schema = c.args.database.now.schema in
    sym c.if-count-values.false ∙ (c.count.ensures ∙ counted schema c.in-Some.found.now (c.in-Some.ensures.ready schema c.requires.ready))

pub returns-clause-ok : goal.returns-clause-ok
returns-clause-ok g c =
    let statement = c.in-Some.found.now in
    let schema = c.args.database.now.schema in
    delivers_as
    (λ outcome explains. record {
      line = statement.line.items;
      is = c.in-Some.ensures.line;
      count = sym c.if-count-values.false ∙ (c.count.ensures ∙ counted schema statement (c.in-Some.ensures.ready schema c.requires.ready));
      explains = explains;
    })
    c.explain.ensures.explains
