use Rattle.std.proofs.Common.{map, sym, ap, subst, ◌∙◌}
use Rattle.std.specs.List.{All}
use Rattle.mm_schema.specs.Schema.{Schema}
use Rattle.mm_reply.proofs.Delivered.{delivers_as, leads_to_answer}
use Rattle.mm_session.proofs.ReadyStatements.{forgotten_ready, lines_kept, some_ready}
use Rattle.mm_session.specs.steps.Forms.{IsReady}
use Rattle.mm_session.specs.steps.Places.{line_in}
use Rattle.mm_session.specs.steps.Templates.{AreReady}
use Rattle.mm_session.proofs.lines.execute_line.Goals as goal

pub run-requires-clause-found : goal.run-requires-clause-found
run-requires-clause-found g c = (c.args.line.now, c.in-Some.ensures.found)

pub returns-in-Some-clause-delivers : goal.returns-in-Some-clause-delivers
returns-in-Some-clause-delivers g c = c.run.ensures.delivers c.args.line.now c.in-Some.ensures.found

pub returns-in-Some-clause-statements : goal.returns-in-Some-clause-statements
returns-in-Some-clause-statements g c =
    subst (λ (schema : Schema). All (IsReady schema) c.args.statements.now.items) (sym c.run.ensures.schema) c.requires.statements

pub returns-then-is_definition-clause-delivers : goal.returns-then-is_definition-clause-delivers
returns-then-is_definition-clause-delivers g c =
    delivers_as (leads_to_answer c.args.line.now c.args.database.now c.parse-read.result c.parse-read.ensures) c.respond-taken.ensures.delivers

pub returns-then-is_definition-clause-statements : goal.returns-then-is_definition-clause-statements
returns-then-is_definition-clause-statements g c =
    let after = c.respond-taken.new.database.schema in
    let slots = c.args.statements.now.items in
    subst (All (IsReady after)) (sym c.forget_bound_forms.ensures)
    (forgotten_ready after slots (some_ready c.args.database.now.schema slots c.requires.statements))

pub returns-then-is_definition-clause-lines : goal.returns-then-is_definition-clause-lines
returns-then-is_definition-clause-lines g c = ap (map line_in) c.forget_bound_forms.ensures ∙ lines_kept c.args.statements.now.items

pub returns-else-is_definition-clause-delivers : goal.returns-else-is_definition-clause-delivers
returns-else-is_definition-clause-delivers g c =
    delivers_as (leads_to_answer c.args.line.now c.args.database.now c.parse-read.result c.parse-read.ensures) c.respond-taken.ensures.delivers

pub returns-else-is_definition-clause-statements : goal.returns-else-is_definition-clause-statements
returns-else-is_definition-clause-statements g c =
    subst (λ (schema : Schema). All (IsReady schema) c.args.statements.now.items)
    (sym (c.respond-taken.ensures.schema (sym c.is_definition-is_definition.ensures ∙ c.if-is_definition.false))) c.requires.statements

pub returns-else-is_definition-clause-templates : goal.returns-else-is_definition-clause-templates
returns-else-is_definition-clause-templates g c =
    subst (λ (schema : Schema). AreReady schema c.find.new.self)
    (sym (c.respond-taken.ensures.schema (sym c.is_definition-is_definition.ensures ∙ c.if-is_definition.false))) c.find.ensures.ready
