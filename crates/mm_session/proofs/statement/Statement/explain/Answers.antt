use Rattle.std.proofs.Common.{ℕ, List, ap, subst, sym, ◌∙◌}
use Rattle.mm_lang.specs.Templates.{template_of}
use Rattle.mm_reply.proofs.Delivered.{delivers_as}
use Rattle.mm_session.proofs.KindLemmas.{kind_plans}
use Rattle.mm_session.proofs.PlanReadings.{explain_defines, explains_read}
use Rattle.mm_session.specs.Kinds.{has_plan}
use Rattle.mm_session.specs.steps.Readings.{FillsExplain}
use Rattle.mm_session.proofs.statement.Statement.explain.Goals as goal

pub read_explain-read-requires-clause-reads : goal.read_explain-read-requires-clause-reads
read_explain-read-requires-clause-reads g c =
    let ready = c.requires.ready in (
      ready.command,
      ap template_of c.as_slice.ensures.value ∙ ready.read,
      sym (kind_plans ready.command) ∙ (ap has_plan (sym ready.kind) ∙ c.requires.plan),
    )

pub returns-clause-explains : goal.returns-clause-explains
returns-clause-explains g c =
    let line = c.args.self.now.line.items in
    let values = c.args.values.now in
    let read = c.read_explain-read.result in
    let fills = subst (λ (line : List ℕ). FillsExplain line values read) c.as_slice.ensures.value c.read_explain-read.ensures in
    delivers_as (λ outcome. explains_read line values c.args.database.now outcome read fills) c.respond.ensures.delivers

pub returns-clause-schema : goal.returns-clause-schema
returns-clause-schema g c =
    let values = c.args.values.now in
    let read = c.read_explain-read.result in
    let fills = subst (λ (line : List ℕ). FillsExplain line values read) c.as_slice.ensures.value c.read_explain-read.ensures in
    c.respond.ensures.schema (explain_defines c.args.self.now.line.items values read fills)
