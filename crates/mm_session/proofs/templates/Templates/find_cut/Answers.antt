use Rattle.std.proofs.Common.{ℕ, List, Option, Some, map, ap, sym, ◌∙◌}
use Rattle.std.proofs.lemmas.Option.{IfSome_then}
use Rattle.mm_session.specs.Statements.{line_at}
use Rattle.mm_session.specs.declared.statement.Statement.{Statement}
use Rattle.mm_session.specs.steps.Places.{line_in}
use Rattle.mm_session.proofs.templates.Templates.find_cut.Goals as goal

pub returns-in-Some-clause-found : goal.returns-in-Some-clause-found
returns-in-Some-clause-found c =
    ap (λ (slots : List (Option Statement)). line_at c.in-Some.number (map line_in slots)) (sym c.deref.ensures.value)
    ∙ (c.in-Some.ensures ∙ ap (λ (t : List ℕ). Some t) c.template-template.ensures)

pub returns-clause-found : goal.returns-clause-found
returns-clause-found c =
    IfSome_then c.put.result c.put.ensures.there
    (λ number is. is ∙ ap (λ (t : List ℕ). Some t) (c.in_ok-statement.ensures.line ∙ c.template-template.ensures))
