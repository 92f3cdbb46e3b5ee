use Rattle.std.proofs.Common.{ℕ, List, Option, Some, ap, subst, sym}
use Rattle.mm_session.specs.Statements.{IsKindOf}
use Rattle.mm_session.specs.declared.statement_kind.StatementKind.{StatementKind}
use Rattle.mm_session.proofs.slots.kind.Goals as goal

pub returns-in-Some : goal.returns-in-Some
returns-in-Some c =
    let kind = c.in-Some.statement.now.kind in
    let ready = c.in-Some.ensures.ready c.requires.0 c.requires.1 in
    subst (λ (found : Option (List ℕ)). IsKindOf found (Some kind)) (sym c.in-Some.ensures.line)
    (ready.command, ready.read, ap (λ (k : StatementKind). Some k) ready.kind)
