use Rattle.std.proofs.Common.{Bool, List, length, sym, ap, subst, ◌∙◌}
use Rattle.std.specs.Prelude.{IfSome}
use Rattle.mm_lang.specs.Templates.{holes_of, template_of}
use Rattle.mm_statement.specs.Holes.{HolePlaces, hole_places}
use Rattle.mm_session.proofs.LineReadings.{template_within}
use Rattle.mm_session.specs.steps.Forms.{IsFormOf}
use Rattle.mm_session.proofs.statement.Statement.read.Goals as goal

pub bind_template-bound-requires-clause-flags : goal.bind_template-bound-requires-clause-flags
bind_template-bound-requires-clause-flags c =
    let command = c.in_ok-command.field-0.command in
    ap (λ (h : HolePlaces). length h.are_holes) c.in_ok-places.ensures
    ∙ (ap length c.in_ok-command.ensures.1 ∙ c.templates_read_as_lines.ensures.places c.args.line.now command c.in_ok-command.ensures.0)

pub bind_template-bound-requires-clause-within : goal.bind_template-bound-requires-clause-within
bind_template-bound-requires-clause-within c = template_within c.args.line.now c.in_ok-command.field-0.command c.in_ok-command.ensures.0

pub returns : goal.returns
returns c =
    let command = c.in_ok-command.field-0.command in
    let schema = c.args.database.now.schema in
    let line = c.in_ok-copy.ensures.items in
    let holes = c.in_ok-places.ensures ∙ ap (λ h. hole_places h command) (c.in_ok-command.ensures.1 ∙ ap holes_of (sym line)) in (
      line,
      record {
        command = command;
        read = ap template_of line ∙ c.in_ok-command.ensures.0;
        holes = holes;
        kind = c.of-kind.ensures;
        bound = subst (λ (h : List Bool). IfSome c.bind_template-bound.result (IsFormOf schema h command)) (ap (λ (h : HolePlaces). h.are_holes) holes)
            c.bind_template-bound.ensures;
      },
    )
