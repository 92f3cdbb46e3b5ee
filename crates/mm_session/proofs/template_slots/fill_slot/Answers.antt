use Rattle.std.proofs.Common.{◌≡◌, ℕ, List, Option, Some, refl, sym, ap, subst, ◌∙◌}
use Rattle.mm_session.proofs.FilledForms.{of_true}
use Rattle.mm_session.specs.steps.Filled.{IsFilledStatement}
use Rattle.mm_session.specs.steps.Places.{line_in}
use Rattle.mm_session.proofs.template_slots.fill_slot.Goals as goal

pub returns-in-Some-clause-filled : goal.returns-in-Some-clause-filled
returns-in-Some-clause-filled c done template is =
    let both : ◌≡◌ {A = Option (List ℕ)} (Some c.in-Some.statement.line.items) (Some template) = sym (ap line_in c.in-Some.is) ∙ is in
    let line_is : c.in-Some.statement.line.items ≡ template = cc in (
      c.fill.new.self,
      refl,
      subst (λ (line : List ℕ). IsFilledStatement c.args.database.now.schema line c.args.values.now c.fill.new.self) line_is
          (of_true _ c.fill.result c.fill.ensures.filled (sym c.unwrap_or.ensures ∙ done)),
    )
