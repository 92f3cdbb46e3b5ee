use Rattle.std.proofs.Common.{◌≡◌, ℕ, List, Some, length, ap, subst, sym, ◌∙◌}
use Rattle.mm_lang.specs.Templates.{holes_of}
use Rattle.mm_statement.specs.Holes.{hole_count}
use Rattle.mm_template.specs.Cutting.{Cut}
use Rattle.mm_session.proofs.FilledForms.{filled_found}
use Rattle.mm_session.specs.steps.Filled.{IsFilledAt}
use Rattle.mm_session.proofs.templates.Templates.find.Goals as goal

pub fill_at-requires-clause-count : goal.fill_at-requires-clause-count
fill_at-requires-clause-count c template at =
    let cut = c.cut.new.self in
    let both : ◌≡◌ (Some template) (Some cut.template) = sym at ∙ c.in_ok-number.ensures.found in
    let same : template ≡ cut.template = cc in
    ap length (c.values-values.ensures ∙ ap (λ (cutter : Cut). cutter.values) c.in_ok-number.ensures.cutter)
    ∙ ((c.cut.ensures c.if-not-cut.false).count ∙ ap (λ (t : List ℕ). hole_count (holes_of t)) (sym same))

pub returns-then-fill_at-clause-found : goal.returns-then-fill_at-clause-found
returns-then-fill_at-clause-found c =
    let schema = c.args.database.now.schema in
    let line = c.args.line.now in
    let cut = c.cut.new.self in
    let number = c.in_ok-number.number in
    let new = record c.find_cut.new.self { slots = c.fill_at.new.slots } in
    filled_found schema line cut.template cut.values number new
    (subst (λ values. IsFilledAt schema cut.template values number new.slots.items)
    (c.values-values.ensures ∙ ap (λ (cutter : Cut). cutter.values) c.in_ok-number.ensures.cutter)
    (c.fill_at.ensures.filled c.if-fill_at.true cut.template c.in_ok-number.ensures.found))
    (λ command result read fills.
    c.cut_lines_read_as_fillings.ensures.reads line cut.template cut.values command result (c.cut.ensures c.if-not-cut.false) read fills)
