use Rattle.std.proofs.Common.{inl, sym, ◌∙◌}
use Rattle.std.proofs.lemmas.Result.{err_from_is_err_and}
use Rattle.mm_lang.proofs.Preparing.{no_holes, some_holes, template_holed, template_long, template_nothing, template_read, template_refused}
use Rattle.mm_lang.proofs.read.template.prepare.Goals as goal

pub returns-then-line-gt-MAX_LINE_BYTES : goal.returns-then-line-gt-MAX_LINE_BYTES
returns-then-line-gt-MAX_LINE_BYTES c = inl (template_long c.args.line.now c.if-line-gt-MAX_LINE_BYTES.true)

pub returns-then-is_nothing : goal.returns-then-is_nothing
returns-then-is_nothing c =
    let nothing = sym c.is_nothing.ensures ∙ c.if-is_nothing.true in
    (template_nothing c.args.line.now c.if-line-gt-MAX_LINE_BYTES.false nothing, c.new.ensures.items ∙ no_holes c.args.line.now nothing)

pub returns-then-defines_with_hole : goal.returns-then-defines_with_hole
returns-then-defines_with_hole c =
    template_holed c.args.line.now c.if-line-gt-MAX_LINE_BYTES.false (sym c.is_nothing.ensures ∙ c.if-is_nothing.false)
    (sym c.defines_with_hole.ensures ∙ c.if-defines_with_hole.true)

pub returns-in_err-command : goal.returns-in_err-command
returns-in_err-command c =
    let p = err_from_is_err_and c.from_residual.result c.from_residual.ensures.1 in
    rw (p.1, p.2)
    (template_refused c.args.line.now c.if-line-gt-MAX_LINE_BYTES.false (sym c.is_nothing.ensures ∙ c.if-is_nothing.false)
    (sym c.defines_with_hole.ensures ∙ c.if-defines_with_hole.false) c.in_err-command.field-0.0 c.in_err-command.ensures)

pub returns : goal.returns
returns c =
    let some = sym c.is_nothing.ensures ∙ c.if-is_nothing.false in
    let stand = sym c.defines_with_hole.ensures ∙ c.if-defines_with_hole.false in (
      template_read c.args.line.now c.if-line-gt-MAX_LINE_BYTES.false some stand ∙ c.in_ok-command.ensures,
      c.in_ok-holes.ensures ∙ some_holes c.args.line.now some,
    )
