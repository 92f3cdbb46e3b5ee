use Rattle.std.proofs.Common.{inl, sym, ◌∙◌}
use Rattle.mm_lang.proofs.Commands.{reads_long, reads_nothing, reads_no_command, reads}
use Rattle.mm_lang.proofs.read.reading.parse.Goals as goal

pub returns-then-line-gt-MAX_LINE_BYTES : goal.returns-then-line-gt-MAX_LINE_BYTES
returns-then-line-gt-MAX_LINE_BYTES c = inl (reads_long c.args.line.now c.if-line-gt-MAX_LINE_BYTES.true)

pub returns-then-is_nothing : goal.returns-then-is_nothing
returns-then-is_nothing c = reads_nothing c.args.line.now c.if-line-gt-MAX_LINE_BYTES.false (sym c.is_nothing.ensures ∙ c.if-is_nothing.true)

pub returns-then-has_hole : goal.returns-then-has_hole
returns-then-has_hole c =
    reads_no_command c.args.line.now c.if-line-gt-MAX_LINE_BYTES.false (sym c.is_nothing.ensures ∙ c.if-is_nothing.false)
    (sym c.has_hole.ensures ∙ c.if-has_hole.true)

pub returns : goal.returns
returns c =
    reads c.args.line.now c.read_command.result c.if-line-gt-MAX_LINE_BYTES.false (sym c.is_nothing.ensures ∙ c.if-is_nothing.false)
    (sym c.has_hole.ensures ∙ c.if-has_hole.false) c.read_command.ensures
