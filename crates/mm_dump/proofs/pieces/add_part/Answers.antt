use Rattle.std.proofs.Common.{◌++◌, ap, sym, ◌∙◌}
use Rattle.mm_dump.specs.Parts.{part_of}
use Rattle.mm_dump.specs.Places.{part_text}
use Rattle.mm_dump.proofs.Remaining.{line_text}
use Rattle.mm_dump.proofs.pieces.add_part.Goals as goal

pub returns-in-Line-clause-whole : goal.returns-in-Line-clause-whole
returns-in-Line-clause-whole g c added =
    let state = g.S.DumpSource.state c.args.source.now in
    let bytes = c.args.bytes.now.items in
    c.add_line.ensures.whole added
    ∙ ap (λ l. bytes ++ l) (line_text state c.args.row.now c.in-Line.line)
    ∙ ap (λ part. bytes ++ part_text state c.args.row.now (part_of part)) (sym c.in-Line.is)
