use Rattle.std.proofs.Common.{arith}
use Rattle.mm_template.proofs.Cuts.{whole_cut}
use Rattle.mm_template.proofs.cutter.Cutter.cut.Goals as goal

pub returns : goal.returns
returns c =
    let cutter = c.cut_pieces.new.self in
    λ some. whole_cut c.args.line.now cutter.template cutter.values (omega arith)
    (c.begins_as_cut_line.ensures c.if-not-begins_as_cut_line.false) c.in-Some.ensures
