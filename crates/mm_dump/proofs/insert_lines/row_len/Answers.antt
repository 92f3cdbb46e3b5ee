use Rattle.std.proofs.Common.{◌<◌, ◌≤◌, length, ap, arith}
use Rattle.std.specs.List.{sum_by}
use Rattle.std.proofs.lemmas.List.{take_all}
use Rattle.mm_value.specs.Views.{value_of}
use Rattle.mm_dump.proofs.Lengths.{bytes_more, length-row, spaced_len}
use Rattle.mm_dump.proofs.insert_lines.row_len.Goals as goal

pub loop-i-preserved : goal.loop-i-preserved
loop-i-preserved g c =
    let row = g.R.AsRow.row c.args.row.now in
    let more = bytes_more row c.loop-i.i (value_of c.value.result) c.value.ensures in
    omega (arith, more, c.loop-i.invariant, c.value_len.ensures.len)

pub returns : goal.returns
returns g c =
    let row = g.R.AsRow.row c.args.row.now in
    let past : length row ≤ c.loop-i.i = omega (arith, c.loop-i-test.false, c.len-i-end.ensures) in
    let some : 0 < length row = omega (arith, c.if-len-eq0.false, c.len.ensures) in
    omega (arith, c.loop-i.invariant, ap (sum_by spaced_len) (take_all c.loop-i.i row past), length-row row some)
