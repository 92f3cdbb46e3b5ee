use Rattle.std.proofs.lemmas.List.{take_rest}
use Rattle.mm_lang.proofs.Texts.{within_start, within_more, within_end, within_fault}
use Rattle.mm_lang.proofs.read.token.split_text.Goals as goal

pub loop-len-init : goal.loop-len-init
loop-len-init c = within_start c.args.bytes.now c.requires.nonempty c.requires.quote

pub loop-len-preserved : goal.loop-len-preserved
loop-len-preserved c =
    let bytes = c.args.bytes.now in
    within_more bytes c.loop-len.end c.in-Bytes.len c.loop-len.invariant (rw (take_rest bytes c.loop-len.end) at c.in-Bytes.ensures)

pub returns-in-End : goal.returns-in-End
returns-in-End c =
    let bytes = c.args.bytes.now in
    within_end bytes c.loop-len.end c.split_at.result.0 c.split_at.result.1.now c.loop-len.invariant
    (rw (take_rest bytes c.loop-len.end) at c.in-End.ensures) c.split_at.ensures.front c.split_at.ensures.back

pub returns-in-Fault : goal.returns-in-Fault
returns-in-Fault c =
    let bytes = c.args.bytes.now in
    within_fault bytes c.loop-len.end c.loop-len.invariant (rw (take_rest bytes c.loop-len.end) at c.in-Fault.ensures)
