use Rattle.std.proofs.Common.{◌∙◌, arith}
use Rattle.store_tests.proofs.PlainStores.{plain_formed}
use Rattle.store_tests.proofs.stores.apply.Goals as goal

pub revert-requires : goal.revert-requires
revert-requires c = record { mark = c.make_edits.ensures.marks c.mark-mark.result c.mark-mark.ensures.is }

pub returns-in-Err-clause-count : goal.returns-in-Err-clause-count
returns-in-Err-clause-count c = c.revert.ensures.form.size ∙ c.make_edits.ensures.count

pub returns-in-Err-clause-plain : goal.returns-in-Err-clause-plain
returns-in-Err-clause-plain c = plain_formed c.make_edits.new.store c.revert.new.self c.revert.ensures.form c.make_edits.ensures.plain

pub returns-in-Err-clause-marks : goal.returns-in-Err-clause-marks
returns-in-Err-clause-marks c = λ mark is.
    (c.revert.ensures.marks mark (omega (arith, is.within, c.mark-mark.ensures.mark))).kept (c.make_edits.ensures.marks mark is)
