use Rattle.std.proofs.Common.{◌∙◌}
use Rattle.store_tests.proofs.PlainStores.{plain_formed}
use Rattle.store_tests.proofs.StagedRows.{mark_staged, plain_staged, size_staged, still_there}
use Rattle.store_tests.proofs.stores.make_edits.Goals as goal

pub returns-in_err-edits-clause-count : goal.returns-in_err-edits-clause-count
returns-in_err-edits-clause-count c = size_staged c.args.table c.args.store.now c.edits_of.new.store c.requires.there c.edits_of.ensures.staged

pub returns-in_err-edits-clause-plain : goal.returns-in_err-edits-clause-plain
returns-in_err-edits-clause-plain c =
    plain_staged c.args.table c.args.store.now c.edits_of.new.store c.requires.there c.edits_of.ensures.staged c.requires.plain

pub returns-in_err-edits-clause-marks : goal.returns-in_err-edits-clause-marks
returns-in_err-edits-clause-marks c = mark_staged c.args.table c.args.store.now c.edits_of.new.store c.requires.there c.edits_of.ensures.staged

pub returns-in_default-clause-count : goal.returns-in_default-clause-count
returns-in_default-clause-count c = size_staged c.args.table c.args.store.now c.edits_of.new.store c.requires.there c.edits_of.ensures.staged

pub returns-in_default-clause-plain : goal.returns-in_default-clause-plain
returns-in_default-clause-plain c = plain_staged c.args.table c.args.store.now c.edits_of.new.store c.requires.there c.edits_of.ensures.staged c.requires.plain

pub returns-in_default-clause-marks : goal.returns-in_default-clause-marks
returns-in_default-clause-marks c = mark_staged c.args.table c.args.store.now c.edits_of.new.store c.requires.there c.edits_of.ensures.staged

pub make-requires-clause-there : goal.make-requires-clause-there
make-requires-clause-there c = still_there c.args.table c.args.store.now c.edits_of.new.store c.requires.there c.edits_of.ensures.staged

pub returns-in_err-make-clause-count : goal.returns-in_err-make-clause-count
returns-in_err-make-clause-count c =
    c.make.ensures.form.size ∙ size_staged c.args.table c.args.store.now c.edits_of.new.store c.requires.there c.edits_of.ensures.staged

pub returns-in_err-make-clause-plain : goal.returns-in_err-make-clause-plain
returns-in_err-make-clause-plain c =
    plain_formed c.edits_of.new.store c.make.new.self c.make.ensures.form
    (plain_staged c.args.table c.args.store.now c.edits_of.new.store c.requires.there c.edits_of.ensures.staged c.requires.plain)

pub returns-in_err-make-clause-marks : goal.returns-in_err-make-clause-marks
returns-in_err-make-clause-marks c = λ mark is.
    let still = mark_staged c.args.table c.args.store.now c.edits_of.new.store c.requires.there c.edits_of.ensures.staged mark is in
    (c.make.ensures.marks mark still.within).kept still

pub returns-clause-count : goal.returns-clause-count
returns-clause-count c = c.make.ensures.form.size ∙ size_staged c.args.table c.args.store.now c.edits_of.new.store c.requires.there c.edits_of.ensures.staged

pub returns-clause-plain : goal.returns-clause-plain
returns-clause-plain c =
    plain_formed c.edits_of.new.store c.make.new.self c.make.ensures.form
    (plain_staged c.args.table c.args.store.now c.edits_of.new.store c.requires.there c.edits_of.ensures.staged c.requires.plain)

pub returns-clause-marks : goal.returns-clause-marks
returns-clause-marks c = λ mark is.
    let still = mark_staged c.args.table c.args.store.now c.edits_of.new.store c.requires.there c.edits_of.ensures.staged mark is in
    (c.make.ensures.marks mark still.within).kept still
