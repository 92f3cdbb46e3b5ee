use Rattle.std.proofs.Common.{◌<◌, ℕ, sym, subst}
use Rattle.query_tests.proofs.StillSample.{formed, staged}
use Rattle.query_tests.proofs.samples.insert.Goals as goal

pub insertions-requires-clause-there : goal.insertions-requires-clause-there
insertions-requires-clause-there c = subst (λ (n : ℕ). c.args.table < n) (sym c.requires.sample.two) c.requires.there

pub returns-in_err-edits : goal.returns-in_err-edits
returns-in_err-edits c = staged c.args.store.now c.insertions.new.store c.args.table c.requires.there c.requires.sample c.insertions.ensures.staged

pub make-requires-clause-there : goal.make-requires-clause-there
make-requires-clause-there c =
    let sample = staged c.args.store.now c.insertions.new.store c.args.table c.requires.there c.requires.sample c.insertions.ensures.staged in
    subst (λ (n : ℕ). c.args.table < n) (sym sample.two) c.requires.there

pub returns : goal.returns
returns c =
    formed c.insertions.new.store c.make.new.self c.make.ensures.form
    (staged c.args.store.now c.insertions.new.store c.args.table c.requires.there c.requires.sample c.insertions.ensures.staged)
