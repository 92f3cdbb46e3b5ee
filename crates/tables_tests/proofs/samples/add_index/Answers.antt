use Rattle.tables_tests.proofs.Headings.{AreSample-indexed}
use Rattle.tables_tests.proofs.samples.add_index.Goals as goal

pub returns : goal.returns
returns c =
    AreSample-indexed 1 c.args.kind c.args.table c.args.tables.now c.add_index.new.self c.add_index.result c.add_index.ensures.added
    c.add_index.ensures.err c.add_index.ensures.others c.add_index.ensures.state c.requires.sample
