use Rattle.mm_delta.proofs.Indexed.{first_at}
use Rattle.mm_delta.proofs.look_up.Site.index_of.Goals as goal

pub returns-clause-there : goal.returns-clause-there
returns-clause-there c =
    first_at c.args.self.now.view.now.store c.args.self.now.table c.args.column c.index_on.result c.requires c.index_on.ensures
