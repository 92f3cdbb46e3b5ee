use Rattle.mm_plan.proofs.Chosen.{hash_at_is}
use Rattle.mm_plan.proofs.choosing.Chooser.hash_on.Goals as goal

pub returns : goal.returns
returns c = hash_at_is c.args.self.now.view.now.store c.args.table c.requires c.args.column c.hash_on.result c.hash_on.ensures
