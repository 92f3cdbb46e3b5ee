use Rattle.mm_plan.proofs.Chosen.{tree_at_is}
use Rattle.mm_plan.proofs.choosing.Chooser.tree_on.Goals as goal

pub returns : goal.returns
returns c = tree_at_is c.args.self.now.view.now.store c.args.table c.requires c.args.column c.tree_on.result c.tree_on.ensures
