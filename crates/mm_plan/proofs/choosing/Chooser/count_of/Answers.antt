use Rattle.mm_plan.proofs.Chosen.{count_at_is}
use Rattle.mm_plan.proofs.choosing.Chooser.count_of.Goals as goal

pub returns : goal.returns
returns c = count_at_is c.args.self.now.view.now.store c.args.table c.requires c.len_of.result c.len_of.ensures.count
