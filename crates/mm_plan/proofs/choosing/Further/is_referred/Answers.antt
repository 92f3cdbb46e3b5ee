use Rattle.mm_plan.proofs.Chosen.{not_referred, referred}
use Rattle.mm_plan.proofs.choosing.Further.is_referred.Goals as goal

pub returns-then-key-key_of : goal.returns-then-key-key_of
returns-then-key-key_of c =
    referred c.args.self.now.chooser.view.now.store c.args.self.now.outers.now c.args.self.now.table c.args.key c.requires.there c.key_of.result
    c.key_of.ensures.key c.if-key-key_of.true c.refers_only_to.result c.refers_only_to.ensures

pub returns-else-key-key_of : goal.returns-else-key-key_of
returns-else-key-key_of c =
    not_referred c.args.self.now.chooser.view.now.store c.args.self.now.outers.now c.args.self.now.table c.args.key c.requires.there c.key_of.result
    c.key_of.ensures.key c.if-key-key_of.false
