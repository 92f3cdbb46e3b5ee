use Rattle.std.proofs.Common.{◌↔◌, subst}
use Rattle.std.specs.Prelude.{IsTrue}
use Rattle.mm_base.specs.Columns.{IsReference}
use Rattle.mm_store.specs.Seen.{Seen}
use Rattle.mm_store.proofs.view.View.refers_only_to.Goals as goal

pub returns : goal.returns
returns c =
    subst (λ (seen : Seen). IsTrue c.refers_only_to.result ↔ IsReference seen.store.links c.args.table c.args.column c.args.to) c.self.view_is
    c.refers_only_to.ensures
