use Rattle.std.proofs.Common.{subst}
use Rattle.mm_store.specs.Tables.{IsAt, Tables}
use Rattle.mm_store.proofs.Reading.{IsTable-shown, shown_at, within_base}
use Rattle.mm_store.proofs.store.Store.table.Goals as goal

pub returns-clause-at : goal.returns-clause-at
returns-clause-at c =
    subst (λ (store : Tables). IsAt store c.args.table c.table.result.now) c.self.view_is
    (shown_at c.self.inside.base.stored.tables c.args.table c.table.result.now
    (within_base c.self.inside.base c.args.self.now c.args.table c.self.view_is c.requires) c.table.ensures.table)

pub returns-clause-whole : goal.returns-clause-whole
returns-clause-whole c =
    IsTable-shown c.self.inside.base.stored.tables c.args.table c.table.result.now
    (within_base c.self.inside.base c.args.self.now c.args.table c.self.view_is c.requires) c.table.ensures.table c.are_lawful.ensures
    c.table.ensures.whole

pub returns-clause-few : goal.returns-clause-few
returns-clause-few c = (returns-clause-whole c).few
