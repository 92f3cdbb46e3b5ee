use Rattle.std.proofs.Common.{subst}
use Rattle.std.specs.List.{All}
use Rattle.mm_store.specs.Joined.{IsTable}
use Rattle.mm_store.specs.Tables.{Tables}
use Rattle.mm_store.proofs.Reading.{all_tables}
use Rattle.mm_store.proofs.store.Store.keeps_tables.Goals as goal

pub returns : goal.returns
returns c =
    subst (λ (store : Tables). All IsTable store.tables) c.self.view_is
    (all_tables c.self.inside.base.stored.tables c.are_lawful.ensures c.are_whole.ensures)
