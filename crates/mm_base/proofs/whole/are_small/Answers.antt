use Rattle.std.proofs.Common.{subst}
use Rattle.mm_tables.specs.declared.logged_table.LoggedTable.{LoggedTable}
use Rattle.mm_base.specs.Bases.{IsWhole}
use Rattle.mm_base.proofs.InBases.{small_at}
use Rattle.mm_base.proofs.whole.are_small.Goals as goal

pub returns : goal.returns
returns c =
    let d : LoggedTable = record { rows = c.table.result.now; owed = record { key = 0; indexes = 0 } } in
    small_at c.args.tables.now.tables c.args.table d c.requires (subst IsWhole (c.table.ensures d) c.is_whole.ensures)
