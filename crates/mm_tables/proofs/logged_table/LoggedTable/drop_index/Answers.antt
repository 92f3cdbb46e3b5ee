use Rattle.mm_tables.proofs.Room.{HasSpare-dropped}
use Rattle.mm_tables.proofs.logged_table.LoggedTable.drop_index.Goals as goal

pub returns-clause-spare : goal.returns-clause-spare
returns-clause-spare c n m was = HasSpare-dropped n m c.args.index c.args.self.now.rows c.drop_index.new.self c.drop_index.ensures was
