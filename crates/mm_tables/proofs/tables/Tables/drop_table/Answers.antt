use Rattle.std.proofs.Common.{length, ap, ◌∙◌, arith}
use Rattle.mm_tables.specs.Tables.{Stored}
use Rattle.mm_tables.proofs.Making.{IsLogged-removed}
use Rattle.mm_tables.proofs.tables.Tables.drop_table.Goals as goal

pub invariant_of-self : goal.invariant_of-self
invariant_of-self c =
    IsLogged-removed c.self.inside.tables.items _ c.self.inside.log.items c.args.table c.remove.ensures.items
    (ap (λ (s : Stored). s.log) c.self.view_is ∙ c.requires.log)
    (omega (arith, c.requires.within, ap (λ (s : Stored). length s.tables) c.self.view_is)) c.self.invariant
