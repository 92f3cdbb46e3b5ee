use Rattle.mm_schema.proofs.CatalogLemmas.{sound_without, view_without}
use Rattle.mm_schema.proofs.catalog.Catalog.drop_table.Goals as goal

pub invariant_of-self : goal.invariant_of-self
invariant_of-self c =
    sound_without c.args.name.now c.self.inside.tables c.shift_remove.new.self c.args.self.now c.self.invariant c.self.view_is c.find_table.ensures.distinct
    c.shift_remove.ensures.entries

pub returns-clause-ok : goal.returns-clause-ok
returns-clause-ok c =
    view_without c.args.name.now c.self.inside.tables c.shift_remove.new.self c.args.self.now c.self.invariant c.self.view_is c.find_table.ensures.distinct
    c.shift_remove.ensures.entries
