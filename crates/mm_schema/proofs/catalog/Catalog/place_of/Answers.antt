use Rattle.std.proofs.Common.{◌∙◌}
use Rattle.mm_schema.proofs.CatalogLemmas.{distinct_names, place_of_key}
use Rattle.mm_schema.proofs.catalog.Catalog.place_of.Goals as goal

pub returns-clause-place : goal.returns-clause-place
returns-clause-place c =
    c.get_index_of.ensures.index ∙ place_of_key c.args.name.now c.self.inside.tables c.args.self.now c.self.invariant.keyed c.self.view_is

pub returns-clause-distinct : goal.returns-clause-distinct
returns-clause-distinct c =
    distinct_names c.self.inside.tables c.args.self.now c.self.invariant.keyed c.self.view_is c.get_index_of.ensures.unique
