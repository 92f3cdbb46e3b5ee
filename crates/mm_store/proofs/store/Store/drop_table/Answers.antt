use Rattle.std.proofs.Common.{◌≢◌, ap, ◌∙◌, sym, subst}
use Rattle.std.specs.Prelude.{map, remove}
use Rattle.std.specs.List.{All}
use Rattle.mm_base.proofs.Keeping.{map_remove}
use Rattle.mm_link.specs.declared.link.Link.{Link}
use Rattle.mm_schema.specs.declared.reference.Reference.{Reference}
use Rattle.mm_store.specs.Tables.{Tables}
use Rattle.mm_store.proofs.ListedTables.{All-unmap, rows_in_table}
use Rattle.mm_store.proofs.store.Store.drop_table.Goals as goal

pub drop_table-requires-clause-unused : goal.drop_table-requires-clause-unused
drop_table-requires-clause-unused c =
    All-unmap (λ (link : Link). link.reference) (λ (r : Reference). r.to ≢ c.args.table) c.self.inside.base.links
    (subst (λ (s : Tables). All (λ (r : Reference). r.to ≢ c.args.table) s.links) (sym c.self.view_is) c.requires.unused)

pub returns-clause-tables : goal.returns-clause-tables
returns-clause-tables c =
    ap (map rows_in_table) c.drop_table.ensures.tables
    ∙ (map_remove rows_in_table c.self.inside.base.stored.tables c.args.table ∙ ap (λ (s : Tables). remove s.tables c.args.table) c.self.view_is)
