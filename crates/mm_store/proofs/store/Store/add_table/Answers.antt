use Rattle.std.proofs.Common.{◌++◌, ◌∷◌, [], ap, ◌∙◌}
use Rattle.std.specs.Prelude.{map}
use Rattle.std.proofs.lemmas.List.{map-append}
use Rattle.mm_store.specs.Tables.{Tables}
use Rattle.mm_store.proofs.ListedTables.{added_empty, none_if_map, rows_in_table}
use Rattle.mm_tables.specs.Tables.{Shape}
use Rattle.mm_store.proofs.store.Store.add_table.Goals as goal

pub returns-clause-ok : goal.returns-clause-ok
returns-clause-ok c =
    let old = c.self.inside.base in
    let adds = c.in_ok-add_table.ensures.added in (
      adds.table.rows,
      ap (map rows_in_table) adds.added
          ∙ (map-append rows_in_table old.stored.tables (adds.table ∷ []) ∙ ap (λ (s : Tables). s.tables ++ adds.table.rows ∷ []) c.self.view_is),
      added_empty old c.add_table.new.self adds.table adds.added c.rows_are_listed.ensures c.in_ok-add_table.ensures.rows,
      ap (λ (s : Shape). s.types) adds.shape,
      ap (λ (s : Shape). s.key) adds.shape,
      none_if_map adds.table.rows.indexes (ap (λ (s : Shape). s.indexes) adds.shape),
    )
