use Rattle.std.proofs.Common.{sym, ◌∙◌}
use Rattle.mm_query.proofs.FoundTables.{noted_at, nowhere_noted, nowhere_placed, nowhere_type, placed_at, table_within, type_at}
use Rattle.mm_query.proofs.scope.Scope.resolve.Goals as goal

pub returns-in_default-clause-place : goal.returns-in_default-clause-place
returns-in_default-clause-place c = nowhere_placed c.args.self.now.catalog.now c.args.self.now.from c.args.field.now (sym c.in_default.ensures)

pub returns-in_default-clause-col_type : goal.returns-in_default-clause-col_type
returns-in_default-clause-col_type c = nowhere_type c.args.self.now.catalog.now c.args.self.now.from c.args.field.now (sym c.in_default.ensures)

pub returns-in_default-clause-faults : goal.returns-in_default-clause-faults
returns-in_default-clause-faults c =
    nowhere_noted c.args.self.now.catalog.now c.args.self.now.from c.args.field.now (sym c.in_default.ensures) c.args.faults.now

pub table_at-table-requires : goal.table_at-table-requires
table_at-table-requires c =
    table_within c.args.self.now.catalog.now c.args.self.now.from c.args.field.now c.as_slice.result.now c.args.self.now.there
    (c.as_slice.ensures ∙ c.args.self.now.places) c.in-Some.place (sym c.in-Some.ensures)

pub returns-clause-place : goal.returns-clause-place
returns-clause-place c =
    (λ i. record { place = c.in-Some.place; column = c.resolve_column-column.ensures.place i })
    ∙ placed_at c.args.self.now.catalog.now c.args.self.now.from c.args.field.now c.as_slice.result.now c.args.self.now.there
    (c.as_slice.ensures ∙ c.args.self.now.places) c.in-Some.place (sym c.in-Some.ensures) c.table_at-table.result.now c.table_at-table.ensures

pub returns-clause-col_type : goal.returns-clause-col_type
returns-clause-col_type c =
    c.resolve_column-column.ensures.col_type
    ∙ type_at c.args.self.now.catalog.now c.args.self.now.from c.args.field.now c.as_slice.result.now c.args.self.now.there
    (c.as_slice.ensures ∙ c.args.self.now.places) c.in-Some.place (sym c.in-Some.ensures) c.table_at-table.result.now c.table_at-table.ensures

pub returns-clause-faults : goal.returns-clause-faults
returns-clause-faults c =
    c.resolve_column-column.ensures.faults
    ∙ noted_at c.args.self.now.catalog.now c.args.self.now.from c.args.field.now c.as_slice.result.now c.args.self.now.there
    (c.as_slice.ensures ∙ c.args.self.now.places) c.in-Some.place (sym c.in-Some.ensures) c.table_at-table.result.now c.table_at-table.ensures
    c.args.faults.now
