-- The lines that define tables, indexes and standing queries.
use Rattle.std.specs.Prelude.{ℕ, if◌then◌else◌, List, Option, Some, None, is_some}
use Rattle.std.specs.Option.{option_map}
use Rattle.mm_value.specs.declared.refusal.Refusal.{Refusal}
use Rattle.mm_value.specs.declared.refusal.Refusal.TheVariants.{NoSuchIndex, NoSuchStandingQuery, NoSuchTable, Syntax}
use Rattle.mm_schema.specs.Indexes.{index_named}
use Rattle.mm_schema.specs.Name.{is_name}
use Rattle.mm_schema.specs.Schema.{table_named}
use Rattle.mm_schema.specs.declared.table.Table.{Table}
use Rattle.mm_query.specs.Standing.{query_named}
use Rattle.mm_query.specs.State.{State}
use Rattle.mm_query.specs.declared.bound_query.BoundQuery.{BoundQuery}
use Rattle.mm_lang.specs.QueryText.{named_query}
use Rattle.mm_dump.specs.Entries.{Entry}
use Rattle.mm_dump.specs.Entries as entry
use Rattle.mm_session.specs.declared.definition.DefinitionKind.{DefinitionKind}
use Rattle.mm_session.specs.declared.definition.DefinitionKind.TheVariants as kinds

-- The entry of a dump that creates the table, index or standing query with a name, if there is one.
abbrev pub entry_named : DefinitionKind → List ℕ → State → Option Entry
entry_named kinds.Table name state = option_map (λ (table : Table). entry.Table table.definition) (table_named name state.schema)
entry_named kinds.Index name state = option_map entry.Index (index_named name state.schema)
entry_named kinds.StandingQuery name state =
    option_map (λ (query : BoundQuery). entry.Watch name (named_query state.schema query)) (query_named name state.schema.standing state.queries)

-- The refusal if there is none.
abbrev pub refusal_of_none : DefinitionKind → Refusal
refusal_of_none kinds.Table = NoSuchTable
refusal_of_none kinds.Index = NoSuchIndex
refusal_of_none kinds.StandingQuery = NoSuchStandingQuery

-- The refusal of a definition, if any: a syntax error if the bytes are not a name, and otherwise that no object of the kind has the name.
abbrev pub definition_refusal : DefinitionKind → List ℕ → State → Option Refusal
definition_refusal kind name state =
    if is_name name then (if is_some (entry_named kind name state) then None else Some (refusal_of_none kind)) else Some Syntax
