-- The bytes of the dump of a state.
use Rattle.std.specs.Prelude.{ℕ, List, [], ◌∷◌, ◌++◌}
use Rattle.std.specs.List.{flat_map}
use Rattle.std.specs.Option.{option_map_or}
use Rattle.mm_schema.specs.declared.standing.StandingDef.{StandingDef}
use Rattle.mm_schema.specs.declared.table.Table.{Table}
use Rattle.mm_query.specs.Standing.{query_named}
use Rattle.mm_query.specs.State.{State, rows_in}
use Rattle.mm_query.specs.declared.bound_query.BoundQuery.{BoundQuery}
use Rattle.mm_lang.specs.QueryText.{named_query}
use Rattle.mm_dump.specs.Dumps.{index_entries, script_of, table_entries}
use Rattle.mm_dump.specs.Inserts.{put_texts}
use Rattle.mm_dump.specs.Texts.{watch_text}

-- The INSERT lines of all rows of a table.
unfoldable pub rows_script : State → Table → List ℕ
rows_script state table = put_texts table.definition.name (rows_in state table.definition.name)

-- The WATCH line of a standing query, if it has a query.
unfoldable pub watch_script : State → StandingDef → List ℕ
watch_script state standing =
    option_map_or (λ (query : BoundQuery). watch_text standing.name (named_query state.schema query) ++ 10 ∷ [])
    (query_named standing.name state.schema.standing state.queries) []

-- The lines that create all tables, insert all rows, and create all indexes and all standing queries.
unfoldable pub dump_text : State → List ℕ
dump_text state =
    script_of (table_entries state.schema.tables)
    ++ (flat_map (rows_script state) state.schema.tables
    ++ (script_of (index_entries state.schema.tables) ++ flat_map (watch_script state) state.schema.standing))
