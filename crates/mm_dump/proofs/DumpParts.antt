-- The bytes of a dump in the parts in which they are written.
use Rattle.std.proofs.Common.{◌≡◌, ℕ, List, [], ◌∷◌, ◌++◌, Some, map, refl, sym, ap, ◌∙◌}
use Rattle.std.specs.List.{flat_map}
use Rattle.std.specs.Option.{option_map_or}
use Rattle.std.specs.Prelude.{Option, None}
use Rattle.mm_schema.specs.Schema.{Schema}
use Rattle.mm_schema.specs.declared.index.IndexDef.{IndexDef}
use Rattle.mm_schema.specs.declared.standing.StandingDef.{StandingDef}
use Rattle.mm_schema.specs.declared.table.Table.{Table}
use Rattle.mm_query.specs.Standing.{query_named}
use Rattle.mm_query.specs.State.{State}
use Rattle.mm_query.specs.declared.bound_query.BoundQuery.{BoundQuery}
use Rattle.mm_lang.specs.QueryText.{named_query}
use Rattle.mm_lang.specs.ReplyText.{index_line}
use Rattle.mm_dump.specs.DumpText.{watch_script}
use Rattle.mm_dump.specs.Dumps.{script_of, table_entries}
use Rattle.mm_dump.specs.Entries.{Entry, entry_text}
use Rattle.mm_dump.specs.Entries as entry
use Rattle.mm_dump.specs.Texts.{watch_text}

-- The line that creates a table, with its line feed.
abbrev pub table_script : Table → List ℕ
table_script table = entry_text (entry.Table table.definition) ++ 10 ∷ []

pub tables_script : (tables : List Table) → script_of (table_entries tables) ≡ flat_map table_script tables
tables_script [] = refl
tables_script (t ∷ ts) = ap (λ l. table_script t ++ l) (tables_script ts)

-- The lines that create indexes.
pub indexes_script : (indexes : List IndexDef) → script_of (map (λ (index : IndexDef). entry.Index index) indexes) ≡ flat_map index_line indexes
indexes_script [] = refl
indexes_script (i ∷ more) = ap (λ l. index_line i ++ l) (indexes_script more)

-- The line of a standing query that has a query, ..
pub watch_is : (state : State) (standing : StandingDef) (catalog : Schema) (query : BoundQuery) → catalog ≡ state.schema
    → Some query ≡ query_named standing.name state.schema.standing state.queries
    → watch_script state standing ≡ watch_text standing.name (named_query catalog query) ++ 10 ∷ []
unfolding watch_script
watch_is state standing catalog query c found =
    ap (λ (o : Option BoundQuery). option_map_or (λ (q : BoundQuery). watch_text standing.name (named_query state.schema q) ++ 10 ∷ []) o []) (sym found)
    ∙ ap (λ schema. watch_text standing.name (named_query schema query) ++ 10 ∷ []) (sym c)

-- .. and of one that has none.
pub no_watch : (state : State) (standing : StandingDef) → None ≡ query_named standing.name state.schema.standing state.queries
    → watch_script state standing ≡ []
unfolding watch_script
no_watch state standing none =
    ap (λ (o : Option BoundQuery). option_map_or (λ (q : BoundQuery). watch_text standing.name (named_query state.schema q) ++ 10 ∷ []) o []) (sym none)
