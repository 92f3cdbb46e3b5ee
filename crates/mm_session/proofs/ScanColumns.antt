-- The columns of the rows of a whole table.
use Rattle.std.proofs.Common.{◌≡◌, ℕ, false, List, [], ◌∷◌, Option, Some, None, is_some, refl, ap, ◌∙◌}
use Rattle.std.specs.List.{find}
use Rattle.std.specs.Option.{option_map_or, option_or}
use Rattle.std.proofs.lemmas.Bool.{cond-true, or_parts}
use Rattle.std.proofs.lemmas.List.Folds.{find-append}
use Rattle.mm_schema.specs.Columns.{has_duplicate_names}
use Rattle.mm_schema.specs.Indexes.{index_named}
use Rattle.mm_schema.specs.Name.{same_name}
use Rattle.mm_schema.specs.Refused.{first_refusal}
use Rattle.mm_schema.specs.Schema.{columns_named, table_named, with_table}
use Rattle.mm_schema.specs.declared.index.IndexDef.{IndexDef}
use Rattle.mm_schema.specs.declared.table.Table.{Table}
use Rattle.mm_schema.specs.declared.table.TableDef.{TableDef}
use Rattle.mm_schema.proofs.NameLemmas.{same_name_refl}
use Rattle.mm_query.specs.Machine.{Outcome, conditions, step}
use Rattle.mm_query.specs.State.{State}
use Rattle.mm_query.specs.declared.command.Command.TheVariants.{Define, Scan, ScanIndex}
use Rattle.mm_query.specs.declared.command.Definition.TheVariants as define
use Rattle.mm_query.proofs.Due.{step-done}
use Rattle.mm_query.proofs.PlacedQueries.{none_hold}
use Rattle.mm_session.specs.Columns.{columns_of}

none_found : (found : Option Table) → is_some found ≡ false → found ≡ None
none_found None none = refl
none_found (Some table) none = absurd (cc)

pub scan_columns : (definition : TableDef) (state : State) → first_refusal (conditions (Define (define.Table definition)) state) ≡ None
    → columns_of (Scan definition.name) (step (Define (define.Table definition)) state).state ≡ definition.columns
scan_columns definition state due =
    let hold = none_hold (conditions (Define (define.Table definition)) state) due in
    let own = or_parts (is_some (table_named definition.name state.schema)) (has_duplicate_names definition.columns) hold.1.1.0 in
    let free : table_named definition.name state.schema ≡ None = none_found (table_named definition.name state.schema) own.0 in
    let added : Table = record { definition = definition; indexes = [] } in
    let found : table_named definition.name (with_table definition state.schema) ≡ Some added =
    find-append (λ (table : Table). same_name definition.name table.definition.name) state.schema.tables (added ∷ [])
    ∙ ap (λ (o : Option Table). option_or o (find (λ (table : Table). same_name definition.name table.definition.name) (added ∷ []))) free
    ∙ cond-true (same_name definition.name definition.name) (Some added) None (same_name_refl definition.name) in
    ap (λ (o : Outcome). columns_of (Scan definition.name) o.state) (step-done (Define (define.Table definition)) state due)
    ∙ ap (λ (o : Option Table). option_map_or (λ (table : Table). table.definition.columns) o []) found

pub scan_index_columns : (name : List ℕ) (index : IndexDef) (state : State) → index_named name state.schema ≡ Some index
    → columns_of (ScanIndex name) state ≡ columns_of (Scan index.table) state
scan_index_columns name index state found =
    ap (λ (o : Option IndexDef). option_map_or (λ (own : IndexDef). columns_named own.table state.schema) o []) found
