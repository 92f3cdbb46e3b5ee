-- The type of one more field was found.
use Rattle.std.proofs.Common.{◌≡◌, ◌<◌, ⊎_elim, Option, Some, None, List, [], ◌∷◌, ◌++◌, get_or, length, map, take, sym, ap, ◌∙◌, subst, arith}
use Rattle.std.specs.List.{All}
use Rattle.std.specs.Option.{option_and_then, option_map, option_map_or}
use Rattle.std.specs.Prelude.{slice_get}
use Rattle.std.proofs.lemmas.List.{map-append, take_more}
use Rattle.std.proofs.lemmas.Option.{none-some, slice_get_cases}
use Rattle.mm_value.specs.declared.col_type.ColType.{ColType}
use Rattle.mm_schema.specs.Schema.{Schema, columns_named}
use Rattle.mm_schema.specs.declared.column.Column.{Column}
use Rattle.mm_query.specs.Resolving.{IsFieldWithin}
use Rattle.mm_query.specs.declared.bound_query.FieldPlace.{FieldPlace}
use Rattle.mm_query.specs.declared.query.FromItem.{FromItem}
use Rattle.mm_laws.specs.Typing.{type_at}
use Rattle.mm_txn.proofs.watching.field_types.Goals as goal

-- An existing field has a type.
has_type : (schema : Schema) (from : List FromItem) (field : FieldPlace) → IsFieldWithin schema from field
    → (col_type : ColType) × (type_at schema from field ≡ Some col_type)
has_type schema from field within = by (slice_get from field.place) within
  where
    by : (found : Option FromItem) → field.column < option_map_or (λ (item : FromItem). length (columns_named item.table schema)) found 0
        → (col_type : ColType)
        × (option_map (λ (c : Column). c.col_type)
        (option_and_then (λ (item : FromItem). slice_get (columns_named item.table schema) field.column) found)
        ≡ Some col_type)
    by None h = absurd (omega (arith, h))
    by (Some item) h =
        ⊎_elim
        (λ it. (it.0.col_type, ap (option_map (λ (c : Column). c.col_type)) it.2))
        (λ past. absurd (omega (arith, h, past.0)))
        (slice_get_cases (columns_named item.table schema) field.column).1

-- A value for places without a field.
abbrev nowhere : FieldPlace
nowhere = record { place = 0; column = 0 }

pub unreachable-requires : goal.unreachable-requires
unreachable-requires c =
    let schema = c.args.catalog.now in
    let from = c.as_slice-from.result.now in
    let fields = c.as_slice-fields.result.now in
    let i = c.loop-field.field-index in
    let all : All (IsFieldWithin schema from) fields =
    subst (λ (fs : List FieldPlace). All (IsFieldWithin schema from) fs) (sym c.as_slice-fields.ensures)
    (subst (λ (items : List FromItem). All (IsFieldWithin schema items) c.args.query.now.fields) (sym c.as_slice-from.ensures) c.requires.fields) in
    let found = has_type schema from (get_or fields i nowhere) (all i nowhere c.loop-field-test.true) in
    none-some found.0 (sym c.in_default.is ∙ c.type_at.ensures ∙ found.1)

pub loop-field-preserved : goal.loop-field-preserved
loop-field-preserved c =
    let h = type_at c.args.catalog.now c.as_slice-from.result.now in
    let fields = c.as_slice-fields.result.now in
    let i = c.loop-field.field-index in
    ap (map Some) c.in_ok-push.ensures.items
    ∙ map-append Some c.loop-field.types.items (c.in-Some.col_type ∷ [])
    ∙ (λ k. c.loop-field.invariant k ++ c.in-Some.ensures k ∷ [])
    ∙ sym (ap (map h) (take_more fields i nowhere c.loop-field-test.true) ∙ map-append h (take i fields) (get_or fields i nowhere ∷ []))
