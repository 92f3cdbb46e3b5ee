-- The conditions by which foreign keys refuse changes.
use Rattle.std.specs.Prelude.{◌≡◌, ℕ, ◌==◌, ◌&&◌, All, Bool, List}
use Rattle.std.specs.List.{list_any}
use Rattle.mm_value.specs.declared.values.Value.{Value}
use Rattle.mm_schema.specs.References.{lacks_target_row, lose_targets, loses_target}
use Rattle.mm_schema.specs.Rows.{Pair}
use Rattle.mm_schema.specs.declared.reference.Reference.{Reference}
use Rattle.mm_tables.specs.Tables.{key_in, slots_in}
use Rattle.mm_link.specs.Edited.{coming}
use Rattle.mm_link.specs.Links.{HasTargetRow}
use Rattle.mm_link.specs.Targets.{SparesReferred, pair_of}
use Rattle.mm_link.specs.declared.link.Link.{Link}
use Rattle.mm_tables.specs.declared.edit.Edit.{Edit}
use Rattle.mm_tables.specs.declared.logged_table.LoggedTable.{LoggedTable}
use Rattle.mm_base.specs.RowLists.{rows_in}

-- The rows in use of a table, in the order of its key.
abbrev pub rows_at : List LoggedTable → ℕ → List (List Value)
rows_at tables table = rows_in (key_in tables table) (slots_in tables table)

-- The reference is of this table, and one of these rows of the table refers to no row.
abbrev pub finds_orphan : List LoggedTable → ℕ → List (List Value) → Reference → Bool
finds_orphan tables table rows reference =
    (reference.from == table) && list_any (lacks_target_row reference.column (key_in tables reference.to) (rows_at tables reference.to)) rows

-- One of these rows of a table refers to no row by one of these references.
abbrev pub has_orphans : List LoggedTable → List Reference → ℕ → List (List Value) → Bool
has_orphans tables references table rows = list_any (finds_orphan tables table rows) references

-- The reference is to this table, and these pairs of a change delete a referenced row of the table or change its key.
abbrev pub makes_orphan : List LoggedTable → ℕ → List Pair → Reference → Bool
makes_orphan tables table pairs reference =
    (reference.to == table) && lose_targets reference.column (key_in tables table) (rows_at tables reference.from) pairs

-- These pairs of a change delete a row of a table that is referenced by one of these references, or change its key.
abbrev pub makes_orphans : List LoggedTable → List Reference → ℕ → List Pair → Bool
makes_orphans tables references table pairs = list_any (makes_orphan tables table pairs) references

-- ---- conditions of the edits, before they are made

-- The reference is of this table, and a new row of an edit refers to no row.
abbrev pub brings_orphan : List LoggedTable → ℕ → List Edit → Reference → Bool
brings_orphan tables table edits reference =
    (reference.from == table)
    && list_any (λ e. list_any (lacks_target_row reference.column (key_in tables reference.to) (rows_at tables reference.to))
    (coming (slots_in tables reference.from) e)) edits

-- If the link is of this table, each new row of an edit has a target.
abbrev pub BringsTargets : List LoggedTable → ℕ → List Edit → Link → Type 0
BringsTargets tables table edits link = link.reference.from ≡ table
    → All (λ e. All (HasTargetRow link.reference.column (key_in tables link.reference.to) (slots_in tables link.reference.to))
    (coming (slots_in tables link.reference.from) e)) edits

-- The reference is to this table, and an edit deletes a referenced row or changes its key.
abbrev pub leaves_orphan : List LoggedTable → ℕ → List Edit → Reference → Bool
leaves_orphan tables table edits reference =
    (reference.to == table)
    && list_any (λ e. loses_target reference.column (key_in tables reference.to) (rows_at tables reference.from)
    (pair_of (slots_in tables reference.to) e).0 (pair_of (slots_in tables reference.to) e).1) edits

-- If the link is to this table, no edit deletes a referenced row or changes its key.
abbrev pub SparesAll : List LoggedTable → ℕ → List Edit → Link → Type 0
SparesAll tables table edits link = link.reference.to ≡ table
    → All (SparesReferred link.reference.column (key_in tables link.reference.to) (slots_in tables link.reference.from)
    (slots_in tables link.reference.to)) edits
