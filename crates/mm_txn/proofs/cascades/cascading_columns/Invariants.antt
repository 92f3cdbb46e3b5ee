use Rattle.std.proofs.Common.{◌≡◌, ◌∷◌, ◌++◌, Some, drop, map, slice_get}
use Rattle.mm_schema.specs.declared.table.Table.{Table}
use Rattle.mm_txn.specs.Cascades.{cascades_from, placed_cascade}
use Rattle.mm_txn.specs.PlacedEdits.{placed}
use Rattle.mm_txn.proofs.cascades.cascading_columns.Given as goal

-- the CASCADE columns so far were found
abbrev pub invariant-loop-place : goal.invariant-loop-place
invariant-loop-place l = (t : Table) → slice_get l.catalog.tables l.table ≡ Some t
    → cascades_from l.catalog (placed l.own ∷ map placed l.cascaded) 0 t.definition.columns
    ≡ map placed_cascade l.found.items ++ cascades_from l.catalog (placed l.own ∷ map placed l.cascaded) l.place (drop l.place t.definition.columns)
