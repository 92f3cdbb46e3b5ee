use Rattle.std.proofs.Common.{◌≡◌, ◌<◌, [], ◌∷◌, drop, map}
use Rattle.std.specs.List.{All}
use Rattle.mm_txn.specs.RowEdits.{BringNone}
use Rattle.mm_query.specs.Edits.{with_cascades}
use Rattle.mm_plan.specs.Kept.{instance_of}
use Rattle.mm_txn.specs.PlacedEdits.{AreEdits, PlacedEdits, named, placed}
use Rattle.mm_txn.proofs.cascades.cascades.Given as goal

-- the deletions of the tables so far were found
abbrev pub invariant-loop-table : goal.invariant-loop-table
invariant-loop-table l = record {
  are : AreEdits l.store (placed l.own ∷ map placed l.cascaded.items);
  before : All (λ (c : PlacedEdits). c.0 < l.table) (placed l.own ∷ map placed l.cascaded.items);
  removals : All (λ (c : PlacedEdits). BringNone c.1) (placed l.own ∷ map placed l.cascaded.items);
  rest : with_cascades l.catalog l.catalog.tables (instance_of l.store.tables) (named l.catalog l.store.tables (placed l.own) ∷ [])
      ≡ with_cascades l.catalog (drop l.table l.catalog.tables) (drop l.table (instance_of l.store.tables))
      (map (named l.catalog l.store.tables) (placed l.own ∷ map placed l.cascaded.items));
}
