use Rattle.std.proofs.Common.{◌≡◌, ◌≤◌, ◌++◌, [], ◌∷◌, Some, length, map, take}
use Rattle.std.specs.List.{flat_map}
use Rattle.mm_schema.specs.Rows.{most_rows}
use Rattle.mm_query.specs.Queries.{rows_read}
use Rattle.mm_query.specs.Walk.{found_behind}
use Rattle.mm_query.proofs.plain.+walk.Given as goal

abbrev pub decreases-walk : goal.decreases-walk
decreases-walk l = length l.lists.now

abbrev pub invariant-loop-row : goal.invariant-loop-row
invariant-loop-row l = record {
  chosen : l.chosen.items ≡ l.fn.chosen.items;
  small : length l.found.items ≤ most_rows;
  found : l.found.items ≡ l.fn.found.items
      ++ flat_map (λ row. found_behind l.query (rows_read (λ r. r.now) l.fn.chosen.items ++ Some row ∷ []) (map (λ rows. rows.now) l.rest))
      (take l.row-index l.rows);
}
