-- The change of the count of a row in a bag.
use Rattle.std.specs.Prelude.{ℕ, ℤ, pos, ◌-ℤ◌, List, map}
use Rattle.mm_value.specs.declared.values.Value.{Value}
use Rattle.mm_query.specs.Queries.{bag_of}
use Rattle.mm_query.specs.declared.bound_query.BoundQuery.{BoundQuery}
use Rattle.mm_query.specs.declared.query.FromItem.{FromItem}
use Rattle.mm_multiset.specs.Counts.{count_of}

-- The count of a row in a query's bag over some lists, one for each table of FROM, minus the count over other lists.
abbrev pub change_between : BoundQuery → List (List (List Value)) → List (List (List Value)) → List Value → ℤ
change_between query before after row = pos (count_of row (bag_of query after)) -ℤ pos (count_of row (bag_of query before))

-- The rows of the tables of FROM, given the rows of the table with each name.
abbrev pub lists_of : BoundQuery → (List ℕ → List (List Value)) → List (List (List Value))
lists_of query rows = map (λ (item : FromItem). rows item.table) query.from

-- The count of a row in a query's bag after a change minus its count before.
abbrev pub change_of : BoundQuery → (List ℕ → List (List Value)) → (List ℕ → List (List Value)) → List Value → ℤ
change_of query before after row = change_between query (lists_of query before) (lists_of query after) row
