use Rattle.std.proofs.Common.{◌≡◌, false, take}
use Rattle.std.specs.List.{list_any}
use Rattle.mm_schema.specs.Schema.{lacks_table}
use Rattle.mm_query.specs.Resolving.{places_in}
use Rattle.mm_query.specs.declared.query.FromItem.{FromItem}
use Rattle.mm_query.proofs.scope.find_tables.Given as goal

-- the tables so far exist, and have these positions
abbrev pub invariant-loop-item : goal.invariant-loop-item
invariant-loop-item l = record {
  places : l.tables ≡ places_in l.catalog (take l.item-index l.from);
  there : list_any (λ (item : FromItem). lacks_table item.table l.catalog) (take l.item-index l.from) ≡ false;
}
