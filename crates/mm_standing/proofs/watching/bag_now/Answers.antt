-- The rows that the plan finds are those of the bag.
use Rattle.std.proofs.Common.{List, map, sym, subst}
use Rattle.std.specs.List.Sorted.{IsPermutation}
use Rattle.std.proofs.lemmas.List.Sorted.{All-permutation, IsPermutation-sym}
use Rattle.mm_partition.specs.Types.{HasTypes}
use Rattle.mm_query.specs.Queries.{bag_of}
use Rattle.mm_store.specs.Tables.{Tables, rows_at}
use Rattle.mm_value.specs.declared.values.Value.{Value}
use Rattle.mm_templist.specs.Results.{projected_rows}
use Rattle.mm_standing.proofs.Found.{bag_moved, found_bag}
use Rattle.mm_standing.proofs.watching.bag_now.Goals as goal
use Rattle.mm_standing.proofs.watching.bag_now.Goals.{In-Ok}

abbrev rows_found : (c : In-Ok) → List (List Value)
rows_found c = projected_rows c.run_query.new.view.store c.in-Ok.list

abbrev due : (c : In-Ok) → List (List Value)
due c = bag_of c.args.query.now (map (rows_at c.args.store.now.tables) c.args.tables.now)

found : (c : In-Ok) → IsPermutation (rows_found c) (due c)
found c =
    let view = c.view-view.result.store in
    let query = c.args.query.now in
    let tables = c.args.tables.now in
    let list = c.in-Ok.list in
    subst (λ (s : Tables). IsPermutation (projected_rows s list) (due c)) (sym c.run_query.ensures.same)
    (subst (λ (s : Tables). IsPermutation (projected_rows view list) (bag_of query (map (rows_at s.tables) tables))) c.view-view.ensures.store
    (found_bag view query tables list c.in-Ok.ensures.tables c.in-Ok.ensures.fields c.in-Ok.ensures.fitting))

pub counted-requires-clause-typed : goal.counted-requires-clause-typed
counted-requires-clause-typed c =
    let at = (goal.at.counted-requires-clause-typed c).In-Ok in
    All-permutation (HasTypes c.args.types.now) (due at) (rows_found at) (IsPermutation-sym (rows_found at) (due at) (found at)) c.requires.typed

pub returns-clause-ok : goal.returns-clause-ok
returns-clause-ok c =
    let at = (goal.at.returns-clause-ok c).In-Ok in
    bag_moved c.in_ok-counted.field-0.entries (rows_found at) (due at) (found at) c.in_ok-counted.ensures.ok
