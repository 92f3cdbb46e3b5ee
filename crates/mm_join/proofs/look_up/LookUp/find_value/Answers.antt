use Rattle.std.proofs.Common.{◌++◌, List, refl, sym, ap, ◌∙◌, subst}
use Rattle.std.specs.Prelude.{◌==◌}
use Rattle.std.specs.List.{filter}
use Rattle.std.specs.List.Sorted.{IsPermutation}
use Rattle.std.proofs.lemmas.Bool.{eq-eqb}
use Rattle.mlhash.specs.Bag.{refs_of}
use Rattle.mm_partition.specs.Places.{slot_at}
use Rattle.mm_query.specs.Atoms.{value_in}
use Rattle.mm_indexed.specs.Reads.{AreMatches}
use Rattle.mm_row_order.specs.Refs.{row_at}
use Rattle.mm_select.proofs.Along.{appended}
use Rattle.mm_value.specs.Hash.{value_hash}
use Rattle.mm_value.specs.Prefix.{order_prefix}
use Rattle.mm_value.specs.Views.{value_of}
use Rattle.mm_value.specs.declared.row_ref.RowRef.{RowRef}
use Rattle.mm_join.proofs.Found.{column_there, finds_matches, finds_taken, found_of_hash, run_of_walk}
use Rattle.mm_join.proofs.Success.{on_success}
use Rattle.mm_join.specs.AccessMethods.{Finds, IsAmong}
use Rattle.mm_join.specs.declared.look_up.Among.TheVariants as among
use Rattle.mm_store.proofs.Shown.{table_seen}
use Rattle.mm_join.proofs.look_up.LookUp.find_value.Goals as goal

pub matches-requires-clause-index : goal.matches-requires-clause-index
matches-requires-clause-index c = λ stored here. (
  c.args.self.now.key.column,
  subst (IsAmong stored c.args.self.now.key.column) c.in-Index.is (c.requires.among stored here),
)

pub returns-in-Index-clause-found : goal.returns-in-Index-clause-found
returns-in-Index-clause-found c =
    on_success _ _ c.matches.result c.matches.ensures.ok (λ ok. λ stored here.
    let column = c.args.self.now.key.column in
    let value = value_of c.args.value in
    let kept = (table_seen c.args.view.now c.args.table stored here).kept in
    let on = subst (IsAmong stored column) c.in-Index.is (c.requires.among stored here) in
    subst (λ a. Finds stored column a value c.matches.new.out.items) (sym c.in-Index.is)
    (finds_matches stored kept c.in-Index.index column (column_there stored kept c.in-Index.index column on) value c.matches.new.out.items
    (appended (AreMatches column (slot_at stored.places) value stored.refs) c.clear.new.self.items c.matches.new.out.items c.clear.ensures.items
    (ok stored column here on))))

pub returns-in-Built-clause-found : goal.returns-in-Built-clause-found
returns-in-Built-clause-found c =
    on_success _ _ c.matches-in-Built.result c.matches-in-Built.ensures.ok (λ added. λ stored here.
    let column = c.args.self.now.key.column in
    let value = value_of c.args.value in
    let all = subst (IsAmong stored column) c.in-Built.is (c.requires.among stored here) in
    subst (λ a. Finds stored column a value c.matches-in-Built.new.out.items) (sym c.in-Built.is)
    (finds_taken stored column (among.Built c.in-Built.pairs) value (eq-eqb (value_hash value) (value_hash value) refl) c.matches-in-Built.new.out.items
    (subst (λ n. IsPermutation c.matches-in-Built.new.out.items
    (filter (λ at. value_hash (value_in column (row_at (slot_at stored.places) at)) == n) stored.refs)) c.hash64.ensures
    (found_of_hash column (slot_at stored.places) c.hash64.result c.in-Built.pairs.entries stored.refs all c.matches-in-Built.new.out.items
    (subst (λ (l : List RowRef). IsPermutation l (refs_of c.hash64.result c.in-Built.pairs.entries))
    (sym (added.appends ∙ ap (λ l. l ++ added.behind) c.clear.ensures.items)) added.same_bag)))))

pub returns-in-Walk-clause-found : goal.returns-in-Walk-clause-found
returns-in-Walk-clause-found c =
    on_success _ _ c.find.result c.find.ensures.run (λ run. λ stored here.
    let column = c.args.self.now.key.column in
    let value = value_of c.args.value in
    let (walk, same, is) = subst (IsAmong stored column) c.in-Walk.is (c.requires.among stored here) in
    subst (λ a. Finds stored column a value c.find.new.found.items) (sym c.in-Walk.is)
    (finds_taken stored column (among.Walk c.in-Walk.cursor) value (eq-eqb (order_prefix value) (order_prefix value) refl) c.find.new.found.items
    (subst (λ n. IsPermutation c.find.new.found.items
    (filter (λ at. order_prefix (value_in column (row_at (slot_at stored.places) at)) == n) stored.refs)) c.order_prefix.ensures
    (subst (λ (l : List RowRef). IsPermutation l
    (filter (λ at. order_prefix (value_in column (row_at (slot_at stored.places) at)) == c.order_prefix.result) stored.refs)) (sym run)
    (run_of_walk column (slot_at stored.places) c.order_prefix.result c.in-Walk.cursor walk stored.refs same is)))))
