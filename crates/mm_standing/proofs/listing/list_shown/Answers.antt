-- The values are those of the shown rows, each of which has as many values as the query has fields.
use Rattle.std.proofs.Common.{◌≡◌, ◌*◌, ◌++◌, List, length, sym, ap, ◌∙◌}
use Rattle.std.specs.List.{All}
use Rattle.std.proofs.lemmas.List.{length-map}
use Rattle.std.proofs.lemmas.Result.{IfOk-weaker}
use Rattle.mm_value.specs.Views.{value_of}
use Rattle.mm_value.specs.declared.value_ref.ValueRef.{ValueRef}
use Rattle.mm_value.specs.declared.values.Value.{Value}
use Rattle.mm_schema.specs.Sorting.{in_order}
use Rattle.mm_query.specs.Queries.{bag_of, rows_by_columns}
use Rattle.mm_templist.specs.Pieces.{pieces}
use Rattle.mm_templist.specs.Runs.{referred}
use Rattle.mm_multiset.specs.Counts.{Entries, IsOnce}
use Rattle.mm_multiset.proofs.Walked.{count_walked, once_walked}
use Rattle.mm_standing.specs.Queries.{IsBagOf}
use Rattle.mm_standing.specs.Showing.{rows_shown, values_in_turn}
use Rattle.mm_standing.proofs.Totals.{length_of_shown, rows_wide, shown_from_entries}
use Rattle.mm_standing.proofs.Values.{length_in_turn, pieces_in_turn}
use Rattle.mm_standing.proofs.listing.list_shown.Goals as goal
use Rattle.mm_standing.proofs.listing.list_shown.Goals.{In_ok-push_entries}

abbrev walk_of : (c : In_ok-push_entries) → Entries
walk_of c = c.entries.result

abbrev rows_of : (c : In_ok-push_entries) → List (List Value)
rows_of c = rows_shown c.args.query.now.distinct (walk_of c)

-- The walk has each row once, as often as the bag has it.
once : (c : In_ok-push_entries) → IsOnce (walk_of c)
once c = once_walked (walk_of c) c.args.bag.now.entries c.entries.ensures.entries c.entries.ensures.once

bag : (c : In_ok-push_entries) (rows : List (List Value)) → IsBagOf c.args.bag.now.entries rows → IsBagOf (walk_of c) rows
bag c rows is = λ row. count_walked (walk_of c) c.args.bag.now.entries c.entries.ensures.entries c.entries.ensures.once row ∙ is row

wide : (c : In_ok-push_entries) → All (λ (row : List Value). length row ≡ length c.args.query.now.fields) (rows_of c)
wide c =
    let query = c.args.query.now in
    rows_wide query query.distinct (walk_of c) c.requires.0 (once c) (bag c (bag_of query c.requires.0) c.requires.1)

number : (c : In_ok-push_entries) → length (rows_of c) ≡ c.count_shown-count.result
number c =
    let query = c.args.query.now in
    let rows = bag_of query c.requires.0 in
    length_of_shown (walk_of c) rows (once c) (bag c rows c.requires.1) query
    ∙ sym (length_of_shown c.args.bag.now.entries rows c.entries.ensures.once c.requires.1 query)
    ∙ sym c.count_shown-count.ensures.count

values_are : (c : In_ok-push_entries) → referred c.push_entries.new.values.items ≡ values_in_turn (rows_of c)
values_are c = c.in_ok-push_entries.ensures ∙ ap (λ (refs : List ValueRef). referred refs ++ values_in_turn (rows_of c)) c.in_ok-values.ensures.items

pub sorted-requires : goal.sorted-requires
sorted-requires c =
    let w = (goal.at.sorted-requires c).In_ok-push_entries in
    let refs : List ValueRef = c.push_entries.new.values.items in
    let long = length-map refs value_of in
    let are = ap (λ (values : List Value). length values) (values_are w) in
    let turn = length_in_turn (length c.args.query.now.fields) (rows_of w) (wide w) in
    sym long ∙ are ∙ turn ∙ (λ k. number w k * length (sym c.as_slice-width.ensures k))

pub returns : goal.returns
returns c =
    let w = (goal.at.returns c).In_ok-push_entries in
    let query = c.args.query.now in
    IfOk-weaker c.sorted.result _ _
    (λ shown sorted rows is.
    sorted
    ∙ (λ k. in_order (rows_by_columns (c.as_slice-order.ensures k))
    (pieces (length (c.as_slice-width.ensures k)) (sym (number w) k) (values_are w k)))
    ∙ ap (in_order (rows_by_columns query.order)) (pieces_in_turn (length query.fields) (rows_of w) (wide w))
    ∙ shown_from_entries (walk_of w) rows (once w) (bag w rows is) query)
    c.sorted.ensures
