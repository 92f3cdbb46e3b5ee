use Rattle.std.proofs.Common.{◌≡◌, List, cond, map, sym, ◌∙◌}
use Rattle.mm_value.specs.declared.value_ref.ValueRef.{ValueRef}
use Rattle.mm_value.specs.declared.values.Value.{Value}
use Rattle.mm_schema.specs.Sorting.{in_order}
use Rattle.mm_query.specs.Queries.{one_of_each, rows_by_columns}
use Rattle.mm_templist.specs.Pieces.{pieces}
use Rattle.mm_templist.specs.Runs.{referred}
use Rattle.mm_templist.specs.Shown.{placed_row}
use Rattle.mm_templist.specs.declared.shown.Placed.{Placed}
use Rattle.mm_templist.proofs.Placed.{placed_in_order, placed_once_in_order}
use Rattle.mm_templist.proofs.shown.ShownRows.sorted.Goals as goal
use Rattle.mm_templist.proofs.shown.ShownRows.sorted.Goals.{then-distinct, else-distinct}

pub returns : goal.returns
returns c =
    let order = c.args.order.now in
    let width = c.args.width in
    let refs : List ValueRef = c.as_slice-refs.result.now in
    let all : List (List Value) = pieces width c.args.count (referred c.args.values.items) in
    let placed : List Placed = c.in_ok-places.places.items in
    let sorted : List Placed = c.sort_places.new.places.items in
    let rows : map (placed_row width refs) placed ≡ all =
    c.in_ok-places.ensures.rows ∙ (λ k. pieces width c.args.count (referred (c.as_slice-refs.ensures.value k))) in
    elim c.if-distinct.branch [
      | then-distinct w ↦
          rw w.places-is
          ((λ k. map (placed_row width (sym c.as_slice-refs.ensures.value k)) (w.drop_equal_neighbours.ensures k))
          ∙ (placed_once_in_order order width refs all placed sorted rows c.in_ok-places.ensures.prefixes c.sort_places.ensures.permutation
          c.sort_places.ensures.sorted
          ∙ (λ k. in_order (rows_by_columns order) (cond (sym w.if-distinct.true k) (one_of_each all) all))))
      | else-distinct w ↦
          rw w.places-is
          ((λ k. map (placed_row width (sym c.as_slice-refs.ensures.value k)) sorted)
          ∙ (placed_in_order order width refs all placed sorted rows c.in_ok-places.ensures.prefixes c.sort_places.ensures.permutation
          c.sort_places.ensures.sorted
          ∙ (λ k. in_order (rows_by_columns order) (cond (sym w.if-distinct.false k) (one_of_each all) all))))
    ]
