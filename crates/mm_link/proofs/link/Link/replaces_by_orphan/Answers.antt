use Rattle.std.proofs.Common.{◌≡◌, true, sym, ap, ◌∙◌}
use Rattle.std.specs.Prelude.{not, slice_get}
use Rattle.mm_indexed.proofs.Levels.{one_value}
use Rattle.mm_partition.specs.Places.{Content, row_in, slot_at}
use Rattle.mm_partition.specs.Views.{viewed}
use Rattle.mm_row_order.specs.Refs.{row_at}
use Rattle.mm_schema.proofs.Orderings.{equal_from_is_eq}
use Rattle.mm_schema.specs.Rows.{column_cmp, same_in_column}
use Rattle.mm_link.specs.Links.{HasTargetRow}
use Rattle.mm_link.proofs.Referring.{lacks_none, on_false_from, target_kept}
use Rattle.mm_link.proofs.link.Link.replaces_by_orphan.Goals as goal

pub returns-else-not-has_same_value-clause-rows : goal.returns-else-not-has_same_value-clause-rows
returns-else-not-has_same_value-clause-rows c =
    let column = c.args.self.now.reference.column in
    let to = c.args.to.now in
    let now = slot_at c.args.from.now.places in
    let then = slot_at to.places in
    let old = viewed c.row.result in
    let row = viewed c.hidden_row.result in
    let test : same_in_column column old row ≡ true = sym c.has_same_value.ensures ∙ c.if-not-has_same_value.false in
    let same : slice_get (row_at now c.args.other) column ≡ slice_get (row_at now c.args.at) column =
    ap (λ (x : Content). slice_get (row_in x) column) c.hidden_row.ensures
    ∙ (sym (one_value column old row (equal_from_is_eq (column_cmp column old row) test))
    ∙ ap (λ (x : Content). slice_get (row_in x) column) (sym c.row.ensures)) in
    let has : HasTargetRow column to.key then (row_at now c.args.other) =
    target_kept column to.key now then c.args.self.now.ties c.requires.follows c.args.at c.requires.live (row_at now c.args.other) same in
    ap not c.if-not-has_same_value.false
    ∙ sym (lacks_none column to.key (row_at now c.args.other) to.places.types then to.refs to.indexes c.is_kept.ensures has)

pub returns-else-not-has_same_value-clause-found : goal.returns-else-not-has_same_value-clause-found
returns-else-not-has_same_value-clause-found c =
    let column = c.args.self.now.reference.column in
    let to = c.args.to.now in
    let now = slot_at c.args.from.now.places in
    let then = slot_at to.places in
    let old = viewed c.row.result in
    let row = viewed c.hidden_row.result in
    let test : same_in_column column old row ≡ true = sym c.has_same_value.ensures ∙ c.if-not-has_same_value.false in
    let same : slice_get (row_at now c.args.other) column ≡ slice_get (row_at now c.args.at) column =
    ap (λ (x : Content). slice_get (row_in x) column) c.hidden_row.ensures
    ∙ (sym (one_value column old row (equal_from_is_eq (column_cmp column old row) test))
    ∙ ap (λ (x : Content). slice_get (row_in x) column) (sym c.row.ensures)) in
    let has : HasTargetRow column to.key then (row_at now c.args.other) =
    target_kept column to.key now then c.args.self.now.ties c.requires.follows c.args.at c.requires.live (row_at now c.args.other) same in
    on_false_from (HasTargetRow column to.key then (row_at now c.args.other)) (not c.has_same_value.result) (λ no. has)
