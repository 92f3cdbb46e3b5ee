use Rattle.std.proofs.Common.{◌≡◌, true, sym, ap, ◌∙◌}
use Rattle.std.specs.Prelude.{slice_get}
use Rattle.mm_indexed.proofs.Levels.{one_value}
use Rattle.mm_partition.specs.Places.{Content, row_in, slot_at}
use Rattle.mm_partition.specs.Views.{viewed}
use Rattle.mm_row_order.specs.Refs.{row_at}
use Rattle.mm_schema.proofs.Orderings.{equal_from_is_eq}
use Rattle.mm_schema.specs.Rows.{column_cmp, same_in_column}
use Rattle.mm_link.proofs.Retying.{TiesSlot-same}
use Rattle.mm_link.proofs.link.Link.retie_exchanged.Goals as goal

pub returns-then-has_same_value-clause-tied : goal.returns-then-has_same_value-clause-tied
returns-then-has_same_value-clause-tied c =
    let column = c.args.self.now.reference.column in
    let now = slot_at c.args.from.now.places in
    let row = viewed c.row.result in
    let old = viewed c.hidden_row.result in
    let test : same_in_column column row old ≡ true = sym c.has_same_value.ensures ∙ c.if-has_same_value.true in
    let same : slice_get row column ≡ slice_get (row_at now c.args.other) column =
    one_value column row old (equal_from_is_eq (column_cmp column row old) test)
    ∙ ap (λ (x : Content). slice_get (row_in x) column) (sym c.hidden_row.ensures) in
    TiesSlot-same column c.args.to.now.key (slot_at c.args.to.now.places) now c.args.at (row_at now c.args.other) c.args.self.now.ties
    (row, c.row.ensures) c.requires.tied same
