use Rattle.std.proofs.Common.{◌≡◌, ◌<◌, Some, slice_get, length, get_or, sym, ap, ◌∙◌, subst, arith}
use Rattle.std.specs.Option.{option_map}
use Rattle.mm_partition.specs.Keys.{AreKeys}
use Rattle.mm_partition.specs.Places.{IsLive, slot_at}
use Rattle.mm_row_order.proofs.InColumn.{prefix_at}
use Rattle.mm_indexed.proofs.Typed.{HasTypes-length}
use Rattle.mm_row_order.specs.InOrder.{HasColumn}
use Rattle.mm_indexed.specs.Kept.{StoredRows}
use Rattle.mm_row_order.specs.Refs.{row_at}
use Rattle.mm_value.specs.Prefix.{order_prefix}
use Rattle.mm_indexed.proofs.indexed_rows.IndexedRows.prefix_of.Goals as goal

pub returns-in-Prefixes : goal.returns-in-Prefixes
returns-in-Prefixes c =
    let rows = c.self.inside.rows in
    let column = c.args.column in
    let at = c.args.at in
    let live : IsLive rows at = subst (λ (v : StoredRows). IsLive v.places at) (sym c.self.view_is) c.requires in
    let size : length live.0 ≡ length rows.types = HasTypes-length rows.types live.0 (c.self.invariant.typed at live.0 live.1) in
    let within : column < length rows.types = omega (arith, c.if-column-width.false, c.width.ensures) in
    let has : HasColumn column (slot_at rows) at = record { row = live.0; live = live.1; column_in = omega (arith, size, within) } in
    let agree = subst (AreKeys column rows) c.in-Prefixes.is c.keys.ensures in
    let here = prefix_at column rows c.in-Prefixes.prefixes.now at c.index_of-in-Prefixes.result agree c.index_of-in-Prefixes.ensures has in
    subst
    (λ (v : StoredRows). option_map order_prefix (slice_get (row_at (slot_at v.places) at) column)
    ≡ Some (get_or c.in-Prefixes.prefixes.now c.index_of-in-Prefixes.result 0))
    c.self.view_is (ap (option_map order_prefix) here.1 ∙ ap Some (sym here.2))
