use Rattle.std.proofs.Common.{◌≡◌, ◌≢◌, Some, subst}
use Rattle.std.specs.Prelude.{slice_get, IfSome, IfNone}
use Rattle.std.specs.List.{All}
use Rattle.mm_value.specs.Views.{value_of}
use Rattle.mm_partition.specs.Places.{slot_at}
use Rattle.mm_row_order.specs.Refs.{row_at}
use Rattle.mm_indexed.specs.Kept.{StoredRows}
use Rattle.mm_row_order.proofs.Seeks.{IsMonotone-at_value, found_fits, none_fits}
use Rattle.mm_indexed.proofs.indexed_rows.IndexedRows.find_key.Goals as goal

pub find_along-requires-2-clause-monotone : goal.find_along-requires-2-clause-monotone
find_along-requires-2-clause-monotone c = IsMonotone-at_value c.self.inside.key c.self.inside.key (slot_at c.self.inside.rows) (value_of c.args.key)

pub returns-clause-fits : goal.returns-clause-fits
returns-clause-fits c =
    subst
    (λ (v : StoredRows). IfSome c.find_along-2.result (λ at. slice_get (row_at (slot_at v.places) at) v.key ≡ Some (value_of c.args.key)))
    c.self.view_is
    (found_fits c.self.inside.key (slot_at c.self.inside.rows) (value_of c.args.key) c.find_along-2.result c.find_along-2.ensures.fits)

pub returns-clause-none : goal.returns-clause-none
returns-clause-none c =
    subst
    (λ (v : StoredRows). IfNone c.find_along-2.result (All (λ at. slice_get (row_at (slot_at v.places) at) v.key ≢ Some (value_of c.args.key)) v.refs))
    c.self.view_is
    (none_fits c.self.inside.key (slot_at c.self.inside.rows) (value_of c.args.key) c.find_along-2.result c.self.inside.by_key.refs
    c.find_along-2.ensures.none)
