use Rattle.mm_value.specs.Views.{value_of}
use Rattle.mm_partition.specs.Places.{slot_at}
use Rattle.mm_indexed.proofs.OneKey.{found_only}
use Rattle.mm_indexed.proofs.indexed_rows.IndexedRows.find.Goals as goal

pub returns-clause-only : goal.returns-clause-only
returns-clause-only c apart =
    found_only c.args.self.now.key (slot_at c.args.self.now.places) (value_of c.args.key) c.args.self.now.refs c.is_kept.ensures.held apart
    c.find_key.result c.find_key.ensures.held c.find_key.ensures.fits
