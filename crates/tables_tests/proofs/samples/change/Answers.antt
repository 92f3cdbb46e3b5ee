use Rattle.std.proofs.Common.{◌<◌, ℕ, length, ap, arith}
use Rattle.mm_row_order.specs.Refs.{Slots}
use Rattle.mm_tables.specs.Edits.{Fits}
use Rattle.mm_tables.specs.Tables.{Stored}
use Rattle.mm_tables.proofs.InTables.{size_from_shapes}
use Rattle.mm_tables.proofs.Slots.{on_true}
use Rattle.tables_tests.proofs.Headings.{in_table, sample_len}
use Rattle.tables_tests.proofs.samples.change.Goals as goal

pub change-requires-clause-fits : goal.change-requires-clause-fits
change-requires-clause-fits g c =
    let within : c.args.table < length c.reserve_log.new.self.tables = omega (
      arith,
      sample_len c.args.tables.now c.requires.sample,
      size_from_shapes c.args.tables.now.tables c.reserve_for.new.self.tables c.in_ok-reserve_for.ensures.shapes,
      ap (λ (s : Stored). length s.tables) c.in_ok-reserve_log.ensures.rest,
      c.requires.within,
    ) in
    in_table (λ (k : ℕ) (s : Slots). Fits k s c.args.edit) c.reserve_log.new.self.tables c.args.table c.table.result.now within c.table.ensures
    (on_true _ _ c.assert_that.ensures c.fits.ensures)
