use Rattle.std.proofs.Common.{◌<◌, ℕ, length, ap, arith}
use Rattle.std.specs.List.{All}
use Rattle.mm_row_order.specs.Refs.{Slots}
use Rattle.mm_indexed.specs.Twins.{AreApart}
use Rattle.mm_tables.specs.Edits.{Fits}
use Rattle.mm_tables.specs.Tables.{Stored}
use Rattle.mm_tables.proofs.InTables.{size_from_shapes}
use Rattle.mm_tables.proofs.Slots.{on_true}
use Rattle.tables_tests.proofs.Headings.{in_table, sample_len}
use Rattle.tables_tests.proofs.commands.make.Goals as goal

pub make-requires-clause-command : goal.make-requires-clause-command
make-requires-clause-command g c =
    let tables = c.reserve_log.new.self.tables in
    let within : 0 < length tables = omega (
      arith,
      sample_len c.args.tables.now c.requires,
      size_from_shapes c.args.tables.now.tables c.reserve_for.new.self.tables c.in_ok-reserve_for.ensures.shapes,
      ap (λ (s : Stored). length s.tables) c.in_ok-reserve_log.ensures.rest,
    ) in
    record {
      fits = in_table (λ (k : ℕ) (s : Slots). All (Fits k s) c.args.edits.now) tables 0 c.table.result.now within c.table.ensures
          (on_true _ _ c.assert_that-2.ensures c.all_fit.ensures);
      apart = on_true _ _ c.assert_that-3.ensures c.all_apart.ensures;
    }

pub make-requires-clause-apart : goal.make-requires-clause-apart
make-requires-clause-apart g c =
    let tables = c.reserve_log.new.self.tables in
    let within : 0 < length tables = omega (
      arith,
      sample_len c.args.tables.now c.requires,
      size_from_shapes c.args.tables.now.tables c.reserve_for.new.self.tables c.in_ok-reserve_for.ensures.shapes,
      ap (λ (s : Stored). length s.tables) c.in_ok-reserve_log.ensures.rest,
    ) in
    in_table AreApart tables 0 c.table-2.result.now within c.table-2.ensures (on_true _ _ c.assert_that-4.ensures c.keys_are_apart.ensures)
