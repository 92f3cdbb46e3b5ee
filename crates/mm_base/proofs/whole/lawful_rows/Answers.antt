use Rattle.std.proofs.Common.{List, length, ap, arith}
use Rattle.std.proofs.lemmas.List.{length-map}
use Rattle.mm_partition.specs.Places.{slot_at}
use Rattle.mm_row_order.specs.Refs.{row_at}
use Rattle.mm_tables.specs.Tables.{slots_of}
use Rattle.mm_value.specs.declared.values.Value.{Value}
use Rattle.mm_base.proofs.InBases.{read_rows}
use Rattle.mm_base.proofs.whole.lawful_rows.Goals as goal

pub returns-clause-rows : goal.returns-clause-rows
returns-clause-rows c =
    let tables = c.args.tables.now.tables in
    read_rows tables c.args.table c.read-rows.result.now c.requires.within c.read-rows.ensures.table c.is_whole.ensures
    (c.requires.lawful c.args.table (omega (arith, c.requires.within, length-map tables slots_of))).apart

pub returns-clause-few : goal.returns-clause-few
returns-clause-few c =
    let rows = c.read-rows.result.now in
    omega (
      arith,
      (c.requires.lawful c.args.table (omega (arith, c.requires.within, length-map c.args.tables.now.tables slots_of))).few,
      ap (λ (all : List (List Value)). length all) (returns-clause-rows c),
      length-map rows.refs (row_at (slot_at rows.places)),
    )
