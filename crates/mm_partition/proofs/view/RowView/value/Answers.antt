use Rattle.std.proofs.Common.{length, ap, arith}
use Rattle.std.proofs.lemmas.List.{length-map}
use Rattle.mm_value.specs.Types.{type_of}
use Rattle.mm_partition.specs.Views.{viewed}
use Rattle.mm_partition.proofs.view.RowView.value.Goals as goal

pub cell-requires-clause-column : goal.cell-requires-clause-column
cell-requires-clause-column c = omega (arith, length-map (viewed c.args.self.now) type_of, ap length c.args.self.now.typed, c.requires)

pub returns : goal.returns
returns c = c.cell.ensures
