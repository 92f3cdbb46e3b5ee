use Rattle.std.proofs.Common.{ap, ◌∙◌}
use Rattle.mm_partition.specs.Views.{viewed}
use Rattle.mm_value.specs.Views.{value_of}
use Rattle.mm_templist.proofs.Fields.{read_in}
use Rattle.mm_join.proofs.column.value_in.Goals as goal

pub returns : goal.returns
returns c = ap value_of c.unwrap_or.ensures ∙ read_in (viewed c.args.row) c.args.column c.get.result c.get.ensures
