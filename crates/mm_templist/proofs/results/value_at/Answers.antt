-- The value is that of the row.
use Rattle.std.proofs.Common.{◌≡◌, ap, ◌∙◌, arith}
use Rattle.std.proofs.lemmas.Grind.{common_steps}
use Rattle.mm_partition.specs.Views.{viewed}
use Rattle.mm_query.specs.Atoms.{value_in}
use Rattle.mm_value.specs.Views.{value_of}
use Rattle.mm_templist.proofs.Fields.{read_in}
use Rattle.mm_templist.proofs.results.value_at.Goals as goal

pub returns-in-Some-Some : goal.returns-in-Some-Some
returns-in-Some-Some c =
    let row = viewed c.in-Some-Some.row in
    let read : value_of c.unwrap_or.result ≡ value_in c.args.field.column row =
    ap value_of c.unwrap_or.ensures ∙ read_in row c.args.field.column c.get-in-Some-Some.result c.get-in-Some-Some.ensures in
    grind (arith, common_steps, read)
