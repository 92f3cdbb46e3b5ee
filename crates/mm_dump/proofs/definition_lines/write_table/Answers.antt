use Rattle.std.proofs.Common.{[], ◌∷◌, refl}
use Rattle.std.proofs.lemmas.Result.{err_from_is_err_and}
use Rattle.mm_value.proofs.Writing.{Writes-stops, Writes-then}
use Rattle.mm_dump.proofs.definition_lines.write_table.Goals as goal

pub returns-in_err-write_table_definition : goal.returns-in_err-write_table_definition
returns-in_err-write_table_definition g c =
    let p = err_from_is_err_and c.from_residual.result c.from_residual.ensures.1 in
    Writes-stops (10 ∷ []) refl p.1 c.in_err-write_table_definition.ensures

pub returns : goal.returns
returns g c = Writes-then refl c.in_ok-write_table_definition.ensures c.put_all.ensures
