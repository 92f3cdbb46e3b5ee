use Rattle.std.proofs.Common.{inl}
use Rattle.std.proofs.lemmas.Result.{err_from_is_err_and}
use Rattle.mm_lang.proofs.CommandReadings.{insert_no_name, insert_no_tuples, insert_given}
use Rattle.mm_lang.proofs.read.reading.read_insert.Goals as goal

pub returns-in_err-table : goal.returns-in_err-table
returns-in_err-table c =
    let p = err_from_is_err_and c.from_residual.result c.from_residual.ensures.1 in
    rw (p.1, p.2) (insert_no_name c.args.reader.now _ (inl c.in_err-table.ensures))

pub returns-in_err-tuples : goal.returns-in_err-tuples
returns-in_err-tuples c =
    let p = err_from_is_err_and c.from_residual-in_err-tuples.result c.from_residual-in_err-tuples.ensures.1 in
    rw (p.1, p.2) (insert_no_tuples c.args.reader.now c.name.new.self c.in_ok-table.table _ c.in_ok-table.ensures c.in_err-tuples.ensures)

pub returns : goal.returns
returns c =
    insert_given c.args.reader.now c.name.new.self c.read_items.new.reader c.in_ok-table.table c.in_ok-tuples.tuples c.new-tuples.result
    c.in_ok-table.ensures c.in_ok-tuples.ensures c.new-tuples.ensures
