use Rattle.std.proofs.Common.{inl, refl}
use Rattle.std.proofs.lemmas.Bool.{false≢true}
use Rattle.std.proofs.lemmas.Result.{err_from_is_err_and}
use Rattle.mm_lang.proofs.CommandReadings.{table_no_name, table_no_columns, table_keys, table_given}
use Rattle.mm_lang.proofs.read.reading.read_table.Goals as goal

pub returns-in_err-name : goal.returns-in_err-name
returns-in_err-name c =
    let p = err_from_is_err_and c.from_residual.result c.from_residual.ensures.1 in
    rw (p.1, p.2) (table_no_name c.args.reader.now _ (inl c.in_err-name.ensures))

pub returns-in_err-read_in_parentheses : goal.returns-in_err-read_in_parentheses
returns-in_err-read_in_parentheses c =
    let p = err_from_is_err_and c.from_residual-in_err-read_in_parentheses.result c.from_residual-in_err-read_in_parentheses.ensures.1 in
    rw (p.1, p.2) (table_no_columns c.args.reader.now c.name.new.self c.in_ok-name.name _ c.in_ok-name.ensures c.in_err-read_in_parentheses.ensures)

pub returns-in_default : goal.returns-in_default
returns-in_default c =
    table_keys c.args.reader.now c.name.new.self c.read_in_parentheses.new.reader c.in_ok-name.name c.new-items.result.items
    c.read_in_parentheses.new.items.items
    c.in_ok-name.ensures c.new-items.ensures.items c.in_ok-read_in_parentheses.ensures (λ one. false≢true (c.in_default.ensures.variant.1 one))

pub returns : goal.returns
returns c =
    table_given c.args.reader.now c.name.new.self c.read_in_parentheses.new.reader c.in_ok-name.name c.new-items.result.items
    c.read_in_parentheses.new.items.items
    c.in_ok-name.ensures c.new-items.ensures.items c.in_ok-read_in_parentheses.ensures c.in-Some.columns c.in-Some.ensures.value
    (c.in-Some.ensures.variant.0 refl)
