use Rattle.std.proofs.Common.{inl}
use Rattle.std.proofs.lemmas.Result.{err_from_is_err_and}
use Rattle.mm_lang.proofs.SelectReadings.{from_no_table, from_no_alias, from_given}
use Rattle.mm_lang.proofs.read.select.FromPhrasePhrase.read.Goals as goal

pub returns-in_err-table : goal.returns-in_err-table
returns-in_err-table c =
    let p = err_from_is_err_and c.from_residual.result c.from_residual.ensures.1 in
    rw (p.1, p.2) (from_no_table c.args.reader.now _ (inl c.in_err-table.ensures))

pub returns-in_err-alias : goal.returns-in_err-alias
returns-in_err-alias c =
    let p = err_from_is_err_and c.from_residual-in_err-alias.result c.from_residual-in_err-alias.ensures.1 in
    rw (p.1, p.2) (from_no_alias c.args.reader.now c.name.new.self c.in_ok-table.table c.in_ok-table.ensures _ (inl c.in_err-alias.ensures))

pub returns : goal.returns
returns c =
    from_given c.args.reader.now c.name.new.self c.in_ok-table.table c.in_ok-table.ensures c.name-2.new.self c.in_ok-alias.alias c.in_ok-alias.ensures
