use Rattle.std.proofs.lemmas.Result.{err_from_is_err_and}
use Rattle.mm_lang.proofs.TupleValues.{tuple_none, tuple_no_values, tuple_open, tuple_given}
use Rattle.mm_lang.proofs.read.tuples.TuplePhrasePhrase.read.Goals as goal

pub returns-in_err-symbol : goal.returns-in_err-symbol
returns-in_err-symbol c =
    let p = err_from_is_err_and c.from_residual.result c.from_residual.ensures.1 in
    rw (p.1, p.2) (tuple_none c.args.reader.now _ c.in_err-symbol.ensures)

pub returns-in_err-read_values : goal.returns-in_err-read_values
returns-in_err-read_values c =
    let p = err_from_is_err_and c.from_residual-in_err-read_values.result c.from_residual-in_err-read_values.ensures.1 in
    rw (p.1, p.2) (tuple_no_values c.args.reader.now c.symbol.new.self c.in_ok-symbol.ensures _ c.in_err-read_values.ensures)

pub returns-in_err-symbol-2 : goal.returns-in_err-symbol-2
returns-in_err-symbol-2 c =
    let p = err_from_is_err_and c.from_residual-in_err-symbol-2.result c.from_residual-in_err-symbol-2.ensures.1 in
    rw (p.1, p.2)
    (tuple_open c.args.reader.now c.symbol.new.self c.in_ok-symbol.ensures c.read_values.new.reader c.in_ok-tuple.tuple c.read_values.new.tuple
    c.in_ok-tuple.ensures.ok c.in_ok-read_values.ensures _ c.in_err-symbol-2.ensures)

pub returns : goal.returns
returns c =
    tuple_given c.args.reader.now c.symbol.new.self c.in_ok-symbol.ensures c.read_values.new.reader c.in_ok-tuple.tuple c.read_values.new.tuple
    c.in_ok-tuple.ensures.ok c.in_ok-read_values.ensures c.symbol-2.new.self c.in_ok-symbol-2.ensures
