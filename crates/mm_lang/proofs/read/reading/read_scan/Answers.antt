use Rattle.std.proofs.Common.{inl, subst}
use Rattle.std.proofs.lemmas.Result.{err_from_is_err_and}
use Rattle.mm_lang.specs.Grammar.{scan, scan_of}
use Rattle.mm_lang.specs.Reading.{literals_of}
use Rattle.mm_lang.specs.steps.Parsing.{Gives}
use Rattle.mm_lang.proofs.CommandReadings.{scan_no_name, scan_given}
use Rattle.mm_lang.proofs.read.reading.read_scan.Goals as goal

pub returns-in_err-name : goal.returns-in_err-name
returns-in_err-name c =
    let p = err_from_is_err_and c.from_residual.result c.from_residual.ensures.1 in
    rw (p.1, p.2)
    (scan_no_name c.args.reader.now c.skip_keyword-by_index.new.self c.skip_keyword-by_index.result c.skip_keyword-by_index.ensures _
    (inl c.in_err-name.ensures))

pub returns-then-by_index : goal.returns-then-by_index
returns-then-by_index c =
    subst (λ b. Gives scan literals_of c.args.reader.now c.name.new.self (scan_of b c.in_ok-name.name)) c.if-by_index.true
    (scan_given c.args.reader.now c.skip_keyword-by_index.new.self c.skip_keyword-by_index.result c.skip_keyword-by_index.ensures c.name.new.self
    c.in_ok-name.name c.in_ok-name.ensures)

pub returns-else-by_index : goal.returns-else-by_index
returns-else-by_index c =
    subst (λ b. Gives scan literals_of c.args.reader.now c.name.new.self (scan_of b c.in_ok-name.name)) c.if-by_index.false
    (scan_given c.args.reader.now c.skip_keyword-by_index.new.self c.skip_keyword-by_index.result c.skip_keyword-by_index.ensures c.name.new.self
    c.in_ok-name.name c.in_ok-name.ensures)
