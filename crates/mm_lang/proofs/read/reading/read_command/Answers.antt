use Rattle.std.proofs.Common.{Err, sym, ap, ◌∙◌, subst}
use Rattle.std.proofs.lemmas.Result.{err_from_is_err_and}
use Rattle.mm_lang.specs.Grammar.{command_of}
use Rattle.mm_lang.specs.Reading.{read_as}
use Rattle.mm_lang.specs.Tokens.{tokens}
use Rattle.mm_lang.specs.steps.Parsing.{AnswersReading}
use Rattle.mm_lang.proofs.Commands.{no_keyword, nothing_behind, unfinished, finished}
use Rattle.mm_lang.proofs.read.reading.read_command.Goals as goal

pub returns-in_err-keyword : goal.returns-in_err-keyword
returns-in_err-keyword c =
    let p = err_from_is_err_and c.from_residual.result c.from_residual.ensures.1 in
    let line = ap (λ l. read_as (command_of (tokens l))) c.new-reader.ensures.rest in
    rw (p.1, p.2) (subst (λ due. AnswersReading due (Err c.in_err-keyword.field-0.0)) line (no_keyword c.new-reader.result _ c.in_err-keyword.ensures))

pub returns-in_err-command : goal.returns-in_err-command
returns-in_err-command c =
    let p = err_from_is_err_and c.from_residual-in_err-command.result c.from_residual-in_err-command.ensures.1 in
    let line = ap (λ l. read_as (command_of (tokens l))) c.new-reader.ensures.rest in
    rw (p.1, p.2)
    (subst (λ due. AnswersReading due (Err c.in_err-command.field-0.0)) line
    (nothing_behind c.new-reader.result c.keyword.new.self c.in_ok-keyword.keyword _ c.in_ok-keyword.ensures c.in_err-command.ensures.reads
    (λ memory. c.in_err-command.ensures.memory (ap Err memory))))

pub returns-in_err-finish : goal.returns-in_err-finish
returns-in_err-finish c =
    let p = err_from_is_err_and c.from_residual-in_err-finish.result c.from_residual-in_err-finish.ensures.1 in
    let line = ap (λ l. read_as (command_of (tokens l))) c.new-reader.ensures.rest in
    rw (p.1, p.2)
    (subst (λ due. AnswersReading due (Err c.in_err-finish.field-0.0)) line
    (unfinished c.new-reader.result c.keyword.new.self c.read_behind.new.reader c.in_ok-keyword.keyword c.in_ok-command.command
    c.new-reader.ensures.fault c.in_ok-keyword.ensures c.in_ok-command.ensures.reads _ c.in_err-finish.ensures))

pub returns : goal.returns
returns c =
    let line = ap (λ l. read_as (command_of (tokens l))) c.new-reader.ensures.rest in
    sym line ∙ finished c.new-reader.result c.keyword.new.self c.read_behind.new.reader c.in_ok-keyword.keyword c.in_ok-command.command
    c.new-reader.ensures.fault c.in_ok-keyword.ensures c.in_ok-command.ensures.reads c.in_ok-finish.ensures
