use Rattle.std.proofs.Common.{refl, subst, sym}
use Rattle.mm_query.specs.declared.command.Command.TheVariants as command
use Rattle.mm_query.specs.declared.command.Definition.TheVariants as define
use Rattle.mm_lang.specs.Grammar.{dropped}
use Rattle.mm_lang.specs.Reading.{literals_of}
use Rattle.mm_lang.specs.steps.Parsing.{Gives}
use Rattle.mm_lang.proofs.CommandReadings.{made_given}
use Rattle.mm_lang.proofs.read.reading.read_dropped.Goals as goal

pub returns-in_ok-name-in-Table : goal.returns-in_ok-name-in-Table
returns-in_ok-name-in-Table c =
    let n = c.in_ok-name-in-Table.field-0 in
    subst (λ k. Gives (dropped k) literals_of c.args.reader.now c.name.new.self (command.Define (define.DropTable n))) (sym c.in-Table.is)
    (made_given (λ m. command.Define (define.DropTable m)) (λ m. refl) c.args.reader.now c.name.new.self n c.in_ok-name-in-Table.ensures)

pub returns-in_ok-name-in-Index : goal.returns-in_ok-name-in-Index
returns-in_ok-name-in-Index c =
    let n = c.in_ok-name-in-Index.field-0 in
    subst (λ k. Gives (dropped k) literals_of c.args.reader.now c.name-in-Index.new.self (command.Define (define.DropIndex n))) (sym c.in-Index.is)
    (made_given (λ m. command.Define (define.DropIndex m)) (λ m. refl) c.args.reader.now c.name-in-Index.new.self n c.in_ok-name-in-Index.ensures)
