use Rattle.std.proofs.Common.{subst}
use Rattle.mm_lang.proofs.Literals.{Reads, reads_from, token_answers}
use Rattle.mm_lang.proofs.read.reader.literal.Goals as goal
use Rattle.mm_lang.proofs.read.reader.literal.Goals.{in-Word, in-Word-2, in-Word-3}

pub returns-in-Word : goal.returns-in-Word
returns-in-Word c =
    let said = c.read_literal.ensures in
    let r = c.read_literal.result in
    let reads = reads_from said.found said.syntax said.range said.too_long in
    elim c.in-Word-1.branch [
      | in-Word w ↦ token_answers c.args.token w.in-Word.bytes r w.in-Word.is (subst (λ b. Reads b.now r) w.bytes-is reads)
      | in-Word-2 w ↦ token_answers c.args.token w.in-Word.bytes r w.in-Word.is (subst (λ b. Reads b.now r) w.bytes-is reads)
      | in-Word-3 w ↦ token_answers c.args.token w.in-Word.bytes r w.in-Word.is (subst (λ b. Reads b.now r) w.bytes-is reads)
    ]
