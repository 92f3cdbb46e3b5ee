use Rattle.std.proofs.Common.{ap, arith, length, refl, take, ◌∙◌}
use Rattle.mmdb_c.proofs.CellLemmas.{refused_text}
use Rattle.mmdb_c.proofs.cell.Cell.text_value.Goals as goal

pub returns-in-Err-Memory-clause-memory : goal.returns-in-Err-Memory-clause-memory
returns-in-Err-Memory-clause-memory c = λ is.
    let cell = c.args.self.now in
    refused_text cell (take c.from-len.result cell.text) c.in-Err-Memory.field-0 c.requires (ap (λ n. take n cell.text) c.from-len.ensures)
    (omega (arith)) (omega (arith)) c.in-Err-Memory.field-0-is c.in-Err-Memory.ensures.line_feed c.in-Err-Memory.ensures.short
