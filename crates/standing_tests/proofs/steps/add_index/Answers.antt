-- The rows at the mark and the log stay, so the rows are the current ones before and after.
use Rattle.std.proofs.Common.{◌≡◌, ℕ, length, sym, ap, ◌∙◌, arith}
use Rattle.mm_schema.specs.declared.index.IndexKind.TheVariants.{Hash}
use Rattle.mm_store.specs.Marks.{rows_at_mark}
use Rattle.store_tests.proofs.PlainStores.{plain_indexed}
use Rattle.standing_tests.proofs.TableRows.{before_same}
use Rattle.standing_tests.proofs.steps.add_index.Goals as goal

pub returns-clause-two : goal.returns-clause-two
returns-clause-two c =
    (plain_indexed c.args.store.now c.add_index.new.self 0 1 Hash (omega (arith, c.requires.two)) c.requires.plain c.in_ok-add_index.ensures.ok).0
    ∙ c.requires.two

pub returns-clause-plain : goal.returns-clause-plain
returns-clause-plain c =
    (plain_indexed c.args.store.now c.add_index.new.self 0 1 Hash (omega (arith, c.requires.two)) c.requires.plain c.in_ok-add_index.ensures.ok).1

pub returns-clause-rows : goal.returns-clause-rows
returns-clause-rows c =
    let old = c.args.store.now in
    let new = c.add_index.new.self in
    let same : c.mark-after.result ≡ c.mark-before.result =
    c.mark-after.ensures.mark ∙ (ap length c.add_index.ensures.log ∙ sym c.mark-before.ensures.mark) in
    before_same old new
    (sym c.mark-after.ensures.rows
    ∙ (ap (λ (mark : ℕ). rows_at_mark mark new) same
    ∙ ((c.add_index.ensures.marks c.mark-before.result).rows ∙ c.mark-before.ensures.rows)))
