use Rattle.std.proofs.Common.{◌≡◌, ℕ, Some, refl, sym, ap, ◌∙◌, arith}
use Rattle.mm_partition.specs.Cells.{row_of}
use Rattle.mm_partition.specs.Places.{slot_at}
use Rattle.mm_partition.proofs.ContentLemmas.{content_if, hidden_within}
use Rattle.mm_partition.proofs.ExchangeLemmas.{slot_read, not_hidden}
use Rattle.mm_partition.proofs.rows.Partitions.is_hidden.Goals as goal

pub returns-then-index-len : goal.returns-then-index-len
returns-then-index-len c = (
  λ no. let bad : ⊥ = cc in absurd bad,
  λ (row, is). let no : ⊥ = omega (arith, hidden_within _ _ _ _ c.args.at row c.self.view_is is, c.index_of-index.ensures) in absurd no,
)

pub returns-in-Hidden : goal.returns-in-Hidden
returns-in-Hidden c =
    let i : ℕ = c.index_of-index.result in
    let read : slot_at c.args.self.now c.args.at ≡ content_if (Some c.index.result.now) (row_of c.self.inside.columns.items i) =
    slot_read _ c.self.inside.states.items _ _ c.args.at i c.index.result.now c.self.view_is (sym c.index_of-index.ensures)
    (omega arith) c.index.ensures in
    (λ _. (row_of c.self.inside.columns.items i, read ∙ ap (λ s. content_if (Some s) (row_of c.self.inside.columns.items i)) c.in-Hidden.is), λ _. refl)

pub returns-in-Free : goal.returns-in-Free
returns-in-Free c =
    let i : ℕ = c.index_of-index.result in
    let read : slot_at c.args.self.now c.args.at ≡ content_if (Some c.index.result.now) (row_of c.self.inside.columns.items i) =
    slot_read _ c.self.inside.states.items _ _ c.args.at i c.index.result.now c.self.view_is (sym c.index_of-index.ensures)
    (omega arith) c.index.ensures in
    (λ no. let bad : ⊥ = cc in absurd bad, λ (row, is). absurd (not_hidden c.index.result.now _ row c.in-Free.is (sym read ∙ is)))
