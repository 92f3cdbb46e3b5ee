use Rattle.std.proofs.Common.{◌≡◌, List, ℕ, sym, ap, ◌∙◌, arith}
use Rattle.std.specs.Prelude.{count_by}
use Rattle.std.proofs.lemmas.Bool.{lt-ltb, ltb-true}
use Rattle.std.proofs.lemmas.List.{get_or_past, get_or_default}
use Rattle.mm_foreign_key.specs.Counts.{refers_to, entries_of}
use Rattle.mm_foreign_key.proofs.TieLemmas.{IsReferred-from_count, count-from_IsReferred}
use Rattle.mm_foreign_key.proofs.foreign_key.ForeignKey.is_referred.Goals as goal

pub returns-then-index-len : goal.returns-then-index-len
returns-then-index-len c =
    let view = ap (λ t. t.targets) c.self.view_is in
    let counts : List ℕ = c.self.inside.counts.items in
    let place : ℕ = c.args.to.slot in
    let read : c.index.result.now ≡ count_by (refers_to place) (entries_of c.self.inside.targets.items)
    = c.index.ensures ∙ (get_or_default counts _ _ 0 (omega arith) ∙ c.self.invariant.counted place) in (
      λ some. IsReferred-from_count c.args.self.now _ c.args.to view (omega (arith, ltb-true 0 c.index.result.now some, read)),
      λ referred. lt-ltb 0 c.index.result.now (omega (arith, read, count-from_IsReferred c.args.self.now _ c.args.to view referred)),
    )

pub returns-else-index-len : goal.returns-else-index-len
returns-else-index-len c =
    let view = ap (λ t. t.targets) c.self.view_is in
    let place : ℕ = c.args.to.slot in
    let none : count_by (refers_to place) (entries_of c.self.inside.targets.items) ≡ 0
    = sym (c.self.invariant.counted place) ∙ get_or_past c.self.inside.counts.items place 0 (omega arith) in (
      λ within. absurd (omega (arith, ltb-true place c.len.result within)),
      λ referred. absurd (omega (arith, none, count-from_IsReferred c.args.self.now _ c.args.to view referred)),
    )
