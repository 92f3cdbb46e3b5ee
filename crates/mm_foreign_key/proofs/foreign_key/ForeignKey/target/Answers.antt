use Rattle.std.proofs.Common.{List, ℕ, sym, ap, ◌∙◌, arith}
use Rattle.std.proofs.lemmas.List.{get_or_default}
use Rattle.mm_foreign_key.specs.Counts.{entry_of, entries_of}
use Rattle.mm_foreign_key.proofs.EntryLemmas.{entry_at}
use Rattle.mm_foreign_key.proofs.TieLemmas.{entry_is}
use Rattle.mm_foreign_key.proofs.foreign_key.ForeignKey.target.Goals as goal

pub returns : goal.returns
returns c =
    let numbers : List ℕ = c.self.inside.targets.items in
    c.reference_to.ensures
    ∙ (ap entry_of (c.index.ensures ∙ get_or_default numbers _ _ 0 (omega arith))
    ∙ (sym (entry_at numbers c.args.from.slot 0 (omega arith))
    ∙ entry_is c.args.self.now (entries_of numbers) c.args.from (ap (λ t. t.targets) c.self.view_is)))
