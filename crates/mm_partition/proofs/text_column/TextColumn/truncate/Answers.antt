use Rattle.std.proofs.Common.{◌≡◌, map, take, sym, ap, ◌∙◌, subst}
use Rattle.std.proofs.lemmas.List.{take-map}
use Rattle.mm_partition.specs.TextCells.{prefix_of, KeptPrefixes}
use Rattle.mm_partition.proofs.text_column.TextColumn.truncate.Goals as goal

pub invariant_of-self-in-Some : goal.invariant_of-self-in-Some
invariant_of-self-in-Some c =
    let kept : c.in-Some.prefixes.items ≡ map prefix_of c.self.inside.texts.items =
    subst (λ o. KeptPrefixes c.self.inside.texts.items o) c.in-Some.is c.self.invariant in
    c.cut-in-Some.ensures.items ∙ (ap (take c.args.n) kept ∙ (take-map prefix_of c.args.n c.self.inside.texts.items
    ∙ ap (map prefix_of) (sym c.cut-in-Some-2.ensures.items)))
