use Rattle.std.proofs.Common.{◌≡◌, map, set, sym, ap, ◌∙◌, subst}
use Rattle.std.proofs.lemmas.List.{map-set}
use Rattle.mm_partition.specs.TextCells.{prefix_of, KeptPrefixes}
use Rattle.mm_partition.proofs.text_column.TextColumn.swap.Goals as goal

pub invariant_of-self-in-Some : goal.invariant_of-self-in-Some
invariant_of-self-in-Some c =
    let kept : c.in-Some.prefixes.items ≡ map prefix_of c.self.inside.texts.items =
    subst (λ o. KeptPrefixes c.self.inside.texts.items o) c.in-Some.is c.self.invariant in
    ap (λ xs. set xs c.args.index c.order_prefix.result) kept
    ∙ (ap (λ n. set (map prefix_of c.self.inside.texts.items) c.args.index n) (c.order_prefix.ensures ∙ ap prefix_of (sym c.swap-in-Some.ensures.x_after))
    ∙ sym (map-set prefix_of c.self.inside.texts.items c.args.index c.swap-in-Some.new.x))
