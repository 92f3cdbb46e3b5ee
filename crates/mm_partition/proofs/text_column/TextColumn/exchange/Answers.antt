use Rattle.std.proofs.Common.{◌≡◌, ◌<◌, length, map, swap, sym, ap, ◌∙◌, subst, arith}
use Rattle.mm_partition.specs.TextCells.{TextCells, prefix_of, KeptPrefixes}
use Rattle.mm_partition.proofs.ExchangeLemmas.{map-swap}
use Rattle.mm_partition.proofs.text_column.TextColumn.exchange.Goals as goal

pub invariant_of-self-in-Some : goal.invariant_of-self-in-Some
invariant_of-self-in-Some c =
    let kept : c.in-Some.prefixes.items ≡ map prefix_of c.self.inside.texts.items =
    subst (λ o. KeptPrefixes c.self.inside.texts.items o) c.in-Some.is c.self.invariant in
    let size : length c.self.inside.texts.items ≡ length c.args.self.now.texts = ap (λ (t : TextCells). length t.texts) c.self.view_is in
    let within_a : c.args.a < length c.self.inside.texts.items = omega (arith, size, c.requires.a) in
    let within_b : c.args.b < length c.self.inside.texts.items = omega (arith, size, c.requires.b) in
    c.swap-in-Some.ensures.items
    ∙ (ap (λ xs. swap xs c.args.a c.args.b) kept
    ∙ (sym (map-swap prefix_of c.self.inside.texts.items c.args.a c.args.b within_a within_b)
    ∙ ap (map prefix_of) (sym c.swap-in-Some-2.ensures.items)))
