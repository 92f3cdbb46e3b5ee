use Rattle.std.proofs.Common.{◌≡◌, ◌<◌, ℕ, List, [], ◌∷◌, length, map, get_or, sym, ap, ◌∙◌, arith}
use Rattle.std.proofs.lemmas.List.{get_or-map, get_or_default, length-map}
use Rattle.mm_link.specs.declared.link.Link.{Link}
use Rattle.mm_schema.specs.declared.reference.Reference.{Reference}
use Rattle.mm_base.proofs.links.follow.Goals as goal

some_link : (links : List Link) (k : ℕ) → k < length links → Link
some_link [] k within = absurd (omega (arith, within))
some_link (x ∷ xs) k within = x

pub unreachable-requires : goal.unreachable-requires
unreachable-requires c =
    let links = c.args.links.now in
    let sought : Reference = record { from = c.args.table; column = c.args.column; to = c.requires.refers.0 } in
    let here = c.requires.refers.1 in
    let k = here.0 in
    let within : k < length links = omega (arith, here.1, length-map links (λ (link : Link). link.reference)) in
    let d : Link = some_link links k within in
    let is : (get_or links k d).reference ≡ sought =
    sym (get_or-map (λ (link : Link). link.reference) links k d d.reference within)
    ∙ (get_or_default (map (λ (link : Link). link.reference) links) k d.reference sought here.1 ∙ here.2) in
    c.loop-link.invariant k d (omega (arith, within, c.loop-link-test.false)) (ap (λ (r : Reference). r.from) is)
    (ap (λ (r : Reference). r.column) is)
