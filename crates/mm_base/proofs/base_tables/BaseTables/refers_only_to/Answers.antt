use Rattle.std.proofs.Common.{◌≡◌, Bool, true, not, ◌&&◌, ◌↔◌, List, map, ap, sym, ◌∙◌, subst}
use Rattle.std.specs.List.{list_any}
use Rattle.mm_link.proofs.Referring.{any-map}
use Rattle.mm_schema.specs.declared.reference.Reference.{Reference}
use Rattle.mm_base.proofs.OnlyReference.{tells_only}
use Rattle.mm_base.specs.Columns.{IsReference, differs_in_target, same_reference}
use Rattle.mm_base.specs.Bases.{Base, references_of}
use Rattle.mm_link.specs.declared.link.Link.{Link}
use Rattle.mm_base.proofs.base_tables.BaseTables.refers_only_to.Goals as goal

-- A test of the links is one of their references.
along : (p : Reference → Bool) (links seen : List Link) (b : Bool) → seen ≡ links → b ≡ list_any (λ (link : Link). p link.reference) seen
    → b ≡ list_any p (map (λ (link : Link). link.reference) links)
along p links seen b same is =
    is ∙ (ap (list_any (λ (link : Link). p link.reference)) same ∙ sym (any-map (λ (link : Link). link.reference) p links))

pub returns-then-has_reference : goal.returns-then-has_reference
returns-then-has_reference c =
    let own : Reference = record { from = c.args.table; column = c.args.column; to = c.args.to } in
    let links = c.self.inside.links.items in
    let has = along (same_reference own) links c.as_slice-links.result.now c.has_reference.result c.as_slice-links.ensures.value c.has_reference.ensures in
    let other = along (differs_in_target own) links c.as_slice-links.result.now c.has_other_target.result c.as_slice-links.ensures.value
    c.has_other_target.ensures in
    subst (λ (s : Base). (not c.has_other_target.result ≡ true) ↔ IsReference (references_of s.links) c.args.table c.args.column c.args.to) c.self.view_is
    (tells_only (map (λ (link : Link). link.reference) links) c.args.table c.args.column c.args.to (not c.has_other_target.result)
    (ap not other ∙ ap (λ b. b && not (list_any (differs_in_target own) (map (λ (link : Link). link.reference) links)))
    (sym (sym has ∙ c.if-has_reference.true))))

pub returns-else-has_reference : goal.returns-else-has_reference
returns-else-has_reference c =
    let own : Reference = record { from = c.args.table; column = c.args.column; to = c.args.to } in
    let links = c.self.inside.links.items in
    let has = along (same_reference own) links c.as_slice-links.result.now c.has_reference.result c.as_slice-links.ensures.value c.has_reference.ensures in
    let all : List Reference = map (λ (link : Link). link.reference) links in
    subst (λ (s : Base). (c.has_reference.result ≡ true) ↔ IsReference (references_of s.links) c.args.table c.args.column c.args.to) c.self.view_is
    (tells_only all c.args.table c.args.column c.args.to c.has_reference.result
    (c.if-has_reference.false ∙ sym (ap (λ b. b && not (list_any (differs_in_target own) all)) (sym has ∙ c.if-has_reference.false))))
