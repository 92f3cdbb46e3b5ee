use Rattle.std.proofs.Common.{◌≡◌, List, [], ◌∷◌, ◌++◌, get_or, take, sym, ap, ◌∙◌, subst, arith}
use Rattle.std.specs.Prelude.{map}
use Rattle.std.specs.List.{All}
use Rattle.std.proofs.lemmas.List.{map-append}
use Rattle.std.proofs.lemmas.List.Elements.{All-push}
use Rattle.mm_link.specs.declared.link.Link.{Link}
use Rattle.mm_schema.specs.declared.reference.Reference.{Reference}
use Rattle.mm_tables.specs.Tables.{extent_in}
use Rattle.mm_base.specs.Joined.{IsReady}
use Rattle.mm_base.proofs.Lists.{take_more}
use Rattle.mm_base.proofs.links.new_links.Goals as goal

pub loop-reference-preserved : goal.loop-reference-preserved
loop-reference-preserved c =
    let tables = c.args.tables.now.tables in
    let references = c.args.references.now in
    let i = c.loop-reference.reference-index in
    let links : List Link = c.loop-reference.links.items in
    let link : Link = c.in_ok-new.field-0 in
    let d : Reference = record { from = 0; column = 0; to = 0 } in
    let f = λ (l : Link). l.reference in
    let is : link.reference ≡ get_or references i d = c.in_ok-new.ensures.reference in
    let pushed : c.push.new.self.items ≡ links ++ link ∷ [] = c.in_ok-push.ensures.items in
    let ready : IsReady tables link = record {
      untied = c.in_ok-new.ensures.untied;
      targets = omega (
        arith,
        c.in_ok-new.ensures.targets,
        c.extent-extent.ensures,
        c.read.ensures.extent,
        ap (λ (r : Reference). extent_in tables r.to) is,
      );
    } in
    record {
      references = ap (map f) pushed ∙ map-append f links (link ∷ [])
          ∙ (ap (λ (rs : List Reference). rs ++ link.reference ∷ []) c.loop-reference.invariant.references
          ∙ ap (λ (r : Reference). take i references ++ r ∷ []) is) ∙ sym (take_more references i d c.loop-reference-test.true);
      ready = subst (All (IsReady tables)) (sym pushed) (All-push (IsReady tables) links link c.loop-reference.invariant.ready ready);
    }
