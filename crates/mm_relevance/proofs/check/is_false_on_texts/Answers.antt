use Rattle.std.proofs.Common.{◌≡◌, Option, Some, None, ap, false, get_or, length, refl, sym, ◌∙◌}
use Rattle.std.specs.Prelude.{slice_get}
use Rattle.std.specs.Option.{option_map_or}
use Rattle.std.proofs.lemmas.Option.{slice_get_past, slice_get_read}
use Rattle.mm_query.specs.declared.atom.Atom.{Atom}
use Rattle.mm_query.specs.declared.bound_query.FieldPlace.{FieldPlace}
use Rattle.mm_relevance.specs.Relevance.{fails_on_texts}
use Rattle.mm_relevance.specs.Walks.{name_of}
use Rattle.mm_relevance.proofs.OnTexts.{shown}
use Rattle.mm_relevance.proofs.check.is_false_on_texts.Goals as goal

pub returns-in-Some : goal.returns-in-Some
returns-in-Some g c =
    let row = g.R.AsRow.row in
    let at = c.in-Some.ensures.lookup in
    let n = (get_or c.args.cycle.now 0 (name_of 0 false)).conjunct in
    let there : slice_get c.as_slice.result.now n ≡ Some c.in-Some.atom.now =
    slice_get_read c.as_slice.result.now (length c.as_slice.result.now) n c.in-Some.atom.now refl at.3.0 at.1 in
    shown c.args.query.now c.args.place (row c.args.row.now) c.args.cycle.now (name_of 0 false) c.fails_on_texts.result c.if-cycle-ne1.false
    c.if-cycle-offset0.false
    (c.fails_on_texts.ensures ∙ ap (λ (o : Option (Atom FieldPlace)). option_map_or (fails_on_texts c.args.place (row c.args.row.now)) o false)
    (sym (ap (λ l. slice_get l n) (sym c.as_slice.ensures) ∙ there)))

pub returns-in-None : goal.returns-in-None
returns-in-None g c =
    let row = g.R.AsRow.row in
    let at = c.in-None.ensures.lookup in
    let n = (get_or c.args.cycle.now 0 (name_of 0 false)).conjunct in
    let gone : slice_get c.as_slice.result.now n ≡ None = slice_get_past c.as_slice.result.now n at.3 in
    shown c.args.query.now c.args.place (row c.args.row.now) c.args.cycle.now (name_of 0 false) false c.if-cycle-ne1.false c.if-cycle-offset0.false
    (ap (λ (o : Option (Atom FieldPlace)). option_map_or (fails_on_texts c.args.place (row c.args.row.now)) o false)
    (sym (ap (λ l. slice_get l n) (sym c.as_slice.ensures) ∙ gone)))
