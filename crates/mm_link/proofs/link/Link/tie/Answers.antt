use Rattle.std.proofs.Common.{◌≡◌, ◌≢◌, Some, sym, ap, ◌∙◌, subst}
use Rattle.std.specs.Prelude.{slice_get, IfNone}
use Rattle.std.specs.List.{All, Contains}
use Rattle.std.proofs.lemmas.List.Elements.{All-contains}
use Rattle.mm_value.specs.Views.{value_of}
use Rattle.mm_partition.specs.Places.{Content, row_in, slot_at}
use Rattle.mm_row_order.specs.Refs.{row_at}
use Rattle.mm_link.specs.Links.{HasTargetRow, RefersTo}
use Rattle.mm_link.proofs.Retying.{TiesSlot-tied}
use Rattle.mm_link.proofs.link.Link.tie.Goals as goal

pub unreachable-requires : goal.unreachable-requires
unreachable-requires c =
    let column = c.args.self.now.reference.column in
    let now = slot_at c.args.from.now.places in
    let then = slot_at c.args.to.now.places in
    let key = c.args.to.now.key in
    let value = value_of c.value-value.result in
    let target : HasTargetRow column key then c.requires.live.0 = c.requires.targets c.args.at c.requires.live.0 c.requires.live.1 in
    let here : Contains c.args.to.now.refs target.0 = (c.is_kept-2.ensures.held target.0).1 target.1.live in
    let has : slice_get (row_at then target.0) key ≡ Some value =
    sym target.1.same
    ∙ (ap (λ (x : Content). slice_get (row_in x) column) (sym c.requires.live.1)
    ∙ (ap (λ (x : Content). slice_get (row_in x) column) c.row.ensures ∙ c.value-value.ensures)) in
    let absent : IfNone c.find.result (All (λ at. slice_get (row_at then at) key ≢ Some value) c.args.to.now.refs) = c.find.ensures.none in
    let none : All (λ at. slice_get (row_at then at) key ≢ Some value) c.args.to.now.refs =
    subst (λ found. IfNone found (All (λ at. slice_get (row_at then at) key ≢ Some value) c.args.to.now.refs)) c.in_default.is absent in
    All-contains (λ at. slice_get (row_at then at) key ≢ Some value) c.args.to.now.refs target.0 none here has

pub returns-clause-tied : goal.returns-clause-tied
returns-clause-tied c =
    let column = c.args.self.now.reference.column in
    let now = slot_at c.args.from.now.places in
    let then = slot_at c.args.to.now.places in
    let key = c.args.to.now.key in
    let target = c.in-Some.target in
    let refers : RefersTo column key then (row_at now c.args.at) target = record {
      live = (c.is_kept-2.ensures.held target).0 c.in-Some.ensures.held;
      same = ap (λ (x : Content). slice_get (row_in x) column) c.row.ensures ∙ (c.value-value.ensures ∙ sym c.in-Some.ensures.fits);
    } in
    TiesSlot-tied column key then now c.args.at c.args.self.now.ties c.tie.new.self c.requires.live target c.tie.ensures.tied refers
