use Rattle.std.proofs.Common.{◌+◌, drop, refl}
use Rattle.std.specs.List.{flat_map}
use Rattle.std.proofs.lemmas.Result.{err_from_is_err_and}
use Rattle.mm_value.proofs.Writing.{Writes-then, Writes-stops}
use Rattle.mm_lang.proofs.ListingTexts.{Writes-as}
use Rattle.mm_lang.proofs.QueryTexts.{next_item, separated_all, separated_at}
use Rattle.mm_lang.proofs.write.query_text.write_items.Goals as goal

pub returns-in_err-write_next_item : goal.returns-in_err-write_next_item
returns-in_err-write_next_item g c =
    let p = err_from_is_err_and c.from_residual-in_err-write_next_item.result c.from_residual-in_err-write_next_item.ensures.1 in
    let text = g.I.ItemText.text c.args.how.now in
    let others = c.in-Some.others.now in
    let i = c.loop-item.item-index in
    Writes-as
    (separated_at text c.args.items.now c.in-Some.first.now others i c.item-item.result c.in-Some.ensures.cases.0 c.loop-item-test.true c.item-item.is)
    (Writes-then refl c.in_ok-write_item.ensures
    (Writes-then refl c.loop-item.invariant
    (Writes-stops (flat_map (next_item text) (drop (i + 1) others)) refl p.1 c.in_err-write_next_item.ensures)))

pub returns : goal.returns
returns g c =
    Writes-then (separated_all (g.I.ItemText.text c.args.how.now) c.args.items.now c.in-Some.first.now c.in-Some.others.now c.loop-item.item-index
    c.in-Some.ensures.cases.0 c.loop-item-test.false)
    c.in_ok-write_item.ensures c.loop-item.invariant
