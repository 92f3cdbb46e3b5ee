-- The new row of one more edit is tested.
use Rattle.std.proofs.Common.{◌++◌, [], map, ap, ◌∙◌}
use Rattle.std.specs.List.{cons_option, filter_map}
use Rattle.std.proofs.lemmas.List.{take_all}
use Rattle.mm_partition.specs.Places.{slot_at}
use Rattle.mm_partition.specs.Views.{viewed}
use Rattle.mm_tables.specs.declared.edit.Edit.{Edit}
use Rattle.mm_tables.specs.declared.edit.Edit.TheVariants.{Stage}
use Rattle.mm_delta.specs.Steps.{asked, coming as coming_lem}
use Rattle.mm_delta.proofs.Placed.{coming_all, coming_more}
use Rattle.mm_delta.proofs.rows.add_coming.Goals as goal

abbrev none : Edit
none = Stage (record { slot = 0 })

pub loop-edit-preserved : goal.loop-edit-preserved
loop-edit-preserved c = λ stored at.
    coming_more (coming_lem (asked c.args.look_up.now) (slot_at stored.places)) c.args.edits.now c.loop-edit.edit-index none
    (map viewed c.args.rows.now.items) (map viewed c.loop-edit.rows.items) (map viewed c.push_some.new.rows.items)
    c.loop-edit-test.true (c.loop-edit.invariant stored at)
    (c.in_ok-push_some.ensures ∙ ap (λ o. map viewed c.loop-edit.rows.items ++ cons_option o []) (c.coming.ensures stored at))

pub returns : goal.returns
returns c = λ stored at.
    let r = asked c.args.look_up.now in
    let now = slot_at stored.places in
    c.loop-edit.invariant stored at
    ∙ ap (λ l. map viewed c.args.rows.now.items ++ l)
    (ap (filter_map (coming_lem r now)) (take_all c.loop-edit.edit-index c.args.edits.now c.loop-edit-test.false) ∙ coming_all r now c.args.edits.now)
