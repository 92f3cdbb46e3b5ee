use Rattle.std.proofs.Common.{◌∙◌, ap, get_or, map, subst, sym, arith}
use Rattle.std.specs.List.{All}
use Rattle.std.proofs.lemmas.List.Elements.{All-filter}
use Rattle.mm_partition.specs.Views.{viewed}
use Rattle.mm_partition.specs.Places.{IsLive, slot_at}
use Rattle.mm_row_order.specs.Refs.{row_at}
use Rattle.mm_store.proofs.Joining.{some_at}
use Rattle.mm_store.proofs.Shown.{table_seen}
use Rattle.mm_store.specs.Edits.{AreReady, rows_after}
use Rattle.mm_store.specs.Tables.{IsAt}
use Rattle.mm_delta.specs.Overlay.{overlay_edits}
use Rattle.mm_delta.specs.Candidates.{having, required}
use Rattle.mm_delta.specs.Edited.{has_index}
use Rattle.mm_delta.specs.Steps.{AreAlike, asked, stays}
use Rattle.mm_delta.proofs.Placed.{few_read, fit_walked, found_alike, walked_is}
use Rattle.mm_delta.proofs.Refs.{found_live}
use Rattle.mm_delta.proofs.walk.Walk.rows_at.Goals as goal

pub read_all-requires-clause-live : goal.read_all-requires-clause-live
read_all-requires-clause-live c = λ stored at.
    subst (All (IsLive stored.places)) (sym (c.deref.ensures.value ∙ c.leave_standing.ensures))
    (All-filter (stays (overlay_edits c.edits_at-edits.result)) (IsLive stored.places) c.in_ok-refs.refs.items
    (found_live stored (table_seen c.args.view.now (get_or c.args.self.now.tables.now c.args.place 0) stored at).kept (asked c.in_ok-look_up.look_up)
    c.in_ok-refs.refs.items (c.in_ok-refs.ensures stored at)))

pub add_coming-requires-clause-ready : goal.add_coming-requires-clause-ready
add_coming-requires-clause-ready c = λ stored at.
    let table = get_or c.args.self.now.tables.now c.args.place 0 in
    subst (AreReady stored) (sym c.edits_at-edits.ensures.edits)
    (fit_walked c.args.view.now.store c.args.self.now.changes.now.edits c.args.self.now.place c.args.place table stored c.requires.fit.fit
    (subst (λ s. IsAt s table stored) c.in_ok-rows.ensures.same at))

pub add_coming-requires-clause-read : goal.add_coming-requires-clause-read
add_coming-requires-clause-read c = λ stored at.
    c.edits_at-edits.ensures.read c.args.view.now.store stored c.requires.fit
    (subst (λ s. IsAt s (get_or c.args.self.now.tables.now c.args.place 0) stored) c.in_ok-rows.ensures.same at)

pub returns-in_err-rows-clause-reads : goal.returns-in_err-rows-clause-reads
returns-in_err-rows-clause-reads c =
    let at = some_at c.args.view.now.store.tables (get_or c.args.self.now.tables.now c.args.place 0) c.requires.there.1 in
    let few = few_read c.args.view.now (get_or c.args.self.now.tables.now c.args.place 0) at.0 at.1 (asked c.in_ok-look_up.look_up)
    (required (has_index c.args.view.now.store (get_or c.args.self.now.tables.now c.args.place 0))
    c.args.self.now.query.now.atoms c.args.chosen.now c.args.place)
    c.in_ok-refs.refs.items (c.in_ok-refs.ensures at.0 at.1) c.in_ok-look_up.ensures.ok (overlay_edits c.edits_at-edits.result) c.deref.result.now
    (c.deref.ensures.value ∙ c.leave_standing.ensures) in
    omega (arith, few, c.in_err-rows.ensures.reads)

pub returns-in_err-add_coming-clause-reads : goal.returns-in_err-add_coming-clause-reads
returns-in_err-add_coming-clause-reads c =
    let at = some_at c.args.view.now.store.tables (get_or c.args.self.now.tables.now c.args.place 0) c.requires.there.1 in
    let few = few_read c.args.view.now (get_or c.args.self.now.tables.now c.args.place 0) at.0 at.1 (asked c.in_ok-look_up.look_up)
    (required (has_index c.args.view.now.store (get_or c.args.self.now.tables.now c.args.place 0))
    c.args.self.now.query.now.atoms c.args.chosen.now c.args.place)
    c.in_ok-refs.refs.items (c.in_ok-refs.ensures at.0 at.1) c.in_ok-look_up.ensures.ok (overlay_edits c.edits_at-edits.result) c.deref.result.now
    (c.deref.ensures.value ∙ c.leave_standing.ensures) in
    omega (arith, few, c.in_ok-rows.ensures.reads)

pub returns-clause-reads : goal.returns-clause-reads
returns-clause-reads c =
    let at = some_at c.args.view.now.store.tables (get_or c.args.self.now.tables.now c.args.place 0) c.requires.there.1 in
    let few = few_read c.args.view.now (get_or c.args.self.now.tables.now c.args.place 0) at.0 at.1 (asked c.in_ok-look_up.look_up)
    (required (has_index c.args.view.now.store (get_or c.args.self.now.tables.now c.args.place 0))
    c.args.self.now.query.now.atoms c.args.chosen.now c.args.place)
    c.in_ok-refs.refs.items (c.in_ok-refs.ensures at.0 at.1) c.in_ok-look_up.ensures.ok (overlay_edits c.edits_at-edits.result) c.deref.result.now
    (c.deref.ensures.value ∙ c.leave_standing.ensures) in
    omega (arith, few, c.in_ok-rows.ensures.reads)

pub returns-clause-rows : goal.returns-clause-rows
returns-clause-rows c =
    let at = some_at c.args.view.now.store.tables (get_or c.args.self.now.tables.now c.args.place 0) c.requires.there.1 in
    let r = asked c.in_ok-look_up.look_up in
    let edits = (overlay_edits c.edits_at-edits.result) in
    subst (AreAlike (map viewed c.add_coming.new.rows.items))
    (λ i. having (c.in_ok-look_up.ensures.ok i)
    ((ap (rows_after at.0) c.edits_at-edits.ensures.edits ∙ sym (walked_is c.args.view.now.store c.args.self.now.changes.now.edits c.args.self.now.tables.now
    c.args.self.now.place c.args.place at.0 at.1)) i))
    (found_alike at.0 (table_seen c.args.view.now (get_or c.args.self.now.tables.now c.args.place 0) at.0 at.1) r c.in_ok-refs.refs.items
    (c.in_ok-refs.ensures at.0 at.1) edits
    (subst (AreReady at.0) (sym c.edits_at-edits.ensures.edits) (fit_walked c.args.view.now.store c.args.self.now.changes.now.edits c.args.self.now.place
    c.args.place
    (get_or c.args.self.now.tables.now c.args.place 0) at.0 c.requires.fit.fit at.1))
    (map viewed c.in_ok-rows.rows.items) (map viewed c.add_coming.new.rows.items)
    (c.in_ok-rows.ensures.rows at.0 at.1 ∙ ap (map (row_at (slot_at at.0.places))) (c.deref.ensures.value ∙ c.leave_standing.ensures))
    (c.in_ok-add_coming.ensures at.0 (subst (λ s. IsAt s (get_or c.args.self.now.tables.now c.args.place 0) at.0) (sym c.in_ok-rows.ensures.same) at.1)))
