-- For each deleted row, the rows that have its key are found.
use Rattle.std.proofs.Common.{◌<◌, length, get_or, slice_get, take, ap, ◌∙◌, subst, sym, arith}
use Rattle.std.proofs.lemmas.List.{get_or_default, take_all, take_more}
use Rattle.mm_partition.specs.Places.{slot_at, row_in}
use Rattle.mm_partition.specs.Views.{viewed}
use Rattle.mm_indexed.proofs.Typed.{HasTypes-length}
use Rattle.mm_tables.specs.declared.edit.Edit.{Edit}
use Rattle.mm_tables.specs.declared.edit.Edit.TheVariants.{Stage}
use Rattle.mm_store.specs.Tables.{IsAt, Tables}
use Rattle.mm_value.specs.Views.{value_of}
use Rattle.mm_txn.specs.Cascades.{AddsReferrers}
use Rattle.mm_txn.proofs.CascadeFinds.{gone_live, is_cascaded_by_at}
use Rattle.mm_txn.proofs.CascadeTables.{fits_within}
use Rattle.mm_txn.proofs.Referrers.{adds_same, matches_added, rows_taken, skipped, tests}
use Rattle.mm_txn.proofs.cascades.add_by_index.Goals.{in-Some+in_ok-matches, in_default}
use Rattle.mm_txn.proofs.cascades.add_by_index.Goals as goal

abbrev none : Edit
none = Stage (record { slot = 0 })

pub row-requires-clause-there : goal.row-requires-clause-there
row-requires-clause-there c =
    subst (λ (s : Tables). c.args.cascade.now.to < length s.tables) (sym c.loop-edit.invariant.same)
    (fits_within c.args.view.now.store (c.args.cascade.now.to, c.args.cascade.now.gone.now) c.requires.cascade.fit)

pub row-requires-clause-live : goal.row-requires-clause-live
row-requires-clause-live c = λ target at.
    gone_live c.args.view.now.store (c.args.cascade.now.to, c.args.cascade.now.gone.now) c.requires.cascade.fit target
    (subst (λ (s : Tables). IsAt s c.args.cascade.now.to target) c.loop-edit.invariant.same at)
    c.loop-edit.edit-index none c.loop-edit-test.true c.in-Some.at (sym c.row_gone.ensures ∙ c.in-Some.is)

pub value-key-requires : goal.value-key-requires
value-key-requires c =
    let (target, at, fit) = c.requires.cascade.fit in
    omega (
      arith,
      HasTypes-length target.places.types (viewed c.row.result)
          (c.row.ensures.typed target (subst (λ (s : Tables). IsAt s c.args.cascade.now.to target) (sym c.loop-edit.invariant.same) at)),
      c.key_of-column.ensures.within target at,
    )

pub matches-requires-clause-there : goal.matches-requires-clause-there
matches-requires-clause-there c =
    subst (λ (s : Tables). c.args.table < length s.tables) (sym (c.row.ensures.same ∙ c.loop-edit.invariant.same))
    c.requires.there

pub matches-requires-clause-index : goal.matches-requires-clause-index
matches-requires-clause-index c = λ stored at. (
  c.args.cascade.now.column,
  c.requires.index stored
      (subst (λ (s : Tables). IsAt s c.args.table stored) (c.row.ensures.same ∙ c.loop-edit.invariant.same) at),
)

pub loop-edit-preserved : goal.loop-edit-preserved
loop-edit-preserved c = record {
  same = elim c.match-row_gone.branch [
    | in-Some+in_ok-matches w ↦ rw w.view-is (w.row.ensures.same ∙ c.loop-edit.invariant.same)
    | in_default w ↦ rw w.view-is c.loop-edit.invariant.same
  ];
  added = λ stored target at there.
      let cascade = c.args.cascade.now in
      let k = c.loop-edit.edit-index in
      let edit : Edit = get_or cascade.gone.now k none in
      let more = take_more cascade.gone.now k none c.loop-edit-test.true in
      let was = c.loop-edit.invariant.added stored target at there in
      elim c.match-row_gone.branch [
        | in-Some+in_ok-matches w ↦
            let same = c.loop-edit.invariant.same in
            let now = w.row.ensures.same ∙ same in
            let seen = subst (λ (s : Tables). IsAt s c.args.table stored) (sym now) at in
            let told = w.in_ok-matches.ensures.ok stored cascade.column seen (c.requires.index stored at) in
            let row = w.row.ensures.row target (subst (λ (s : Tables). IsAt s cascade.to target) (sym same) there) in
            let has = ap (λ content. slice_get (row_in content) target.key) row
            ∙ ap (slice_get (viewed w.row.result)) (sym (c.key_of-column.ensures.key target there)) ∙ w.value-key.ensures in
            subst (λ es. AddsReferrers stored (tests cascade.column target.key (rows_taken (slot_at target.places) es)) c.args.found.now.items
            c.match-row_gone.found.items)
            (sym more)
            (rw w.found-is (matches_added stored cascade.column target.key (slot_at target.places) (take k cascade.gone.now)
            edit c.args.found.now.items c.loop-edit.found.items was w.in-Some.at (sym c.row_gone.ensures ∙ w.in-Some.is)
            (value_of w.value-key.result) has told.0 _ told.1 told.2 (w.in_ok-matches.ensures.live stored seen)))
        | in_default w ↦
            subst (λ es. AddsReferrers stored (tests cascade.column target.key (rows_taken (slot_at target.places) es)) c.args.found.now.items
            c.match-row_gone.found.items)
            (sym more)
            (rw w.found-is (skipped stored cascade.column target.key (slot_at target.places) (take k cascade.gone.now)
            edit c.args.found.now.items c.loop-edit.found.items was (sym c.row_gone.ensures ∙ w.in_default.is)))
      ];
}

pub returns-clause-found : goal.returns-clause-found
returns-clause-found c = λ stored at.
    let cascade = c.args.cascade.now in
    let (target, there, fit) = c.requires.cascade.fit in
    let all = take_all c.loop-edit.edit-index cascade.gone.now c.loop-edit-test.false in
    adds_same stored (tests cascade.column target.key (rows_taken (slot_at target.places) (take c.loop-edit.edit-index cascade.gone.now))) _
    (λ row. ap (λ es. tests cascade.column target.key (rows_taken (slot_at target.places) es) row) all
    ∙ is_cascaded_by_at c.args.view.now.store cascade.column (cascade.to, cascade.gone.now) target there row)
    c.args.found.now.items c.loop-edit.found.items (c.loop-edit.invariant.added stored target at there)
