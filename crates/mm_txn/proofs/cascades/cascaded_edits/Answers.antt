-- The rows are found column by column.
use Rattle.std.proofs.Common.{◌≡◌, ◌<◌, Bool, List, [], ◌∷◌, get_or, length, map, take, ap, ◌∙◌, subst, sym, ◌||◌}
use Rattle.std.specs.List.{filter, list_any}
use Rattle.std.specs.Option.{option_map_or}
use Rattle.std.proofs.lemmas.List.{take_all}
use Rattle.std.proofs.lemmas.List.Elements.{All-nil}
use Rattle.std.proofs.lemmas.Result.{IfOk-weaker}
use Rattle.mm_partition.specs.Places.{IsLive, slot_at}
use Rattle.mm_tables.specs.Edits.{same_ref}
use Rattle.mm_indexed.specs.Kept.{StoredRows}
use Rattle.mm_row_order.specs.Refs.{row_at}
use Rattle.mm_store.specs.Edits.{pairs_of}
use Rattle.mm_indexed.specs.RowLists.{rows_of}
use Rattle.mm_schema.proofs.StrictOrder.{Contains-from_IsIn}
use Rattle.mm_schema.proofs.Duplicates.{Row}
use Rattle.mm_query.specs.Edits.{is_cascaded, removals_of}
use Rattle.mm_value.specs.declared.row_ref.RowRef.{RowRef}
use Rattle.mm_store.specs.Tables.{IsAt, Tables}
use Rattle.mm_txn.specs.Cascades.{AddsCascaded, IsCascade, PlacedCascade, cascades_from, is_cascaded_by, is_cascaded_by_some, placed_cascade}
use Rattle.mm_txn.specs.PlacedEdits.{PlacedEdits, named, placed}
use Rattle.mm_txn.specs.declared.cascades.Cascade.{Cascade}
use Rattle.mm_txn.proofs.CascadeFinds.{cascade_so, placed_cascade_push}
use Rattle.mm_txn.proofs.CascadeSteps.{pairs_filtered}
use Rattle.mm_txn.proofs.CascadePlaces.{some_at}
use Rattle.mm_txn.proofs.CascadeTables.{as_many, cascades_are, cascades_go}
use Rattle.mm_txn.proofs.Referrers.{adds_both, adds_same}
use Rattle.mm_txn.proofs.cascades.cascaded_edits.Goals as goal

abbrev none : Cascade
none = record { column = 0; to = 0; gone = record { ref_ptr = (0, 0); now = [] } }

pub add_referrers-requires-clause-there : goal.add_referrers-requires-clause-there
add_referrers-requires-clause-there c =
    subst (λ (s : Tables). c.args.table < length s.tables) (sym c.loop-cascade.invariant.same)
    (subst (λ n. c.args.table < n) (as_many c.args.catalog.now.tables c.args.store.now.tables c.requires.kept.relations) c.requires.there)

pub add_referrers-requires-clause-cascade : goal.add_referrers-requires-clause-cascade
add_referrers-requires-clause-cascade c =
    let schema = c.args.catalog.now in
    let store = c.args.store.now in
    let cs : List PlacedEdits = placed c.args.own.now ∷ map placed c.args.cascaded.now in
    let (t, at) = some_at schema.tables c.args.table c.requires.there in
    let item : Cascade = get_or c.deref-cascade-items.result.now c.loop-cascade.cascade-index none in
    subst (λ (s : Tables). IsCascade s c.args.table item.column (item.to, item.gone.now)) (sym c.loop-cascade.invariant.same)
    (cascade_so (λ (a : PlacedCascade). IsCascade store c.args.table a.0 a.1) (cascades_from schema cs 0 t.definition.columns)
    (cascades_are schema store c.requires.kept c.requires.distinct cs c.requires.are c.args.table t at) c.deref-cascade-items.result.now
    (ap (map placed_cascade) c.deref-cascade-items.ensures.value ∙ c.in_ok-columns.ensures t at) c.loop-cascade.cascade-index none
    c.loop-cascade-test.true)

pub loop-cascade-preserved : goal.loop-cascade-preserved
loop-cascade-preserved c = record {
  same = c.add_referrers.ensures.same ∙ c.loop-cascade.invariant.same;
  found = λ stored at.
      let rs = c.args.store.now.tables in
      let items = c.deref-cascade-items.result.now in
      let k = c.loop-cascade.cascade-index in
      let item : Cascade = get_or items k none in
      let adds = subst (λ (s : Tables). AddsCascaded s c.args.table (placed_cascade item) c.loop-cascade.found.items c.add_referrers.new.found.items)
      c.loop-cascade.invariant.same c.in_ok-add_referrers.ensures.found in
      adds_same stored (λ row. is_cascaded_by_some rs (map placed_cascade (take k items)) row || is_cascaded_by rs item.column (item.to, item.gone.now) row) _
      (placed_cascade_push rs items k none c.loop-cascade-test.true) [] c.add_referrers.new.found.items
      (adds_both stored (is_cascaded_by_some rs (map placed_cascade (take k items))) (is_cascaded_by rs item.column (item.to, item.gone.now)) []
      c.loop-cascade.found.items
      c.add_referrers.new.found.items (c.loop-cascade.invariant.found stored at) (adds stored at));
}

pub removals_at-requires : goal.removals_at-requires
removals_at-requires c = record {
  there = subst (λ (s : Tables). c.args.table < length s.tables) (sym c.loop-cascade.invariant.same)
      (subst (λ n. c.args.table < n) (as_many c.args.catalog.now.tables c.args.store.now.tables c.requires.kept.relations) c.requires.there);
  live = λ stored at.
      (c.loop-cascade.invariant.found stored (subst (λ (s : Tables). IsAt s c.args.table stored) c.loop-cascade.invariant.same at)).live
      (All-nil (IsLive stored.places));
}

pub returns-clause-fit : goal.returns-clause-fit
returns-clause-fit c =
    let within = subst (λ n. c.args.table < n) (as_many c.args.catalog.now.tables c.args.store.now.tables c.requires.kept.relations) c.requires.there in
    let (stored, here) = some_at c.args.store.now.tables c.args.table within in
    IfOk-weaker c.removals_at.result _ _
    (λ edits fit. (stored, here, fit stored (subst (λ (s : Tables). IsAt s c.args.table stored) (sym c.loop-cascade.invariant.same) here)))
    c.removals_at.ensures.fit

pub returns-clause-pairs : goal.returns-clause-pairs
returns-clause-pairs c =
    IfOk-weaker c.removals_at.result _ _
    (λ edits edits_are t at.
    let schema = c.args.catalog.now in
    let store = c.args.store.now in
    let within = subst (λ n. c.args.table < n) (as_many schema.tables store.tables c.requires.kept.relations) c.requires.there in
    let (stored, here) = some_at store.tables c.args.table within in
    let seen = subst (λ (s : Tables). IsAt s c.args.table stored) (sym c.loop-cascade.invariant.same) here in
    let now = slot_at stored.places in
    let cs : List PlacedEdits = placed c.args.own.now ∷ map placed c.args.cascaded.now in
    let items = c.deref-cascade-items.result.now in
    let k = c.loop-cascade.cascade-index in
    let p : Row → Bool = is_cascaded schema (map (named schema store.tables) cs) t.definition.columns in
    let q : RowRef → Bool = λ x. list_any (same_ref x) c.loop-cascade.found.items in
    let goes : (row : Row) → is_cascaded_by_some store.tables (map placed_cascade (take k items)) row ≡ p row =
    λ row. ap (λ xs. is_cascaded_by_some store.tables (map placed_cascade xs) row)
    (take_all k items c.loop-cascade-test.false ∙ c.deref-cascade-items.ensures.value)
    ∙ ap (λ xs. is_cascaded_by_some store.tables xs row) (c.in_ok-columns.ensures t at)
    ∙ cascades_go schema store c.requires.kept c.requires.distinct cs c.requires.are c.args.table t at row in
    ap (λ o. option_map_or (λ (s : StoredRows). pairs_of (slot_at s.places) edits) o []) here
    ∙ ap (pairs_of now) (edits_are stored seen)
    ∙ pairs_filtered now q p stored.refs (λ x among.
    (c.loop-cascade.invariant.found stored here).found x (Contains-from_IsIn stored.refs x among) ∙ goes (row_at now x))
    ∙ ap (λ rows. removals_of (filter p rows)) (sym (ap (λ o. option_map_or rows_of o []) here)))
    c.removals_at.ensures.items
