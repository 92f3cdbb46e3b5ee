use Rattle.std.proofs.Common.{◌≡◌, ◌+◌, ◌<◌, [], ◌∷◌, ◌++◌, List, Some, get_or, length, drop, map, sym, ap, ◌∙◌, subst, arith}
use Rattle.std.proofs.lemmas.List.{append-nil}
use Rattle.std.proofs.lemmas.Option.{slice_get_within}
use Rattle.mm_partition.specs.Views.{viewed}
use Rattle.mm_query.specs.Queries.{rows_read}
use Rattle.mm_indexed.specs.Kept.{StoredRows}
use Rattle.mm_partition.specs.Places.{IsLive}
use Rattle.mm_select.proofs.Walks.{row_given}
use Rattle.mm_store.proofs.Joining.{one_relation}
use Rattle.mm_store.specs.Tables.{IsAt, Tables}
use Rattle.mm_templist.specs.Combos.{row_of, rows_of_combo}
use Rattle.mm_value.specs.declared.row_ref.RowRef.{RowRef}
use Rattle.mm_value.specs.declared.values.Value.{Value}
use Rattle.mm_join.proofs.Chosen.{chosen_next, next_live, none_left, pushed_row, rest_live, table_within}
use Rattle.mm_join.proofs.inner.choose.Goals as goal

pub bounds-outer-place : goal.bounds-outer-place
bounds-outer-place c =
    table_within c.args.view.now.store c.args.outer.tables.now c.args.outer.refs.now c.loop-place.place record { slot = 0 } c.loop-place-test.true
    c.loop-place.invariant.live

pub row-requires-clause-there : goal.row-requires-clause-there
row-requires-clause-there c =
    let live = next_live c.args.view.now.store c.args.outer.tables.now c.args.outer.refs.now c.loop-place.place record { slot = 0 }
    c.loop-place-test.true c.loop-place.invariant.live in
    subst (λ (store : Tables). get_or c.args.outer.tables.now c.loop-place.place 0 < length store.tables) (sym c.loop-place.invariant.same)
    (slice_get_within c.args.view.now.store.tables (get_or c.args.outer.tables.now c.loop-place.place 0) live.0 live.1)

pub row-requires-clause-live : goal.row-requires-clause-live
row-requires-clause-live c = λ stored at.
    let live = next_live c.args.view.now.store c.args.outer.tables.now c.args.outer.refs.now c.loop-place.place record { slot = 0 }
    c.loop-place-test.true c.loop-place.invariant.live in
    let here = subst (λ (store : Tables). IsAt store (get_or c.args.outer.tables.now c.loop-place.place 0) stored) c.loop-place.invariant.same at in
    subst (λ (s : StoredRows). IsLive s.places (get_or c.args.outer.refs.now c.loop-place.place record { slot = 0 }))
    (one_relation live.0 stored (sym live.1 ∙ here)) live.2

pub returns-in_err-push-clause-reads : goal.returns-in_err-push-clause-reads
returns-in_err-push-clause-reads c =
    omega (
      arith,
      c.row.ensures.counted,
      table_within c.args.view.now.store c.args.outer.tables.now c.args.outer.refs.now c.loop-place.place record { slot = 0 }
          c.loop-place-test.true c.loop-place.invariant.live,
      c.loop-place.invariant.reads,
    )

pub loop-place-preserved : goal.loop-place-preserved
loop-place-preserved c =
    let store = c.args.view.now.store in
    let tables = c.args.outer.tables.now in
    let outer = c.args.outer.refs.now in
    let place = c.loop-place.place in
    let table = get_or tables place 0 in
    let at : RowRef = get_or outer place record { slot = 0 } in
    let live = next_live store tables outer place record { slot = 0 } c.loop-place-test.true c.loop-place.invariant.live in
    let within : table < length c.loop-place.view.store.tables = subst (λ (s : Tables). table < length s.tables) (sym c.loop-place.invariant.same)
    (slice_get_within store.tables table live.0 live.1) in
    let below = table_within store tables outer place record { slot = 0 } c.loop-place-test.true c.loop-place.invariant.live in
    let given : row_of store table at ≡ viewed c.row.result =
    ap (λ (s : Tables). row_of s table at) (sym c.loop-place.invariant.same)
    ∙ row_given c.loop-place.view.store table at (viewed c.row.result) within c.row.ensures.row in
    let pushed : rows_read viewed c.push.new.self.items ≡ rows_read viewed c.loop-place.rows.items ++ Some (row_of store table at) ∷ [] =
    pushed_row c.loop-place.rows.items c.push.new.self.items (Some c.row.result) c.in_ok-push.ensures.items
    ∙ ap (λ (row : List Value). rows_read viewed c.loop-place.rows.items ++ Some row ∷ []) (sym given) in
    record {
      same = c.row.ensures.same ∙ c.loop-place.invariant.same;
      rows = ap (λ l. l ++ map Some (rows_of_combo store (drop (place + 1) tables) (drop (place + 1) outer))) pushed
          ∙ chosen_next store tables outer place record { slot = 0 } c.loop-place-test.true c.loop-place.invariant.live
          (rows_read viewed c.loop-place.rows.items) (map Some (rows_of_combo store tables outer)) c.loop-place.invariant.rows;
      live = rest_live store tables outer place record { slot = 0 } c.loop-place-test.true c.loop-place.invariant.live;
      within = omega (arith, below);
      reads = omega (arith, c.row.ensures.counted, c.loop-place.invariant.reads);
    }

pub returns-clause-rows : goal.returns-clause-rows
returns-clause-rows c =
    let store = c.args.view.now.store in
    let tables = c.args.outer.tables.now in
    let outer = c.args.outer.refs.now in
    let none = none_left store tables outer c.loop-place.place c.loop-place-test.false in
    sym (append-nil (rows_read viewed c.loop-place.rows.items))
    ∙ (sym (ap (λ (l : List (List Value)). rows_read viewed c.loop-place.rows.items ++ map Some l) none) ∙ c.loop-place.invariant.rows)

pub returns-clause-reads : goal.returns-clause-reads
returns-clause-reads c = omega (arith, c.loop-place.invariant.within, c.loop-place.invariant.reads)
