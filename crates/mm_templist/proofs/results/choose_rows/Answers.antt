use Rattle.std.proofs.Common.{◌≡◌, ◌+◌, ◌<◌, ◌≤◌, ◌++◌, ◌∷◌, [], Some, get_or, length, map, refl, sym, ap, ◌∙◌, subst, arith}
use Rattle.std.specs.Prelude.{slice_get}
use Rattle.std.proofs.lemmas.List.{take_all}
use Rattle.mm_partition.specs.Views.{viewed}
use Rattle.mm_query.proofs.PlainEval.{pushed_front}
use Rattle.mm_store.specs.Tables.{IsAt, Tables}
use Rattle.mm_templist.specs.Combos.{rows_of_combo}
use Rattle.mm_templist.proofs.Live.{length_live, length_rows, next_row, row_in_place, row_is_found, row_is_live, table_is_there, there_at}
use Rattle.mm_templist.proofs.results.choose_rows.Goals as goal

pub bounds-combo-i : goal.bounds-combo-i
bounds-combo-i c = omega (arith, c.loop-i-test.true, length_live c.args.view.now.store c.args.tables.now c.args.combo.now c.requires)

pub row-requires-clause-there : goal.row-requires-clause-there
row-requires-clause-there c =
    let table = get_or c.args.tables.now c.loop-i.i 0 in
    subst (λ (s : Tables). table < length s.tables) (sym c.loop-i.invariant.same)
    (table_is_there c.args.view.now.store table _
    (there_at c.args.view.now.store c.args.tables.now c.args.combo.now c.loop-i.i 0 (record { slot = 0 }) c.requires c.loop-i-test.true))

pub row-requires-clause-live : goal.row-requires-clause-live
row-requires-clause-live c = λ stored is.
    let table = get_or c.args.tables.now c.loop-i.i 0 in
    row_is_live c.args.view.now.store table _
    (there_at c.args.view.now.store c.args.tables.now c.args.combo.now c.loop-i.i 0 (record { slot = 0 }) c.requires c.loop-i-test.true)
    stored (subst (λ (s : Tables). IsAt s table stored) c.loop-i.invariant.same is)

pub loop-i-preserved : goal.loop-i-preserved
loop-i-preserved c =
    let store = c.args.view.now.store in
    let rows = rows_of_combo store c.args.tables.now c.args.combo.now in
    let table = get_or c.args.tables.now c.loop-i.i 0 in
    let there = there_at store c.args.tables.now c.args.combo.now c.loop-i.i 0 (record { slot = 0 }) c.requires c.loop-i-test.true in
    let here : slice_get rows c.loop-i.i ≡ Some (viewed c.row.result) =
    row_in_place store c.args.tables.now c.args.combo.now c.loop-i.i 0 (record { slot = 0 }) c.requires c.loop-i-test.true
    ∙ ap Some (row_is_found store _ _ (viewed c.row.result) there
    (λ stored is. c.row.ensures.row stored (subst (λ (s : Tables). IsAt s table stored) (sym c.loop-i.invariant.same) is))) in
    let counted = c.row.ensures.counted in
    let more : c.row.new.self.reads ≤ c.args.view.now.reads + (c.loop-i.i + 1) = omega (arith, counted, c.loop-i.invariant.reads) in
    let pushed = pushed_front viewed c.loop-i.chosen.items c.loop-i.chosen.items c.push.new.self.items (Some c.row.result) c.in_ok-push.ensures.ok refl in
    record {
      same = c.row.ensures.same ∙ c.loop-i.invariant.same;
      rows = pushed ∙ (ap (λ l. l ++ Some (viewed c.row.result) ∷ []) c.loop-i.invariant.rows ∙ sym (next_row rows c.loop-i.i (viewed c.row.result) here));
      reads = more;
    }

pub returns-clause-rows : goal.returns-clause-rows
returns-clause-rows c =
    let rows = rows_of_combo c.args.view.now.store c.args.tables.now c.args.combo.now in
    let all : length rows ≤ c.loop-i.i = omega (arith, c.loop-i-test.false, length_rows c.args.view.now.store c.args.tables.now c.args.combo.now c.requires) in
    c.loop-i.invariant.rows ∙ ap (map Some) (take_all c.loop-i.i rows all)
