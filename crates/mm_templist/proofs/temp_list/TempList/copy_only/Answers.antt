use Rattle.std.proofs.Common.{◌≡◌, ◌++◌, ◌∷◌, [], List, Some, get_or, map, sym, ap, ◌∙◌, arith}
use Rattle.std.proofs.lemmas.Result.{IfOk-equal}
use Rattle.mm_partition.specs.Views.{viewed}
use Rattle.mm_value.specs.declared.values.Value.{Value}
use Rattle.mm_query.specs.Queries.{rows_read, values_of}
use Rattle.mm_templist.specs.Combos.{rows_of_combo}
use Rattle.mm_templist.specs.Results.{projected_rows}
use Rattle.mm_templist.proofs.Live.{table_is_there, there_at}
use Rattle.mm_templist.proofs.Only.{first_live, only_projected, row_alone}
use Rattle.mm_templist.proofs.temp_list.TempList.copy_only.Goals as goal

pub row-row-requires-clause-there : goal.row-row-requires-clause-there
row-row-requires-clause-there c =
    let store = c.args.view.now.store in
    let tables = c.descriptor-descriptor.result.tables.now in
    let live = first_live store c.args.self.now tables c.combo-combo.result.now c.requires.live c.combo-combo.ensures c.descriptor-descriptor.ensures.tables in
    table_is_there store (get_or tables 0 0) _
    (there_at store tables c.combo-combo.result.now 0 0 (record { slot = 0 }) live (omega (arith, c.if-descriptor-eq1.true)))

pub choose_rows-requires : goal.choose_rows-requires
choose_rows-requires c =
    first_live c.args.view.now.store c.args.self.now c.descriptor-descriptor.result.tables.now c.combo-combo.result.now c.requires.live
    c.combo-combo.ensures c.descriptor-descriptor.ensures.tables

pub returns-then-descriptor-eq1-clause-ok : goal.returns-then-descriptor-eq1-clause-ok
returns-then-descriptor-eq1-clause-ok c =
    let store = c.args.view.now.store in
    let list = c.args.self.now in
    let tables = c.descriptor-descriptor.result.tables.now in
    let combo = c.combo-combo.result.now in
    let before : List (List Value) = c.args.buffer.now in
    let live = first_live store list tables combo c.requires.live c.combo-combo.ensures c.descriptor-descriptor.ensures.tables in
    let alone : rows_of_combo store tables combo ≡ viewed c.row-row.result ∷ [] =
    row_alone store tables combo (viewed c.row-row.result) c.if-descriptor-eq1.true live c.row-row.ensures.row in
    let row : List Value = values_of c.descriptor-descriptor.result.fields.now (Some (viewed c.row-row.result) ∷ []) in
    let only : before ++ row ∷ [] ≡ before ++ projected_rows store list =
    (λ k. before ++ values_of (c.descriptor-descriptor.ensures.fields k) (map Some (sym alone k)) ∷ [])
    ∙ ((λ k. before ++ values_of list.fields (map Some (rows_of_combo store (c.descriptor-descriptor.ensures.tables k) combo)) ∷ [])
    ∙ ap (λ rows. before ++ rows) (sym (only_projected store list combo c.requires.only c.combo-combo.ensures))) in
    IfOk-equal c.copy_values.result c.copy_values.new.buffer (before ++ row ∷ []) (before ++ projected_rows store list) c.copy_values.ensures.ok only

pub returns-clause-ok : goal.returns-clause-ok
returns-clause-ok c =
    let store = c.args.view.now.store in
    let list = c.args.self.now in
    let combo = c.combo-combo.result.now in
    let before : List (List Value) = c.args.buffer.now in
    let row : List Value = values_of c.descriptor-descriptor.result.fields.now (rows_read viewed c.as_slice.result.now) in
    let only : before ++ row ∷ [] ≡ before ++ projected_rows store list =
    (λ k. before ++ values_of (c.descriptor-descriptor.ensures.fields k) (rows_read viewed (c.as_slice.ensures k)) ∷ [])
    ∙ (ap (λ rows. before ++ values_of list.fields rows ∷ [])
    (c.in_ok-choose_rows.ensures.rows ∙ (λ k. map Some (rows_of_combo store (c.descriptor-descriptor.ensures.tables k) combo)))
    ∙ ap (λ rows. before ++ rows) (sym (only_projected store list combo c.requires.only c.combo-combo.ensures))) in
    IfOk-equal c.copy_values-2.result c.copy_values-2.new.buffer (before ++ row ∷ []) (before ++ projected_rows store list) c.copy_values-2.ensures.ok only
