use Rattle.std.proofs.Common.{◌≡◌, ◌+◌, ◌++◌, ◌∷◌, [], List, Some, length, map, sym, ap, ◌∙◌, arith, length-append}
use Rattle.std.proofs.lemmas.List.{length-map}
use Rattle.mm_partition.specs.Views.{viewed}
use Rattle.mm_value.specs.Views.{value_of}
use Rattle.mm_value.specs.declared.values.Value.{Value}
use Rattle.mm_query.specs.Queries.{rows_read, values_of}
use Rattle.mm_templist.specs.Combos.{rows_of_combo}
use Rattle.mm_templist.specs.Pieces.{pieces}
use Rattle.mm_templist.specs.Runs.{referred}
use Rattle.mm_templist.proofs.Live.{next_projected, values_are_as_many}
use Rattle.mm_templist.proofs.Pieces.{pieces-push}
use Rattle.mm_templist.proofs.temp_list.TempList.projected.Goals as goal

pub loop-i-preserved : goal.loop-i-preserved
loop-i-preserved c =
    let store = c.args.view.now.store in
    let list = c.args.self.now in
    let combo = c.combo.result.now in
    let width = length list.fields in
    let i = c.loop-i.i in
    let before : List Value = referred c.loop-i.values.items in
    let after : List Value = referred c.push_values.new.values.items in
    let row : List Value = values_of list.fields (map Some (rows_of_combo store list.tables combo)) in
    let shown : after ≡ before ++ row =
    c.in_ok-push_values.ensures
    ∙ ((λ k. before ++ values_of (c.descriptor-descriptor.ensures.fields k) (rows_read viewed (c.as_slice.ensures k)))
    ∙ ap (λ rows. before ++ values_of list.fields rows)
    (c.in_ok-choose_rows.ensures.rows ∙ (λ k. map Some (rows_of_combo (c.loop-i.invariant.same k) (c.descriptor-descriptor.ensures.tables k) combo)))) in
    let wide : length row ≡ width = values_are_as_many list.fields (map Some (rows_of_combo store list.tables combo)) in
    let long_before : length before ≡ length c.loop-i.values.items = length-map c.loop-i.values.items value_of in
    let long_after : length after ≡ length c.push_values.new.values.items = length-map c.push_values.new.values.items value_of in
    let tables = ap length c.descriptor-descriptor.ensures.tables in
    record {
      same = c.in_ok-choose_rows.ensures.same ∙ c.loop-i.invariant.same;
      rows = ap (pieces width (i + 1)) shown
          ∙ (pieces-push width i before row (long_before ∙ c.loop-i.invariant.whole) wide
          ∙ (ap (λ rows. rows ++ row ∷ []) c.loop-i.invariant.rows ∙ sym (next_projected store list i combo c.combo.ensures)));
      whole = omega (arith, long_after, ap length shown, length-append before row, wide, long_before, c.loop-i.invariant.whole);
      reads = omega (arith, c.in_ok-choose_rows.ensures.reads, c.loop-i.invariant.reads, tables);
    }
