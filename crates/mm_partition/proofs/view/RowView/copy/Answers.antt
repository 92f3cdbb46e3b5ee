use Rattle.std.proofs.Common.{◌≡◌, ◌∷◌, [], ◌++◌, get_or, take, sym, ap, ◌∙◌, arith}
use Rattle.std.proofs.lemmas.List.{take_more}
use Rattle.std.proofs.lemmas.Option.{get_or_from_slice_get, slice_get_within}
use Rattle.mm_value.specs.Views.{value_of}
use Rattle.mm_partition.specs.Views.{viewed}
use Rattle.mm_partition.proofs.view.RowView.copy.Goals as goal

pub loop-i-preserved : goal.loop-i-preserved
loop-i-preserved c =
    let row = viewed c.args.self.now in
    let i = c.loop-i.i in
    let value = c.in_ok-copy.field-0 in
    let read : get_or row i value ≡ value = get_or_from_slice_get row i (value_of c.value.result) value c.value.ensures ∙ sym c.in_ok-copy.ensures.ok in
    record {
      items = c.push_reserved.ensures.items
          ∙ (ap (λ xs. xs ++ value ∷ []) c.loop-i.invariant.items
          ∙ (ap (λ x. take i row ++ x ∷ []) (sym read)
          ∙ sym (take_more row i value (slice_get_within row i (value_of c.value.result) c.value.ensures))));
      room = omega (arith, c.loop-i.invariant.room, c.push_reserved.ensures.capacity);
    }
