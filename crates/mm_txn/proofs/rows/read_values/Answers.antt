use Rattle.std.proofs.Common.{◌++◌, ◌∷◌, [], length, map, take, sym, ap, ◌∙◌}
use Rattle.std.proofs.lemmas.List.{map-append, take_all}
use Rattle.std.proofs.lemmas.Option.{get_or_from_slice_get, slice_get_within}
use Rattle.mm_partition.specs.Views.{viewed}
use Rattle.std.proofs.lemmas.List.{take_more}
use Rattle.mm_value.specs.Views.{value_of}
use Rattle.mm_txn.proofs.rows.read_values.Goals as goal

pub loop-i-preserved : goal.loop-i-preserved
loop-i-preserved c =
    let row = viewed c.args.row in
    let i = c.loop-i.i in
    let value = value_of c.value.result in
    let read = c.loop-i.values.items in
    ap (map value_of) c.in_ok-push.ensures.items
    ∙ (map-append value_of read (c.value.result ∷ [])
    ∙ (ap (λ values. values ++ value ∷ []) c.loop-i.invariant
    ∙ sym (take_more row i value (slice_get_within row i value c.value.ensures)
    ∙ ap (λ v. take i row ++ v ∷ []) (get_or_from_slice_get row i value value c.value.ensures))))
