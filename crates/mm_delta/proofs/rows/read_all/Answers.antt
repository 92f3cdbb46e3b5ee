-- The row of one more reference is read.
use Rattle.std.proofs.Common.{◌≡◌, ◌++◌, ◌∷◌, [], List, get_or, map, take, sym, ap, ◌∙◌, subst, arith}
use Rattle.std.proofs.lemmas.List.{map-append, take_more}
use Rattle.mm_partition.specs.Places.{slot_at, row_in}
use Rattle.mm_partition.specs.Views.{viewed}
use Rattle.mm_row_order.specs.Refs.{row_at}
use Rattle.mm_store.specs.Tables.{IsAt, Tables}
use Rattle.mm_value.specs.declared.row_ref.RowRef.{RowRef}
use Rattle.mm_value.specs.declared.values.Value.{Value}
use Rattle.mm_delta.proofs.rows.read_all.Goals as goal

abbrev none : RowRef
none = record { slot = 0 }

pub loop-at-preserved : goal.loop-at-preserved
loop-at-preserved c =
    let refs = c.args.refs.now in
    let i = c.loop-at.at-index in
    let at : RowRef = get_or refs i none in
    record {
      same = c.row.ensures.same ∙ c.loop-at.invariant.same;
      rows = λ stored here.
          let read : RowRef → List Value = row_at (slot_at stored.places) in
          let is : viewed c.row.result ≡ read at = sym
          (ap row_in (c.row.ensures.row stored (subst (λ (s : Tables). IsAt s c.args.table stored) (sym c.loop-at.invariant.same) here))) in
          ap (map viewed) c.in_ok-push.ensures.items
          ∙ (map-append viewed c.loop-at.rows.items (c.row.result ∷ [])
          ∙ ((λ k. c.loop-at.invariant.rows stored here k ++ is k ∷ [])
          ∙ (sym (map-append read (take i refs) (at ∷ [])) ∙ ap (map read) (sym (take_more refs i none c.loop-at-test.true)))));
      reads = omega (arith, c.row.ensures.counted, c.loop-at.invariant.reads);
    }
