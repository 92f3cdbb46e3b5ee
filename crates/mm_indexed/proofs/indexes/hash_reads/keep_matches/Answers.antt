use Rattle.std.proofs.Common.{◌<◌, length, sym, ◌∙◌, arith}
use Rattle.mm_value.specs.Views.{value_of}
use Rattle.mm_partition.specs.Places.{slot_at}
use Rattle.mm_row_order.specs.InOrder.{HasColumn}
use Rattle.mm_indexed.specs.Reads.{has_value}
use Rattle.mm_indexed.proofs.Matches.{Keeping-kept, Keeping-skipped, first_held}
use Rattle.mm_indexed.proofs.indexes.hash_reads.keep_matches.Goals as goal
use Rattle.mm_indexed.proofs.indexes.hash_reads.keep_matches.Goals.{then-is_match, else-is_match}

pub is_match-requires : goal.is_match-requires
is_match-requires c =
    let now = slot_at c.args.rows.now in
    let size = c.loop-i.invariant.size in
    first_held (has_value c.args.column now (value_of c.args.value)) (HasColumn c.args.column now) c.args.from c.args.out.now.items
    c.loop-i.out.items c.loop-i.kept c.loop-i.i c.loop-i.invariant c.index-at.result.now (omega arith) c.index-at.ensures

pub loop-i-preserved : goal.loop-i-preserved
loop-i-preserved c =
    let now = slot_at c.args.rows.now in
    let size = c.loop-i.invariant.size in
    let within : c.loop-i.i < length c.loop-i.out.items = omega arith in
    elim c.if-is_match.branch [
      | then-is_match w ↦
          rw (w.out-is, w.kept-is)
          (Keeping-kept (has_value c.args.column now (value_of c.args.value)) (HasColumn c.args.column now) c.args.from c.args.out.now.items
          c.loop-i.out.items c.loop-i.kept c.loop-i.i c.loop-i.invariant c.index-at.result.now within c.index-at.ensures
          (sym c.is_match.ensures ∙ w.if-is_match.true))
      | else-is_match w ↦
          rw (w.out-is, w.kept-is)
          (Keeping-skipped (has_value c.args.column now (value_of c.args.value)) (HasColumn c.args.column now) c.args.from c.args.out.now.items
          c.loop-i.out.items c.loop-i.kept c.loop-i.i c.loop-i.invariant c.index-at.result.now within c.index-at.ensures
          (sym c.is_match.ensures ∙ w.if-is_match.false))
    ]
