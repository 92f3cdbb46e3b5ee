use Rattle.std.proofs.Common.{◌∙◌}
use Rattle.std.proofs.lemmas.List.{get_or_default}
use Rattle.mm_tables.proofs.InTables.{extents-same}
use Rattle.mm_tables.proofs.Settling.{forget_more}
use Rattle.mm_tables.proofs.trims.forget_all.Goals as goal

pub loop-entry-preserved : goal.loop-entry-preserved
loop-entry-preserved c =
    let inv = c.loop-entry.invariant in
    let log = c.args.log.now in
    let more = forget_more c.args.tables.now.items c.loop-entry.tables.items log c.loop-entry.entry-index _ _ c.index_mut.result.now c.forget.new.self
    c.index_mut.ensures.value c.forget.ensures.others c.forget.ensures.cleared c.forget.ensures.owed c.forget.ensures.spare c.forget.ensures.shape
    c.loop-entry-test.true (get_or_default log c.loop-entry.entry-index _ _ c.loop-entry-test.true) c.requires.within inv.cleared inv.others inv.counted
    inv.shapes in
    record {
      cleared = more.0;
      others = more.1;
      counted = more.2;
      extents = extents-same c.loop-entry.tables.items _ c.index_mut.result.now c.forget.new.self c.index_mut.ensures.value
          c.forget.ensures.extent ∙ inv.extents;
      shapes = more.3;
    }
