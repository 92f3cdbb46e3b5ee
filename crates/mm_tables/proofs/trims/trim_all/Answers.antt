use Rattle.std.proofs.Common.{ℕ, ◌∙◌, arith}
use Rattle.std.proofs.lemmas.List.{get_or_default}
use Rattle.mm_tables.specs.Tables.{HasFewSpares, HoldsAt}
use Rattle.mm_tables.proofs.Settling.{trim_more, last_is}
use Rattle.mm_tables.proofs.trims.trim_all.Goals as goal

pub loop-entry-preserved : goal.loop-entry-preserved
loop-entry-preserved c =
    let inv = c.loop-entry.invariant in
    let log = c.args.log.now in
    record {
      done = trim_more c.loop-entry.tables.items c.trim_next.new.tables.items log c.loop-entry.entry-index _ _ c.loop-entry-test.true
          (get_or_default log c.loop-entry.entry-index _ _ c.loop-entry-test.true) c.trim_next.ensures.few c.trim_next.ensures.kept inv.done;
      last = λ t is. last_is _ t (λ (n : ℕ). HoldsAt (HasFewSpares 64) c.trim_next.new.tables.items n) is c.trim_next.ensures.few;
      state = c.trim_next.ensures.state ∙ inv.state;
      counted = c.trim_next.ensures.counted;
      extents = λ t. omega (arith, c.trim_next.ensures.extents t, inv.extents t);
      shapes = c.trim_next.ensures.shapes ∙ inv.shapes;
    }
