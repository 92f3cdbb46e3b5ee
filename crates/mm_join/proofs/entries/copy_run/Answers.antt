use Rattle.std.proofs.Common.{List, map, ap, ◌∙◌}
use Rattle.mm_join.proofs.Rising.{run_ends}
use Rattle.mm_join.specs.declared.entries.Entry.{Entry}
use Rattle.mm_join.proofs.entries.copy_run.Goals as goal

pub returns-then-entry-prefix : goal.returns-then-entry-prefix
returns-then-entry-prefix c =
    c.loop-entry.invariant
    ∙ ap (λ (l : List Entry). map (λ (entry : Entry). entry.at) l)
    (run_ends c.args.prefix c.args.entries.now c.requires.rising c.loop-entry.entry-index (record { prefix = 0; at = record { slot = 0 } })
    c.loop-entry-test.true c.if-entry-prefix.true)
