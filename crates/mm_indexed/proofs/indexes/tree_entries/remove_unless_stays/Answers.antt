use Rattle.std.proofs.Common.{sym, ◌∙◌}
use Rattle.mm_partition.specs.Places.{slot_at}
use Rattle.mm_indexed.specs.Stays.{agrees}
use Rattle.mm_indexed.proofs.Entries.{stayed_beside, removed_beside}
use Rattle.mm_indexed.proofs.indexes.tree_entries.remove_unless_stays.Goals as goal

pub returns-then-agree-clause-refs : goal.returns-then-agree-clause-refs
returns-then-agree-clause-refs c held was =
    stayed_beside (λ xs. xs) c.args.at c.args.tree.now.refs held (agrees c.args.column c.args.key (slot_at c.args.rows.now) c.args.at c.args.other)
    (sym c.agree.ensures ∙ c.if-agree.true) was

pub returns-clause-refs : goal.returns-clause-refs
returns-clause-refs c held was =
    removed_beside c.args.at c.args.tree.now.refs c.remove.new.tree.refs held
    (agrees c.args.column c.args.key (slot_at c.args.rows.now) c.args.at c.args.other) (sym c.agree.ensures ∙ c.if-agree.false) c.remove.ensures.refs was
