use Rattle.std.proofs.Common.{subst}
use Rattle.mm_partition.specs.Keys.{AreKeys}
use Rattle.mm_row_order.proofs.InColumn.{prefix_at, lesser, greater}
use Rattle.mm_row_order.proofs.in_column.compare_in.Goals as goal

pub returns-then-one-other : goal.returns-then-one-other
returns-then-one-other c =
    let agree = subst (AreKeys c.args.column c.args.rows.now) c.in-Prefixes.is c.requires.keys in
    let one = prefix_at c.args.column c.args.rows.now c.in-Prefixes.prefixes.now c.args.a _ agree c.index_of-in-Prefixes.ensures c.requires.a in
    let other = prefix_at c.args.column c.args.rows.now c.in-Prefixes.prefixes.now c.args.b _ agree c.index_of-in-Prefixes-2.ensures c.requires.b in
    lesser _ _ one.0 other.0 _ _ one.1 other.1 one.2 other.2 c.if-one-other.true

pub returns-then-other-one : goal.returns-then-other-one
returns-then-other-one c =
    let agree = subst (AreKeys c.args.column c.args.rows.now) c.in-Prefixes.is c.requires.keys in
    let one = prefix_at c.args.column c.args.rows.now c.in-Prefixes.prefixes.now c.args.a _ agree c.index_of-in-Prefixes.ensures c.requires.a in
    let other = prefix_at c.args.column c.args.rows.now c.in-Prefixes.prefixes.now c.args.b _ agree c.index_of-in-Prefixes-2.ensures c.requires.b in
    greater _ _ one.0 other.0 _ _ one.1 other.1 one.2 other.2 c.if-other-one.true
