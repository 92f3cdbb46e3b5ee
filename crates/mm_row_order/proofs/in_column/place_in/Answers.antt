use Rattle.std.proofs.Common.{refl, subst}
use Rattle.mm_value.specs.Views.{value_of}
use Rattle.mm_partition.specs.Keys.{AreKeys}
use Rattle.mm_row_order.proofs.InColumn.{prefix_at, number_at, lesser, greater}
use Rattle.mm_row_order.proofs.in_column.place_in.Goals as goal

pub returns-in-Text : goal.returns-in-Text
returns-in-Text c =
    let agree = subst (AreKeys c.args.column c.args.rows.now) c.in-Numbers.is c.requires.keys in
    rw (number_at c.args.column c.args.rows.now c.in-Numbers.numbers.now c.args.at _ agree refl (c.requires.at.row, c.requires.at.live), c.in-Text.is) refl

pub returns-then-kept-prefix : goal.returns-then-kept-prefix
returns-then-kept-prefix c =
    let agree = subst (AreKeys c.args.column c.args.rows.now) c.in-Prefixes.is c.requires.keys in
    let here = prefix_at c.args.column c.args.rows.now c.in-Prefixes.prefixes.now c.args.at _ agree c.index_of-in-Prefixes.ensures c.requires.at in
    lesser _ _ here.0 (value_of c.args.sought) _ _ here.1 refl here.2 c.requires.prefix c.if-kept-prefix.true

pub returns-then-prefix-kept : goal.returns-then-prefix-kept
returns-then-prefix-kept c =
    let agree = subst (AreKeys c.args.column c.args.rows.now) c.in-Prefixes.is c.requires.keys in
    let here = prefix_at c.args.column c.args.rows.now c.in-Prefixes.prefixes.now c.args.at _ agree c.index_of-in-Prefixes.ensures c.requires.at in
    greater _ _ here.0 (value_of c.args.sought) _ _ here.1 refl here.2 c.requires.prefix c.if-prefix-kept.true
