use Rattle.std.proofs.Common.{◌≢◌, sym, ◌∙◌}
use Rattle.std.proofs.lemmas.List.Sorted.{IsPermutation-sym, All-permutation}
use Rattle.mm_partition.specs.Places.{slot_at}
use Rattle.mm_indexed.specs.Stays.{agrees}
use Rattle.mm_indexed.proofs.Entries.{beside_stayed, without_moved, inserted_beside}
use Rattle.mm_indexed.proofs.indexes.tree_entries.insert_unless_stays.Goals as goal

pub returns-then-agree-clause-refs : goal.returns-then-agree-clause-refs
returns-then-agree-clause-refs c held was =
    beside_stayed (λ xs. xs) c.args.at c.args.tree.now.refs held (agrees c.args.column c.args.key (slot_at c.args.rows.now) c.args.at c.args.other)
    (sym c.agree.ensures ∙ c.if-agree.true) was

pub insert-requires-clause-absent : goal.insert-requires-clause-absent
insert-requires-clause-absent c =
    All-permutation (λ a. a ≢ c.args.at) c.requires.held.0 c.args.tree.now.refs
    (IsPermutation-sym c.args.tree.now.refs c.requires.held.0
    (without_moved (λ xs. xs) c.args.at c.args.tree.now.refs c.requires.held.0
    (agrees c.args.column c.args.key (slot_at c.args.rows.now) c.args.at c.args.other) (sym c.agree.ensures ∙ c.if-agree.false) c.requires.held.2))
    c.requires.held.1

pub returns-clause-refs : goal.returns-clause-refs
returns-clause-refs c held was =
    inserted_beside c.args.at c.args.tree.now.refs c.insert.new.tree.refs held c.insert.ensures.refs
    (without_moved (λ xs. xs) c.args.at c.args.tree.now.refs held
    (agrees c.args.column c.args.key (slot_at c.args.rows.now) c.args.at c.args.other) (sym c.agree.ensures ∙ c.if-agree.false) was)
