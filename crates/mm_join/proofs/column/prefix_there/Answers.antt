use Rattle.std.proofs.Common.{◌≡◌, Option, Some, sym, ap, ◌∙◌, subst, ℕ}
use Rattle.std.specs.Prelude.{IfSome, slice_get}
use Rattle.std.specs.Option.{option_map}
use Rattle.mm_partition.specs.Places.{slot_at, row_in}
use Rattle.mm_query.specs.Atoms.{value_in}
use Rattle.mm_row_order.specs.Refs.{row_at}
use Rattle.mm_store.specs.Tables.{IsAt, Tables}
use Rattle.mm_value.specs.Prefix.{order_prefix}
use Rattle.mm_join.proofs.Prefixed.{prefix_read}
use Rattle.mm_join.proofs.column.prefix_there.Goals as goal

pub returns-in-Some-clause-prefix : goal.returns-in-Some-clause-prefix
returns-in-Some-clause-prefix c = λ stored here.
    let row = row_at (slot_at stored.places) c.args.at in
    sym (prefix_read row c.args.column c.in-Some.prefix
    (subst (λ (o : Option ℕ). IfSome o (λ prefix. option_map order_prefix (slice_get row c.args.column) ≡ Some prefix)) c.in-Some.is
    (c.prefix_of.ensures.prefix stored here)))

pub returns-in-None-clause-prefix : goal.returns-in-None-clause-prefix
returns-in-None-clause-prefix c = λ stored here.
    c.prefix_in.ensures ∙ ap (λ content. order_prefix (value_in c.args.column (row_in content))) (sym (c.row.ensures.row stored
    (subst (λ (s : Tables). IsAt s c.args.table stored) (sym c.prefix_of.ensures.same) here)))
