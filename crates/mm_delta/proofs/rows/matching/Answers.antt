use Rattle.std.proofs.Common.{rules, Some, subst, sym}
use Rattle.std.specs.Int.{w64}
use Rattle.std.specs.Prelude.{FitsSigned}
use Rattle.mm_store.proofs.Shown.{table_seen}
use Rattle.mm_delta.proofs.PastRange.{none_found}
use Rattle.mm_delta.specs.Steps.{IsFoundOf}
use Rattle.mm_delta.specs.Wanted.{value_wanted}
use Rattle.mm_delta.specs.declared.wanted.Wanted.{Wanted}
use Rattle.mm_delta.proofs.rows.matching.Goals as goal

pub returns-in-None : goal.returns-in-None
returns-in-None c = λ stored at.
    let past : ¬ FitsSigned w64 c.in-Sum.sum = search rules in
    subst (λ (wanted : Wanted). IsFoundOf (Some (c.args.look_up.now.column, value_wanted wanted)) stored c.new.result.items) (sym c.in-Sum.is)
    (none_found stored c.args.look_up.now.column c.in-Sum.sum c.new.result.items (table_seen c.args.view.now c.args.table stored at).storable past
    c.new.ensures.items)
