use Rattle.std.proofs.Common.{List, Some, ◌∙◌, sym, subst}
use Rattle.mm_store.specs.Tables.{IsAt}
use Rattle.mm_indexed.specs.Kept.{StoredRows}
use Rattle.mm_partition.specs.Places.{IsLive}
use Rattle.mm_tables.specs.declared.edit.Edit.TheVariants.{Move, Update}
use Rattle.mm_value.specs.declared.values.Value.{Value}
use Rattle.mm_store.specs.Staging.{KeepsSlots}
use Rattle.mm_txn.specs.RowEdits.{Brings}
use Rattle.mm_txn.proofs.StagedRows.{brings_move, brings_update, live_kept, one_from, staged_from, staged_hidden, staged_within}
use Rattle.mm_txn.proofs.row_edits.swap.Goals as goal

pub keeps_key-requires-clause-there : goal.keeps_key-requires-clause-there
keeps_key-requires-clause-there c = staged_within c.args.table c.args.store.now c.stage-other.new.self c.stage-other.ensures.kept c.requires.there

pub keeps_key-requires-clause-live : goal.keeps_key-requires-clause-live
keeps_key-requires-clause-live c = λ now here.
    let from = staged_from c.args.table c.args.store.now c.stage-other.new.self c.stage-other.ensures.kept c.requires.there now here in
    live_kept from.0 now from.2 c.args.at (c.requires.live from.0 from.1)

pub keeps_key-requires-clause-hidden : goal.keeps_key-requires-clause-hidden
keeps_key-requires-clause-hidden c = λ now here.
    let from = staged_from c.args.table c.args.store.now c.stage-other.new.self c.stage-other.ensures.kept c.requires.there now here in
    (c.as_mut_slice.result.now, staged_hidden c.stage-other.result c.as_mut_slice.result.now from.0 now (c.stage-other.ensures.staged from.0 now from.1 here))

pub returns-then-keeps_key-clause-swapped : goal.returns-then-keeps_key-clause-swapped
returns-then-keeps_key-clause-swapped c = λ stored now was is.
    subst (λ (row : List Value). Brings stored now (Some c.args.at) row (Update c.args.at c.stage-other.result))
    (c.as_mut_slice.ensures.value ∙ c.into_values-values.ensures)
    (brings_update c.args.at c.stage-other.result c.as_mut_slice.result.now stored now
    (one_from c.args.table c.args.store.now c.stage-other.new.self c.stage-other.ensures.kept stored was now is)
    (c.requires.live stored was) (c.stage-other.ensures.staged stored now was is) (sym (c.keeps_key.ensures now is) ∙ c.if-keeps_key.true))

pub returns-clause-swapped : goal.returns-clause-swapped
returns-clause-swapped c = λ stored now was is.
    subst (λ (row : List Value). Brings stored now (Some c.args.at) row (Move c.args.at c.stage-other.result))
    (c.as_mut_slice.ensures.value ∙ c.into_values-values.ensures)
    (brings_move c.args.at c.stage-other.result c.as_mut_slice.result.now stored now
    (one_from c.args.table c.args.store.now c.stage-other.new.self c.stage-other.ensures.kept stored was now is)
    (c.requires.live stored was) (c.stage-other.ensures.staged stored now was is))
