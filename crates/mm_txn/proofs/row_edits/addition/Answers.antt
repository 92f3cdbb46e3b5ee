use Rattle.std.proofs.Common.{List, None, ◌∙◌, subst}
use Rattle.mm_tables.specs.declared.edit.Edit.TheVariants.{Insert}
use Rattle.mm_value.specs.declared.values.Value.{Value}
use Rattle.mm_txn.specs.RowEdits.{Brings}
use Rattle.mm_txn.proofs.StagedRows.{brings_insert}
use Rattle.mm_txn.proofs.row_edits.addition.Goals as goal

pub returns-clause-added : goal.returns-clause-added
returns-clause-added c = λ stored now was is.
    subst (λ (row : List Value). Brings stored now None row (Insert c.stage.result)) (c.as_mut_slice.ensures.value ∙ c.into_values-values.ensures)
    (brings_insert c.stage.result c.as_mut_slice.result.now stored now (c.stage.ensures.staged stored now was is))
