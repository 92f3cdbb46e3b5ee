use Rattle.std.proofs.Common.{◌≡◌, ◌∙◌, subst, arith}
use Rattle.std.proofs.lemmas.List.{take_all}
use Rattle.std.proofs.lemmas.List.Elements.{All-more}
use Rattle.mm_plan.proofs.explaining.have_one_key.Goals as goal
use Rattle.mm_plan.specs.Kept.{HaveOneKey}
use Rattle.mm_schema.specs.Columns.{key_count}
use Rattle.mm_schema.specs.declared.table.Table.{Table}

pub loop-table-preserved : goal.loop-table-preserved
loop-table-preserved c =
    let table = c.table-item.result in
    All-more (λ (t : Table). key_count t.definition.columns ≡ 1) c.tables-tables.result.now c.loop-table.table-index table c.loop-table-test.true
    c.loop-table.invariant (subst (λ (t : Table). key_count t.definition.columns ≡ 1) c.table-item.is c.as_slice.ensures.one_key)

pub returns : goal.returns
returns c =
    subst HaveOneKey (take_all c.loop-table.table-index c.tables-tables.result.now (omega (arith, c.loop-table-test.false)) ∙ c.tables-tables.ensures.value)
    c.loop-table.invariant
