use Rattle.std.proofs.Common.{inl, true, subst, sym}
use Rattle.std.proofs.lemmas.Result.{err_from_is_err_and}
use Rattle.mm_schema.specs.declared.column.Role.TheVariants.{Reference}
use Rattle.mm_lang.specs.Grammar.{reference}
use Rattle.mm_lang.specs.steps.Parsing.{Gives, no_literals}
use Rattle.mm_lang.proofs.Readings.{reference_no_name, reference_given}
use Rattle.mm_lang.proofs.read.columns.read_reference.Goals as goal

pub returns-in_err-table : goal.returns-in_err-table
returns-in_err-table c =
    let p = err_from_is_err_and c.from_residual.result c.from_residual.ensures.1 in
    rw (p.1, p.2) (reference_no_name c.args.reader.now _ (inl c.in_err-table.ensures))

pub returns : goal.returns
returns c =
    subst (λ d. Gives (reference true) no_literals c.args.reader.now c.skip_keyword-cascades.new.self (Reference c.in_ok-table.table d))
    (sym c.on_delete_of-on_delete.ensures)
    (reference_given c.args.reader.now c.name.new.self c.skip_keyword-cascades.new.self c.in_ok-table.table c.skip_keyword-cascades.result
    c.in_ok-table.ensures c.skip_keyword-cascades.ensures)
