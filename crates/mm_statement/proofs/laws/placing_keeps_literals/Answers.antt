use Rattle.std.proofs.Common.{◌++◌, sym, ap}
use Rattle.std.specs.List.{flat_map}
use Rattle.mm_query.specs.Resolving.{placed_field, placed_query}
use Rattle.mm_lang.specs.Reading.{position_literals}
use Rattle.mm_statement.proofs.AlikeParts.{mapped_literals, mapped_shape}
use Rattle.mm_statement.proofs.laws.placing_keeps_literals.Goals as goal

pub returns-clause-literals : goal.returns-clause-literals
returns-clause-literals c = λ schema query.
    ap (λ l. l ++ flat_map position_literals query.order) (sym (mapped_literals (placed_field schema query.from) query.atoms))

pub returns-clause-shape : goal.returns-clause-shape
returns-clause-shape c = λ schema query.
    λ i. record (placed_query schema query) { atoms = mapped_shape (placed_field schema query.from) query.atoms i }
