use Rattle.mm_session.proofs.ColumnTypes.{names_of_fields}
use Rattle.mm_session.proofs.columns_law.columns_have_the_names_of_fields.Goals as goal

pub returns : goal.returns
returns c query state due = names_of_fields state.schema query due
