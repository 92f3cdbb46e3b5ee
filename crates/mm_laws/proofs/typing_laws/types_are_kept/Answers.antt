use Rattle.mm_laws.proofs.TypedChanges.{typed_by_change}
use Rattle.mm_laws.proofs.TypedDefinitions.{typed_by_definition}
use Rattle.mm_laws.proofs.TypedSteps.{typed_at_first, typed_by_step}
use Rattle.mm_laws.proofs.typing_laws.types_are_kept.Goals as goal

pub returns-clause-first : goal.returns-clause-first
returns-clause-first c = typed_at_first

pub returns-clause-definition : goal.returns-clause-definition
returns-clause-definition c = typed_by_definition

pub returns-clause-change : goal.returns-clause-change
returns-clause-change c mutation state distinct due typed = typed_by_change state typed mutation distinct due

pub returns-clause-step : goal.returns-clause-step
returns-clause-step c = typed_by_step
