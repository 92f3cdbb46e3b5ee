use Rattle.std.proofs.Common.{[]}
use Rattle.mm_laws.proofs.PlanLines.{as_many_lines, joined_behind, lines_are_of}
use Rattle.mm_laws.proofs.plan_laws.plans_go_along_from.Goals as goal

pub returns-clause-aliases : goal.returns-clause-aliases
returns-clause-aliases c = λ schema counts query. lines_are_of schema counts query [] query.from

pub returns-clause-length : goal.returns-clause-length
returns-clause-length c = λ schema counts query. as_many_lines schema counts query [] query.from

pub returns-clause-joins : goal.returns-clause-joins
returns-clause-joins c = λ schema counts query. joined_behind schema counts query query.from
