use Rattle.mm_statement.proofs.Bindings.{changes_bind_alike}
use Rattle.mm_statement.proofs.laws.alike_changes_bind_alike.Goals as goal

pub returns : goal.returns
returns c = λ schema. changes_bind_alike schema
