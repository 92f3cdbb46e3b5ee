use Rattle.std.proofs.Common.{subst}
use Rattle.mm_store.specs.Looked.{IsIndexOn}
use Rattle.mm_store.proofs.index_ref.tree_walk.Goals as goal

pub returns-in-Tree-clause-walk : goal.returns-in-Tree-clause-walk
returns-in-Tree-clause-walk c = λ column on. c.tree_walk.ensures.walk column (subst (IsIndexOn c.args.relation.now column) c.in-Tree.is on)
