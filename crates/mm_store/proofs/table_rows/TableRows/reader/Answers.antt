use Rattle.std.proofs.Common.{subst}
use Rattle.mm_store.specs.Ordered.{IsOrder}
use Rattle.mm_store.proofs.table_rows.TableRows.reader.Goals as goal

pub along_index-requires-clause-tree : goal.along_index-requires-clause-tree
along_index-requires-clause-tree c = (c.in-Tree.column, (subst (IsOrder c.self.inside.relation.now) c.in-Tree.is c.self.invariant).2)

pub along_tree-requires-clause-live : goal.along_tree-requires-clause-live
along_tree-requires-clause-live c = (subst (IsOrder c.self.inside.relation.now) c.in-Made.is c.self.invariant).0

pub along_index-requires-clause-apart : goal.along_index-requires-clause-apart
along_index-requires-clause-apart c = (subst (IsOrder c.self.inside.relation.now) c.in-Tree.is c.self.invariant).1
