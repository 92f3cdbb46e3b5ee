use Rattle.std.proofs.Common.{get_or, subst}
use Rattle.std.specs.List.{All}
use Rattle.mm_indexed.specs.Index.{EachTurns}
use Rattle.mm_store.specs.Spares.{HasFewSparesAt}
use Rattle.mm_store.specs.Tables.{SameForm, Tables, tables_of}
use Rattle.mm_store.proofs.ListedTables.{few_there, forms_from_shapes}
use Rattle.mm_tables.specs.declared.log_record.LogRecord.{LogRecord}
use Rattle.mm_store.proofs.store.Store.settle.Goals as goal

pub returns-clause-form : goal.returns-clause-form
returns-clause-form c =
    subst (λ (s : Tables). EachTurns SameForm s.tables (tables_of c.settle.new.self).tables) c.self.view_is
    (forms_from_shapes c.self.inside.base c.settle.new.self c.settle.ensures.shapes)

pub returns-clause-spares : goal.returns-clause-spares
returns-clause-spares c =
    let new = c.settle.new.self in
    subst (λ (s : Tables). All (λ (r : LogRecord). HasFewSparesAt 64 (tables_of new) r.table) s.stored.log) c.self.view_is
    (λ k d within stored at.
    few_there new (get_or c.self.inside.base.stored.log k d).table 64 stored at (c.settle.ensures.spares k d within))
