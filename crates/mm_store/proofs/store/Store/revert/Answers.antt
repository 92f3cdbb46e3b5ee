use Rattle.std.proofs.Common.{List, length, ap, sym, subst, arith}
use Rattle.std.proofs.lemmas.List.{length-take-le}
use Rattle.mm_base.specs.Bases.{AreLawful}
use Rattle.mm_base.proofs.Keeping.{keys_from_shapes}
use Rattle.mm_indexed.specs.Index.{EachTurns}
use Rattle.mm_store.specs.Marks.{KeepsMarks}
use Rattle.mm_store.specs.Tables.{SameForm, Tables, tables_of}
use Rattle.mm_store.proofs.ListedTables.{forms_from_shapes, marks_kept}
use Rattle.mm_tables.specs.Tables.{at_mark, keys_of}
use Rattle.mm_tables.specs.declared.log_record.LogRecord.{LogRecord}
use Rattle.mm_store.proofs.store.Store.revert.Goals as goal

pub revert-requires-clause-lawful : goal.revert-requires-clause-lawful
revert-requires-clause-lawful c =
    subst (λ (s : Tables). AreLawful (keys_of s.stored.tables) (at_mark s.stored c.args.mark)) (sym c.self.view_is) c.requires.mark.lawful

pub returns-clause-marks : goal.returns-clause-marks
returns-clause-marks c earlier within =
    let old = c.self.inside.base in
    let new = c.revert.new.self in
    subst (λ (s : Tables). KeepsMarks s (tables_of new) earlier) c.self.view_is
    (marks_kept old new earlier (keys_from_shapes old.stored.tables new.stored.tables c.revert.ensures.shapes) (c.revert.ensures.marks earlier within)
    (λ low.
    omega (
      arith,
      within,
      ap (λ (rs : List LogRecord). length rs) c.revert.ensures.log,
      length-take-le c.args.mark old.stored.log (omega (arith, c.requires.mark.within, ap (λ (s : Tables). length s.stored.log) c.self.view_is)),
    )))

pub returns-clause-form : goal.returns-clause-form
returns-clause-form c =
    subst (λ (s : Tables). EachTurns SameForm s.tables (tables_of c.revert.new.self).tables) c.self.view_is
    (forms_from_shapes c.self.inside.base c.revert.new.self c.revert.ensures.shapes)
