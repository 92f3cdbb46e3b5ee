use Rattle.std.proofs.Common.{sym, ◌∙◌, arith}
use Rattle.mm_tables.specs.Tables.{state_of}
use Rattle.mm_base.proofs.InBases.{lawful_from_state}
use Rattle.mm_base.proofs.Made.{apart_now, full_due, kept_lawful, kept_rows, lawful_here, twins_due}
use Rattle.mm_base.proofs.Making.{at_end, full_none, log_end}
use Rattle.mm_base.proofs.commands.change.Goals as goal

pub make-requires-clause-apart : goal.make-requires-clause-apart
make-requires-clause-apart c =
    (lawful_here c.args.tables.now.tables c.args.table c.args.edits.now c.requires.within c.requires.lawful c.requires.command).apart

pub returns-then-not-make-clause-due : goal.returns-then-not-make-clause-due
returns-then-not-make-clause-due c =
    sym (twins_due c.args.tables.now.tables c.args.table c.args.edits.now c.requires.within c.requires.lawful c.requires.command
    c.args.orphans.lacks c.args.orphans.leaves c.if-not-make.ensures.twins)

pub returns-then-not-make-clause-refused : goal.returns-then-not-make-clause-refused
returns-then-not-make-clause-refused c = c.if-not-make.ensures.refused ∙ at_end c.args.tables.now c.mark-mark.result c.mark-mark.ensures

pub returns-then-not-make-clause-old_log : goal.returns-then-not-make-clause-old_log
returns-then-not-make-clause-old_log c = c.if-not-make.ensures.old_log ∙ log_end c.args.tables.now c.mark-mark.result c.mark-mark.ensures

pub returns-then-not-make-clause-lawful : goal.returns-then-not-make-clause-lawful
returns-then-not-make-clause-lawful c =
    lawful_from_state c.args.tables.now.tables c.make.new.self.tables c.make.ensures.shapes (state_of c.args.tables.now.tables)
    (returns-then-not-make-clause-refused c) c.requires.lawful

pub has_too_many-full-requires-clause-apart : goal.has_too_many-full-requires-clause-apart
has_too_many-full-requires-clause-apart c =
    apart_now c.args.tables.now.tables c.args.table c.args.edits.now c.requires.within c.requires.lawful c.requires.command c.make.new.self.tables
    c.make.ensures.shapes c.if-not-make.ensures.made c.if-not-make.ensures.apart

pub returns-in-Some-clause-due : goal.returns-in-Some-clause-due
returns-in-Some-clause-due c =
    sym (full_due c.args.tables.now.tables c.args.table c.args.edits.now c.requires.within c.requires.lawful c.requires.command
    c.make.new.self.tables c.make.ensures.shapes c.if-not-make.ensures.made c.if-not-make.ensures.apart c.are_small.ensures
    c.has_too_many-full.result c.has_too_many-full.ensures c.args.orphans.lacks c.args.orphans.leaves
    ∙ (sym c.refusal_of.ensures ∙ c.in-Some.is))

pub returns-in-Some-clause-lawful : goal.returns-in-Some-clause-lawful
returns-in-Some-clause-lawful c =
    lawful_from_state c.args.tables.now.tables c.revert.new.self.tables (c.revert.ensures.shapes ∙ c.make.ensures.shapes)
    (state_of c.args.tables.now.tables)
    (c.revert.ensures.state
    ∙ (c.make.ensures.marks c.mark-mark.result (omega arith) ∙ at_end c.args.tables.now c.mark-mark.result c.mark-mark.ensures)) c.requires.lawful

pub returns-clause-due : goal.returns-clause-due
returns-clause-due c =
    sym (full_due c.args.tables.now.tables c.args.table c.args.edits.now c.requires.within c.requires.lawful c.requires.command
    c.make.new.self.tables c.make.ensures.shapes c.if-not-make.ensures.made c.if-not-make.ensures.apart c.are_small.ensures
    c.has_too_many-full.result c.has_too_many-full.ensures c.args.orphans.lacks c.args.orphans.leaves
    ∙ (sym c.refusal_of.ensures ∙ c.in_default.is))

pub returns-clause-lawful : goal.returns-clause-lawful
returns-clause-lawful c =
    kept_lawful c.args.tables.now.tables c.args.table c.args.edits.now c.requires.within c.requires.lawful c.requires.command
    c.make.new.self.tables c.make.ensures.shapes c.if-not-make.ensures.made c.if-not-make.ensures.apart c.are_small.ensures
    c.has_too_many-full.result c.has_too_many-full.ensures
    (full_none c.args.orphans.lacks c.args.orphans.leaves c.has_too_many-full.result (sym c.refusal_of.ensures ∙ c.in_default.is))

pub returns-clause-rows : goal.returns-clause-rows
returns-clause-rows c =
    kept_rows c.args.tables.now.tables c.args.table c.args.edits.now c.requires.within c.requires.lawful c.requires.command
    c.make.new.self.tables c.make.ensures.shapes c.if-not-make.ensures.made c.if-not-make.ensures.apart c.are_small.ensures
