use Rattle.std.proofs.Common.{◌<◌, ℕ, List, length, set, sym, ap, ◌∙◌, subst, arith}
use Rattle.std.specs.Bool.{OnFalse}
use Rattle.std.specs.List.{All, list_any}
use Rattle.std.specs.Result.{result_err}
use Rattle.mm_link.specs.declared.link.Link.{Link}
use Rattle.mm_schema.specs.Refused.{first_refusal}
use Rattle.mm_tables.specs.Commands.{IsCommand}
use Rattle.mm_tables.specs.Tables.{Stored, at_mark, key_in, keys_of, slots_in}
use Rattle.mm_base.specs.Bases.{AreLawful, Base, edit_conditions, references_of, rows_at_mark, rows_made, rows_now}
use Rattle.mm_base.specs.Joined.{HaveEntriesFor}
use Rattle.mm_base.specs.Orphans.{BringsTargets, SparesAll, brings_orphan, leaves_orphan}
use Rattle.mm_base.proofs.Chained.{KeepsSize-follows, entries_kept, same_references}
use Rattle.mm_base.proofs.InBases.{lawful_from_state, rows_at_mark-kept, rows_from_state}
use Rattle.mm_base.proofs.Joining.{no_more}
use Rattle.mm_base.proofs.Making.{behind_all, due_same, joined_refused}
use Rattle.mm_base.proofs.base_tables.BaseTables.make.Goals as goal

pub undo-requires-clause-joined : goal.undo-requires-clause-joined
undo-requires-clause-joined c =
    let old : Stored = c.self.inside.tables in
    let links : List Link = c.self.inside.links.items in
    let table : ℕ = c.args.table in
    let edits = c.args.edits.now in
    let within : table < length old.tables = omega (arith, c.requires.within, ap (λ (s : Base). length s.stored.tables) c.self.view_is) in
    let command : IsCommand (key_in old.tables table) edits (slots_in old.tables table) =
    subst (λ (s : Base). IsCommand (key_in s.stored.tables table) edits (slots_in s.stored.tables table)) (sym c.self.view_is) c.requires.command in
    joined_refused old links c.self.invariant table within edits command c.bring_orphans.result c.leave_orphans.result
    (c.bring_orphans.ensures.rows
    ∙ ap (list_any (λ (link : Link). brings_orphan old.tables table edits link.reference)) c.as_slice-links.ensures.value)
    (c.leave_orphans.ensures.rows
    ∙ ap (list_any (λ (link : Link). leaves_orphan old.tables table edits link.reference)) c.as_slice-links.ensures.value)
    c.change.new.tables c.change.ensures.shapes c.change.ensures.extents c.in-Err.ensures.refused c.in-Err.ensures.old_log

pub invariant_of-self : goal.invariant_of-self
invariant_of-self c =
    let old : Stored = c.self.inside.tables in
    record {
      lawful = lawful_from_state old.tables c.undo.new.tables.tables (c.undo.ensures.shapes ∙ c.change.ensures.shapes) (at_mark old c.args.mark)
          (c.undo.ensures.state
          ∙ c.change.ensures.marks c.args.mark (omega (arith, c.requires.mark, ap (λ (s : Base). length s.stored.log) c.self.view_is)))
          (subst (λ (s : Base). AreLawful (keys_of s.stored.tables) (at_mark s.stored c.args.mark)) (sym c.self.view_is) c.requires.lawful);
      joined = c.undo.ensures.joined;
    }

pub returns-in-Err-clause-due : goal.returns-in-Err-clause-due
returns-in-Err-clause-due c =
    let old : Stored = c.self.inside.tables in
    let links : List Link = c.self.inside.links.items in
    let table : ℕ = c.args.table in
    let edits = c.args.edits.now in
    let within : table < length old.tables = omega (arith, c.requires.within, ap (λ (s : Base). length s.stored.tables) c.self.view_is) in
    let command : IsCommand (key_in old.tables table) edits (slots_in old.tables table) =
    subst (λ (s : Base). IsCommand (key_in s.stored.tables table) edits (slots_in s.stored.tables table)) (sym c.self.view_is) c.requires.command in
    sym (ap result_err c.in-Err.is)
    ∙ (c.change.ensures.due
    ∙ (due_same old links c.self.invariant table within edits command c.bring_orphans.result c.leave_orphans.result
    (c.bring_orphans.ensures.rows
    ∙ ap (list_any (λ (link : Link). brings_orphan old.tables table edits link.reference)) c.as_slice-links.ensures.value)
    (c.leave_orphans.ensures.rows
    ∙ ap (list_any (λ (link : Link). leaves_orphan old.tables table edits link.reference)) c.as_slice-links.ensures.value)
    ∙ ap (λ (s : Base). first_refusal (edit_conditions s table edits)) c.self.view_is))

pub returns-in-Err-clause-links : goal.returns-in-Err-clause-links
returns-in-Err-clause-links c =
    same_references c.self.inside.links.items c.undo.new.links.items c.undo.ensures.links ∙ ap (λ (s : Base). references_of s.links) c.self.view_is

pub returns-in-Err-clause-entries : goal.returns-in-Err-clause-entries
returns-in-Err-clause-entries c t n have =
    entries_kept c.self.inside.tables.tables c.undo.new.tables.tables c.self.inside.links.items c.undo.new.links.items
    (no_more c.self.inside.tables.tables c.undo.new.tables.tables (c.undo.ensures.extents ∙ c.change.ensures.extents)) c.undo.ensures.links t n
    (subst (λ (s : Base). HaveEntriesFor n t s.stored.tables s.links) (sym c.self.view_is) have)

pub retie_all-requires : goal.retie_all-requires
retie_all-requires c =
    let old : Stored = c.self.inside.tables in
    let links : List Link = c.self.inside.links.items in
    let table : ℕ = c.args.table in
    let edits = c.args.edits.now in
    let within : table < length old.tables = omega (arith, c.requires.within, ap (λ (s : Base). length s.stored.tables) c.self.view_is) in
    let command : IsCommand (key_in old.tables table) edits (slots_in old.tables table) =
    subst (λ (s : Base). IsCommand (key_in s.stored.tables table) edits (slots_in s.stored.tables table)) (sym c.self.view_is) c.requires.command in
    behind_all old links c.self.invariant table within edits command c.bring_orphans.result c.leave_orphans.result
    (c.bring_orphans.ensures.rows
    ∙ ap (list_any (λ (link : Link). brings_orphan old.tables table edits link.reference)) c.as_slice-links.ensures.value)
    (c.leave_orphans.ensures.rows
    ∙ ap (list_any (λ (link : Link). leaves_orphan old.tables table edits link.reference)) c.as_slice-links.ensures.value)
    c.change.new.tables c.change.ensures.shapes c.change.ensures.extents c.in_default.ensures.made c.in_default.ensures.log c.change.ensures.marks
    c.change.ensures.lawful (sym c.change.ensures.due ∙ ap result_err c.in_default.is)
    (subst (λ (xs : List Link). OnFalse c.bring_orphans.result (All (BringsTargets old.tables table edits) xs)) c.as_slice-links.ensures.value
    c.bring_orphans.ensures.found)
    (subst (λ (xs : List Link). OnFalse c.leave_orphans.result (All (SparesAll old.tables table edits) xs)) c.as_slice-links.ensures.value
    c.leave_orphans.ensures.found)

pub returns-clause-due : goal.returns-clause-due
returns-clause-due c =
    let old : Stored = c.self.inside.tables in
    let links : List Link = c.self.inside.links.items in
    let table : ℕ = c.args.table in
    let edits = c.args.edits.now in
    let within : table < length old.tables = omega (arith, c.requires.within, ap (λ (s : Base). length s.stored.tables) c.self.view_is) in
    let command : IsCommand (key_in old.tables table) edits (slots_in old.tables table) =
    subst (λ (s : Base). IsCommand (key_in s.stored.tables table) edits (slots_in s.stored.tables table)) (sym c.self.view_is) c.requires.command in
    sym (ap result_err c.in_default.is)
    ∙ (c.change.ensures.due
    ∙ (due_same old links c.self.invariant table within edits command c.bring_orphans.result c.leave_orphans.result
    (c.bring_orphans.ensures.rows
    ∙ ap (list_any (λ (link : Link). brings_orphan old.tables table edits link.reference)) c.as_slice-links.ensures.value)
    (c.leave_orphans.ensures.rows
    ∙ ap (list_any (λ (link : Link). leaves_orphan old.tables table edits link.reference)) c.as_slice-links.ensures.value)
    ∙ ap (λ (s : Base). first_refusal (edit_conditions s table edits)) c.self.view_is))

pub returns-clause-rows : goal.returns-clause-rows
returns-clause-rows c =
    c.in_default.ensures.rows
    ∙ ap (λ (s : Base). set (rows_now s.stored) c.args.table (rows_made s.stored c.args.table c.args.edits.now)) c.self.view_is

pub returns-clause-links : goal.returns-clause-links
returns-clause-links c =
    same_references c.self.inside.links.items c.retie_all.new.links.items
    (KeepsSize-follows c.change.new.tables.tables c.change.new.tables.log c.self.inside.links.items c.retie_all.new.links.items c.retie_all.ensures)
    ∙ ap (λ (s : Base). references_of s.links) c.self.view_is

pub returns-in-Err-clause-old_rows : goal.returns-in-Err-clause-old_rows
returns-in-Err-clause-old_rows c =
    let old : Stored = c.self.inside.tables in
    rows_from_state old.tables c.undo.new.tables.tables (c.undo.ensures.shapes ∙ c.change.ensures.shapes) (at_mark old c.args.mark)
    (c.undo.ensures.state
    ∙ c.change.ensures.marks c.args.mark (omega (arith, c.requires.mark, ap (λ (s : Base). length s.stored.log) c.self.view_is)))
    ∙ ap (λ (s : Base). rows_at_mark s.stored c.args.mark) c.self.view_is

pub returns-in-Err-clause-saved : goal.returns-in-Err-clause-saved
returns-in-Err-clause-saved c earlier within =
    rows_at_mark-kept c.self.inside.tables c.undo.new.tables earlier (c.undo.ensures.shapes ∙ c.change.ensures.shapes)
    (c.undo.ensures.marks earlier within
    ∙ c.change.ensures.marks earlier (omega (arith, within, c.requires.mark, ap (λ (s : Base). length s.stored.log) c.self.view_is)))
    ∙ ap (λ (s : Base). rows_at_mark s.stored earlier) c.self.view_is

pub returns-clause-saved : goal.returns-clause-saved
returns-clause-saved c earlier within =
    rows_at_mark-kept c.self.inside.tables c.change.new.tables earlier c.change.ensures.shapes
    (c.change.ensures.marks earlier (omega (arith, within, c.requires.mark, ap (λ (s : Base). length s.stored.log) c.self.view_is)))
    ∙ ap (λ (s : Base). rows_at_mark s.stored earlier) c.self.view_is
