use Rattle.std.proofs.Common.{ℕ, sym, ap, ◌∙◌}
use Rattle.std.specs.List.{All}
use Rattle.mm_link.specs.Edited.{coming}
use Rattle.mm_link.specs.Links.{HasTargetRow}
use Rattle.mm_link.proofs.Referring.{on_false_from}
use Rattle.mm_row_order.specs.Refs.{Slots}
use Rattle.mm_tables.specs.Tables.{slots_in}
use Rattle.mm_tables.proofs.Slots.{on_false}
use Rattle.mm_base.specs.Orphans.{BringsTargets}
use Rattle.mm_base.proofs.Retied.{subst_three}
use Rattle.mm_base.proofs.orphans.brings_orphan.Goals as goal

pub returns-clause-found : goal.returns-clause-found
returns-clause-found c =
    on_false_from (BringsTargets c.args.tables.now.tables c.args.table c.args.edits.now c.args.link.now) c.brings_any_orphan.result
    (λ no same.
    subst_three (λ (key : ℕ) (now then : Slots). All (λ e. All (HasTargetRow c.args.link.now.reference.column key then) (coming now e)) c.args.edits.now)
    (sym c.lawful_rows-to.ensures.key) (ap (slots_in c.args.tables.now.tables) same ∙ sym c.lawful_rows-from.ensures.slots)
    (sym c.lawful_rows-to.ensures.slots) (on_false _ _ no c.brings_any_orphan.ensures.found))
