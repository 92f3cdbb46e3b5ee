use Rattle.std.proofs.Common.{◌≡◌, ◌<◌, false, length, sym, subst}
use Rattle.mm_base.specs.Bases.{Base, references_of, rows_made}
use Rattle.mm_base.specs.Orphans.{has_orphans}
use Rattle.mm_base.proofs.KeptTargets.{targets_if_deleted}
use Rattle.mm_tables.specs.Commands.{IsCommand}
use Rattle.mm_tables.specs.Tables.{key_in, slots_in}
use Rattle.mm_base.proofs.base_tables.BaseTables.targets_stay.Goals as goal

pub returns : goal.returns
returns c edits command only =
    let t = c.args.table in
    subst (λ (b : Base). has_orphans b.stored.tables (references_of b.links) t (rows_made b.stored t edits) ≡ false) c.self.view_is
    (targets_if_deleted c.self.inside.tables c.self.inside.links.items c.self.invariant t
    (subst (λ (b : Base). t < length b.stored.tables) (sym c.self.view_is) c.requires) edits
    (subst (λ (b : Base). IsCommand (key_in b.stored.tables t) edits (slots_in b.stored.tables t)) (sym c.self.view_is) command) only)
