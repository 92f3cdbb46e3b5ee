use Rattle.std.proofs.Common.{List, sym, ap, subst}
use Rattle.mm_tables.specs.Tables.{HasRoom, HoldsAt, Stored}
use Rattle.mm_tables.specs.declared.logged_table.LoggedTable.{LoggedTable}
use Rattle.mm_base.specs.Bases.{Base, IsSound}
use Rattle.mm_base.proofs.Chained.{sound_same}
use Rattle.mm_base.proofs.base_tables.BaseTables.reserve_for.Goals as goal

pub invariant_of-self : goal.invariant_of-self
invariant_of-self c =
    sound_same c.self.inside.tables c.reserve_for.new.self c.self.inside.links.items c.reserve_for.ensures.shapes c.reserve_for.ensures.extents
    c.reserve_for.ensures.state (ap (λ (s : Stored). s.log) c.reserve_for.ensures.rest) c.self.invariant

pub returns-in_err-reserve_for-clause-kept : goal.returns-in_err-reserve_for-clause-kept
returns-in_err-reserve_for-clause-kept c n k m was =
    c.reserve_for.ensures.kept n k m (subst (λ (s : Base). HoldsAt (HasRoom n k m) s.stored.tables c.args.table) (sym c.self.view_is) was)

pub invariant_of-self-2 : goal.invariant_of-self-2
invariant_of-self-2 c =
    let sound : IsSound c.reserve_for.new.self c.self.inside.links.items =
    sound_same c.self.inside.tables c.reserve_for.new.self c.self.inside.links.items c.reserve_for.ensures.shapes c.reserve_for.ensures.extents
    c.reserve_for.ensures.state (ap (λ (s : Stored). s.log) c.reserve_for.ensures.rest) c.self.invariant in
    subst (λ (s : Stored). IsSound s c.self.inside.links.items) (sym c.reserve_log.ensures.rest)
    (record { lawful = sound.lawful; joined = sound.joined })

pub returns-clause-kept : goal.returns-clause-kept
returns-clause-kept c n k m was =
    subst (λ (tables : List LoggedTable). HoldsAt (HasRoom n k m) tables c.args.table) (sym (ap (λ (s : Stored). s.tables) c.reserve_log.ensures.rest))
    (c.reserve_for.ensures.kept n k m (subst (λ (s : Base). HoldsAt (HasRoom n k m) s.stored.tables c.args.table) (sym c.self.view_is) was))
