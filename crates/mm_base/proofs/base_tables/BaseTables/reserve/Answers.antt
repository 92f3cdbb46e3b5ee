use Rattle.std.proofs.Common.{◌+◌, ℕ, List, get_or, refl, sym, ap, ◌∙◌, subst}
use Rattle.mm_link.specs.declared.link.Link.{Link}
use Rattle.mm_tables.specs.Tables.{HasCapacity, HoldsAt, Stored}
use Rattle.mm_tables.specs.declared.logged_table.LoggedTable.{LoggedTable}
use Rattle.mm_base.specs.Bases.{Base, IsSound, references_of}
use Rattle.mm_base.specs.Joined.{HaveEntriesFor}
use Rattle.mm_base.proofs.Chained.{always_ok, entries_grown, entries_made, grown_references, sound_grown}
use Rattle.mm_base.proofs.base_tables.BaseTables.reserve.Goals as goal

pub invariant_of-self : goal.invariant_of-self
invariant_of-self c =
    let s : Stored = c.self.inside.tables in
    sound_grown s s c.self.inside.links.items c.reserve_all.new.links.items c.reserve_all.ensures.grown refl refl refl refl c.self.invariant

pub returns-in_err-reserve_all-clause-links : goal.returns-in_err-reserve_all-clause-links
returns-in_err-reserve_all-clause-links c =
    grown_references c.self.inside.links.items c.reserve_all.new.links.items c.reserve_all.ensures.grown
    ∙ ap (λ (s : Base). references_of s.links) c.self.view_is

pub returns-in_err-reserve_all-clause-entries_kept : goal.returns-in_err-reserve_all-clause-entries_kept
returns-in_err-reserve_all-clause-entries_kept c t n have =
    entries_grown c.self.inside.tables.tables c.self.inside.tables.tables refl c.self.inside.links.items c.reserve_all.new.links.items
    c.reserve_all.ensures.grown t n (subst (λ (s : Base). HaveEntriesFor n t s.stored.tables s.links) (sym c.self.view_is) have)

pub invariant_of-self-in_err-reserve : goal.invariant_of-self-in_err-reserve
invariant_of-self-in_err-reserve c =
    sound_grown c.self.inside.tables c.reserve.new.self c.self.inside.links.items c.reserve_all.new.links.items c.reserve_all.ensures.grown
    c.reserve.ensures.shapes c.reserve.ensures.extents c.reserve.ensures.state c.reserve.ensures.log c.self.invariant

pub returns-in_err-reserve-clause-links : goal.returns-in_err-reserve-clause-links
returns-in_err-reserve-clause-links c =
    grown_references c.self.inside.links.items c.reserve_all.new.links.items c.reserve_all.ensures.grown
    ∙ ap (λ (s : Base). references_of s.links) c.self.view_is

pub returns-in_err-reserve-clause-kept : goal.returns-in_err-reserve-clause-kept
returns-in_err-reserve-clause-kept c n m was =
    c.reserve.ensures.kept n m (subst (λ (s : Base). HoldsAt (HasCapacity n m) s.stored.tables c.args.table) (sym c.self.view_is) was)

pub returns-in_err-reserve-clause-entries_kept : goal.returns-in_err-reserve-clause-entries_kept
returns-in_err-reserve-clause-entries_kept c t n have =
    entries_grown c.self.inside.tables.tables c.reserve.new.self.tables c.reserve.ensures.extents c.self.inside.links.items
    c.reserve_all.new.links.items c.reserve_all.ensures.grown t n
    (subst (λ (s : Base). HaveEntriesFor n t s.stored.tables s.links) (sym c.self.view_is) have)

pub invariant_of-self-2 : goal.invariant_of-self-2
invariant_of-self-2 c =
    let links : List Link = c.reserve_all.new.links.items in
    let sound : IsSound c.reserve.new.self links =
    sound_grown c.self.inside.tables c.reserve.new.self c.self.inside.links.items links c.reserve_all.ensures.grown
    c.reserve.ensures.shapes c.reserve.ensures.extents c.reserve.ensures.state c.reserve.ensures.log c.self.invariant in
    subst (λ (s : Stored). IsSound s links) (sym c.reserve_log.ensures.rest) (record { lawful = sound.lawful; joined = sound.joined })

pub returns-clause-kept : goal.returns-clause-kept
returns-clause-kept c n m was =
    subst (λ (tables : List LoggedTable). HoldsAt (HasCapacity n m) tables c.args.table) (sym (ap (λ (s : Stored). s.tables) c.reserve_log.ensures.rest))
    (c.reserve.ensures.kept n m (subst (λ (s : Base). HoldsAt (HasCapacity n m) s.stored.tables c.args.table) (sym c.self.view_is) was))

pub returns-clause-links : goal.returns-clause-links
returns-clause-links c =
    grown_references c.self.inside.links.items c.reserve_all.new.links.items c.reserve_all.ensures.grown
    ∙ ap (λ (s : Base). references_of s.links) c.self.view_is

pub returns-clause-entries_kept : goal.returns-clause-entries_kept
returns-clause-entries_kept c t n have =
    subst (λ (tables : List LoggedTable). HaveEntriesFor n t tables c.reserve_all.new.links.items)
    (sym (ap (λ (s : Stored). s.tables) c.reserve_log.ensures.rest))
    (entries_grown c.self.inside.tables.tables c.reserve.new.self.tables c.reserve.ensures.extents c.self.inside.links.items
    c.reserve_all.new.links.items c.reserve_all.ensures.grown t n
    (subst (λ (s : Base). HaveEntriesFor n t s.stored.tables s.links) (sym c.self.view_is) have))

pub returns-clause-entries : goal.returns-clause-entries
returns-clause-entries c =
    let table : ℕ = c.args.table in
    let rows : ℕ = c.args.rows in
    let links : List Link = c.reserve_all.new.links.items in
    always_ok c.reserve_log.result (HaveEntriesFor rows table c.reserve_log.new.self.tables links)
    (subst (λ (tables : List LoggedTable). HaveEntriesFor rows table tables links) (sym (ap (λ (s : Stored). s.tables) c.reserve_log.ensures.rest))
    (entries_made c.reserve.new.self.tables table c.in_ok-slots.slots rows c.self.inside.links.items links c.in_ok-reserve_all.ensures.room
    (c.in_ok-slots.ensures ∙ ap (λ (es : List ℕ). get_or es table 0 + rows) (sym c.reserve.ensures.extents))))
