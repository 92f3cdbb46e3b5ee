use Rattle.std.proofs.Common.{◌<◌, ℕ, List, length, map, sym, subst, arith}
use Rattle.std.proofs.lemmas.List.{length-map}
use Rattle.mm_link.specs.Edited.{IsMade}
use Rattle.mm_link.specs.Links.{Follows as FollowsSlots}
use Rattle.mm_row_order.specs.Refs.{Slots}
use Rattle.mm_tables.specs.Tables.{key_in, shape_of, slots_in}
use Rattle.mm_value.specs.declared.col_type.ColType.{ColType}
use Rattle.mm_base.specs.Joined.{types_at}
use Rattle.mm_base.proofs.Retied.{HasFollowed-others, HasFollowed-retied, room_read, subst_four, subst_three}
use Rattle.mm_base.proofs.links.retie.Goals as goal

pub read-from-requires : goal.read-from-requires
read-from-requires c =
    omega (arith, c.requires.between.from, c.if-link-table.true, length-map c.args.tables.now.tables shape_of)

pub read-to-requires : goal.read-to-requires
read-to-requires c =
    omega (arith, c.requires.between.from, c.requires.between.to, length-map c.args.tables.now.tables shape_of)

pub retie-requires-clause-column : goal.retie-requires-clause-column
retie-requires-clause-column c =
    subst (λ (types : List ColType). c.args.link.now.reference.column < length types) (sym c.read-from.ensures.types)
    (subst (λ (n : ℕ). c.args.link.now.reference.column < length (types_at (map shape_of c.args.tables.now.tables) n)) c.if-link-table.true
    c.requires.between.column)

pub retie-requires-clause-made : goal.retie-requires-clause-made
retie-requires-clause-made c =
    let link = c.args.link.now in
    let from = c.read-from.ensures in
    let to = c.read-to.ensures in
    subst_four (λ (key own : ℕ) (now then : Slots). IsMade link.reference.column key own now then c.args.edits.now link.ties)
    to.key from.key from.slots to.slots
    (subst (λ (n : ℕ). IsMade link.reference.column (key_in c.args.tables.now.tables link.reference.to) (key_in c.args.tables.now.tables n)
    (slots_in c.args.tables.now.tables n) (slots_in c.args.tables.now.tables link.reference.to) c.args.edits.now link.ties) c.if-link-table.true
    (c.requires.source c.if-link-table.true))

pub retie-requires-clause-room : goal.retie-requires-clause-room
retie-requires-clause-room c =
    room_read c.args.tables.now.tables c.args.link.now c.args.table c.if-link-table.true c.requires.entries _ _ c.read-from.ensures.extent
    c.read-to.ensures.extent

pub returns-then-link-table : goal.returns-then-link-table
returns-then-link-table c =
    let link = c.args.link.now in
    let tables = c.args.tables.now.tables in
    let from = c.read-from.ensures in
    let to = c.read-to.ensures in
    HasFollowed-retied tables c.args.tables.now.log c.args.table link c.retie.new.self c.requires c.if-link-table.true c.retie.ensures.reference
    c.retie.ensures.size
    (subst_three (λ (key : ℕ) (now then : Slots). FollowsSlots link.reference.column key now then c.retie.new.self.ties) (sym to.key) (sym from.slots)
    (sym to.slots) c.retie.ensures.follows)

pub returns-else-link-table : goal.returns-else-link-table
returns-else-link-table c =
    HasFollowed-others c.args.tables.now.tables c.args.tables.now.log c.args.table c.args.link.now c.requires c.if-link-table.false
