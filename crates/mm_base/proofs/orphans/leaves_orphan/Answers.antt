use Rattle.std.proofs.Common.{◌&&◌, ◌<◌, ℕ, Bool, List, length, ap, ap₂, sym, ◌∙◌, subst, arith}
use Rattle.std.specs.List.{All, list_any}
use Rattle.std.proofs.lemmas.Bool.{eq-eqb}
use Rattle.std.proofs.lemmas.List.{length-map}
use Rattle.mm_indexed.specs.Twins.{AreApart}
use Rattle.mm_indexed.specs.RowLists.{rows_of}
use Rattle.mm_link.specs.Targets.{SparesReferred, pair_of}
use Rattle.mm_link.proofs.Referring.{on_false_from}
use Rattle.mm_partition.specs.Places.{slot_at}
use Rattle.mm_row_order.specs.Refs.{Slots}
use Rattle.mm_schema.specs.References.{loses_target}
use Rattle.mm_tables.specs.Tables.{key_in, shape_of, slots_in, slots_of}
use Rattle.mm_tables.proofs.Slots.{on_false}
use Rattle.mm_value.specs.declared.values.Value.{Value}
use Rattle.mm_base.specs.Orphans.{SparesAll, rows_at}
use Rattle.mm_base.proofs.Retied.{subst_three}
use Rattle.mm_base.proofs.orphans.leaves_orphan.Goals as goal

pub leaves_any_orphan-requires-clause-apart : goal.leaves_any_orphan-requires-clause-apart
leaves_any_orphan-requires-clause-apart c =
    let tables = c.args.tables.now.tables in
    let r = c.args.link.now.reference in
    let inside : r.to < length tables = omega (arith, c.requires.joined.between.from, c.requires.joined.between.to, length-map tables shape_of) in
    subst (λ (k : ℕ). AreApart k (slot_at c.lawful_rows-to.result.now.places)) (sym c.lawful_rows-to.ensures.key)
    (subst (AreApart (key_in tables r.to)) (sym c.lawful_rows-to.ensures.slots)
    (c.requires.lawful r.to (omega (arith, inside, length-map tables slots_of))).apart)

pub returns-then-link-table-clause-rows : goal.returns-then-link-table-clause-rows
returns-then-link-table-clause-rows c =
    let tables = c.args.tables.now.tables in
    let r = c.args.link.now.reference in
    let loses : ℕ → List (List Value) → Slots → Bool =
    λ key rows then. list_any (λ e. loses_target r.column key rows (pair_of then e).0 (pair_of then e).1) c.args.edits.now in
    c.leaves_any_orphan.ensures.rows
    ∙ (ap (λ (k : ℕ). loses k (rows_of c.lawful_rows-from.result.now) (slot_at c.lawful_rows-to.result.now.places)) c.lawful_rows-to.ensures.key
    ∙ (ap₂ (λ (rows : List (List Value)) (then : Slots). loses (key_in tables r.to) rows then) c.lawful_rows-from.ensures.rows
    c.lawful_rows-to.ensures.slots
    ∙ sym (ap (λ (b : Bool). b && loses (key_in tables r.to) (rows_at tables r.from) (slots_in tables r.to)) (eq-eqb r.to c.args.table c.if-link-table.true))))

pub returns-then-link-table-clause-found : goal.returns-then-link-table-clause-found
returns-then-link-table-clause-found c =
    on_false_from (SparesAll c.args.tables.now.tables c.args.table c.args.edits.now c.args.link.now) c.leaves_any_orphan.result
    (λ no same.
    subst_three (λ (key : ℕ) (now then : Slots). All (SparesReferred c.args.link.now.reference.column key now then) c.args.edits.now)
    (sym c.lawful_rows-to.ensures.key) (sym c.lawful_rows-from.ensures.slots) (sym c.lawful_rows-to.ensures.slots)
    (on_false _ _ no c.leaves_any_orphan.ensures.found))
