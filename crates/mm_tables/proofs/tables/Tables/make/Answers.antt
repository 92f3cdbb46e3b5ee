use Rattle.std.proofs.Common.{◌≡◌, ◌<◌, ℕ, length, sym, ap, ◌∙◌, subst, arith}
use Rattle.std.specs.List.{All}
use Rattle.std.proofs.lemmas.List.{length-map}
use Rattle.mm_row_order.specs.Refs.{Slots}
use Rattle.mm_indexed.specs.Twins.{AreApart, HasTwin}
use Rattle.mm_tables.specs.Tables.{Stored, slots_of, state_of, slots_in, key_in}
use Rattle.mm_tables.specs.Commands.{after, CameLive, NewKeyAlone}
use Rattle.mm_tables.proofs.Commands.{FitsForth-command, AreApart-after, CameLive-after, lone_apart, lone_hidden, lone_twins}
use Rattle.mm_tables.proofs.InTables.{size_from_shapes, key_read, key_same, slots_next}
use Rattle.mm_tables.proofs.Making.{as_read, slots_made}
use Rattle.mm_tables.proofs.Slots.{on_true, on_false}
use Rattle.mm_tables.proofs.tables.Tables.make.Goals as goal

pub returns-then-brings_key-clause-twins : goal.returns-then-brings_key-clause-twins
returns-then-brings_key-clause-twins c =
    let start = c.args.self.now.tables in
    let t : ℕ = c.args.table in
    let has : ℕ → Slots → Type 0 = λ k s. HasTwin k s c.in-Some.at in
    let within : t < length c.self.inside.tables.items =
    omega (arith, c.requires.within, ap (λ (s : Stored). length s.tables) c.self.view_is) in
    let twin : has (key_in start t) (slots_in start t) =
    subst (λ (s : Stored). has (key_in s.tables t) (slots_in s.tables t)) c.self.view_is
    (as_read c.self.inside.tables.items t c.index.result.now within c.index.ensures has (c.brings_key.ensures.0 c.if-brings_key.true)) in
    lone_twins (key_in start t) c.args.edits.now (slots_in start t) c.in-Some.at c.in-Some.ensures twin

pub returns-in-Some-clause-apart : goal.returns-in-Some-clause-apart
returns-in-Some-clause-apart c =
    let start = c.args.self.now.tables in
    let t : ℕ = c.args.table in
    let edits = c.args.edits.now in
    let has_none : ℕ → Slots → Type 0 = λ k s. HasTwin k s c.in-Some.at → ⊥ in
    let within : t < length c.self.inside.tables.items =
    omega (arith, c.requires.within, ap (λ (s : Stored). length s.tables) c.self.view_is) in
    let none : has_none (key_in start t) (slots_in start t) =
    subst (λ (s : Stored). has_none (key_in s.tables t) (slots_in s.tables t)) c.self.view_is
    (as_read c.self.inside.tables.items t c.index.result.now within c.index.ensures has_none
    (λ twin. let yes = c.brings_key.ensures.1 twin in let no : ⊥ = cc in no)) in
    subst (λ (s : Slots). AreApart (key_in start t) s)
    (sym (slots_next (state_of start) (state_of c.change_all.new.self.tables) t (after edits (slots_in start t))
    (omega (arith, c.requires.within, length-map start slots_of)) c.change_all.ensures.state))
    (lone_apart (key_in start t) edits (slots_in start t) c.in-Some.at c.in-Some.ensures c.requires.apart
    (lone_hidden (key_in start t) edits (slots_in start t) c.in-Some.at c.in-Some.ensures c.requires.command.fits) none)

pub bring_twins-requires : goal.bring_twins-requires
bring_twins-requires c =
    let start = c.args.self.now in
    let tables = c.self-2.inside.tables.items in
    let edits = c.args.edits.now in
    let made = ap (λ (s : Stored). state_of s.tables) c.self-2.view_is ∙ c.change_all-2.ensures.state in
    let size : length tables ≡ length start.tables =
    ap (λ (s : Stored). length s.tables) c.self-2.view_is ∙ size_from_shapes start.tables c.change_all-2.new.self.tables c.change_all-2.ensures.shapes in
    let slots : slots_of c.index-2.result.now ≡ after edits (slots_in start.tables c.args.table) =
    slots_made start.tables tables c.args.table edits c.index-2.result.now c.requires.within size made c.index-2.ensures in
    subst (λ (s : Slots). All (CameLive s) edits) (sym slots)
    (CameLive-after edits (slots_in start.tables c.args.table) c.requires.command.apart)

pub returns-then-bring_twins-clause-twins : goal.returns-then-bring_twins-clause-twins
returns-then-bring_twins-clause-twins c apart =
    let start = c.args.self.now in
    let tables = c.self-2.inside.tables.items in
    let edits = c.args.edits.now in
    let made = ap (λ (s : Stored). state_of s.tables) c.self-2.view_is ∙ c.change_all-2.ensures.state in
    let size : length tables ≡ length start.tables =
    ap (λ (s : Stored). length s.tables) c.self-2.view_is ∙ size_from_shapes start.tables c.change_all-2.new.self.tables c.change_all-2.ensures.shapes in
    let within : c.args.table < length tables = omega (arith, size, c.requires.within) in
    let slots : slots_of c.index-2.result.now ≡ after edits (slots_in start.tables c.args.table) =
    slots_made start.tables tables c.args.table edits c.index-2.result.now c.requires.within size made c.index-2.ensures in
    let key : c.index-2.result.now.rows.key ≡ key_in start.tables c.args.table =
    sym (key_read tables c.args.table c.index-2.result.now within c.index-2.ensures)
    ∙ (ap (λ (s : Stored). key_in s.tables c.args.table) c.self-2.view_is
    ∙ key_same start.tables c.change_all-2.new.self.tables c.args.table c.change_all-2.ensures.shapes) in
    on_true _ _ c.if-bring_twins.true c.bring_twins.ensures.twin
    (subst (λ (s : Slots). AreApart c.index-2.result.now.rows.key s) (sym slots)
    (subst (λ (k : ℕ). AreApart k (after edits (slots_in start.tables c.args.table))) (sym key) apart))

pub returns-clause-apart : goal.returns-clause-apart
returns-clause-apart c =
    let start = c.args.self.now in
    let tables = c.self-2.inside.tables.items in
    let edits = c.args.edits.now in
    let now : Slots = slots_in start.tables c.args.table in
    let made = ap (λ (s : Stored). state_of s.tables) c.self-2.view_is ∙ c.change_all-2.ensures.state in
    let size : length tables ≡ length start.tables =
    ap (λ (s : Stored). length s.tables) c.self-2.view_is ∙ size_from_shapes start.tables c.change_all-2.new.self.tables c.change_all-2.ensures.shapes in
    let within : c.args.table < length tables = omega (arith, size, c.requires.within) in
    let there : c.args.table < length (state_of start.tables) = omega (arith, c.requires.within, length-map start.tables slots_of) in
    let slots : slots_of c.index-2.result.now ≡ after edits now =
    slots_made start.tables tables c.args.table edits c.index-2.result.now c.requires.within size made c.index-2.ensures in
    let key : c.index-2.result.now.rows.key ≡ key_in start.tables c.args.table =
    sym (key_read tables c.args.table c.index-2.result.now within c.index-2.ensures)
    ∙ (ap (λ (s : Stored). key_in s.tables c.args.table) c.self-2.view_is
    ∙ key_same start.tables c.change_all-2.new.self.tables c.args.table c.change_all-2.ensures.shapes) in
    let alone : All (NewKeyAlone c.index-2.result.now.rows.key (slots_of c.index-2.result.now)) edits =
    on_false _ _ c.if-bring_twins.false c.bring_twins.ensures.alone in
    subst (λ (s : Slots). AreApart (key_in start.tables c.args.table) s)
    (sym (slots_next (state_of start.tables) (state_of c.change_all-2.new.self.tables) c.args.table (after edits now) there c.change_all-2.ensures.state))
    (AreApart-after (key_in start.tables c.args.table) edits now c.requires.apart (FitsForth-command _ edits _ c.requires.command)
    (subst (λ (s : Slots). All (NewKeyAlone (key_in start.tables c.args.table) s) edits) slots
    (subst (λ (k : ℕ). All (NewKeyAlone k (slots_of c.index-2.result.now)) edits) key alone)))
