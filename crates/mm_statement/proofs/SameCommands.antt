-- A command is determined by its shape and its literals.
use Rattle.std.proofs.Common.{◌≡◌, List, Option, Some, None, Ok, Err, length, map, refl, sym, ap, ◌∙◌}
use Rattle.std.specs.Prelude.{Bool, Result}
use Rattle.std.specs.List.{flat_map}
use Rattle.std.proofs.lemmas.List.{length-map}
use Rattle.mm_value.specs.declared.refusal.Refusal.{Refusal}
use Rattle.mm_value.specs.declared.refusal.Refusal.TheVariants.{NumberOutOfRange, Syntax}
use Rattle.mm_value.specs.declared.values.Value.{Value}
use Rattle.mm_query.specs.declared.command.Command.{Command}
use Rattle.mm_query.specs.declared.command.Command.TheVariants.{Change, Define, Explain, Select}
use Rattle.mm_query.specs.declared.command.Definition.TheVariants as define
use Rattle.mm_query.specs.declared.command.Mutation.{Mutation}
use Rattle.mm_query.specs.declared.command.Mutation.TheVariants.{Delete, Insert, Update}
use Rattle.mm_query.specs.declared.query.Query.{Query}
use Rattle.mm_lang.specs.Reading.{assignment_literals, first_fault, literals_of, position_literals, query_literals, test_literals}
use Rattle.mm_statement.specs.Alike.{change_literals}
use Rattle.mm_statement.specs.Filling.{Filled, IsFilling, blank, blank_assignment, blank_atom, blank_mutation, blank_query, blank_value}
use Rattle.mm_statement.proofs.AlikeParts.{equal_assignments, equal_atoms, source_count, test_count}
use Rattle.mm_statement.proofs.Shapes.{IsCounted, Same, each_same, each_same_all, equal_each}
use Rattle.mm_statement.proofs.TextCommands.{fixed_same, is_fixed, same_change, same_explain, same_select, same_watch}

-- ---- queries

same_queries : (a b : Query) → blank_query a ≡ blank_query b → query_literals a ≡ query_literals b → a ≡ b
same_queries a b shape same =
    let pairs = each_same blank_atom test_literals test_count a.atoms b.atoms (flat_map position_literals a.order)
    (flat_map position_literals b.order) (ap (λ (q : Query). q.atoms) shape) same in
    let atoms : a.atoms ≡ b.atoms = equal_each blank_atom test_literals equal_atoms a.atoms b.atoms pairs.0 in
    λ i. record (shape i) { atoms = atoms i }

-- ---- changes of rows

tuple_count : IsCounted (map blank_value) (λ (tuple : List Value). tuple)
tuple_count a b h = sym (length-map a blank_value) ∙ ap length h ∙ length-map b blank_value

equal_tuples : (a b : List Value) → Same (map blank_value) (λ (tuple : List Value). tuple) a b → a ≡ b
equal_tuples a b h = h.values

same_mutations : (a b : Mutation) → blank_mutation a ≡ blank_mutation b → change_literals a ≡ change_literals b → a ≡ b
same_mutations (Insert table tuples) (Insert other others) shape same =
    let name : table ≡ other = cc in
    let shapes : map (map blank_value) tuples ≡ map (map blank_value) others = cc in
    let pairs = each_same_all (map blank_value) (λ (tuple : List Value). tuple) tuple_count tuples others shapes same in
    let equal : tuples ≡ others = equal_each (map blank_value) (λ (tuple : List Value). tuple) equal_tuples tuples others pairs in
    λ i. Insert (name i) (equal i)
same_mutations (Update table assignments tests) (Update other sets asked) shape same =
    let name : table ≡ other = cc in
    let assigned : map blank_assignment assignments ≡ map blank_assignment sets = cc in
    let tested : map blank_atom tests ≡ map blank_atom asked = cc in
    let pairs = each_same blank_assignment assignment_literals source_count assignments sets (flat_map test_literals tests)
    (flat_map test_literals asked) assigned same in
    let first : assignments ≡ sets = equal_each blank_assignment assignment_literals equal_assignments assignments sets pairs.0 in
    let second : tests ≡ asked =
    equal_each blank_atom test_literals equal_atoms tests asked (each_same_all blank_atom test_literals test_count tests asked tested pairs.1) in
    λ i. Update (name i) (first i) (second i)
same_mutations (Delete table tests) (Delete other asked) shape same =
    let name : table ≡ other = cc in
    let tested : map blank_atom tests ≡ map blank_atom asked = cc in
    let equal : tests ≡ asked =
    equal_each blank_atom test_literals equal_atoms tests asked (each_same_all blank_atom test_literals test_count tests asked tested same) in
    λ i. Delete (name i) (equal i)
same_mutations _ _ shape same = absurd (cc)

-- ---- commands

-- Two commands that differ only in their literals, and have the same literals, are equal.
same_commands : (c f : Command) → blank f ≡ blank c → literals_of f ≡ literals_of c → f ≡ c
unfolding is_fixed
same_commands (Change m) f shape same =
    let p = same_change f (blank_mutation m) shape in
    p.1 ∙ ap Change (same_mutations p.0 m p.2 (sym (ap literals_of p.1) ∙ same))
same_commands (Select q) f shape same =
    let p = same_select f (blank_query q) shape in
    p.1 ∙ ap Select (same_queries p.0 q p.2 (sym (ap literals_of p.1) ∙ same))
same_commands (Explain q) f shape same =
    let p = same_explain f (blank_query q) shape in
    p.1 ∙ ap Explain (same_queries p.0 q p.2 (sym (ap literals_of p.1) ∙ same))
same_commands (Define (define.Watch w)) f shape same =
    let p = same_watch f (record { name = w.name; query = blank_query w.query }) shape in
    let query : p.0.query ≡ w.query = same_queries p.0.query w.query p.3 (sym (ap literals_of p.1) ∙ same) in
    p.1 ∙ (λ i. Define (define.Watch (record { name = p.2 i; query = query i })))
same_commands c f shape same = fixed_same c f refl shape

-- A command filled with values is unique.
pub filled_once : (holes : List Bool) (values : List Value) (command filled other : Command) → Filled holes values command filled
    → Filled holes values command other → filled ≡ other
filled_once holes values command filled other h k = same_commands other filled (h.same ∙ sym k.same) (h.literals ∙ sym k.literals)

-- ---- fillings

past_none : (o : Option Refusal) (refusal : Refusal) → o ≡ None → o ≡ Some refusal → ⊥
past_none o refusal none some = let both : ◌≡◌ {A = Option Refusal} None (Some refusal) = sym none ∙ some in cc

-- The result of filling is unique.
pub filling_once : (holes : List Bool) (values : List Value) (command : Command) (result other : Result Command Refusal)
    → IsFilling holes values command result → IsFilling holes values command other → result ≡ other
filling_once holes values command (Ok filled) (Ok other) h k = ap (λ c. Ok c) (filled_once holes values command filled other h.0 k.0)
filling_once holes values command (Ok filled) (Err Syntax) h k = absurd (k filled h.0)
filling_once holes values command (Ok filled) (Err NumberOutOfRange) h k =
    absurd (past_none (first_fault (literals_of filled)) NumberOutOfRange h.1
    (ap (λ c. first_fault (literals_of c)) (filled_once holes values command filled k.0 h.0 k.1) ∙ k.2))
filling_once holes values command (Err Syntax) (Ok other) h k = absurd (h other k.0)
filling_once holes values command (Err Syntax) (Err Syntax) h k = refl
filling_once holes values command (Err Syntax) (Err NumberOutOfRange) h k = absurd (h k.0 k.1)
filling_once holes values command (Err NumberOutOfRange) (Ok other) h k =
    absurd (past_none (first_fault (literals_of other)) NumberOutOfRange k.1
    (ap (λ c. first_fault (literals_of c)) (filled_once holes values command other h.0 k.0 h.1) ∙ h.2))
filling_once holes values command (Err NumberOutOfRange) (Err Syntax) h k = absurd (k h.0 h.1)
filling_once holes values command (Err NumberOutOfRange) (Err NumberOutOfRange) h k = refl
filling_once holes values command (Ok filled) (Err refusal) h k = absurd k
filling_once holes values command (Err Syntax) (Err refusal) h k = absurd k
filling_once holes values command (Err NumberOutOfRange) (Err refusal) h k = absurd k
filling_once holes values command (Err refusal) other h k = absurd h
