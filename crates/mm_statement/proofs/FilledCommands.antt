-- Filled commands.
use Rattle.std.proofs.Common.{◌≡◌, ◌⊎◌, ℕ, Bool, true, false, List, [], ◌∷◌, ◌++◌, None, Ok, Err, length, map, refl, sym, ap, ◌∙◌, subst}
use Rattle.std.proofs.Common.{◌+◌, inl, inr, append_assoc, append-nil}
use Rattle.std.specs.List.{flat_map}
use Rattle.std.specs.Option.{option_or}
use Rattle.std.specs.Vec.Iter.{into_iter_items}
use Rattle.std.proofs.lemmas.List.{length-append}
use Rattle.mm_value.specs.declared.refusal.Refusal.{Refusal}
use Rattle.mm_value.specs.declared.refusal.Refusal.TheVariants.{Memory, NumberOutOfRange, Syntax}
use Rattle.mm_value.specs.declared.values.Value.{Value}
use Rattle.mm_query.specs.Fields.{FieldName}
use Rattle.mm_query.specs.declared.atom.Assignment.{Assignment}
use Rattle.mm_query.specs.declared.atom.Atom.{Atom}
use Rattle.mm_query.specs.declared.command.Command.{Command}
use Rattle.mm_query.specs.declared.command.Command.TheVariants.{Change, Define, Explain, Select}
use Rattle.mm_query.specs.declared.command.Definition.{Definition}
use Rattle.mm_query.specs.declared.command.Definition.TheVariants as define
use Rattle.mm_query.specs.declared.command.Mutation.{Mutation}
use Rattle.mm_query.specs.declared.command.Mutation.TheVariants.{Insert, Update, Delete}
use Rattle.mm_query.specs.declared.query.Query.{Query}
use Rattle.mm_lang.specs.Reading.{assignment_literals, definition_literals, first_fault, literals_of, position_literals, query_literals, test_literals}
use Rattle.mm_statement.specs.Alike.{change_literals}
use Rattle.mm_statement.specs.Filling.{AnswersFilling, Filled, IsFilling, blank, blank_assignment, blank_atom, blank_definition, blank_mutation, blank_query}
use Rattle.mm_statement.specs.Filling.{blank_value, merged}
use Rattle.mm_statement.specs.declared.filler.Filler.{Filler}
use Rattle.mm_statement.specs.steps.Counts.{IsCounted, assignments_counted, tests_counted}
use Rattle.mm_statement.specs.steps.Fills.{Fills, IsChanging, IsUnfillable, Keeps, fault_of, filled_by, range_fault}
use Rattle.mm_statement.proofs.Fillers.{merged_no_literals, merged_no_values}
use Rattle.mm_statement.proofs.Fills.{behind_both, fault_both, free_before}
use Rattle.mm_statement.proofs.Shapes.{same_parts}
use Rattle.mm_lang.proofs.Readings.{fault-append, or_none_parts, or_none}

-- ---- a command with the literals of its only part

module _ {A B : Type 0} (blank_part : A → A) (of_part : A → List Value) (blank_whole : B → B) (of_whole : B → List Value) (make shape : A → B)
    (shaped : (x : A) → blank_whole (make x) ≡ shape (blank_part x)) (listed : (x : A) → of_whole (make x) ≡ of_part x) where
  pub whole_filled : (old new : Filler) (part filled : A) → Fills blank_part of_part old new part filled
      → Fills blank_whole of_whole old new (make part) (make filled)
  whole_filled old new part filled f = record {
    meant = make f.meant;
    same = shaped f.meant ∙ ap shape f.same ∙ sym (shaped part);
    behind = λ rest. ap (λ l. filled_by old (l ++ rest)) (listed part) ∙ f.behind rest ∙ ap (λ l. l ++ filled_by new rest) (sym (listed f.meant));
    fault = f.fault ∙ ap (λ l. option_or (fault_of old) (first_fault l)) (sym (listed f.meant));
    kept = λ free. ap make (f.kept free);
  }

-- ---- changes of rows

pub insert_filled : (old new : Filler) (table : List ℕ) (tuples filled : List (List Value))
    → Fills (map (map blank_value)) (flat_map (λ (t : List Value). t)) old new tuples filled
    → Fills blank_mutation change_literals old new (Insert table tuples) (Insert table filled)
insert_filled old new table tuples filled f =
    whole_filled (map (map blank_value)) (flat_map (λ (t : List Value). t)) blank_mutation change_literals (Insert table) (Insert table) (λ x. refl) (λ x. refl)
    old new tuples filled f

pub delete_filled : (old new : Filler) (table : List ℕ) (tests filled : List (Atom (List ℕ)))
    → Fills (map blank_atom) (flat_map test_literals) old new tests filled
    → Fills blank_mutation change_literals old new (Delete table tests) (Delete table filled)
delete_filled old new table tests filled f =
    whole_filled (map blank_atom) (flat_map test_literals) blank_mutation change_literals (Delete table) (Delete table) (λ x. refl) (λ x. refl)
    old new tests filled f

list_counted : {A : Type 0} (blank_item : A → A) (literals : A → List Value) → IsCounted blank_item literals
    → IsCounted (map blank_item) (flat_map literals)
list_counted blank_item literals counted [] [] h = refl
list_counted blank_item literals counted [] (y ∷ ys) h = absurd (cc)
list_counted blank_item literals counted (x ∷ xs) [] h = absurd (cc)
list_counted blank_item literals counted (x ∷ xs) (y ∷ ys) h =
    let here : blank_item x ≡ blank_item y = cc in
    let others : map blank_item xs ≡ map blank_item ys = cc in
    let rest = list_counted blank_item literals counted xs ys others in
    length-append (literals x) (flat_map literals xs)
    ∙ (λ i. counted x y here i + rest i)
    ∙ sym (length-append (literals y) (flat_map literals ys))

pub update_filled : (old mid new : Filler) (table : List ℕ) (assignments sets : List (Assignment (List ℕ))) (tests asked : List (Atom (List ℕ)))
    → Fills (map blank_assignment) (flat_map assignment_literals) old mid assignments sets
    → Fills (map blank_atom) (flat_map test_literals) mid new tests asked
    → Fills blank_mutation change_literals old new (Update table assignments tests) (Update table sets asked)
update_filled old mid new table assignments sets tests asked f g =
    let a = flat_map assignment_literals assignments in
    let b = flat_map test_literals tests in
    let x = flat_map assignment_literals f.meant in
    let y = flat_map test_literals g.meant in
    record {
      meant = Update table f.meant g.meant;
      same = λ i. Update table (f.same i) (g.same i);
      behind = λ rest. behind_both old mid new a b x y f.behind g.behind f.fault g.fault rest;
      fault = fault_both old mid new a b x y f.behind g.behind f.fault g.fault;
      kept = λ free. λ i. Update table (f.kept (free_before mid new y g.fault free) i) (g.kept free i);
    }

pub assignments_stuck : (old : Filler) (table : List ℕ) (assignments : List (Assignment (List ℕ))) (tests : List (Atom (List ℕ)))
    → IsUnfillable (map blank_assignment) (flat_map assignment_literals) old assignments
    → IsUnfillable blank_mutation change_literals old (Update table assignments tests)
assignments_stuck old table assignments tests stuck (Update name sets asked) rest tail same h =
    let shape : map blank_assignment sets ≡ map blank_assignment assignments = cc in
    let a = flat_map assignment_literals assignments in
    let b = flat_map test_literals tests in
    let x = flat_map assignment_literals sets in
    let y = flat_map test_literals asked in
    stuck sets (b ++ rest) (y ++ tail) shape (ap (filled_by old) (sym (append_assoc a b rest)) ∙ h ∙ append_assoc x y tail)
assignments_stuck old table assignments tests stuck _ rest tail same h = absurd (cc)

-- If a second part cannot be filled after the first one, the two cannot be filled.
second_stuck : (old mid : Filler) (a b x y z rest tail : List Value) → ((more : List Value) → filled_by old (a ++ more) ≡ x ++ filled_by mid more)
    → length x ≡ length y → filled_by old ((a ++ b) ++ rest) ≡ (y ++ z) ++ tail → filled_by mid (b ++ rest) ≡ z ++ tail
second_stuck old mid a b x y z rest tail first count h =
    (same_parts x y (filled_by mid (b ++ rest)) (z ++ tail) count
    (sym (first (b ++ rest)) ∙ ap (filled_by old) (sym (append_assoc a b rest)) ∙ h ∙ append_assoc y z tail)).1

pub tests_stuck : (old mid : Filler) (table : List ℕ) (assignments sets : List (Assignment (List ℕ))) (tests : List (Atom (List ℕ)))
    → Fills (map blank_assignment) (flat_map assignment_literals) old mid assignments sets
    → IsUnfillable (map blank_atom) (flat_map test_literals) mid tests
    → IsUnfillable blank_mutation change_literals old (Update table assignments tests)
tests_stuck old mid table assignments sets tests f stuck (Update name others asked) rest tail same h =
    let shape : map blank_assignment others ≡ map blank_assignment assignments = cc in
    let shape_of_tests : map blank_atom asked ≡ map blank_atom tests = cc in
    stuck asked rest tail shape_of_tests
    (second_stuck old mid (flat_map assignment_literals assignments) (flat_map test_literals tests) (flat_map assignment_literals f.meant)
    (flat_map assignment_literals others) (flat_map test_literals asked) rest tail f.behind
    (list_counted blank_assignment assignment_literals assignments_counted f.meant others (f.same ∙ sym shape)) h)
tests_stuck old mid table assignments sets tests f stuck _ rest tail same h = absurd (cc)

-- ---- queries

pub query_filled : (old mid new : Filler) (query : Query) (atoms : List (Atom FieldName)) → first_fault (query_literals query) ≡ None
    → Fills (map blank_atom) (flat_map test_literals) old mid query.atoms atoms → Keeps mid new query.order
    → Fills blank_query query_literals old new query (record query { atoms = atoms })
query_filled old mid new query atoms within f keeps =
    let a = flat_map test_literals query.atoms in
    let b = flat_map position_literals query.order in
    let x = flat_map test_literals f.meant in
    let parts = or_none_parts (first_fault a) (first_fault b) (sym (fault-append a b) ∙ within) in
    let fault : fault_of new ≡ option_or (fault_of mid) (first_fault b) =
    keeps.fault ∙ sym (or_none (fault_of mid)) ∙ ap (option_or (fault_of mid)) (sym parts.1) in
    record {
      meant = record query { atoms = f.meant };
      same = λ i. record query { atoms = f.same i };
      behind = λ rest. behind_both old mid new a b x b f.behind keeps.behind f.fault fault rest;
      fault = fault_both old mid new a b x b f.behind keeps.behind f.fault fault;
      kept = λ free. λ i. record query { atoms = f.kept (sym keeps.fault ∙ free) i };
    }

pub order_stuck : (old mid : Filler) (query : Query) (atoms : List (Atom FieldName))
    → Fills (map blank_atom) (flat_map test_literals) old mid query.atoms atoms → IsChanging mid query.order
    → IsUnfillable blank_query query_literals old query
order_stuck old mid query atoms f changing meant rest tail same h =
    changing rest tail
    (second_stuck old mid (flat_map test_literals query.atoms) (flat_map position_literals query.order) (flat_map test_literals f.meant)
    (flat_map test_literals meant.atoms) (flat_map position_literals meant.order) rest tail f.behind
    (list_counted blank_atom test_literals tests_counted f.meant meant.atoms (f.same ∙ sym (ap (λ q. q.atoms) same))) h
    ∙ ap (λ order. flat_map position_literals order ++ tail) (ap (λ q. q.order) same))

-- ---- definitions and commands

pub watch_filled : (old new : Filler) (name : List ℕ) (query filled : Query) → Fills blank_query query_literals old new query filled
    → Fills blank_definition definition_literals old new (define.Watch (record { name = name; query = query }))
    (define.Watch (record { name = name; query = filled }))
watch_filled old new name query filled f =
    whole_filled blank_query query_literals blank_definition definition_literals (λ q. define.Watch (record { name = name; query = q }))
    (λ q. define.Watch (record { name = name; query = q })) (λ x. refl) (λ x. refl) old new query filled f

module _ (old new : Filler) where
  pub define_filled : (part filled : Definition) → Fills blank_definition definition_literals old new part filled
      → Fills blank literals_of old new (Define part) (Define filled)
  define_filled part filled f =
      whole_filled blank_definition definition_literals blank literals_of Define Define (λ x. refl) (λ x. refl) old new part filled f

  pub change_filled : (part filled : Mutation) → Fills blank_mutation change_literals old new part filled
      → Fills blank literals_of old new (Change part) (Change filled)
  change_filled part filled f =
      whole_filled blank_mutation change_literals blank literals_of Change Change (λ x. refl) (λ x. refl) old new part filled f

  pub select_filled : (part filled : Query) → Fills blank_query query_literals old new part filled
      → Fills blank literals_of old new (Select part) (Select filled)
  select_filled part filled f = whole_filled blank_query query_literals blank literals_of Select Select (λ x. refl) (λ x. refl) old new part filled f

  pub explain_filled : (part filled : Query) → Fills blank_query query_literals old new part filled
      → Fills blank literals_of old new (Explain part) (Explain filled)
  explain_filled part filled f = whole_filled blank_query query_literals blank literals_of Explain Explain (λ x. refl) (λ x. refl) old new part filled f

-- ---- a whole command

-- Commands without holes are returned unchanged.
pub unchanged : (holes : List Bool) (values : List Value) (command : Command) → values ≡ [] → first_fault (literals_of command) ≡ None
    → AnswersFilling holes values command (Ok command)
unchanged holes values command none within =
    inl (record { same = refl; literals = sym (ap (λ v. merged holes v (literals_of command)) none ∙ merged_no_values holes (literals_of command)) }, within)

module _ (holes : List Bool) (values : List Value) (old new : Filler) (command : Command) (holes_are : old.holes.now ≡ holes)
    (values_are : into_iter_items old.values ≡ values) (fresh : old.is_out_of_range ≡ false) where
  all_behind : (meant : Command) → ((rest : List Value) → filled_by old (literals_of command ++ rest) ≡ literals_of meant ++ filled_by new rest)
      → literals_of meant ≡ merged holes values (literals_of command)
  all_behind meant behind =
      sym (append-nil (literals_of meant))
      ∙ ap (λ l. literals_of meant ++ l) (sym (merged_no_literals new.holes.now (into_iter_items new.values)))
      ∙ sym (behind [])
      ∙ ap (filled_by old) (append-nil (literals_of command))
      ∙ λ i. merged (holes_are i) (values_are i) (literals_of command)

  fault_then : (v : List Value) → fault_of new ≡ option_or (fault_of old) (first_fault v) → first_fault v ≡ fault_of new
  fault_then v fault = sym (fault ∙ ap (λ b. option_or (range_fault b) (first_fault v)) fresh)

  pub filled_in_range : (filled : Command) → Fills blank literals_of old new command filled → new.is_out_of_range ≡ false
      → AnswersFilling holes values command (Ok filled)
  filled_in_range filled f flag =
      let free : fault_of new ≡ None = ap range_fault flag in
      inl (subst (λ c. Filled holes values command c × (first_fault (literals_of c) ≡ None)) (sym (f.kept free))
      (record { same = f.same; literals = all_behind f.meant f.behind }, fault_then (literals_of f.meant) f.fault ∙ free))

  pub filled_past_range : (filled : Command) → Fills blank literals_of old new command filled → new.is_out_of_range ≡ true
      → AnswersFilling holes values command (Err NumberOutOfRange)
  filled_past_range filled f flag =
      inl (f.meant, record { same = f.same; literals = all_behind f.meant f.behind }, fault_then (literals_of f.meant) f.fault ∙ ap range_fault flag)

-- A command that cannot be filled is refused.
pub not_filled : (holes : List Bool) (values left : List Value) (command : Command) → left ≡ values → (refusal : Refusal)
    → ((refusal ≡ Syntax) × ((meant : Command) (rest tail : List Value) → blank meant ≡ blank command
    → merged holes left (literals_of command ++ rest) ≡ literals_of meant ++ tail → ⊥)) ⊎ (refusal ≡ Memory)
    → AnswersFilling holes values command (Err refusal)
not_filled holes values left command same refusal (inl syntax) =
    let none : IsFilling holes values command (Err Syntax) =
    λ filled h. syntax.1 filled [] [] h.same
    (ap (merged holes left) (append-nil (literals_of command)) ∙ ap (λ v. merged holes v (literals_of command)) same ∙ sym h.literals
    ∙ sym (append-nil (literals_of filled))) in
    inl (subst (λ r. IsFilling holes values command (Err r)) (sym syntax.0) none)
not_filled holes values left command same refusal (inr memory) = inr (ap Err memory)
