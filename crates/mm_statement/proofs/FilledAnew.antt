-- A bound command with new values in its holes is the bound form of its template with these values.
use Rattle.std.proofs.Common.{◌≡◌, ℕ, zero, suc, Bool, true, false, List, [], ◌∷◌, ◌++◌, ◌+◌, cond, None, arith, length, map, refl, sym, ap, ◌∙◌}
use Rattle.std.specs.List.{flat_map}
use Rattle.std.specs.Option.{option_or}
use Rattle.std.proofs.Math.IntN.{pos, negsuc}
use Rattle.std.proofs.lemmas.List.{map-append}
use Rattle.std.proofs.lemmas.List.Sums.{sum_by-cons}
use Rattle.mm_value.specs.Types.{type_of}
use Rattle.mm_value.specs.declared.values.Value.{Value}
use Rattle.mm_value.specs.declared.values.Value.TheVariants.{Int, Text}
use Rattle.mm_schema.specs.Schema.{Schema, columns_named}
use Rattle.mm_schema.specs.declared.column.Column.{Column as Col}
use Rattle.mm_query.specs.Binding.{Binds, BindsDelete, BindsUpdate, assignments_for, at_first, atoms_for}
use Rattle.mm_query.specs.Placing.{mapped_atom, mapped_operand, placed, placed_assignment, placed_atom}
use Rattle.mm_query.specs.Resolving.{placed_field, placed_query}
use Rattle.mm_query.specs.declared.atom.Assignment.{Assignment}
use Rattle.mm_query.specs.declared.atom.Atom.{Atom}
use Rattle.mm_query.specs.declared.atom.Operand.{Operand}
use Rattle.mm_query.specs.declared.atom.Operand.TheVariants.{Literal, Column, Shifted}
use Rattle.mm_query.specs.declared.bind.BoundChange.{BoundChange}
use Rattle.mm_query.specs.declared.bind.BoundChange.TheVariants as bound
use Rattle.mm_query.specs.declared.bound_query.BoundQuery.{BoundQuery}
use Rattle.mm_query.specs.declared.bound_query.FieldPlace.{FieldPlace}
use Rattle.mm_query.specs.declared.command.Command.TheVariants.{Change, Select}
use Rattle.mm_query.specs.declared.command.Mutation.{Mutation}
use Rattle.mm_query.specs.declared.command.Mutation.TheVariants as written
use Rattle.mm_query.specs.declared.query.Query.{Query}
use Rattle.mm_lang.specs.Reading.{assignment_literals, first_fault, operand_literals, position_literals, query_literals, test_literals}
use Rattle.mm_statement.specs.Alike.{AreAlike, AreAlikeChanges, blank_bound_change, blank_bound_query, bound_change_literals, bound_query_literals}
use Rattle.mm_statement.specs.Alike.{change_literals}
use Rattle.mm_statement.specs.Filling.{blank_assignment, blank_atom, blank_mutation, blank_operand, blank_query, blank_value, given, merged}
use Rattle.mm_statement.specs.Holes.{hole_count, hole_places, is_minus_one}
use Rattle.mm_statement.specs.Refilling.{BindsFilledChange, BindsFilledQuery, RefillsChange, RefillsQuery, left_over, refilled, signed}
use Rattle.mm_statement.proofs.AlikeParts.{assignment_literals_placed, mapped_literals, source_literals}
use Rattle.mm_statement.proofs.Bindings.{atoms_literals, changes_bind_alike, queries_placed_alike}
use Rattle.mm_statement.proofs.Refusals.{changes_refused_alike, queries_refused_alike}
use Rattle.mm_lang.proofs.Readings.{fault-append, or_none_parts}

-- ---- literals

-- The sign of a hole is that of the literal in its place.
signed_given : (literal value : Value) → signed (is_minus_one literal) value ≡ given literal value
signed_given (Int (pos n)) value = refl
signed_given (Int (negsuc zero)) (Int z) = refl
signed_given (Int (negsuc zero)) (Text text) = refl
signed_given (Int (negsuc (suc n))) value = refl
signed_given (Text text) value = refl

refilled_no_values : (holes minus_ones : List Bool) (literals : List Value) → refilled holes minus_ones [] literals ≡ literals
refilled_no_values [] minus_ones literals = refl
refilled_no_values (true ∷ holes) [] literals = refl
refilled_no_values (true ∷ holes) (m ∷ minus_ones) literals = refl
refilled_no_values (false ∷ holes) [] literals = refl
refilled_no_values (false ∷ holes) (m ∷ minus_ones) [] = refl
refilled_no_values (false ∷ holes) (m ∷ minus_ones) (l ∷ literals) = ap (λ t. l ∷ t) (refilled_no_values holes minus_ones literals)

-- If no value remains, literals that follow are unchanged.
refilled_behind : (holes minus_ones : List Bool) (values literals behind : List Value) → left_over holes values literals ≡ []
    → refilled holes minus_ones values (literals ++ behind) ≡ refilled holes minus_ones values literals ++ behind
refilled_behind [] minus_ones values literals behind used = refl
refilled_behind (true ∷ holes) [] values literals behind used = refl
refilled_behind (false ∷ holes) [] values literals behind used = refl
refilled_behind (true ∷ holes) (m ∷ minus_ones) [] literals behind used = refl
refilled_behind (true ∷ holes) (m ∷ minus_ones) (v ∷ values) [] behind used = absurd (cc)
refilled_behind (true ∷ holes) (m ∷ minus_ones) (v ∷ values) (l ∷ literals) behind used =
    ap (λ t. signed m v ∷ t) (refilled_behind holes minus_ones values literals behind used)
refilled_behind (false ∷ holes) (m ∷ minus_ones) values [] behind used =
    ap (λ vs. refilled (false ∷ holes) (m ∷ minus_ones) vs behind) used ∙ refilled_no_values (false ∷ holes) (m ∷ minus_ones) behind
refilled_behind (false ∷ holes) (m ∷ minus_ones) values (l ∷ literals) behind used =
    ap (λ t. l ∷ t) (refilled_behind holes minus_ones values literals behind used)

one_more : (hole : Bool) (holes : List Bool) → hole_count (hole ∷ holes) ≡ cond hole 1 0 + hole_count holes
one_more hole holes = sum_by-cons (λ h. cond h 1 0) hole holes

-- Replacing earlier values in the holes by new ones is the same as filling the holes with the new ones.
refilled_anew : (holes : List Bool) (earlier values literals : List Value) → length earlier ≡ hole_count holes → length values ≡ hole_count holes
    → refilled holes (map is_minus_one literals) values (merged holes earlier literals) ≡ merged holes values literals
refilled_anew [] earlier values literals g h = refl
refilled_anew (true ∷ holes) [] values literals g h = let more = one_more true holes in absurd (omega arith)
refilled_anew (true ∷ holes) (e ∷ earlier) [] literals g h = let more = one_more true holes in absurd (omega arith)
refilled_anew (true ∷ holes) (e ∷ earlier) (v ∷ values) [] g h = refl
refilled_anew (true ∷ holes) (e ∷ earlier) (v ∷ values) (l ∷ literals) g h =
    let more = one_more true holes in
    let one : length earlier ≡ hole_count holes = omega arith in
    let two : length values ≡ hole_count holes = omega arith in
    λ i. signed_given l v i ∷ refilled_anew holes earlier values literals one two i
refilled_anew (false ∷ holes) earlier values [] g h = refl
refilled_anew (false ∷ holes) earlier values (l ∷ literals) g h =
    let more = one_more false holes in
    let one : length earlier ≡ hole_count holes = omega arith in
    let two : length values ≡ hole_count holes = omega arith in
    ap (λ t. l ∷ t) (refilled_anew holes earlier values literals one two)

-- ---- the literals of one value in another

with_literal : {F G : Type 0} → Operand F → Operand G → Operand F
with_literal (Literal v) (Literal w) = Literal w
with_literal (Shifted c x) (Shifted d y) = Shifted c y
with_literal o p = o

abbrev each_with : {A B : Type 0} → (A → B → A) → List A → List B → List A
each_with one (x ∷ xs) (y ∷ ys) = one x y ∷ each_with one xs ys
each_with one xs ys = xs

-- A value with the shape of the first and the literals of the second.
abbrev Combines : {A B : Type 0} → (A → A) → (A → List Value) → (B → List Value) → A → B → A → Type 0
Combines blank literals others a b made = (blank made ≡ blank a) × (literals made ≡ others b)

module _ {F G : Type 0} (place : F → G) where
  operands_combined : (o : Operand F) (p : Operand G) → blank_operand p ≡ blank_operand (mapped_operand place o)
      → Combines blank_operand operand_literals operand_literals o p (with_literal o p)
  unfolding with_literal
  operands_combined (Literal v) (Literal w) h = (refl, refl)
  operands_combined (Column c) (Column d) h = (refl, refl)
  operands_combined (Shifted c x) (Shifted d y) h = (refl, refl)
  operands_combined _ _ h = absurd (cc)

atom_with : {F G : Type 0} → Atom F → Atom G → Atom F
atom_with a b = record { left = a.left; comparison = a.comparison; right = with_literal a.right b.right }

assignment_with : {F G : Type 0} → Assignment F → Assignment G → Assignment F
assignment_with a b = record { column = a.column; source = with_literal a.source b.source }

atoms_combined : {F G : Type 0} (place : F → G) (a : Atom F) (b : Atom G) → blank_atom b ≡ blank_atom (mapped_atom place a)
    → Combines blank_atom test_literals test_literals a b (atom_with a b)
unfolding atom_with
atoms_combined place a b h =
    let t = operands_combined place a.right b.right (ap (λ x. x.right) h) in
    (ap (λ o. record { left = a.left; comparison = a.comparison; right = o }) t.0, t.1)

assignments_combined : (columns : List Col) (a : Assignment (List ℕ)) (b : Assignment ℕ) → blank_assignment b ≡ blank_assignment (placed_assignment columns a)
    → Combines blank_assignment assignment_literals source_literals a b (assignment_with a b)
unfolding assignment_with
assignments_combined columns a b h =
    let t = operands_combined (placed columns) a.source b.source (ap (λ x. x.source) h) in
    (ap (λ o. record { column = a.column; source = o }) t.0, t.1)

module _ {A B : Type 0} (one : A → B → A) (blank : A → A) (literals : A → List Value) (shape : B → B) (others : B → List Value) (place : A → B)
    (combined : (a : A) (b : B) → shape b ≡ shape (place a) → Combines blank literals others a b (one a b)) where
  all_combined : (xs : List A) (ys : List B) → map shape ys ≡ map shape (map place xs)
      → Combines (map blank) (flat_map literals) (flat_map others) xs ys (each_with one xs ys)
  all_combined [] [] h = (refl, refl)
  all_combined [] (y ∷ ys) h = absurd (cc)
  all_combined (x ∷ xs) [] h = absurd (cc)
  all_combined (x ∷ xs) (y ∷ ys) h =
      let here : shape y ≡ shape (place x) = cc in
      let behind : map shape ys ≡ map shape (map place xs) = cc in
      let t = combined x y here in
      let rest = all_combined xs ys behind in
      (λ i. t.0 i ∷ rest.0 i, λ i. t.1 i ++ rest.1 i)

-- ---- queries

pub query_anew : (schema : Schema) (template query : Query) (old new : BoundQuery) (holes : List Bool) (earlier values : List Value)
    → BindsFilledQuery schema holes earlier template query old → length values ≡ hole_count holes
    → RefillsQuery (hole_places holes (Select template)) values old new
    → (other : Query) × BindsFilledQuery schema holes values template other new × (other.from ≡ query.from)
query_anew schema template query old new holes earlier values b count r =
    let place = placed_field schema query.from in
    let behind = flat_map position_literals query.order in
    let minus_ones = map is_minus_one (query_literals template) in
    let shape : blank_bound_query new ≡ blank_bound_query (placed_query schema query) = r.same ∙ ap blank_bound_query b.placed in
    let parts =
    all_combined atom_with blank_atom test_literals blank_atom test_literals (mapped_atom place) (atoms_combined place) query.atoms new.atoms
    (ap (λ (q : BoundQuery). q.atoms) shape) in
    let other : Query = record query { atoms = each_with atom_with query.atoms new.atoms } in
    let new_literals : query_literals other ≡ bound_query_literals new ++ behind = ap (λ l. l ++ behind) parts.1 in
    let old_literals : bound_query_literals old ++ behind ≡ query_literals query =
    ap (λ (q : BoundQuery). bound_query_literals q ++ behind) b.placed ∙ ap (λ l. l ++ behind) (mapped_literals place query.atoms) in
    let literals : query_literals other ≡ merged holes values (query_literals template) =
    new_literals
    ∙ ap (λ l. l ++ behind) r.literals
    ∙ sym (refilled_behind holes minus_ones values (bound_query_literals old) behind r.used)
    ∙ ap (refilled holes minus_ones values) (old_literals ∙ b.filled.literals)
    ∙ refilled_anew holes earlier values (query_literals template) b.count count in
    let faults = or_none_parts (first_fault (bound_query_literals old)) (first_fault behind)
    (sym (fault-append (bound_query_literals old) behind) ∙ ap first_fault old_literals ∙ b.within) in
    let within : first_fault (query_literals other) ≡ None =
    ap first_fault new_literals ∙ fault-append (bound_query_literals new) behind ∙ λ i. option_or (r.within faults.0 i) (faults.1 i) in
    let same : blank_query query ≡ blank_query other = λ i. record query { atoms = sym parts.0 i } in
    let alike : AreAlike query other = record {
      same = same;
      types =
          ap (map type_of) (sym old_literals)
          ∙ map-append type_of (bound_query_literals old) behind
          ∙ (λ i. sym r.types i ++ map type_of behind)
          ∙ sym (map-append type_of (bound_query_literals new) behind)
          ∙ ap (map type_of) (sym new_literals);
    } in (
      other,
      record {
        count = count;
        filled = record { same = ap Select (sym same) ∙ b.filled.same; literals = literals };
        within = within;
        unrefused = sym (queries_refused_alike schema query other alike) ∙ b.unrefused;
        placed = queries_placed_alike schema query other new alike shape new_literals;
      },
      refl,
    )

-- ---- changes

-- A change with the literals of a bound one keeps its own shape.
abbrev HasLiterals : Mutation → BoundChange → Type 0
HasLiterals mutation new = (other : Mutation) × (blank_mutation other ≡ blank_mutation mutation) × (change_literals other ≡ bound_change_literals new)

once : (columns : List Col) (o : Operand (List ℕ)) → mapped_operand at_first (mapped_operand (placed columns) o)
    ≡ mapped_operand (λ name. at_first (placed columns name)) o
once columns (Literal v) = refl
once columns (Column c) = refl
once columns (Shifted c x) = refl

atoms_once : (columns : List Col) (tests : List (Atom (List ℕ))) → map (mapped_atom at_first) (map (placed_atom columns) tests)
    ≡ map (mapped_atom (λ name. at_first (placed columns name))) tests
atoms_once columns [] = refl
atoms_once columns (t ∷ tests) =
    λ i. record { left = at_first (placed columns t.left); comparison = t.comparison; right = once columns t.right i } ∷ atoms_once columns tests i

tests_combined : (schema : Schema) (name : List ℕ) (tests : List (Atom (List ℕ))) (asked given : List (Atom FieldPlace))
    → asked ≡ atoms_for name schema tests → map blank_atom given ≡ map blank_atom asked
    → Combines (map blank_atom) (flat_map test_literals) (flat_map test_literals) tests given (each_with atom_with tests given)
tests_combined schema name tests asked given is shape =
    let columns = columns_named name schema in
    let place = λ (name : List ℕ). at_first (placed columns name) in
    all_combined atom_with blank_atom test_literals blank_atom test_literals (mapped_atom place) (atoms_combined place) tests given
    (shape ∙ ap (map blank_atom) (is ∙ atoms_once columns tests))

sets_combined : (schema : Schema) (name : List ℕ) (assignments : List (Assignment (List ℕ))) (sets given : List (Assignment ℕ))
    → sets ≡ assignments_for name schema assignments → map blank_assignment given ≡ map blank_assignment sets
    → Combines (map blank_assignment) (flat_map assignment_literals) (flat_map source_literals) assignments given
    (each_with assignment_with assignments given)
sets_combined schema name assignments sets given is shape =
    let columns = columns_named name schema in
    all_combined assignment_with blank_assignment assignment_literals blank_assignment source_literals
    (placed_assignment columns) (assignments_combined columns) assignments given (shape ∙ ap (map blank_assignment) is)

insert_with : (name : List ℕ) (tuples : List (List Value)) (place : ℕ) (rows : List (List Value)) (new : BoundChange) → rows ≡ tuples
    → blank_bound_change new ≡ blank_bound_change (bound.Insert place rows) → HasLiterals (written.Insert name tuples) new
insert_with name tuples place rows (bound.Insert at given) is shape =
    let kept : map (map blank_value) given ≡ map (map blank_value) rows = cc in
    (written.Insert name given, ap (written.Insert name) (kept ∙ ap (map (map blank_value)) is), refl)
insert_with name tuples place rows _ is shape = absurd (cc)

update_with : (schema : Schema) (name : List ℕ) (assignments : List (Assignment (List ℕ))) (tests : List (Atom (List ℕ))) (place : ℕ)
    (sets : List (Assignment ℕ)) (asked : List (Atom FieldPlace)) (new : BoundChange) → BindsUpdate schema name assignments tests place sets asked
    → blank_bound_change new ≡ blank_bound_change (bound.Update place sets asked) → HasLiterals (written.Update name assignments tests) new
update_with schema name assignments tests place sets asked (bound.Update at given given_tests) binds shape =
    let kept : map blank_assignment given ≡ map blank_assignment sets = cc in
    let kept_tests : map blank_atom given_tests ≡ map blank_atom asked = cc in
    let a = sets_combined schema name assignments sets given binds.assignments_placed kept in
    let t = tests_combined schema name tests asked given_tests binds.tests_placed kept_tests in (
      written.Update name (each_with assignment_with assignments given) (each_with atom_with tests given_tests),
      λ i. written.Update name (a.0 i) (t.0 i),
      λ i. a.1 i ++ t.1 i,
    )
update_with schema name assignments tests place sets asked _ binds shape = absurd (cc)

delete_with : (schema : Schema) (name : List ℕ) (tests : List (Atom (List ℕ))) (place : ℕ) (asked : List (Atom FieldPlace)) (new : BoundChange)
    → BindsDelete schema name tests place asked → blank_bound_change new ≡ blank_bound_change (bound.Delete place asked)
    → HasLiterals (written.Delete name tests) new
delete_with schema name tests place asked (bound.Delete at given) binds shape =
    let kept : map blank_atom given ≡ map blank_atom asked = cc in
    let t = tests_combined schema name tests asked given binds.tests_placed kept in
    (written.Delete name (each_with atom_with tests given), ap (written.Delete name) t.0, t.1)
delete_with schema name tests place asked _ binds shape = absurd (cc)

change_with : (schema : Schema) (mutation : Mutation) (old new : BoundChange) → Binds schema mutation old
    → blank_bound_change new ≡ blank_bound_change old → HasLiterals mutation new
change_with schema (written.Insert name tuples) (bound.Insert place rows) new binds shape = insert_with name tuples place rows new binds.1 shape
change_with schema (written.Update name assignments tests) (bound.Update place sets asked) new binds shape =
    update_with schema name assignments tests place sets asked new binds shape
change_with schema (written.Delete name tests) (bound.Delete place asked) new binds shape = delete_with schema name tests place asked new binds shape
change_with schema _ _ new binds shape = absurd binds

-- A bound change has the literals of the change.
literals_bound : (schema : Schema) (mutation : Mutation) (old : BoundChange) → Binds schema mutation old → bound_change_literals old ≡ change_literals mutation
literals_bound schema (written.Insert name tuples) (bound.Insert place rows) binds = ap (flat_map (λ (t : List Value). t)) binds.1
literals_bound schema (written.Update name assignments tests) (bound.Update place sets asked) binds =
    let a = ap (flat_map source_literals) binds.assignments_placed
    ∙ assignment_literals_placed (columns_named name schema) assignments in
    let t = ap (flat_map test_literals) binds.tests_placed ∙ atoms_literals schema name tests in
    λ i. a i ++ t i
literals_bound schema (written.Delete name tests) (bound.Delete place asked) binds =
    ap (flat_map test_literals) binds.tests_placed ∙ atoms_literals schema name tests
literals_bound schema _ _ binds = absurd binds

pub change_anew : (schema : Schema) (template mutation : Mutation) (old new : BoundChange) (holes : List Bool) (earlier values : List Value)
    → BindsFilledChange schema holes earlier template mutation old → length values ≡ hole_count holes
    → RefillsChange (hole_places holes (Change template)) values old new
    → (other : Mutation) × BindsFilledChange schema holes values template other new
change_anew schema template mutation old new holes earlier values b count r =
    let minus_ones = map is_minus_one (change_literals template) in
    let made = change_with schema mutation old new b.binds r.same in
    let old_literals = literals_bound schema mutation old b.binds in
    let literals : change_literals made.0 ≡ merged holes values (change_literals template) =
    made.2 ∙ r.literals
    ∙ ap (refilled holes minus_ones values) (old_literals ∙ b.filled.literals)
    ∙ refilled_anew holes earlier values (change_literals template) b.count count in
    let alike : AreAlikeChanges mutation made.0 = record {
      same = sym made.1;
      types = ap (map type_of) (sym old_literals) ∙ sym r.types ∙ ap (map type_of) (sym made.2);
    } in (
      made.0,
      record {
        count = count;
        filled = record { same = ap Change made.1 ∙ b.filled.same; literals = literals };
        within = ap first_fault made.2 ∙ r.within (ap first_fault old_literals ∙ b.within);
        unrefused = sym (changes_refused_alike schema mutation made.0 alike) ∙ b.unrefused;
        binds = changes_bind_alike schema mutation made.0 old new alike b.binds r.same (sym made.2);
      },
    )
