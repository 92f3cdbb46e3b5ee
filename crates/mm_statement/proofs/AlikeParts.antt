-- Operands, atoms and assignments that differ only in their literals.
use Rattle.std.proofs.Common.{◌≡◌, ℕ, ◌||◌, List, [], ◌∷◌, ◌++◌, Option, length, map, refl, sym, ap, ◌∙◌}
use Rattle.std.specs.List.{flat_map}
use Rattle.std.proofs.lemmas.List.{length-map}
use Rattle.mm_schema.specs.declared.column.Column.{Column as Col}
use Rattle.mm_value.specs.Types.{type_of}
use Rattle.mm_value.specs.declared.col_type.ColType.{ColType}
use Rattle.mm_value.specs.declared.values.Value.{Value}
use Rattle.mm_query.specs.Placing.{differ, mapped_atom, mapped_operand, mismatches, operand_type, placed, placed_assignment, shifts_text}
use Rattle.mm_query.specs.declared.atom.Assignment.{Assignment}
use Rattle.mm_query.specs.declared.atom.Atom.{Atom}
use Rattle.mm_query.specs.declared.atom.Operand.{Operand}
use Rattle.mm_query.specs.declared.atom.Operand.TheVariants.{Literal, Column, Shifted}
use Rattle.mm_statement.specs.Filling.{blank_assignment, blank_atom, blank_operand}
use Rattle.mm_lang.specs.Reading.{operand_literals, test_literals}
use Rattle.mm_statement.proofs.Shapes.{IsCounted, Same}

-- the literals of an assignment, whatever the names of columns are
abbrev pub source_literals : {F : Type 0} → Assignment F → List Value
source_literals a = operand_literals a.source

-- the types of the literals of an operand, an atom and an assignment
abbrev pub operand_types : {F : Type 0} → Operand F → List ColType
operand_types o = map type_of (operand_literals o)

abbrev pub test_types : {F : Type 0} → Atom F → List ColType
test_types a = map type_of (test_literals a)

abbrev pub source_types : {F : Type 0} → Assignment F → List ColType
source_types a = map type_of (source_literals a)

-- ---- operands

pub operand_count : {F : Type 0} (o p : Operand F) → blank_operand o ≡ blank_operand p → length (operand_literals o) ≡ length (operand_literals p)
operand_count (Literal v) (Literal w) h = refl
operand_count (Column c) (Column d) h = refl
operand_count (Shifted c x) (Shifted d y) h = refl
operand_count _ _ h = absurd (cc)

pub equal_operands : {F : Type 0} (o p : Operand F) → blank_operand o ≡ blank_operand p → operand_literals o ≡ operand_literals p → o ≡ p
equal_operands (Literal v) (Literal w) h same = cc
equal_operands (Column c) (Column d) h same = h
equal_operands (Shifted c x) (Shifted d y) h same = cc
equal_operands (Literal v) (Column d) h same = absurd (cc)
equal_operands (Literal v) (Shifted d y) h same = absurd (cc)
equal_operands (Column c) (Literal w) h same = absurd (cc)
equal_operands (Column c) (Shifted d y) h same = absurd (cc)
equal_operands (Shifted c x) (Literal w) h same = absurd (cc)
equal_operands (Shifted c x) (Column d) h same = absurd (cc)

pub same_operand_type : {F : Type 0} (type_at : F → Option ColType) (o p : Operand F) → blank_operand o ≡ blank_operand p
    → operand_types o ≡ operand_types p → operand_type type_at o ≡ operand_type type_at p
same_operand_type type_at (Literal v) (Literal w) h same = cc
same_operand_type type_at (Column c) (Column d) h same = let e : c ≡ d = cc in ap type_at e
same_operand_type type_at (Shifted c x) (Shifted d y) h same = let e : c ≡ d = cc in ap type_at e
same_operand_type type_at _ _ h same = absurd (cc)

-- A shift remains a shift if its number is 0.
pub blank_shifts_text : {F : Type 0} (type_at : F → Option ColType) (o : Operand F) → shifts_text type_at (blank_operand o) ≡ shifts_text type_at o
blank_shifts_text type_at (Literal v) = refl
blank_shifts_text type_at (Column c) = refl
blank_shifts_text type_at (Shifted c x) = refl

pub same_mismatches : {F : Type 0} (type_at : F → Option ColType) (name other : F) (o p : Operand F) → name ≡ other → blank_operand o ≡ blank_operand p
    → operand_types o ≡ operand_types p → mismatches type_at name o ≡ mismatches type_at other p
same_mismatches type_at name other o p names h same =
    let types = same_operand_type type_at o p h same in
    let shifts = sym (blank_shifts_text type_at o) ∙ ap (shifts_text type_at) h ∙ blank_shifts_text type_at p in
    (λ i. differ (type_at (names i)) (types i) || shifts i)

-- ---- atoms and assignments

pub test_count : {F : Type 0} → IsCounted (blank_atom {F = F}) test_literals
test_count a b h = operand_count a.right b.right (ap (λ x. x.right) h)

pub test_types_count : {F : Type 0} → IsCounted (blank_atom {F = F}) test_types
test_types_count a b h = length-map (test_literals a) type_of ∙ test_count a b h ∙ sym (length-map (test_literals b) type_of)

pub source_count : {F : Type 0} → IsCounted (blank_assignment {F = F}) source_literals
source_count a b h = operand_count a.source b.source (ap (λ x. x.source) h)

pub source_types_count : {F : Type 0} → IsCounted (blank_assignment {F = F}) source_types
source_types_count a b h = length-map (source_literals a) type_of ∙ source_count a b h ∙ sym (length-map (source_literals b) type_of)

pub equal_atoms : {F : Type 0} (a b : Atom F) → Same blank_atom test_literals a b → a ≡ b
equal_atoms a b h =
    let right = equal_operands a.right b.right (ap (λ x. x.right) h.shape) h.values in
    λ i. record { left = ap (λ x. x.left) h.shape i; comparison = ap (λ x. x.comparison) h.shape i; right = right i }

pub equal_assignments : {F : Type 0} (a b : Assignment F) → Same blank_assignment source_literals a b → a ≡ b
equal_assignments a b h =
    let source = equal_operands a.source b.source (ap (λ x. x.source) h.shape) h.values in
    λ i. record { column = ap (λ x. x.column) h.shape i; source = source i }

-- ---- positions of names

module _ {F G : Type 0} (place : F → G) where
  mapped_operand_literals : (o : Operand F) → operand_literals (mapped_operand place o) ≡ operand_literals o
  mapped_operand_literals (Literal v) = refl
  mapped_operand_literals (Column c) = refl
  mapped_operand_literals (Shifted c x) = refl

  mapped_operand_shape : (o : Operand F) → mapped_operand place (blank_operand o) ≡ blank_operand (mapped_operand place o)
  mapped_operand_shape (Literal v) = refl
  mapped_operand_shape (Column c) = refl
  mapped_operand_shape (Shifted c x) = refl

  -- Atoms keep their literals, ..
  pub mapped_literals : (atoms : List (Atom F)) → flat_map test_literals (map (mapped_atom place) atoms) ≡ flat_map test_literals atoms
  mapped_literals [] = refl
  mapped_literals (a ∷ atoms) = λ i. mapped_operand_literals a.right i ++ mapped_literals atoms i

  -- .. and their shape.
  pub mapped_shape : (atoms : List (Atom F)) → map (mapped_atom place) (map blank_atom atoms) ≡ map blank_atom (map (mapped_atom place) atoms)
  mapped_shape [] = refl
  mapped_shape (a ∷ atoms) =
      λ i. record { left = place a.left; comparison = a.comparison; right = mapped_operand_shape a.right i } ∷ mapped_shape atoms i

-- Assignments keep both too.
pub assignment_literals_placed : (columns : List Col) (assignments : List (Assignment (List ℕ)))
    → flat_map source_literals (map (placed_assignment columns) assignments) ≡ flat_map source_literals assignments
assignment_literals_placed columns [] = refl
assignment_literals_placed columns (a ∷ assignments) =
    λ i. mapped_operand_literals (placed columns) a.source i ++ assignment_literals_placed columns assignments i

pub assignment_shape_placed : (columns : List Col) (assignments : List (Assignment (List ℕ)))
    → map (placed_assignment columns) (map blank_assignment assignments) ≡ map blank_assignment (map (placed_assignment columns) assignments)
assignment_shape_placed columns [] = refl
assignment_shape_placed columns (a ∷ assignments) =
    λ i. record { column = placed columns a.column; source = mapped_operand_shape (placed columns) a.source i } ∷ assignment_shape_placed columns assignments i
