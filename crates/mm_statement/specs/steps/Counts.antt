-- Parts of the same shape have equally many literals.
use Rattle.std.proofs.Common.{◌≡◌, List, length, refl, ap}
use Rattle.mm_lang.specs.Reading.{operand_literals, test_literals}
use Rattle.mm_query.specs.declared.atom.Operand.{Operand}
use Rattle.mm_query.specs.declared.atom.Operand.TheVariants.{Literal, Column, Shifted}
use Rattle.mm_statement.specs.Filling.{blank_assignment, blank_atom, blank_operand}

-- Parts of the same shape have equally many literals.
abbrev pub IsCounted : {A V : Type 0} → (A → A) → (A → List V) → Type 0
IsCounted {A} blank literals = (a b : A) → blank a ≡ blank b → length (literals a) ≡ length (literals b)

operands_counted : {F : Type 0} (o p : Operand F) → blank_operand o ≡ blank_operand p → length (operand_literals o) ≡ length (operand_literals p)
operands_counted (Literal v) (Literal w) h = refl
operands_counted (Column c) (Column d) h = refl
operands_counted (Shifted c x) (Shifted d y) h = refl
operands_counted _ _ h = absurd (cc)

pub tests_counted : {F : Type 0} → IsCounted (blank_atom {F = F}) test_literals
tests_counted a b h = operands_counted a.right b.right (ap (λ x. x.right) h)

pub assignments_counted : {F : Type 0} → IsCounted (blank_assignment {F = F}) (λ a. operand_literals a.source)
assignments_counted a b h = operands_counted a.source b.source (ap (λ x. x.source) h)
