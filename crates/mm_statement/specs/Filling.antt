-- A command with values in place of its holes.
use Rattle.std.specs.Prelude.{◌≡◌, ◌⊎◌, zero, Bool, true, false, List, ◌∷◌, Some, None, Result, Ok, Err, map}
use Rattle.std.specs.Prelude.{pos, negsuc}
use Rattle.std.proofs.Math.IntN.{neg_ℤ}
use Rattle.mm_value.specs.declared.refusal.Refusal.{Refusal}
use Rattle.mm_value.specs.declared.refusal.Refusal.TheVariants.{Memory, NumberOutOfRange, Syntax}
use Rattle.mm_value.specs.declared.values.Value.{Value}
use Rattle.mm_value.specs.declared.values.Value.TheVariants.{Int}
use Rattle.mm_query.specs.declared.atom.Assignment.{Assignment}
use Rattle.mm_query.specs.declared.atom.Atom.{Atom}
use Rattle.mm_query.specs.declared.atom.Operand.{Operand}
use Rattle.mm_query.specs.declared.atom.Operand.TheVariants.{Literal, Column, Shifted}
use Rattle.mm_query.specs.declared.command.Command.{Command}
use Rattle.mm_query.specs.declared.command.Command.TheVariants.{Define, Change, Select, Explain}
use Rattle.mm_query.specs.declared.command.Definition.{Definition}
use Rattle.mm_query.specs.declared.command.Definition.TheVariants as define
use Rattle.mm_query.specs.declared.command.Mutation.{Mutation}
use Rattle.mm_query.specs.declared.command.Mutation.TheVariants.{Insert, Update, Delete}
use Rattle.mm_query.specs.declared.query.Query.{Query}
use Rattle.mm_lang.specs.Reading.{first_fault, literals_of}

-- ---- values in holes

-- The value that replaces a hole. After a minus the hole reads as -1, and a number is negated.
abbrev pub given : Value → Value → Value
given (Int (negsuc zero)) (Int z) = Int (neg_ℤ z)
given literal value = value

-- Literals in written order, with the values, in order, in place of the literals that are holes.
abbrev pub merged : List Bool → List Value → List Value → List Value
merged (true ∷ holes) (value ∷ values) (literal ∷ literals) = given literal value ∷ merged holes values literals
merged (false ∷ holes) values (literal ∷ literals) = literal ∷ merged holes values literals
merged holes values literals = literals

-- ---- shapes

-- A 0 in place of a literal.
abbrev pub blank_value : Value → Value
blank_value value = Int (pos 0)

-- An operand with a 0 in place of its literal or the number of its shift.
abbrev pub blank_operand : {F : Type 0} → Operand F → Operand F
blank_operand (Literal value) = Literal (blank_value value)
blank_operand (Column column) = Column column
blank_operand (Shifted column by) = Shifted column (pos 0)

-- An atom with a 0 in place of its literal.
abbrev pub blank_atom : {F : Type 0} → Atom F → Atom F
blank_atom atom = record { left = atom.left; comparison = atom.comparison; right = blank_operand atom.right }

-- An assignment with a 0 in place of its literal.
abbrev pub blank_assignment : {F : Type 0} → Assignment F → Assignment F
blank_assignment assignment = record { column = assignment.column; source = blank_operand assignment.source }

-- A query with a 0 in place of each literal, except for the positions of ORDER.
abbrev pub blank_query : Query → Query
blank_query query = record query { atoms = map blank_atom query.atoms }

-- A change of rows with a 0 in place of each literal.
abbrev pub blank_mutation : Mutation → Mutation
blank_mutation (Insert table tuples) = Insert table (map (map blank_value) tuples)
blank_mutation (Update table assignments tests) = Update table (map blank_assignment assignments) (map blank_atom tests)
blank_mutation (Delete table tests) = Delete table (map blank_atom tests)

-- A change of the catalog with a 0 in place of each literal.
abbrev pub blank_definition : Definition → Definition
blank_definition (define.Watch watched) = define.Watch (record { name = watched.name; query = blank_query watched.query })
blank_definition definition = definition

-- A command with a 0 in place of each literal, except for the positions of ORDER.
abbrev pub blank : Command → Command
blank (Define definition) = Define (blank_definition definition)
blank (Change mutation) = Change (blank_mutation mutation)
blank (Select query) = Select (blank_query query)
blank (Explain query) = Explain (blank_query query)
blank command = command

-- ---- fillings

-- Two commands differ only in their literals, and those of the second are those of the first with the values in place of the holes.
pub record Filled (holes : List Bool) (values : List Value) (command filled : Command) : Type 0 where
  pub same : blank filled ≡ blank command
  pub literals : literals_of filled ≡ merged holes values (literals_of command)

-- The result of filling: the filled command if no literal of it is past its limit. Syntax if there is no filled command, for example
-- because a text is given for the number of a shift. NumberOutOfRange if the first literal past its limit is a number.
abbrev pub IsFilling : List Bool → List Value → Command → Result Command Refusal → Type 0
IsFilling holes values command (Ok filled) = Filled holes values command filled × (first_fault (literals_of filled) ≡ None)
IsFilling holes values command (Err Syntax) = (filled : Command) → Filled holes values command filled → ⊥
IsFilling holes values command (Err NumberOutOfRange) =
    (filled : Command) × Filled holes values command filled × (first_fault (literals_of filled) ≡ Some NumberOutOfRange)
IsFilling holes values command (Err refusal) = ⊥

-- The result is that of filling, or Memory.
abbrev pub AnswersFilling : List Bool → List Value → Command → Result Command Refusal → Type 0
AnswersFilling holes values command result = IsFilling holes values command result ⊎ (result ≡ Err Memory)
