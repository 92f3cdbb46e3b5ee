-- The results of the steps of writing new values into a bound command.
use Rattle.std.specs.Prelude.{◌≡◌, ℕ, Bool, List, ◌++◌, None, drop, map, take}
use Rattle.std.specs.List.{flat_map}
use Rattle.mm_value.specs.Types.{type_of}
use Rattle.mm_value.specs.declared.values.Value.{Value}
use Rattle.mm_query.specs.declared.atom.Assignment.{Assignment}
use Rattle.mm_lang.specs.Reading.{first_fault, literal_fault, operand_literals}
use Rattle.mm_statement.specs.Refilling.{left_over, refilled, signed}
use Rattle.mm_statement.specs.declared.refiller.Refiller.{Refiller}

-- The remaining literals, with the remaining values in place of their holes.
abbrev pub refilled_by : Refiller → List Value → List Value
refilled_by refiller literals = refilled refiller.holes.now refiller.minus_ones.now refiller.values.now literals

-- The values that remain after each hole among the remaining literals has received one.
abbrev pub left_by : Refiller → List Value → List Value
left_by refiller literals = left_over refiller.holes.now refiller.values.now literals

-- The next literals have the next values in their holes: the same as Refills for a whole command, but other literals may follow.
pub record Puts (old new : Refiller) (literals filled : List Value) : Type 0 where
  pub types : map type_of filled ≡ map type_of literals
  pub behind : (rest : List Value) → refilled_by old (literals ++ rest) ≡ filled ++ refilled_by new rest
  pub used : (rest : List Value) → left_by old (literals ++ rest) ≡ left_by new rest
  pub within : first_fault literals ≡ None → first_fault filled ≡ None

-- The literals of an assignment, whatever the names of columns are.
abbrev pub source_literals : {F : Type 0} → Assignment F → List Value
source_literals assignment = operand_literals assignment.source

-- A part has the next values in its holes, and is otherwise unchanged.
pub record RefillsPart {A : Type 0} (blank : A → A) (literals : A → List Value) (old new : Refiller) (part filled : A) : Type 0 where
  pub same : blank filled ≡ blank part
  pub puts : Puts old new (literals part) (literals filled)

-- The parts before a position have their values, and the others are unchanged.
pub record RefillsUpTo {A : Type 0} (blank : A → A) (literals : A → List Value) (old now : Refiller) (first parts : List A) (place : ℕ) : Type 0 where
  pub refills : RefillsPart (map blank) (flat_map literals) old now (take place first) (take place parts)
  pub left : drop place parts ≡ drop place first

-- The value for the hole of a literal: it has the literal's type, and is within its limits.
pub record Suits (is_minus_one : Bool) (value literal filled : Value) : Type 0 where
  pub is : filled ≡ signed is_minus_one value
  pub types : type_of filled ≡ type_of literal
  pub within : literal_fault filled ≡ None
