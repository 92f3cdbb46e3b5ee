-- The results of the steps of filling a command.
use Rattle.std.specs.Prelude.{◌≡◌, ◌⊎◌, ℕ, ℤ, pos, Bool, true, false, List, [], ◌∷◌, ◌++◌, map, Option, Some, None, Result, Ok, Err}
use Rattle.std.specs.List.{flat_map}
use Rattle.std.specs.Option.{option_or, option_map_or, unwrap_or}
use Rattle.std.specs.Vec.Iter.{into_iter_items}
use Rattle.std.specs.declared.alloc.AllocError.{AllocError}
use Rattle.mm_value.specs.Types.{type_of}
use Rattle.mm_value.specs.declared.refusal.Refusal.{Refusal}
use Rattle.mm_value.specs.declared.refusal.Refusal.TheVariants.{Memory, NumberOutOfRange, Syntax}
use Rattle.mm_value.specs.declared.values.Value.{Value}
use Rattle.mm_value.specs.declared.values.Value.TheVariants.{Int, Text}
use Rattle.mm_lang.specs.Reading.{first_fault, literal_fault, position_literals}
use Rattle.mm_statement.specs.Filling.{given, merged}
use Rattle.mm_statement.specs.declared.filler.Filler.{Filler}

-- The remaining literals, with the remaining values in place of their holes.
abbrev pub filled_by : Filler → List Value → List Value
filled_by filler literals = merged filler.holes.now (into_iter_items filler.values) literals

-- The refusal of a number out of range.
abbrev pub range_fault : Bool → Option Refusal
range_fault true = Some NumberOutOfRange
range_fault false = None

-- The fault of the part that was filled so far.
abbrev pub fault_of : Filler → Option Refusal
fault_of filler = range_fault filler.is_out_of_range

-- The value for the next literal was taken, if that is a hole.
abbrev pub Takes : Filler → Filler → Option Value → Type 0
Takes old new taken =
    (literal : Value) (rest : List Value) → filled_by old (literal ∷ rest) ≡ option_map_or (given literal) taken literal ∷ filled_by new rest

-- A value was recorded for `meant`, which may be past its limit: the fault is the earlier one, or else that of `meant`. Without a fault the
-- value is `meant`.
pub record Notes (old new : Filler) (meant value : Value) : Type 0 where
  pub behind : (literals : List Value) → filled_by new literals ≡ filled_by old literals
  pub fault : fault_of new ≡ option_or (fault_of old) (literal_fault meant)
  pub kept : fault_of new ≡ None → value ≡ meant
  pub types : type_of value ≡ type_of meant

-- The next literal was filled with `meant`, which may be past its limit: the fault is the earlier one, or else that of `meant`. Without a
-- fault, `meant` is the returned value, or the literal if none was returned.
pub record Replaces (old new : Filler) (literal : Value) (value : Option Value) : Type 0 where
  pub meant : Value
  pub behind : (rest : List Value) → filled_by old (literal ∷ rest) ≡ meant ∷ filled_by new rest
  pub fault : fault_of new ≡ option_or (fault_of old) (literal_fault meant)
  pub kept : fault_of new ≡ None → unwrap_or value literal ≡ meant
  pub types : type_of (unwrap_or value literal) ≡ type_of meant

-- A part was filled. `meant` differs from the part only in its literals, which are the next ones with values in place of the holes. The
-- fault is the earlier one, or else that of the first of these literals; without a fault the result is `meant`.
pub record Fills {A : Type 0} (blank : A → A) (literals : A → List Value) (old new : Filler) (part filled : A) : Type 0 where
  pub meant : A
  pub same : blank meant ≡ blank part
  pub behind : (rest : List Value) → filled_by old (literals part ++ rest) ≡ literals meant ++ filled_by new rest
  pub fault : fault_of new ≡ option_or (fault_of old) (first_fault (literals meant))
  pub kept : fault_of new ≡ None → filled ≡ meant

-- The first parts of a list were filled, and `left` remain.
pub record Goes {A : Type 0} (blank : A → A) (literals : A → List Value) (old now : Filler) (parts filled left : List A) : Type 0 where
  pub done : List A
  pub split : parts ≡ done ++ left
  pub fills : Fills (map blank) (flat_map literals) old now done filled

-- No value that differs from a part only in its literals has the next literals with values in place of the holes.
abbrev pub IsUnfillable : {A : Type 0} → (A → A) → (A → List Value) → Filler → A → Type 0
IsUnfillable {A} blank literals old part =
    (meant : A) (rest tail : List Value) → blank meant ≡ blank part → filled_by old (literals part ++ rest) ≡ literals meant ++ tail → ⊥

-- A value as its own list of literals.
abbrev pub only_value : Value → List Value
only_value value = value ∷ []

-- The number of a shift as its list of literals.
abbrev pub only_number : ℤ → List Value
only_number number = Int number ∷ []

-- The number of a value, or None for a text.
abbrev pub number_of : Value → Option ℤ
number_of (Int number) = Some number
number_of (Text text) = None

-- 0 in place of a number.
abbrev pub blank_number : ℤ → ℤ
blank_number number = pos 0

-- A part was filled, or it cannot be filled, or an allocation failed.
abbrev pub FillsPart : {A : Type 0} → (A → A) → (A → List Value) → Filler → Filler → A → Result A Refusal → Type 0
FillsPart blank literals old new part (Ok filled) = Fills blank literals old new part filled
FillsPart blank literals old new part (Err refusal) = ((refusal ≡ Syntax) × IsUnfillable blank literals old part) ⊎ (refusal ≡ Memory)

-- A part was filled, or an allocation failed.
abbrev pub FillsWithMemory : {A : Type 0} → (A → A) → (A → List Value) → Filler → Filler → A → Result A AllocError → Type 0
FillsWithMemory blank literals old new part (Ok filled) = Fills blank literals old new part filled
FillsWithMemory blank literals old new part (Err error) = Unit {0}

-- Positions are unchanged, whatever values replace the holes among them.
pub record Keeps (old new : Filler) (positions : List ℕ) : Type 0 where
  pub behind : (rest : List Value) → filled_by old (flat_map position_literals positions ++ rest) ≡ flat_map position_literals positions ++ filled_by new rest
  pub fault : fault_of new ≡ fault_of old

-- The values for the holes among the positions differ from the positions.
abbrev pub IsChanging : Filler → List ℕ → Type 0
IsChanging old positions =
    (rest tail : List Value) → filled_by old (flat_map position_literals positions ++ rest) ≡ flat_map position_literals positions ++ tail → ⊥

-- Positions were kept, or they cannot be kept.
abbrev pub KeepsPositions : Filler → Filler → List ℕ → Bool → Type 0
KeepsPositions old new positions true = Keeps old new positions
KeepsPositions old new positions false = IsChanging old positions
