-- The one order of refusals.
use Rattle.std.specs.Prelude.{List, [], ◌∷◌}
use Rattle.mm_value.specs.declared.refusal.Refusal.{Refusal}
use Rattle.mm_value.specs.declared.refusal.Refusal.TheVariants.{LineTooLong, Syntax, NumberOutOfRange, NoSuchTable, NoSuchColumn, NoSuchIndex}
use Rattle.mm_value.specs.declared.refusal.Refusal.TheVariants.{NoSuchStandingQuery, NameTaken, AliasTaken, NoSuchAlias, TypeMismatch, WrongNumberOfValues}
use Rattle.mm_value.specs.declared.refusal.Refusal.TheVariants.{ArithmeticOutOfRange, DuplicateKey, NoTargetRow, RowIsReferenced, InUse, TableFull}
use Rattle.mm_value.specs.declared.refusal.Refusal.TheVariants.{ResultTooLarge, StandingListTooLarge, TooMany, TransactionOpen, NoTransaction}
use Rattle.mm_value.specs.declared.refusal.Refusal.TheVariants.{NotInTransaction, NoSuchSavepoint, Memory}

-- The one order of refusals (docs/LANGUAGE.md), with failed allocations last. A text past its limit has the place of a number past its own.
abbrev pub one_order : List Refusal
one_order =
    LineTooLong ∷ Syntax ∷ NumberOutOfRange
    ∷ TransactionOpen ∷ NoTransaction ∷ NotInTransaction ∷ NoSuchSavepoint
    ∷ NoSuchTable ∷ NoSuchColumn ∷ NoSuchIndex ∷ NoSuchStandingQuery ∷ NameTaken ∷ AliasTaken ∷ NoSuchAlias
    ∷ TypeMismatch ∷ WrongNumberOfValues ∷ TooMany ∷ ArithmeticOutOfRange
    ∷ DuplicateKey ∷ NoTargetRow ∷ RowIsReferenced ∷ InUse ∷ TableFull ∷ ResultTooLarge ∷ StandingListTooLarge
    ∷ Memory ∷ []
