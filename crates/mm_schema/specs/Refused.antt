-- The order of refusals.
use Rattle.std.specs.Prelude.{◌≡◌, ◌⊎◌, ℕ, Bool, true, ◌&&◌, if◌then◌else◌, List, [], ◌∷◌, Option, Some, None, Result, Ok, Err, nat_lt}
use Rattle.mm_value.specs.declared.refusal.Refusal.{Refusal}
use Rattle.mm_value.specs.declared.refusal.Refusal.TheVariants.{LineTooLong, Syntax, NumberOutOfRange, TextTooLong, NoSuchTable, NoSuchColumn, NoSuchIndex}
use Rattle.mm_value.specs.declared.refusal.Refusal.TheVariants.{NoSuchStandingQuery, NameTaken, AliasTaken, NoSuchAlias, TypeMismatch, WrongNumberOfValues}
use Rattle.mm_value.specs.declared.refusal.Refusal.TheVariants.{ArithmeticOutOfRange, DuplicateKey, NoTargetRow, RowIsReferenced, InUse, TableFull}
use Rattle.mm_value.specs.declared.refusal.Refusal.TheVariants.{ResultTooLarge, StandingListTooLarge, TooMany, TransactionOpen, NoTransaction}
use Rattle.mm_value.specs.declared.refusal.Refusal.TheVariants.{NotInTransaction, NoSuchSavepoint, Memory}

-- A refusal, and whether its condition holds.
pub record Condition : Type 0 where
  pub holds : Bool
  pub refusal : Refusal

-- The first refusal whose condition holds.
abbrev pub first_refusal : List Condition → Option Refusal
first_refusal [] = None
first_refusal (c ∷ cs) = if c.holds then Some c.refusal else first_refusal cs

-- The call succeeds only if no refusal is due. Otherwise it fails with the refusal that is due, or with Memory.
abbrev pub AnswersDue : {T : Type 0} → Option Refusal → Result T Refusal → Type 0
AnswersDue due (Ok value) = due ≡ None
AnswersDue due (Err refusal) = (due ≡ Some refusal) ⊎ (refusal ≡ Memory)

-- The order of refusals: of two whose conditions hold, the one of lower rank is the result. Numbers and texts past their limits have one
-- rank: the first of them in the line is the result. Memory may replace any result.
abbrev pub rank : Refusal → ℕ
rank LineTooLong = 1
rank Syntax = 2
rank NumberOutOfRange = 3
rank TextTooLong = 3
rank TransactionOpen = 4
rank NoTransaction = 5
rank NotInTransaction = 6
rank NoSuchSavepoint = 7
rank NoSuchTable = 8
rank NoSuchColumn = 9
rank NoSuchIndex = 10
rank NoSuchStandingQuery = 11
rank NameTaken = 12
rank AliasTaken = 13
rank NoSuchAlias = 14
rank TypeMismatch = 15
rank WrongNumberOfValues = 16
rank TooMany = 17
rank ArithmeticOutOfRange = 18
rank DuplicateKey = 19
rank NoTargetRow = 20
rank RowIsReferenced = 21
rank InUse = 22
rank TableFull = 23
rank ResultTooLarge = 24
rank StandingListTooLarge = 25
rank Memory = 26

-- Each condition's refusal has a lower rank than those after it.
abbrev pub ascend : List Condition → Bool
ascend [] = true
ascend (c ∷ []) = true
ascend (c ∷ d ∷ cs) = nat_lt (rank c.refusal) (rank d.refusal) && ascend (d ∷ cs)
