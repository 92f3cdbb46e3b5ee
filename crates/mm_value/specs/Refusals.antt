-- The number and the text of each refusal.
use Rattle.std.specs.Prelude.{ℕ, List, codes}
use Rattle.mm_value.specs.declared.refusal.Refusal.{Refusal}
use Rattle.mm_value.specs.declared.refusal.Refusal.TheVariants.{LineTooLong, Syntax, NumberOutOfRange, TextTooLong, NoSuchTable, NoSuchColumn, NoSuchIndex}
use Rattle.mm_value.specs.declared.refusal.Refusal.TheVariants.{NoSuchStandingQuery, NameTaken, AliasTaken, NoSuchAlias, TypeMismatch, WrongNumberOfValues}
use Rattle.mm_value.specs.declared.refusal.Refusal.TheVariants.{ArithmeticOutOfRange, DuplicateKey, NoTargetRow, RowIsReferenced, InUse, TableFull}
use Rattle.mm_value.specs.declared.refusal.Refusal.TheVariants.{ResultTooLarge, StandingListTooLarge, TooMany, TransactionOpen, NoTransaction}
use Rattle.mm_value.specs.declared.refusal.Refusal.TheVariants.{NotInTransaction, NoSuchSavepoint, Memory}

-- The number of a refusal.
abbrev pub refusal_number : Refusal → ℕ
refusal_number LineTooLong = 10
refusal_number Syntax = 11
refusal_number NumberOutOfRange = 12
refusal_number TextTooLong = 13
refusal_number NoSuchTable = 20
refusal_number NoSuchColumn = 21
refusal_number NoSuchIndex = 22
refusal_number NoSuchStandingQuery = 23
refusal_number NameTaken = 24
refusal_number AliasTaken = 25
refusal_number NoSuchAlias = 26
refusal_number TypeMismatch = 30
refusal_number WrongNumberOfValues = 31
refusal_number ArithmeticOutOfRange = 32
refusal_number DuplicateKey = 40
refusal_number NoTargetRow = 41
refusal_number RowIsReferenced = 42
refusal_number InUse = 43
refusal_number TableFull = 45
refusal_number ResultTooLarge = 46
refusal_number StandingListTooLarge = 47
refusal_number TooMany = 48
refusal_number TransactionOpen = 50
refusal_number NoTransaction = 51
refusal_number NotInTransaction = 52
refusal_number NoSuchSavepoint = 53
refusal_number Memory = 90

-- The text of a refusal.
abbrev pub refusal_text : Refusal → List ℕ
refusal_text LineTooLong = codes "line too long"
refusal_text Syntax = codes "syntax"
refusal_text NumberOutOfRange = codes "number out of range"
refusal_text TextTooLong = codes "text too long"
refusal_text NoSuchTable = codes "no such table"
refusal_text NoSuchColumn = codes "no such column"
refusal_text NoSuchIndex = codes "no such index"
refusal_text NoSuchStandingQuery = codes "no such standing query"
refusal_text NameTaken = codes "name taken"
refusal_text AliasTaken = codes "alias taken"
refusal_text NoSuchAlias = codes "no such alias"
refusal_text TypeMismatch = codes "type mismatch"
refusal_text WrongNumberOfValues = codes "wrong number of values"
refusal_text ArithmeticOutOfRange = codes "arithmetic out of range"
refusal_text DuplicateKey = codes "duplicate key"
refusal_text NoTargetRow = codes "no target row"
refusal_text RowIsReferenced = codes "row is referenced"
refusal_text InUse = codes "in use"
refusal_text TableFull = codes "table full"
refusal_text ResultTooLarge = codes "result too large"
refusal_text StandingListTooLarge = codes "standing list too large"
refusal_text TooMany = codes "too many"
refusal_text TransactionOpen = codes "transaction open"
refusal_text NoTransaction = codes "no transaction"
refusal_text NotInTransaction = codes "not in a transaction"
refusal_text NoSuchSavepoint = codes "no such savepoint"
refusal_text Memory = codes "memory"
