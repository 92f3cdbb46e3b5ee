-- Commands that control transactions, and the state that they preserve.
use Rattle.std.specs.Prelude.{◌≡◌, ℕ, Bool, true, false, not, List, map}
use Rattle.mm_schema.specs.Name.{same_name}
use Rattle.mm_schema.specs.Schema.{Schema}
use Rattle.mm_schema.specs.declared.table.Table.{Table}
use Rattle.mm_query.specs.Machine.{is_of_index}
use Rattle.mm_query.specs.declared.command.Command.{Command}
use Rattle.mm_query.specs.declared.command.Command.TheVariants.{Define, Begin, Commit, Rollback, Savepoint, RollbackTo}

-- The command is BEGIN, COMMIT or ROLLBACK.
abbrev pub is_transaction_control : Command → Bool
is_transaction_control Begin = true
is_transaction_control Commit = true
is_transaction_control Rollback = true
is_transaction_control _ = false

-- The command is BEGIN, COMMIT, ROLLBACK or ROLLBACK TO, which allocate nothing.
abbrev pub is_done_without_memory : Command → Bool
is_done_without_memory (RollbackTo name) = true
is_done_without_memory command = is_transaction_control command

-- The command does the same inside and outside a transaction: it controls no transaction, and changes nothing in the catalog but indexes.
abbrev pub is_done_alike : Command → Bool
is_done_alike (Define definition) = is_of_index definition
is_done_alike (Savepoint name) = false
is_done_alike (RollbackTo name) = false
is_done_alike command = not (is_transaction_control command)

-- The command begins and ends no transaction, rolls back to no savepoint, and sets no savepoint with this name.
abbrev pub leaves_savepoint : List ℕ → Command → Bool
leaves_savepoint name (Savepoint other) = not (same_name name other)
leaves_savepoint name (RollbackTo other) = false
leaves_savepoint name command = not (is_transaction_control command)

-- Two catalogs have the same tables and standing queries. Their indexes may differ.
pub record AreAlike (one : Schema) (other : Schema) : Type 0 where
  pub tables : map (λ (table : Table). table.definition) one.tables ≡ map (λ (table : Table). table.definition) other.tables
  pub standing : one.standing ≡ other.standing
