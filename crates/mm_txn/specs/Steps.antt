-- Calls of a database as steps of the machine of row lists.
use Rattle.std.specs.Prelude.{◌≡◌, ◌⊎◌, false}
use Rattle.mm_value.specs.declared.refusal.Refusal.TheVariants.{Memory}
use Rattle.mm_query.specs.Machine.{Outcome, refused_outcome, step}
use Rattle.mm_query.specs.State.{State}
use Rattle.mm_query.specs.Transactions.{is_done_without_memory}
use Rattle.mm_query.specs.declared.command.Command.{Command}

-- The outcome is the command's step, or the refusal `Memory` if the command may allocate.
abbrev pub IsStep : Command → State → Outcome → Type 0
IsStep command state outcome =
    (outcome ≡ step command state) ⊎ ((outcome ≡ refused_outcome Memory state) × (is_done_without_memory command ≡ false))
