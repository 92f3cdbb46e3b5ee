-- Which commands are questions about the database. The others change it, or do nothing.
use Rattle.std.specs.Prelude.{Bool, true, false}
use Rattle.mm_query.specs.declared.command.Command.{Command}
use Rattle.mm_query.specs.declared.command.Command.TheVariants.{Explain, Scan, ScanIndex, Select, Show, Tables}

-- The command requests rows, a plan or a listing.
abbrev pub is_question : Command → Bool
is_question (Scan table) = true
is_question (ScanIndex index) = true
is_question (Select query) = true
is_question (Explain query) = true
is_question (Show name) = true
is_question Tables = true
is_question command = false
