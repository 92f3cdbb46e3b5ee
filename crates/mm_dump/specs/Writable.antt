-- Commands that lines can have, and states that can be dumped.
use Rattle.std.specs.Prelude.{All, IfSome, List}
use Rattle.mm_value.specs.Storable.{AreStorable, IsStorable}
use Rattle.mm_value.specs.declared.values.Value.{Value}
use Rattle.mm_schema.specs.Instance.{Instance}
use Rattle.mm_query.specs.State.{AreSavedRows, State}
use Rattle.mm_query.specs.declared.command.Command.{Command}
use Rattle.mm_query.specs.declared.command.Command.TheVariants.{Change, Define}
use Rattle.mm_query.specs.declared.command.Definition.TheVariants as define
use Rattle.mm_lang.specs.Reading.{literals_of}
use Rattle.mm_dump.specs.Dumps.{IsPrintableState, watch_entries}
use Rattle.mm_dump.specs.Entries.{FitsLine, IsPrintable}
use Rattle.mm_dump.specs.Entries as entry

-- The names and values that a command adds to a state can be written: the names of a new table, index or standing query are names, a table
-- has exactly one key, the WATCH of a standing query fits a line, and the literals of a change of rows can be stored.
abbrev pub IsWritable : Command → Type 0
IsWritable (Define (define.Table definition)) = IsPrintable (entry.Table definition)
IsWritable (Define (define.Index index)) = IsPrintable (entry.Index index)
IsWritable (Define (define.Watch watched)) =
    IsPrintable (entry.Watch watched.name watched.query) × FitsLine (entry.Watch watched.name watched.query)
IsWritable (Change mutation) = All IsStorable (literals_of (Change mutation))
IsWritable command = Unit {0}

-- All values of rows can be stored.
abbrev pub AreStorableRows : Instance → Type 0
AreStorableRows rows = All (λ (table_rows : List (List Value)). All AreStorable table_rows) rows

-- All names and values of a state can be written, those of saved rows too, and the WATCH of each standing query fits a line.
pub record IsWritableState (state : State) : Type 0 where
  pub printable : IsPrintableState state
  pub fit : All FitsLine (watch_entries state.schema state.schema.standing state.queries)
  pub saved : IfSome state.saved (AreSavedRows AreStorableRows)
