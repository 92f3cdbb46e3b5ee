-- Places in a dump, and the rest of the dump from a place on.
use Rattle.std.specs.Prelude.{◌≡◌, ℕ, List, [], ◌∷◌, ◌++◌, drop, map}
use Rattle.std.specs.List.{flat_map}
use Rattle.mm_schema.specs.Indexes.{indexes_of}
use Rattle.mm_schema.specs.Schema.{Schema}
use Rattle.mm_schema.specs.declared.index.IndexDef.{IndexDef}
use Rattle.mm_schema.specs.declared.standing.StandingDef.{StandingDef}
use Rattle.mm_schema.specs.declared.table.Table.{Table}
use Rattle.mm_query.specs.State.{State, rows_in}
use Rattle.mm_lang.specs.ReplyText.{index_line, table_listed}
use Rattle.mm_dump.specs.DumpText.{watch_script}
use Rattle.mm_dump.specs.Inserts.{put_texts}
use Rattle.mm_dump.specs.declared.place.DumpPlace.{DumpPlace}

-- A part of a dump: the line that creates a table, the lines with the rows of a table, or the line that creates an index or a standing
-- query.
pub data Part : Type 0 where
  Created : (table : Table) → Part
  Filled : (table : Table) → Part
  Indexed : (index : IndexDef) → Part
  Watched : (standing : StandingDef) → Part

-- The parts of the dump of a catalog, in order.
abbrev pub parts_of : Schema → List Part
parts_of schema =
    map Created schema.tables ++ (map Filled schema.tables ++ (map Indexed (indexes_of schema.tables) ++ map Watched schema.standing))

-- The text of a part; of rows, the lines from the row with the given number on.
abbrev pub part_text : State → ℕ → Part → List ℕ
part_text state row (Created table) = table_listed table.definition ++ 10 ∷ []
part_text state row (Filled table) = put_texts table.definition.name (drop row (rows_in state table.definition.name))
part_text state row (Indexed index) = index_line index
part_text state row (Watched standing) = watch_script state standing

-- The text of parts, one after another; of the first one, the lines from the row with the given number on.
abbrev pub parts_text : State → ℕ → List Part → List ℕ
parts_text state row [] = []
parts_text state row (part ∷ parts) = part_text state row part ++ flat_map (part_text state 0) parts

-- The rest of the dump of a state from a place on.
abbrev pub dump_rest : State → DumpPlace → List ℕ
dump_rest state place = parts_text state place.row (drop place.part (parts_of state.schema))

-- The start of a dump.
abbrev pub dump_start : DumpPlace
dump_start = record { part = 0; row = 0 }

-- The piece leads from a place to another.
abbrev pub IsPiece : State → List ℕ → DumpPlace → DumpPlace → Type 0
IsPiece state piece from to = dump_rest state from ≡ piece ++ dump_rest state to

-- Pieces, one after another, lead from a place to another.
abbrev pub ArePieces : State → List (List ℕ) → DumpPlace → DumpPlace → Type 0
ArePieces state [] from to = from ≡ to
ArePieces state (piece ∷ pieces) from to = (between : DumpPlace) × IsPiece state piece from between × ArePieces state pieces between to
