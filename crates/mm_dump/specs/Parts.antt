-- The model of the values of the program that are parts of a dump.
use Rattle.mm_dump.specs.Places.{Part, Created, Filled, Indexed, Watched}
use Rattle.mm_dump.specs.declared.parts.Line.{Line}
use Rattle.mm_dump.specs.declared.parts.Line.TheVariants.{Table, Index, Watch}
use Rattle.mm_dump.specs.declared.parts.Part.{Part as PartAt}
use Rattle.mm_dump.specs.declared.parts.Part.TheVariants as at

-- The part that is one line.
abbrev pub line_of : Line → Part
line_of (Table table) = Created table.now
line_of (Index index) = Indexed index.now
line_of (Watch standing) = Watched standing.now

-- The part.
abbrev pub part_of : PartAt → Part
part_of (at.Line line) = line_of line
part_of (at.Rows table) = Filled table.now
