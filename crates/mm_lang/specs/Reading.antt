-- The reading of a line.
use Rattle.std.specs.Prelude.{◌≡◌, ◌⊎◌, ℕ, ◌==◌, Bool, true, false, ◌||◌, ◌&&◌, if◌then◌else◌, List, [], ◌∷◌, ◌++◌, Option, Some, None, Result, Ok, Err}
use Rattle.std.specs.Prelude.{length, nat_lt, pos, IsTrue}
use Rattle.std.specs.List.{cons_option, list_all, flat_map}
use Rattle.std.specs.Option.{option_or}
use Rattle.mm_value.specs.Literal.{is_within_limit}
use Rattle.mm_value.specs.declared.refusal.Refusal.{Refusal}
use Rattle.mm_value.specs.declared.refusal.Refusal.TheVariants.{LineTooLong, Syntax, NumberOutOfRange, TextTooLong, Memory}
use Rattle.mm_value.specs.declared.values.Value.{Value}
use Rattle.mm_value.specs.declared.values.Value.TheVariants.{Int, Text}
use Rattle.mm_query.specs.declared.atom.Assignment.{Assignment}
use Rattle.mm_query.specs.declared.atom.Atom.{Atom}
use Rattle.mm_query.specs.declared.atom.Operand.{Operand}
use Rattle.mm_query.specs.declared.atom.Operand.TheVariants.{Literal, Column, Shifted}
use Rattle.mm_query.specs.declared.command.Command.{Command}
use Rattle.mm_query.specs.declared.command.Command.TheVariants.{Nothing, Define, Change, Scan, ScanIndex, Select, Explain, Show, Tables, Begin, Commit}
use Rattle.mm_query.specs.declared.command.Command.TheVariants.{Rollback, Savepoint, RollbackTo}
use Rattle.mm_query.specs.declared.command.Definition.{Definition}
use Rattle.mm_query.specs.declared.command.Definition.TheVariants as define
use Rattle.mm_query.specs.declared.command.Mutation.TheVariants.{Insert, Update, Delete}
use Rattle.mm_query.specs.declared.query.Query.{Query}
use Rattle.mm_lang.specs.Grammar.{command_of, literal_of, unit_shift}
use Rattle.mm_lang.specs.Tokens.{Token, Word, Signed, Mark, Hole, has_hole, tokens, is_blank}
use Rattle.mm_lang.specs.declared.read.token.Symbol.TheVariants.{Plus, Minus}

-- the refusal of a value past its limit
abbrev pub past_limit : Value → Refusal
past_limit (Int z) = NumberOutOfRange
past_limit (Text text) = TextTooLong

abbrev pub literal_fault : Value → Option Refusal
literal_fault v = if is_within_limit v then None else Some (past_limit v)

-- the refusal of the first value past its limit, if there is one
abbrev pub first_fault : List Value → Option Refusal
first_fault [] = None
first_fault (v ∷ vs) = option_or (literal_fault v) (first_fault vs)

-- the literals of an operand: the value, or the number of a shift
abbrev pub operand_literals : {F : Type 0} → Operand F → List Value
operand_literals (Literal v) = v ∷ []
operand_literals (Column column) = []
operand_literals (Shifted column by) = Int by ∷ []

-- the literals of a test
abbrev pub test_literals : {F : Type 0} → Atom F → List Value
test_literals test = operand_literals test.right

-- the literals of an assignment
abbrev pub assignment_literals : Assignment (List ℕ) → List Value
assignment_literals assignment = operand_literals assignment.source

-- the literal of a position of ORDER: its number
abbrev pub position_literals : ℕ → List Value
position_literals position = Int (pos position) ∷ []

-- the literals of a query, from left to right
abbrev pub query_literals : Query → List Value
query_literals query = flat_map test_literals query.atoms ++ flat_map position_literals query.order

-- The literals among tokens, from left to right. A minus before a word belongs to the literal, and so does a sign before a hole.
abbrev pub literals_among : List Token → List Value
literals_among [] = []
literals_among (Mark Minus ∷ Word word ∷ ts) = cons_option (literal_of (Signed word)) (literals_among ts)
literals_among (Mark Plus ∷ Hole ∷ ts) = Int (unit_shift false) ∷ literals_among ts
literals_among (Mark Minus ∷ Hole ∷ ts) = Int (unit_shift true) ∷ literals_among ts
literals_among (t ∷ ts) = cons_option (literal_of t) (literals_among ts)

-- the literals of a change of the catalog, from left to right
abbrev pub definition_literals : Definition → List Value
definition_literals (define.Table definition) = []
definition_literals (define.DropTable name) = []
definition_literals (define.Index index) = []
definition_literals (define.DropIndex name) = []
definition_literals (define.Watch watched) = query_literals watched.query
definition_literals (define.Unwatch name) = []

-- the literals of a command, from left to right
abbrev pub literals_of : Command → List Value
literals_of Nothing = []
literals_of (Define definition) = definition_literals definition
literals_of (Change (Insert table tuples)) = flat_map (λ tuple. tuple) tuples
literals_of (Change (Update table assignments tests)) = flat_map assignment_literals assignments ++ flat_map test_literals tests
literals_of (Change (Delete table tests)) = flat_map test_literals tests
literals_of (Scan table) = []
literals_of (ScanIndex index) = []
literals_of (Select query) = query_literals query
literals_of (Explain query) = query_literals query
literals_of (Show name) = []
literals_of Tables = []
literals_of Begin = []
literals_of Commit = []
literals_of Rollback = []
literals_of (Savepoint name) = []
literals_of (RollbackTo name) = []

-- a value, unless there is a refusal
abbrev pub unless : {A : Type 0} → A → Option Refusal → Result A Refusal
unless x None = Ok x
unless x (Some refusal) = Err refusal

-- Syntax if nothing was read, and otherwise the value that was read or its fault.
abbrev pub checked : {A : Type 0} → (A → Option Refusal) → Option A → Result A Refusal
checked fault None = Err Syntax
checked fault (Some x) = unless x (fault x)

-- a command, unless one of its literals is past its limit
abbrev pub read_as : Option Command → Result Command Refusal
read_as command = checked (λ c. first_fault (literals_of c)) command

-- The command that tokens read as, if none of them is a hole.
abbrev pub plain_command : List Token → Option Command
plain_command ts = if has_hole ts then None else command_of ts

-- two minus signs
abbrev pub is_comment : List ℕ → Bool
is_comment [] = false
is_comment (a ∷ []) = false
is_comment (a ∷ b ∷ bs) = (a == 45) && (b == 45)

-- an empty line or a comment
abbrev pub is_nothing : List ℕ → Bool
is_nothing line = list_all is_blank line || is_comment line

-- The reading of a line without its line feed and carriage return. A line with a hole is a syntax error.
unfoldable pub reading : List ℕ → Result Command Refusal
reading line =
    if nat_lt 4096 (length line) then Err LineTooLong
    else (if is_nothing line then Ok Nothing else read_as (plain_command (tokens line)))

-- The command may fail with Memory: it is not Nothing, begins or ends no transaction, and does not roll back to a savepoint.
abbrev pub command_takes_memory : Command → Bool
command_takes_memory Nothing = false
command_takes_memory (Define definition) = true
command_takes_memory (Change mutation) = true
command_takes_memory (Scan table) = true
command_takes_memory (ScanIndex index) = true
command_takes_memory (Select query) = true
command_takes_memory (Explain query) = true
command_takes_memory (Show name) = true
command_takes_memory Tables = true
command_takes_memory Begin = false
command_takes_memory Commit = false
command_takes_memory Rollback = false
command_takes_memory (Savepoint name) = true
command_takes_memory (RollbackTo name) = false

-- The reading may fail with Memory: its command may, or it is a refusal other than LineTooLong.
abbrev pub reading_takes_memory : Result Command Refusal → Bool
reading_takes_memory (Ok command) = command_takes_memory command
reading_takes_memory (Err LineTooLong) = false
reading_takes_memory (Err refusal) = true

-- The line may fail with Memory.
abbrev pub takes_memory : List ℕ → Bool
takes_memory line = reading_takes_memory (reading line)

-- The result is the reading of the line, or Memory if the line may fail so.
abbrev pub Reads : List ℕ → Result Command Refusal → Type 0
Reads line (Ok command) = reading line ≡ Ok command
Reads line (Err refusal) = (reading line ≡ Err refusal) ⊎ ((refusal ≡ Memory) × IsTrue (takes_memory line))
