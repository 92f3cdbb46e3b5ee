-- The reading of a line with holes.
use Rattle.std.specs.Prelude.{◌≡◌, ◌⊎◌, ℕ, Bool, true, false, not, ◌&&◌, if◌then◌else◌, List, [], ◌∷◌, Option, Some, None, Result, Ok, Err, length, nat_lt}
use Rattle.std.specs.List.{cons_option}
use Rattle.std.specs.Option.{option_map, option_and_then}
use Rattle.mm_value.specs.declared.refusal.Refusal.{Refusal}
use Rattle.mm_value.specs.declared.refusal.Refusal.TheVariants.{LineTooLong, Memory}
use Rattle.mm_query.specs.declared.command.Command.{Command}
use Rattle.mm_query.specs.declared.command.Command.TheVariants.{Nothing, Define}
use Rattle.mm_lang.specs.Grammar.{command_of, literal_of}
use Rattle.mm_lang.specs.Reading.{is_nothing, read_as}
use Rattle.mm_lang.specs.Tokens.{Token, Hole, has_hole, tokens}
use Rattle.mm_lang.specs.declared.read.template.Template.{Template}

-- The command may have holes: it does not change the catalog.
abbrev pub may_have_holes : Command → Bool
may_have_holes (Define definition) = false
may_have_holes command = true

-- The command that tokens read as, unless there is a hole and the command may have none.
abbrev pub template_command : List Token → Option Command
template_command ts = option_and_then (λ command. if has_hole ts && not (may_have_holes command) then None else Some command) (command_of ts)

-- The reading of a line with holes, without its line feed and carriage return: a command with a number in place of each hole.
unfoldable pub template_of : List ℕ → Result Command Refusal
template_of line =
    if nat_lt 4096 (length line) then Err LineTooLong
    else (if is_nothing line then Ok Nothing else read_as (template_command (tokens line)))

-- Whether a token is a hole, or None if it is not a literal.
abbrev pub hole_flag : Token → Option Bool
hole_flag Hole = Some true
hole_flag token = option_map (λ literal. false) (literal_of token)

-- Whether each literal among tokens is a hole, from left to right.
abbrev pub holes_among : List Token → List Bool
holes_among [] = []
holes_among (t ∷ ts) = cons_option (hole_flag t) (holes_among ts)

-- Whether each literal of a line is a hole, from left to right. An empty line and a comment have no literals.
abbrev pub holes_of : List ℕ → List Bool
holes_of line = if is_nothing line then [] else holes_among (tokens line)

-- The result is the reading of a line with holes and its holes, or Memory.
abbrev pub Prepares : List ℕ → Result Template Refusal → Type 0
Prepares line (Ok template) = (template_of line ≡ Ok template.command) × (template.holes.items ≡ holes_of line)
Prepares line (Err refusal) = (template_of line ≡ Err refusal) ⊎ (refusal ≡ Memory)
