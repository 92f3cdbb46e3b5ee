-- The reading of a line with holes, by cases.
use Rattle.std.proofs.Common.{◌≡◌, ◌≢◌, ◌<◌, ◌≤◌, inl, inr, ℕ, Bool, true, false, not, ◌&&◌, cond, ltb, List, [], ◌∷◌, Option, Some, None, Ok, Err, length}
use Rattle.std.proofs.Common.{refl, sym, ap, ◌∙◌, arith}
use Rattle.std.specs.List.{cons_option}
use Rattle.std.specs.Option.{option_map, option_and_then}
use Rattle.std.proofs.lemmas.Bool.{cond-true, cond-false, lt-ltb, le-ltb}
use Rattle.std.proofs.lemmas.Option.{none-some}
use Rattle.mm_value.specs.Literal.{is_numeral}
use Rattle.mm_value.specs.declared.refusal.Refusal.{Refusal}
use Rattle.mm_value.specs.declared.refusal.Refusal.TheVariants.{LineTooLong, Syntax}
use Rattle.mm_value.specs.declared.values.Value.{Value}
use Rattle.mm_query.specs.declared.command.Command.{Command}
use Rattle.mm_query.specs.declared.command.Command.TheVariants as command
use Rattle.mm_query.specs.declared.command.Definition.{Definition}
use Rattle.mm_query.specs.declared.command.Definition.TheVariants as define
use Rattle.mm_query.specs.declared.command.Mutation.TheVariants as change
use Rattle.mm_lang.specs.declared.read.token.Symbol.TheVariants.{Plus, Minus}
use Rattle.mm_lang.specs.Grammar.{command_of, literal_of}
use Rattle.mm_lang.specs.Reading.{first_fault, is_nothing, literals_among, literals_of, plain_command, read_as, reading, unless}
use Rattle.mm_lang.specs.Spelling.{SpellsCommand}
use Rattle.mm_lang.specs.Templates.{Prepares, hole_flag, holes_among, holes_of, may_have_holes, template_command, template_of}
use Rattle.mm_lang.specs.Tokens.{Token, Word, Signed, Quoted, Mark, Hole, Unreadable, has_hole, tokens}
use Rattle.mm_lang.specs.steps.Parsing.{AnswersReading, begins_definition}
use Rattle.mm_lang.proofs.LiteralOrder.{read_literals}
use Rattle.mm_lang.proofs.SpelledCommands.{command_read}

pub template_long : (line : List ℕ) → 4096 < length line → template_of line ≡ Err LineTooLong
unfolding template_of
template_long line long = cond-true (ltb 4096 (length line)) _ _ (lt-ltb 4096 (length line) long)

pub template_nothing : (line : List ℕ) → length line ≤ 4096 → is_nothing line ≡ true → template_of line ≡ Ok command.Nothing
unfolding template_of
template_nothing line short nothing = cond-false (ltb 4096 (length line)) _ _ (le-ltb 4096 (length line) short) ∙ cond-true (is_nothing line) _ _ nothing

template_tokens : (line : List ℕ) → length line ≤ 4096 → is_nothing line ≡ false → template_of line ≡ read_as (template_command (tokens line))
unfolding template_of
template_tokens line short some = cond-false (ltb 4096 (length line)) _ _ (le-ltb 4096 (length line) short) ∙ cond-false (is_nothing line) _ _ some

pub no_holes : (line : List ℕ) → is_nothing line ≡ true → [] ≡ holes_of line
no_holes line nothing = sym (cond-true (is_nothing line) _ _ nothing)

pub some_holes : (line : List ℕ) → is_nothing line ≡ false → holes_among (tokens line) ≡ holes_of line
some_holes line some = sym (cond-false (is_nothing line) _ _ some)

-- A change of the catalog begins with its keyword, and no other command does.
definition_begins : (ts : List Token) (c : Command) → command_of ts ≡ Some c → begins_definition ts ≡ not (may_have_holes c)
definition_begins ts c e = by c (command_read ts c e)
  where
    by : (c : Command) → SpellsCommand ts c → begins_definition ts ≡ not (may_have_holes c)
    by command.Nothing h = absurd h
    by (command.Define (define.Table definition)) h = ap begins_definition h.4
    by (command.Define (define.DropTable n)) h = ap begins_definition h.1
    by (command.Define (define.Index i)) h = ap begins_definition h.3
    by (command.Define (define.DropIndex n)) h = ap begins_definition h.1
    by (command.Define (define.Watch watched)) h = ap begins_definition h.3
    by (command.Define (define.Unwatch n)) h = ap begins_definition h.1
    by (command.Change (change.Insert table tuples)) h = ap begins_definition h.3
    by (command.Change (change.Update table set asked)) h = ap begins_definition h.5
    by (command.Change (change.Delete table asked)) h = ap begins_definition h.3
    by (command.Scan table) h = ap begins_definition h.1
    by (command.ScanIndex i) h = ap begins_definition h.1
    by (command.Select q) h = ap begins_definition h.2
    by (command.Explain q) h = ap begins_definition h.2
    by (command.Show n) h = ap begins_definition h.1
    by command.Tables h = ap begins_definition h
    by command.Begin h = ap begins_definition h
    by command.Commit h = ap begins_definition h
    by command.Rollback h = ap begins_definition h
    by (command.Savepoint n) h = ap begins_definition h.1
    by (command.RollbackTo n) h = ap begins_definition h.1

-- the command that was read, unless it has a hole and may not
unless_holed : List Token → Option Command → Option Command
unless_holed ts read = option_and_then (λ c. cond (has_hole ts && not (may_have_holes c)) None (Some c)) read

-- Without a hole in a change of the catalog, the tokens read as their command, ..
holes_stand : (ts : List Token) → (has_hole ts && begins_definition ts) ≡ false → template_command ts ≡ command_of ts
unfolding unless_holed
holes_stand ts stand = by (command_of ts) refl
  where
    by : (o : Option Command) → command_of ts ≡ o → unless_holed ts o ≡ o
    by None is = refl
    by (Some c) is = cond-false (has_hole ts && not (may_have_holes c)) _ _ (ap (λ b. has_hole ts && b) (sym (definition_begins ts c is)) ∙ stand)

-- .. and otherwise as none.
holes_refused : (ts : List Token) → (has_hole ts && begins_definition ts) ≡ true → template_command ts ≡ None
unfolding unless_holed
holes_refused ts refused = by (command_of ts) refl
  where
    by : (o : Option Command) → command_of ts ≡ o → unless_holed ts o ≡ None
    by None is = refl
    by (Some c) is = cond-true (has_hole ts && not (may_have_holes c)) _ _ (ap (λ b. has_hole ts && b) (sym (definition_begins ts c is)) ∙ refused)

module _ (line : List ℕ) (short : length line ≤ 4096) (some : is_nothing line ≡ false) where
  pub template_holed : (has_hole (tokens line) && begins_definition (tokens line)) ≡ true → Prepares line (Err Syntax)
  template_holed refused = inl (template_tokens line short some ∙ ap read_as (holes_refused (tokens line) refused))

  module _ (stand : (has_hole (tokens line) && begins_definition (tokens line)) ≡ false) where
    pub template_read : template_of line ≡ read_as (command_of (tokens line))
    template_read = template_tokens line short some ∙ ap read_as (holes_stand (tokens line) stand)

    pub template_refused : (e : Refusal) → AnswersReading (read_as (command_of (tokens line))) (Err e) → Prepares line (Err e)
    template_refused e (inl h) = inl (template_read ∙ h)
    template_refused e (inr h) = inr h.0

-- ---- definitions

pub read_some : (o : Option Command) (c : Command) → read_as o ≡ Ok c → o ≡ Some c
read_some None c e = absurd (cc)
read_some (Some d) c e = by (first_fault (literals_of d)) e
  where
    by : (fault : Option Refusal) → unless d fault ≡ Ok c → ◌≡◌ {A = Option Command} (Some d) (Some c)
    by None e = cc
    by (Some refusal) e = absurd (cc)

-- A change of the catalog was read, so no token is a hole.
kept_definition : (holed : Bool) (c : Command) (d : Definition) → cond (holed && not (may_have_holes c)) None (Some c) ≡ Some (command.Define d)
    → holed ≡ false
kept_definition false c d e = refl
kept_definition true (command.Define other) d e = absurd (none-some (command.Define d) e)
kept_definition true c d e = absurd (cc)

definition_unholed : (ts : List Token) (d : Definition) → template_command ts ≡ Some (command.Define d) → has_hole ts ≡ false
unfolding unless_holed
definition_unholed ts d e = by (command_of ts) e
  where
    by : (o : Option Command) → unless_holed ts o ≡ Some (command.Define d) → has_hole ts ≡ false
    by None e = absurd (none-some (command.Define d) e)
    by (Some c) e = kept_definition (has_hole ts) c d e

unholed_line : (is_long nothing : Bool) (ts : List Token) (d : Definition)
    → cond is_long (Err LineTooLong) (cond nothing (Ok command.Nothing) (read_as (template_command ts))) ≡ Ok (command.Define d)
    → has_hole ts ≡ false
unholed_line true nothing ts d e = absurd (cc)
unholed_line false true ts d e = absurd (cc)
unholed_line false false ts d e = definition_unholed ts d (read_some (template_command ts) (command.Define d) e)

pub definitions_unholed : (line : List ℕ) (d : Definition) → template_of line ≡ Ok (command.Define d) → has_hole (tokens line) ≡ false
unfolding template_of
definitions_unholed line d e = unholed_line (ltb 4096 (length line)) (is_nothing line) (tokens line) d e

-- Any other command was read, with or without holes.
kept_other : (holed : Bool) (c : Command) → ((d : Definition) → c ≢ command.Define d) → cond (holed && not (may_have_holes c)) None (Some c) ≡ Some c
kept_other false c other = refl
kept_other true (command.Define d) other = absurd (other d refl)
kept_other true c other = refl

pub others_read : (line : List ℕ) (c : Command) → length line ≤ 4096 → is_nothing line ≡ false → command_of (tokens line) ≡ Some c
    → ((d : Definition) → c ≢ command.Define d) → template_of line ≡ read_as (Some c)
unfolding unless_holed
others_read line c short some read other =
    template_tokens line short some ∙ ap read_as (ap (unless_holed (tokens line)) read ∙ kept_other (has_hole (tokens line)) c other)

-- ---- without holes

plain : (ts : List Token) → has_hole ts ≡ false → template_command ts ≡ plain_command ts
plain ts free =
    holes_stand ts (ap (λ b. b && begins_definition ts) free) ∙ sym (cond-false (has_hole ts) _ _ free)

pub plain_template : (line : List ℕ) → has_hole (tokens line) ≡ false → template_of line ≡ reading line
unfolding template_of reading
plain_template line free =
    ap (λ c. cond (ltb 4096 (length line)) (Err LineTooLong) (cond (is_nothing line) (Ok command.Nothing) (read_as c))) (plain (tokens line) free)

-- ---- one flag for each literal

flag_of_number : (is_number : Bool) (v w : Value) (flags : List Bool) (literals : List Value) → length flags ≡ length literals
    → length (cons_option (option_map (λ (x : Value). false) (cond is_number (Some v) None)) flags)
    ≡ length (cons_option (cond is_number (Some w) None) literals)
flag_of_number true v w flags literals h = omega (arith, h)
flag_of_number false v w flags literals h = h

flag_of_token : (t : Token) (flags : List Bool) (literals : List Value) → length flags ≡ length literals
    → length (cons_option (hole_flag t) flags) ≡ length (cons_option (literal_of t) literals)
flag_of_token (Word w) flags literals h = flag_of_number (is_numeral w) _ _ flags literals h
flag_of_token (Signed w) flags literals h = flag_of_number (is_numeral w) _ _ flags literals h
flag_of_token (Quoted text) flags literals h = omega (arith, h)
flag_of_token (Mark symbol) flags literals h = h
flag_of_token Hole flags literals h = omega (arith, h)
flag_of_token Unreadable flags literals h = h

flags_of_tokens : (ts : List Token) → length (holes_among ts) ≡ length (literals_among ts)
flags_of_tokens [] = refl
flags_of_tokens (Mark Minus ∷ Word w ∷ ts) = flag_of_number (is_numeral w) _ _ (holes_among ts) (literals_among ts) (flags_of_tokens ts)
flags_of_tokens (Mark Plus ∷ Hole ∷ ts) = omega (arith, flags_of_tokens ts)
flags_of_tokens (Mark Minus ∷ Hole ∷ ts) = omega (arith, flags_of_tokens ts)
flags_of_tokens (t ∷ ts) = flag_of_token t (holes_among ts) (literals_among ts) (flags_of_tokens ts)

template_some : (ts : List Token) (c : Command) → template_command ts ≡ Some c → command_of ts ≡ Some c
unfolding unless_holed
template_some ts c e = by (command_of ts) e
  where
    kept : (b : Bool) (d : Command) → cond b None (Some d) ≡ Some c → ◌≡◌ {A = Option Command} (Some d) (Some c)
    kept true d e = absurd (none-some c e)
    kept false d e = e

    by : (o : Option Command) → unless_holed ts o ≡ Some c → o ≡ Some c
    by None e = absurd (none-some c e)
    by (Some d) e = kept (has_hole ts && not (may_have_holes d)) d e

flags_of_line : (is_long nothing : Bool) (ts : List Token) (c : Command)
    → cond is_long (Err LineTooLong) (cond nothing (Ok command.Nothing) (read_as (template_command ts))) ≡ Ok c
    → length (cond nothing [] (holes_among ts)) ≡ length (literals_of c)
flags_of_line true nothing ts c e = absurd (cc)
flags_of_line false true ts c e =
    let same : ◌≡◌ {A = Command} command.Nothing c = cc in ap (λ (d : Command). length (literals_of d)) same
flags_of_line false false ts c e =
    flags_of_tokens ts ∙ ap length (sym (read_literals ts c (template_some ts c (read_some (template_command ts) c e))))

pub holes_are_literals : (line : List ℕ) (c : Command) → template_of line ≡ Ok c → length (holes_of line) ≡ length (literals_of c)
unfolding template_of
holes_are_literals line c e = flags_of_line (ltb 4096 (length line)) (is_nothing line) (tokens line) c e
