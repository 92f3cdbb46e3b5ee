-- Each line reads as a command that can be written.
use Rattle.std.proofs.Common.{◌≡◌, ◌≢◌, ◌⊎◌, ◌≤◌, inl, inr, ℕ, Bool, true, false, cond, not, ◌&&◌, ltb, List, [], ◌∷◌, Option, Some, None, Ok, Err, length}
use Rattle.std.proofs.Common.{pos, refl, sym, ap, ◌∙◌, subst, arith}
use Rattle.std.specs.Prelude.{All, IfSome}
use Rattle.std.specs.List.{AllByRecursion, cons_option, flat_map}
use Rattle.std.specs.Option.{option_and_then, option_or}
use Rattle.std.proofs.lemmas.Bool.{ltb-false}
use Rattle.std.proofs.lemmas.List.Elements.{All-from_recursion}
use Rattle.std.proofs.lemmas.Option.{none-some}
use Rattle.mm_value.specs.Literal.{is_numeral, is_within_limit}
use Rattle.mm_value.specs.Storable.{IsStorable}
use Rattle.mm_value.specs.declared.refusal.Refusal.{Refusal}
use Rattle.mm_value.specs.declared.refusal.Refusal.TheVariants.{LineTooLong}
use Rattle.mm_value.specs.declared.values.Value.{Value}
use Rattle.mm_value.specs.declared.values.Value.TheVariants.{Int, Text}
use Rattle.mm_value.proofs.Limits.{within_int, within_text}
use Rattle.mm_schema.specs.Columns.{target_of}
use Rattle.mm_schema.specs.Name.{IsName}
use Rattle.mm_schema.specs.declared.column.Column.{Column}
use Rattle.mm_schema.specs.declared.column.Role.{Role}
use Rattle.mm_schema.specs.declared.column.Role.TheVariants as role
use Rattle.mm_schema.proofs.StrictOrder.{AllByRecursion-append_left, AllByRecursion-append_right}
use Rattle.mm_query.specs.Fields.{FieldName}
use Rattle.mm_query.specs.Resolving.{column_of}
use Rattle.mm_query.specs.declared.atom.Atom.{Atom}
use Rattle.mm_query.specs.declared.atom.Operand.{Operand}
use Rattle.mm_query.specs.declared.atom.Operand.TheVariants as operand
use Rattle.mm_query.specs.declared.command.Command.{Command}
use Rattle.mm_query.specs.declared.command.Command.TheVariants as command
use Rattle.mm_query.specs.declared.command.Definition.{Definition}
use Rattle.mm_query.specs.declared.command.Definition.TheVariants as define
use Rattle.mm_query.specs.declared.command.Mutation.{Mutation}
use Rattle.mm_query.specs.declared.query.FromItem.{FromItem}
use Rattle.mm_query.specs.declared.query.Query.{Query}
use Rattle.mm_lang.specs.declared.read.keyword.Keyword.TheVariants as keyword
use Rattle.mm_lang.specs.declared.read.token.Symbol.TheVariants.{Comma, Minus, Plus}
use Rattle.mm_lang.specs.Grammar.{command_of, literal_of}
use Rattle.mm_lang.specs.Reading.{first_fault, is_nothing, literals_among, literals_of, past_limit, plain_command, position_literals}
use Rattle.mm_lang.specs.Reading.{query_literals, read_as, reading, test_literals, unless}
use Rattle.mm_lang.specs.Spelling.{SpellsColumn, SpellsCommand, SpellsField, SpellsFromItem, SpellsList, SpellsOperandOn, SpellsQuery, SpellsRole, SpellsTestOn}
use Rattle.mm_lang.specs.Spelling.{SpellsTestsOn, word}
use Rattle.mm_lang.specs.Templates.{may_have_holes, template_command, template_of}
use Rattle.mm_lang.specs.Tokens.{Token, Word, Signed, Quoted, Mark, Hole, Unreadable, has_hole, tokens}
use Rattle.mm_lang.proofs.LiteralOrder.{read_literals}
use Rattle.mm_lang.proofs.Preparing.{definitions_unholed, plain_template, read_some}
use Rattle.mm_lang.proofs.SpelledCommands.{command_read}
use Rattle.mm_dump.specs.Entries.{HasFieldNames, IsPrintable, IsPrintableOperand, IsPrintableQuery, IsPrintableTest}
use Rattle.mm_dump.specs.Entries as entry
use Rattle.mm_dump.specs.Texts.{watch_text}
use Rattle.mm_dump.specs.Writable.{IsWritable}
use Rattle.mm_dump.proofs.LeastTexts.{least, watch_least}
use Rattle.mm_dump.proofs.LineBytes.{AreOneLine, IsOneLine, texts_in_one_line, tokens_least}

-- ---- literals

-- A text has no line feed.
abbrev HasOneLine : Value → Type 0
HasOneLine (Int z) = Unit {0}
HasOneLine (Text text) = AllByRecursion (λ b. b ≢ 10) text

abbrev HaveOneLine : List Value → Type 0
HaveOneLine values = AllByRecursion HasOneLine values

number_ok : (is_number : Bool) (z : _) (values : List Value) → HaveOneLine values → HaveOneLine (cons_option (cond is_number (Some (Int z)) None) values)
number_ok true z values all = (tt, all)
number_ok false z values all = all

literal_ok : (t : Token) → IsOneLine t → (values : List Value) → HaveOneLine values → HaveOneLine (cons_option (literal_of t) values)
literal_ok (Word w) one_line values all = number_ok (is_numeral w) _ values all
literal_ok (Signed w) one_line values all = number_ok (is_numeral w) _ values all
literal_ok (Quoted said) one_line values all = (one_line, all)
literal_ok (Mark symbol) one_line values all = all
literal_ok Hole one_line values all = (tt, all)
literal_ok Unreadable one_line values all = all

among_ok : (ts : List Token) → AreOneLine ts → HaveOneLine (literals_among ts)
among_ok [] all = tt
among_ok (Mark Minus ∷ Word w ∷ ts) all = number_ok (is_numeral w) _ (literals_among ts) (among_ok ts all.1.1)
among_ok (Mark Plus ∷ Hole ∷ ts) all = (tt, among_ok ts all.1.1)
among_ok (Mark Minus ∷ Hole ∷ ts) all = (tt, among_ok ts all.1.1)
among_ok (t ∷ ts) all = literal_ok t all.0 (literals_among ts) (among_ok ts all.1)

value_stored : (v : Value) → HasOneLine v → is_within_limit v ≡ true → IsStorable v
value_stored (Int z) one_line within = within_int z within
value_stored (Text text) one_line within =
    record { short = within_text text within; one_line = All-from_recursion (λ b. b ≢ 10) text one_line }

-- Literals of which none is past its limit can be stored.
all_stored : (values : List Value) → HaveOneLine values → first_fault values ≡ None → AllByRecursion IsStorable values
all_stored [] one_line within = tt
all_stored (v ∷ vs) one_line within = by (is_within_limit v) refl within (all_stored vs one_line.1)
  where
    by : (b : Bool) → is_within_limit v ≡ b → option_or (cond b None (Some (past_limit v))) (first_fault vs) ≡ None
        → (first_fault vs ≡ None → AllByRecursion IsStorable vs) → AllByRecursion IsStorable (v ∷ vs)
    by true is none later = (value_stored v one_line.0 is, later none)
    by false is none later = absurd (cc)

read_stored : (line : List ℕ) (c : Command) → command_of (tokens line) ≡ Some c → first_fault (literals_of c) ≡ None → AllByRecursion IsStorable (literals_of c)
read_stored line c is within =
    all_stored (literals_of c) (subst HaveOneLine (sym (read_literals (tokens line) c is)) (among_ok (tokens line) (texts_in_one_line line))) within

-- ---- tables

role_named : (column : Column) (r : Role) (ts : List Token) → SpellsRole ts r → IfSome (target_of (record column { role = r })) IsName
role_named column role.Key ts is = tt
role_named column role.Plain ts is = tt
role_named column (role.Reference table on_delete) ts is = is.1

columns_named : (ts : List Token) (columns : List Column) → SpellsList (Mark Comma) SpellsColumn ts columns
    → AllByRecursion (λ (c : Column). IsName c.name × IfSome (target_of c) IsName) columns
columns_named ts [] is = absurd is
columns_named ts (c ∷ []) is = ((is.1, role_named c c.role is.0 is.2), tt)
columns_named ts (c ∷ d ∷ cs) is = ((is.2.1, role_named c c.role is.2.0 is.2.2), columns_named is.1 (d ∷ cs) is.3)

-- ---- queries

fields_named : (ts : List Token) (fields : List FieldName) → SpellsList (Mark Comma) SpellsField ts fields → AllByRecursion HasFieldNames fields
fields_named ts [] is = absurd is
fields_named ts (f ∷ []) is = ((is.0, is.1), tt)
fields_named ts (f ∷ g ∷ fs) is = ((is.2.0, is.2.1), fields_named is.1 (g ∷ fs) is.3)

items_named : (ts : List Token) (from : List FromItem) → SpellsList (Mark Comma) SpellsFromItem ts from
    → AllByRecursion (λ (item : FromItem). IsName item.table × IsName item.alias) from
items_named ts [] is = absurd is
items_named ts (i ∷ []) is = ((is.0, is.1), tt)
items_named ts (i ∷ j ∷ is_more) is = ((is.2.0, is.2.1), items_named is.1 (j ∷ is_more) is.3)

operand_named : (ts : List Token) (o : Operand FieldName) → SpellsOperandOn SpellsField ts o → IfSome (column_of o) HasFieldNames
operand_named ts (operand.Literal value) is = tt
operand_named ts (operand.Column field) is = (is.0, is.1)
operand_named ts (operand.Shifted field by) is = (is.2.0, is.2.1)

test_printable : (ts : List Token) (test : Atom FieldName) → SpellsTestOn SpellsField ts test → AllByRecursion IsStorable (test_literals test)
    → IsPrintableTest test
test_printable ts test is stored =
    ((is.2.0, is.2.1), (operand_named is.1 test.right is.3, All-from_recursion IsStorable (test_literals test) stored))

tests_printable : (ts : List Token) (tests : List (Atom FieldName)) → SpellsList (word keyword.And) (SpellsTestOn SpellsField) ts tests
    → AllByRecursion IsStorable (flat_map test_literals tests) → AllByRecursion IsPrintableTest tests
tests_printable ts [] is stored = absurd is
tests_printable ts (t ∷ []) is stored = (test_printable ts t is (AllByRecursion-append_left IsStorable (test_literals t) [] stored), tt)
tests_printable ts (t ∷ u ∷ us) is stored = (
  test_printable is.0 t is.2 (AllByRecursion-append_left IsStorable (test_literals t) (flat_map test_literals (u ∷ us)) stored),
  tests_printable is.1 (u ∷ us) is.3 (AllByRecursion-append_right IsStorable (test_literals t) (flat_map test_literals (u ∷ us)) stored),
)

asked_printable : (ts : List Token) (tests : List (Atom FieldName)) → SpellsTestsOn SpellsField ts tests
    → AllByRecursion IsStorable (flat_map test_literals tests) → AllByRecursion IsPrintableTest tests
asked_printable ts [] is stored = tt
asked_printable ts (t ∷ tests) is stored = tests_printable is.0 (t ∷ tests) is.1 stored

positions_stored : (positions : List ℕ) → AllByRecursion IsStorable (flat_map position_literals positions)
    → AllByRecursion (λ p. IsStorable (Int (pos p))) positions
positions_stored [] stored = tt
positions_stored (p ∷ ps) stored = (stored.0, positions_stored ps stored.1)

query_printable : (ts : List Token) (query : Query) → SpellsQuery ts query → AllByRecursion IsStorable (query_literals query) → IsPrintableQuery query
query_printable ts query (distinct, fields, from, asked, order, distinct_is, fields_are, from_are, tests_are, order_is, is) stored =
    let tests = flat_map test_literals query.atoms in
    let positions = flat_map position_literals query.order in
    record {
      some_fields = λ none. subst (λ fs. SpellsList (Mark Comma) SpellsField fields fs) none fields_are;
      some_from = λ none. subst (λ items. SpellsList (Mark Comma) SpellsFromItem from items) none from_are;
      fields = All-from_recursion HasFieldNames query.fields (fields_named fields query.fields fields_are);
      from = All-from_recursion (λ (item : FromItem). IsName item.table × IsName item.alias) query.from (items_named from query.from from_are);
      tests = All-from_recursion IsPrintableTest query.atoms
          (asked_printable asked query.atoms tests_are (AllByRecursion-append_left IsStorable tests positions stored));
      order = All-from_recursion (λ p. IsStorable (Int (pos p))) query.order
          (positions_stored query.order (AllByRecursion-append_right IsStorable tests positions stored));
    }

-- ---- commands

-- A line of at most 4,096 bytes whose tokens, none of them a hole, read as a command within its limits.
record IsRead (line : List ℕ) (c : Command) : Type 0 where
  short : length line ≤ 4096
  free : has_hole (tokens line) ≡ false
  command : command_of (tokens line) ≡ Some c
  within : first_fault (literals_of c) ≡ None

-- The WATCH of a query has no more bytes than a line that reads as it.
watch_shortest : (line : List ℕ) (watched : _) → let c = command.Define (define.Watch watched) in IsRead line c
    → (IsPrintable (entry.Watch watched.name watched.query)) × (length (watch_text watched.name watched.query) ≤ length line)
watch_shortest line watched is =
    let spelled : SpellsCommand (tokens line) (command.Define (define.Watch watched)) = command_read (tokens line) _ is.command in
    let printable = query_printable spelled.0 watched.query spelled.2 (read_stored line _ is.command is.within) in
    let free : has_hole spelled.0 ≡ false = sym (ap has_hole spelled.3) ∙ is.free in
    let bytes = watch_least spelled.0 watched.name watched.query free spelled.2 printable in
    let tokens_are : least (tokens line) ≡ least (word keyword.Watch ∷ Word watched.name ∷ word keyword.Select ∷ spelled.0) = ap least spelled.3 in
    ((spelled.1, printable), omega (arith, bytes, tokens_are, tokens_least line))

definition_writable : (line : List ℕ) (d : Definition) → IsRead line (command.Define d) → IsWritable (command.Define d)
definition_writable line (define.Table definition) is =
    let spelled : SpellsCommand (tokens line) (command.Define (define.Table definition)) = command_read (tokens line) _ is.command in (
      (
        spelled.1,
        All-from_recursion (λ (c : Column). IsName c.name × IfSome (target_of c) IsName) definition.columns
            (columns_named spelled.3.0 definition.columns spelled.3.1),
      ),
      spelled.2,
    )
definition_writable line (define.DropTable name) is = tt
definition_writable line (define.Index index) is =
    let spelled : SpellsCommand (tokens line) (command.Define (define.Index index)) = command_read (tokens line) _ is.command in
    (spelled.0, spelled.1, spelled.2)
definition_writable line (define.DropIndex name) is = tt
definition_writable line (define.Watch watched) is =
    let r = watch_shortest line watched is in (r.0, omega (arith, r.1, is.short))
definition_writable line (define.Unwatch name) is = tt

unless_ok : (fault : Option Refusal) (c : Command) → unless c fault ≡ Ok c → fault ≡ None
unless_ok None c e = refl
unless_ok (Some refusal) c e = absurd (cc)

-- The command that is read is within its limits.
read_within : (o : Option Command) (c : Command) → read_as o ≡ Ok c → (o ≡ Some c) × (first_fault (literals_of c) ≡ None)
read_within o c e =
    let is = read_some o c e in
    (is, unless_ok (first_fault (literals_of c)) c (ap read_as (sym is) ∙ e))

plain_parts : (holed : Bool) (o : Option Command) (c : Command) → cond holed None o ≡ Some c → (holed ≡ false) × (o ≡ Some c)
plain_parts true o c e = absurd (none-some c e)
plain_parts false o c e = (refl, e)

line_read : (line : List ℕ) (c : Command) → reading line ≡ Ok c → (c ≡ command.Nothing) ⊎ IsRead line c
unfolding reading
line_read line c e = by (ltb 4096 (length line)) (is_nothing line) refl e
  where
    by : (is_long nothing : Bool) → ltb 4096 (length line) ≡ is_long
        → cond is_long (Err LineTooLong) (cond nothing (Ok command.Nothing) (read_as (plain_command (tokens line)))) ≡ Ok c
        → (c ≡ command.Nothing) ⊎ IsRead line c
    by true nothing is e = absurd (cc)
    by false true is e = inl (cc)
    by false false is e =
        let p = read_within (plain_command (tokens line)) c e in
        let q = plain_parts (has_hole (tokens line)) (command_of (tokens line)) c p.0 in
        inr (record { short = ltb-false 4096 (length line) is; free = q.0; command = q.1; within = p.1 })

command_writable : (line : List ℕ) (c : Command) → IsRead line c → IsWritable c
command_writable line (command.Define d) is = definition_writable line d is
command_writable line (command.Change mutation) is =
    All-from_recursion IsStorable (literals_of (command.Change mutation)) (read_stored line (command.Change mutation) is.command is.within)
command_writable line _ is = tt

-- A line reads as a command that can be written, ..
pub line_writable : (line : List ℕ) (c : Command) → reading line ≡ Ok c → IsWritable c
line_writable line c e = by (line_read line c e)
  where
    by : (c ≡ command.Nothing) ⊎ IsRead line c → IsWritable c
    by (inl nothing) = subst IsWritable (sym nothing) tt
    by (inr is) = command_writable line c is

kept : (holed : Bool) (d c : Command) → cond holed None (Some d) ≡ Some c → ◌≡◌ {A = Option Command} (Some d) (Some c)
kept true d c e = absurd (none-some c e)
kept false d c e = e

template_some : (ts : List Token) (o : Option Command) (c : Command)
    → option_and_then (λ (d : Command). cond (has_hole ts && not (may_have_holes d)) None (Some d)) o ≡ Some c → o ≡ Some c
template_some ts None c e = absurd (none-some c e)
template_some ts (Some d) c e = kept (has_hole ts && not (may_have_holes d)) d c e

template_read : (line : List ℕ) (c : Command) → template_of line ≡ Ok c
    → (c ≡ command.Nothing) ⊎ ((command_of (tokens line) ≡ Some c) × (first_fault (literals_of c) ≡ None))
unfolding template_of
template_read line c e = by (ltb 4096 (length line)) (is_nothing line) e
  where
    by : (is_long nothing : Bool) → cond is_long (Err LineTooLong) (cond nothing (Ok command.Nothing) (read_as (template_command (tokens line)))) ≡ Ok c
        → (c ≡ command.Nothing) ⊎ ((command_of (tokens line) ≡ Some c) × (first_fault (literals_of c) ≡ None))
    by true nothing e = absurd (cc)
    by false true e = inl (cc)
    by false false e =
        let p = read_within (template_command (tokens line)) c e in inr (template_some (tokens line) (command_of (tokens line)) c p.0, p.1)

change_writable : (line : List ℕ) (mutation : Mutation) → template_of line ≡ Ok (command.Change mutation) → IsWritable (command.Change mutation)
change_writable line mutation e = by (template_read line (command.Change mutation) e)
  where
    by : (command.Change mutation ≡ command.Nothing)
        ⊎ ((command_of (tokens line) ≡ Some (command.Change mutation)) × (first_fault (literals_of (command.Change mutation)) ≡ None))
        → All IsStorable (literals_of (command.Change mutation))
    by (inl nothing) = absurd (cc)
    by (inr is) =
        All-from_recursion IsStorable (literals_of (command.Change mutation)) (read_stored line (command.Change mutation) is.0 is.1)

-- .. also with holes.
pub template_writable : (line : List ℕ) (c : Command) → template_of line ≡ Ok c → IsWritable c
template_writable line (command.Define d) e =
    line_writable line (command.Define d) (sym (plain_template line (definitions_unholed line d e)) ∙ e)
template_writable line (command.Change mutation) e = change_writable line mutation e
template_writable line _ e = tt

-- No line that reads as a WATCH has fewer bytes than that of a dump.
pub watch_is_shortest : (line name : List ℕ) (query : Query) → reading line ≡ Ok (command.Define (define.Watch (record { name = name; query = query })))
    → length (watch_text name query) ≤ length line
watch_is_shortest line name query e = by (line_read line (command.Define (define.Watch (record { name = name; query = query }))) e)
  where
    by : (command.Define (define.Watch (record { name = name; query = query })) ≡ command.Nothing)
        ⊎ IsRead line (command.Define (define.Watch (record { name = name; query = query }))) → length (watch_text name query) ≤ length line
    by (inl nothing) = absurd (cc)
    by (inr is) = (watch_shortest line (record { name = name; query = query }) is).1
