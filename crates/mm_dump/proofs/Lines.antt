-- The lines of a dump read as the commands of its entries.
use Rattle.std.proofs.Common.{◌≡◌, ◌≤◌, ℕ, false, ltb, List, [], ◌∷◌, Some, None, Ok, length, refl, ap, ◌∙◌}
use Rattle.std.specs.List.{AllByRecursion, flat_map}
use Rattle.std.specs.Option.{option_or}
use Rattle.std.proofs.lemmas.Bool.{cond-false, cond-true, le-ltb}
use Rattle.std.proofs.lemmas.List.Elements.{recursion_from_All}
use Rattle.mm_value.specs.Literal.{is_within_limit}
use Rattle.mm_value.specs.Storable.{IsStorable}
use Rattle.mm_value.specs.declared.values.Value.{Value}
use Rattle.mm_value.proofs.Spelling.{value_text-spells}
use Rattle.mm_schema.specs.Columns.{key_count}
use Rattle.mm_schema.specs.declared.column.Column.{Column}
use Rattle.mm_schema.specs.declared.column.OnDelete.{OnDelete}
use Rattle.mm_schema.specs.declared.column.OnDelete.TheVariants.{Cascade, Restrict}
use Rattle.mm_schema.specs.declared.column.Role.{Role}
use Rattle.mm_schema.specs.declared.column.Role.TheVariants as role
use Rattle.mm_schema.specs.declared.index.IndexDef.{IndexDef}
use Rattle.mm_schema.specs.declared.table.TableDef.{TableDef}
use Rattle.mm_schema.proofs.StrictOrder.{AllByRecursion-append}
use Rattle.mm_query.specs.declared.command.Command.{Command}
use Rattle.mm_query.specs.declared.command.Command.TheVariants as command
use Rattle.mm_query.specs.declared.command.Definition.TheVariants as define
use Rattle.mm_query.specs.declared.command.Mutation.TheVariants as change
use Rattle.mm_lang.specs.declared.read.token.Symbol.TheVariants.{Close, Comma}
use Rattle.mm_lang.specs.Grammar.{command_of}
use Rattle.mm_lang.specs.Reading.{first_fault, is_nothing, literals_of, read_as, reading, unless}
use Rattle.mm_lang.specs.ReplyText.{HasIndexNames, HasTableNames, index_listed, table_listed}
use Rattle.mm_lang.specs.Spelling.{SpellsColumn, SpellsCommand, SpellsList, SpellsOnDelete, SpellsRole}
use Rattle.mm_lang.specs.Tokens.{Token, Mark, has_hole, tokens}
use Rattle.mm_lang.proofs.SpelledCommands.{command_read, command_spelled}
use Rattle.mm_dump.specs.Entries.{Entry, FitsLine, IsPrintable, IsPrintableRow, entry_command, entry_text}
use Rattle.mm_dump.specs.Entries as entry
use Rattle.mm_dump.specs.Texts.{insert_text}
use Rattle.mm_dump.proofs.Phrases.{free_of_both}
use Rattle.mm_dump.proofs.Rows.{insert_free, insert_spelled}
use Rattle.mm_dump.proofs.Queries.{watch_fits, watch_free, watch_spelled}

-- A line that has tokens of a command reads as it.
line_reads : (line : List ℕ) (c : Command) → length line ≤ 4096 → is_nothing line ≡ false → has_hole (tokens line) ≡ false
    → command_of (tokens line) ≡ Some c → first_fault (literals_of c) ≡ None → reading line ≡ Ok c
unfolding reading
line_reads line c short some free is within =
    cond-false (ltb 4096 (length line)) _ _ (le-ltb 4096 (length line) short) ∙ cond-false (is_nothing line) _ _ some
    ∙ ap read_as (cond-false (has_hole (tokens line)) _ _ free ∙ is) ∙ ap (unless c) within

-- Values that are stored are within their limits.
pub no_fault : (values : List Value) → AllByRecursion IsStorable values → first_fault values ≡ None
no_fault [] all = refl
no_fault (v ∷ vs) all =
    ap (λ fault. option_or fault (first_fault vs)) (cond-true (is_within_limit v) _ _ (value_text-spells v all.0).1) ∙ no_fault vs all.1

-- ---- tables and indexes

on_delete_free : (ts : List Token) (d : OnDelete) → SpellsOnDelete ts d → has_hole ts ≡ false
on_delete_free ts Restrict is = ap has_hole is
on_delete_free ts Cascade is = ap has_hole is

role_free : (ts : List Token) (r : Role) → SpellsRole ts r → has_hole ts ≡ false
role_free ts role.Key is = ap has_hole is
role_free ts role.Plain is = ap has_hole is
role_free ts (role.Reference table on_delete) is = ap has_hole is.3 ∙ on_delete_free is.0 on_delete is.2

column_free : (ts : List Token) (c : Column) → SpellsColumn ts c → has_hole ts ≡ false
column_free ts c is = ap has_hole is.3 ∙ role_free is.0 c.role is.2

columns_free : (ts : List Token) (cs : List Column) → SpellsList (Mark Comma) SpellsColumn ts cs → has_hole ts ≡ false
columns_free ts [] is = absurd is
columns_free ts (c ∷ []) is = column_free ts c is
columns_free ts (c ∷ d ∷ cs) is =
    ap has_hole is.4 ∙ free_of_both is.0 (Mark Comma ∷ is.1) (column_free is.0 c is.2) (columns_free is.1 (d ∷ cs) is.3)

table_free : (ts : List Token) (d : TableDef) → SpellsCommand ts (command.Define (define.Table d)) → has_hole ts ≡ false
table_free ts d is =
    ap has_hole is.4 ∙ ap has_hole is.3.2 ∙ free_of_both is.3.0 (Mark Close ∷ []) (columns_free is.3.0 d.columns is.3.1) refl

-- ---- entries

module _ (table_again : (definition : TableDef) → HasTableNames definition → key_count definition.columns ≡ 1
    → command_of (tokens (table_listed definition)) ≡ Some (command.Define (define.Table definition)))
    (index_again : (index : IndexDef) → HasIndexNames index → command_of (tokens (index_listed index)) ≡ Some (command.Define (define.Index index))) where
  table_line : (d : TableDef) → IsPrintable (entry.Table d) → FitsLine (entry.Table d) → reading (table_listed d) ≡ Ok (command.Define (define.Table d))
  table_line d printable short =
      let again = table_again d printable.0 printable.1 in
      line_reads (table_listed d) (command.Define (define.Table d)) short refl (table_free (tokens (table_listed d)) d (command_read _ _ again)) again refl

  index_line : (i : IndexDef) → IsPrintable (entry.Index i) → FitsLine (entry.Index i) → reading (index_listed i) ≡ Ok (command.Define (define.Index i))
  index_line i printable short =
      let again = index_again i printable in
      let spelled : SpellsCommand (tokens (index_listed i)) (command.Define (define.Index i)) = command_read _ _ again in
      line_reads (index_listed i) (command.Define (define.Index i)) short refl (ap has_hole spelled.3) again refl

  rows_line : (table : List ℕ) (rows : List (List Value)) → IsPrintable (entry.Rows table rows) → FitsLine (entry.Rows table rows)
      → reading (insert_text table rows) ≡ Ok (command.Change (change.Insert table rows))
  rows_line table [] printable short = absurd (printable.1 refl)
  rows_line table (row ∷ rows) printable short =
      let all = recursion_from_All IsPrintableRow (row ∷ rows) printable.2 in
      line_reads (insert_text table (row ∷ rows)) (command.Change (change.Insert table (row ∷ rows))) short refl
      (insert_free table row rows printable.0 all)
      (command_spelled _ _ (insert_spelled table row rows printable.0 all))
      (no_fault (flat_map (λ (r : List Value). r) (row ∷ rows)) (values_stored (row ∷ rows) all))
    where
      values_stored : (rs : List (List Value)) → AllByRecursion IsPrintableRow rs → AllByRecursion IsStorable (flat_map (λ (r : List Value). r) rs)
      values_stored [] all = tt
      values_stored (r ∷ rs) all =
          AllByRecursion-append IsStorable r (flat_map (λ (s : List Value). s) rs) (recursion_from_All IsStorable r all.0.1) (values_stored rs all.1)

  pub entry_reads : (e : Entry) → IsPrintable e → FitsLine e → reading (entry_text e) ≡ Ok (entry_command e)
  entry_reads (entry.Table d) printable short = table_line d printable short
  entry_reads (entry.Rows table rows) printable short = rows_line table rows printable short
  entry_reads (entry.Index i) printable short = index_line i printable short
  entry_reads (entry.Watch name query) printable short =
      line_reads _ _ short refl (watch_free name query printable.0 printable.1)
      (command_spelled _ _ (watch_spelled name query printable.0 printable.1)) (no_fault _ (watch_fits query printable.1))
