-- INSERT lines read as the rows that they are of.
use Rattle.std.proofs.Common.{◌≡◌, ℕ, false, List, [], ◌∷◌, ◌++◌, codes, refl, sym, ap, ◌∙◌, subst, append_assoc}
use Rattle.std.specs.List.{AllByRecursion}
use Rattle.std.proofs.lemmas.List.Elements.{recursion_from_All}
use Rattle.mm_value.specs.Storable.{IsStorable}
use Rattle.mm_value.specs.Written.{row_text, value_text, values_text}
use Rattle.mm_value.specs.declared.values.Value.{Value}
use Rattle.mm_value.proofs.Spelling.{value_text-spells}
use Rattle.mm_schema.specs.Name.{IsName}
use Rattle.mm_schema.proofs.StrictOrder.{AllByRecursion-weaker}
use Rattle.mm_query.specs.declared.command.Command.TheVariants as command
use Rattle.mm_query.specs.declared.command.Mutation.TheVariants as change
use Rattle.mm_lang.specs.declared.read.keyword.Keyword.TheVariants as keyword
use Rattle.mm_lang.specs.declared.read.token.Symbol.TheVariants.{Open, Close, Comma}
use Rattle.mm_lang.specs.Spelling.{SpellsCommand, SpellsInParentheses, SpellsList, SpellsLiteral, SpellsOne, SpellsTuple, word}
use Rattle.mm_lang.specs.Tokens.{Token, Word, Mark, has_hole, tokens}
use Rattle.mm_dump.specs.Entries.{IsPrintableRow}
use Rattle.mm_dump.specs.Texts.{comma_separated, insert_text}
use Rattle.mm_dump.proofs.Fronts.{blank_front, close_front, comma, literal_reads, name_lexed, open_front, word_lexed}
use Rattle.mm_dump.proofs.Phrases.{Reads, free_of_both, lexed_alone, list_reads}

-- A phrase in parentheses.
parentheses_read : {A : Type 0} (Spells : List Token → A → Type 0) (text : List ℕ) (x : A) → Reads Spells text x
    → Reads (SpellsInParentheses Spells) (40 ∷ text ++ 41 ∷ []) x
parentheses_read Spells text x r = record {
  ts = Mark Open ∷ r.ts ++ Mark Close ∷ [];
  lexed = record {
    front = λ rest end.
        open_front ((text ++ 41 ∷ []) ++ rest)
        ∙ ap (λ l. Mark Open ∷ l) (ap tokens (append_assoc text (41 ∷ []) rest) ∙ r.lexed.front (41 ∷ rest) refl ∙ ap (λ l. r.ts ++ l) (close_front rest)
        ∙ sym (append_assoc r.ts (Mark Close ∷ []) (tokens rest)));
    free = free_of_both r.ts (Mark Close ∷ []) r.lexed.free refl;
  };
  spelled = (r.ts, r.spelled, refl);
}

pub values_separated : (values : List Value) → comma_separated value_text values ≡ values_text values
values_separated [] = refl
values_separated (v ∷ []) = refl
values_separated (v ∷ w ∷ vs) = ap (λ l. value_text v ++ 44 ∷ 32 ∷ l) (values_separated (w ∷ vs))

abbrev Literals : List Token → List Value → Type 0
Literals ts values = SpellsList (Mark Comma) (SpellsOne SpellsLiteral) ts values

values_read : (v : Value) (vs : List Value) → AllByRecursion IsStorable (v ∷ vs) → Reads Literals (values_text (v ∷ vs)) (v ∷ vs)
values_read v vs all =
    subst (λ (text : List ℕ). Reads Literals text (v ∷ vs)) (values_separated (v ∷ vs))
    (list_reads value_text (SpellsOne SpellsLiteral) comma v vs
    (AllByRecursion-weaker (λ w storable. literal_reads (value_text w) w (value_text-spells w storable).0) (v ∷ vs) all))

row_reads : (row : List Value) → IsPrintableRow row → Reads SpellsTuple (row_text row) row
row_reads [] printable = absurd (printable.0 refl)
row_reads (v ∷ vs) printable =
    parentheses_read Literals (values_text (v ∷ vs)) (v ∷ vs) (values_read v vs (recursion_from_All IsStorable (v ∷ vs) printable.1))

pub rows_read : (row : List Value) (rows : List (List Value)) → AllByRecursion IsPrintableRow (row ∷ rows)
    → Reads (SpellsList (Mark Comma) SpellsTuple) (comma_separated row_text (row ∷ rows)) (row ∷ rows)
rows_read row rows all = list_reads row_text SpellsTuple comma row rows (AllByRecursion-weaker row_reads (row ∷ rows) all)

module _ (table : List ℕ) (row : List Value) (rows : List (List Value)) (named : IsName table) (all : AllByRecursion IsPrintableRow (row ∷ rows)) where
  abbrev inner : List Token
  inner = (rows_read row rows all).ts

  insert_tokens : tokens (insert_text table (row ∷ rows)) ≡ word keyword.Insert ∷ Word table ∷ inner
  insert_tokens =
      let text = comma_separated row_text (row ∷ rows) in
      (word_lexed (codes "INSERT") refl refl).front (32 ∷ (table ++ 32 ∷ text)) refl
      ∙ ap (λ l. word keyword.Insert ∷ l) (blank_front (table ++ 32 ∷ text) ∙ (name_lexed table named).front (32 ∷ text) refl
      ∙ ap (λ l. Word table ∷ l) (blank_front text ∙ lexed_alone (rows_read row rows all).lexed))

  pub insert_spelled : SpellsCommand (tokens (insert_text table (row ∷ rows))) (command.Change (change.Insert table (row ∷ rows)))
  insert_spelled = (inner, named, (rows_read row rows all).spelled, insert_tokens)

  pub insert_free : has_hole (tokens (insert_text table (row ∷ rows))) ≡ false
  insert_free = ap has_hole insert_tokens ∙ (rows_read row rows all).lexed.free
