-- Texts that read as phrases of the grammar: their tokens, and the words of these.
use Rattle.std.proofs.Common.{◌≡◌, ℕ, Bool, true, false, not, ◌||◌, eqb, List, [], ◌∷◌, ◌++◌, refl, sym, ap, ◌∙◌, append_assoc, append-nil}
use Rattle.std.specs.List.{AllByRecursion}
use Rattle.std.proofs.lemmas.Bool.{or_from}
use Rattle.std.proofs.lemmas.List.Folds.{list_any-append}
use Rattle.mm_lang.specs.QueryText.{separated}
use Rattle.mm_lang.specs.Spelling.{SpellsList}
use Rattle.mm_lang.specs.Tokens.{Token, has_hole, is_hole, is_word_byte, tokens}
use Rattle.mm_lang.proofs.Lexing.{tokens_none}

-- Bytes end the token before them: they begin with no byte of a word and with no quote.
abbrev pub ends_token : List ℕ → Bool
ends_token [] = true
ends_token (b ∷ bs) = not (is_word_byte b || eqb b 39)

-- A text is lexed as some tokens before any bytes that end a token, none of them a hole.
pub record IsLexed (text : List ℕ) (ts : List Token) : Type 0 where
  pub front : (rest : List ℕ) → ends_token rest ≡ true → tokens (text ++ rest) ≡ ts ++ tokens rest
  pub free : has_hole ts ≡ false

-- Tokens of a text that spell a phrase.
pub record Reads {A : Type 0} (Spells : List Token → A → Type 0) (text : List ℕ) (x : A) : Type 0 where
  pub ts : List Token
  pub lexed : IsLexed text ts
  pub spelled : Spells ts x

-- The tokens of only the text.
pub lexed_alone : {text : List ℕ} {ts : List Token} → IsLexed text ts → tokens text ≡ ts
lexed_alone {text} {ts} is = ap tokens (sym (append-nil text)) ∙ is.front [] refl ∙ ap (λ l. ts ++ l) tokens_none ∙ append-nil ts

pub free_of_both : (ts us : List Token) → has_hole ts ≡ false → has_hole us ≡ false → has_hole (ts ++ us) ≡ false
free_of_both ts us a b = list_any-append is_hole ts us ∙ or_from (has_hole ts) (has_hole us) a b

-- One text after another, which ends the first one's last token.
pub lexed_both : {first second : List ℕ} {ts us : List Token} → IsLexed first ts → IsLexed second us
    → ((rest : List ℕ) → ends_token rest ≡ true → ends_token (second ++ rest) ≡ true) → IsLexed (first ++ second) (ts ++ us)
lexed_both {first} {second} {ts} {us} a b ends = record {
  front = λ rest end.
      ap tokens (append_assoc first second rest) ∙ a.front (second ++ rest) (ends rest end) ∙ ap (λ l. ts ++ l) (b.front rest end)
      ∙ sym (append_assoc ts us (tokens rest));
  free = free_of_both ts us a.free b.free;
}

-- A separator, and the token that it is whatever follows it.
pub record IsSeparator (text : List ℕ) (t : Token) : Type 0 where
  pub front : (rest : List ℕ) → tokens (text ++ rest) ≡ t ∷ tokens rest
  pub ends : (rest : List ℕ) → ends_token (text ++ rest) ≡ true
  pub free : is_hole t ≡ false

module _ {A : Type 0} (text : A → List ℕ) (Spells : List Token → A → Type 0) {separator : List ℕ} {t : Token} (is : IsSeparator separator t) where
  -- Items between separators read as their list.
  pub list_reads : (x : A) (xs : List A) → AllByRecursion (λ y. Reads Spells (text y) y) (x ∷ xs)
      → Reads (SpellsList t Spells) (separated separator text (x ∷ xs)) (x ∷ xs)
  list_reads x [] all = let r : Reads Spells (text x) x = all.0 in record { ts = r.ts; lexed = r.lexed; spelled = r.spelled }
  list_reads x (y ∷ ys) all =
      let first : Reads Spells (text x) x = all.0 in
      let others = list_reads y ys all.1 in
      let behind = separated separator text (y ∷ ys) in
      record {
        ts = first.ts ++ t ∷ others.ts;
        lexed = record {
          front = λ rest end.
              ap tokens (append_assoc (text x) (separator ++ behind) rest ∙ ap (λ l. text x ++ l) (append_assoc separator behind rest))
              ∙ first.lexed.front (separator ++ (behind ++ rest)) (is.ends (behind ++ rest))
              ∙ ap (λ l. first.ts ++ l) (is.front (behind ++ rest) ∙ ap (λ l. t ∷ l) (others.lexed.front rest end))
              ∙ sym (append_assoc first.ts (t ∷ others.ts) (tokens rest));
          free = free_of_both first.ts (t ∷ others.ts) first.lexed.free (or_from (is_hole t) (has_hole others.ts) is.free others.lexed.free);
        };
        spelled = (first.ts, others.ts, first.spelled, others.spelled, refl);
      }
