-- A text from its opening to its closing quote.
use Rattle.std.proofs.Common.{◌≡◌, ◌≢◌, ◌<◌, ◌≤◌, ℕ, ◌+◌, cond, List, [], ◌∷◌, ◌++◌, length, get_or, take, drop, Bor, refl, sym, ap, ◌∙◌, arith, length-drop}
use Rattle.std.proofs.Common.{length-take, append-nil}
use Rattle.std.specs.Prelude.{All}
use Rattle.std.proofs.lemmas.Bool.{ne_eqb}
use Rattle.std.proofs.lemmas.List.{drop-drop}
use Rattle.std.proofs.lemmas.List.Elements.{All-push}
use Rattle.std.proofs.lemmas.List.Concat.{flat_map-append}
use Rattle.std.proofs.Math.Seq.{take-add}
use Rattle.mm_value.specs.Literal.{doubled}
use Rattle.mm_lang.specs.declared.read.token.Token.TheVariants as shown
use Rattle.mm_lang.specs.Tokens.{Quoted, Unreadable, Inside, tokens, lexed}
use Rattle.mm_lang.specs.steps.Splitting.{Splits, StandsForByte, EndsText}
use Rattle.mm_lang.proofs.Lexing.{tokens_none, onto_texts, onto_texts_none, onto_texts_push, onto_texts_quoted, onto_texts_unreadable, text_none}
use Rattle.mm_lang.proofs.Lexing.{text_line_feed, text_quotes, text_end, text_byte}

pub piece_quotes : (rest : List ℕ) → 2 ≤ length rest → get_or rest 0 0 ≡ 39 → get_or rest 1 0 ≡ 39 → StandsForByte rest 2
piece_quotes [] some first second = absurd (omega arith)
piece_quotes (b ∷ []) some first second = absurd (omega arith)
piece_quotes (b ∷ c ∷ bs) some first second = record {
  byte = 39;
  one_line = λ e. absurd (omega arith);
  in_range = omega arith;
  spelled = ap (λ x. x ∷ c ∷ []) first ∙ ap (λ x. 39 ∷ x ∷ []) second;
  lexed = ap (λ x. lexed Inside (x ∷ c ∷ bs)) first ∙ ap (λ x. lexed Inside (39 ∷ x ∷ bs)) second ∙ text_quotes bs;
}

pub piece_byte : (rest : List ℕ) → 1 ≤ length rest → get_or rest 0 0 ≢ 39 → get_or rest 0 0 ≢ 10 → StandsForByte rest 1
piece_byte [] some unquoted one_line = absurd (omega arith)
piece_byte (b ∷ bs) some unquoted one_line = record {
  byte = b;
  one_line = one_line;
  in_range = omega arith;
  spelled = ap (λ t. cond t (39 ∷ 39 ∷ []) (b ∷ []) ++ []) (sym (ne_eqb b 39 unquoted));
  lexed = text_byte b bs one_line unquoted;
}

pub piece_end : (rest : List ℕ) → 1 ≤ length rest → get_or rest 0 0 ≡ 39 → get_or rest 1 0 ≢ 39 → EndsText rest
piece_end [] some first single = absurd (omega arith)
piece_end (b ∷ bs) some first single = record {
  quote = ap (λ x. x ∷ []) first;
  lexed = ap (λ x. lexed Inside (x ∷ bs)) first ∙ text_end bs single;
}

pub piece_fault : (rest : List ℕ) → (1 ≤ length rest → get_or rest 0 0 ≡ 10) → lexed Inside rest ≡ Unreadable ∷ []
piece_fault [] fault = text_none
piece_fault (b ∷ bs) fault = ap (λ x. lexed Inside (x ∷ bs)) (fault (omega arith)) ∙ text_line_feed bs

-- The bytes up to `end` are an opening quote and the spelling of some bytes of the text.
pub record Within (bytes : List ℕ) (end : ℕ) : Type 0 where
  pub said : List ℕ
  pub positive : 0 < end
  pub in_range : end ≤ length bytes
  pub spelled : take end bytes ≡ 39 ∷ doubled said
  pub one_line : All (λ b. b ≢ 10) said
  pub behind : lexed Inside (drop 1 bytes) ≡ onto_texts said (lexed Inside (drop end bytes))

pub within_start : (bytes : List ℕ) → 0 < length bytes → get_or bytes 0 0 ≡ 39 → Within bytes 1
within_start [] some quote = absurd (omega arith)
within_start (b ∷ bs) some quote = record {
  said = [];
  positive = omega arith;
  in_range = omega arith;
  spelled = ap (λ x. x ∷ []) quote;
  one_line = λ k d h. absurd (omega arith);
  behind = sym (onto_texts_none (lexed Inside bs));
}

pub within_more : (bytes : List ℕ) (end n : ℕ) → Within bytes end → StandsForByte (drop end bytes) n → Within bytes (end + n)
within_more bytes end n w s = record {
  said = w.said ++ s.byte ∷ [];
  positive = omega (arith, w.positive);
  in_range = omega (arith, s.in_range, length-drop end bytes, w.in_range);
  spelled =
      take-add end n bytes ∙ ap (λ l. l ++ take n (drop end bytes)) w.spelled ∙ ap (λ l. 39 ∷ (doubled w.said ++ l)) s.spelled
      ∙ ap (λ l. 39 ∷ l) (sym (flat_map-append _ w.said (s.byte ∷ [])));
  one_line = All-push (λ b. b ≢ 10) w.said s.byte w.one_line s.one_line;
  behind =
      w.behind ∙ ap (onto_texts w.said) s.lexed ∙ sym (onto_texts_push w.said s.byte (lexed Inside (drop n (drop end bytes))))
      ∙ ap (λ l. onto_texts (w.said ++ s.byte ∷ []) (lexed Inside l)) (drop-drop n end bytes);
}

pub within_end : (bytes : List ℕ) (end : ℕ) (text : Bor (List ℕ)) (rest : List ℕ) → Within bytes end → EndsText (drop end bytes)
    → text.now ≡ take (end + 1) bytes → rest ≡ drop (end + 1) bytes
    → Splits (lexed Inside (drop 1 bytes)) (length bytes) (shown.Quoted text) rest
within_end bytes end text rest w e front back = record {
  first = Quoted w.said;
  shows = (
    w.said,
    (front ∙ take-add end 1 bytes ∙ ap (λ l. l ++ take 1 (drop end bytes)) w.spelled ∙ ap (λ l. 39 ∷ (doubled w.said ++ l)) e.quote, w.one_line),
    refl,
  );
  in_front =
      w.behind ∙ ap (onto_texts w.said) e.lexed ∙ onto_texts_quoted w.said [] (tokens (drop 1 (drop end bytes)))
      ∙ ap (λ t. Quoted t ∷ tokens (drop 1 (drop end bytes))) (append-nil w.said)
      ∙ ap (λ l. Quoted w.said ∷ tokens l) (drop-drop 1 end bytes ∙ sym back);
  shorter = omega (arith, ap length back, length-drop (end + 1) bytes, ap length e.quote, length-take 1 (drop end bytes), length-drop end bytes);
}

pub within_fault : (bytes : List ℕ) (end : ℕ) → Within bytes end → lexed Inside (drop end bytes) ≡ Unreadable ∷ []
    → Splits (lexed Inside (drop 1 bytes)) (length bytes) shown.Unreadable []
within_fault bytes end w fault = record {
  first = Unreadable;
  shows = refl;
  in_front = w.behind ∙ ap (onto_texts w.said) fault ∙ onto_texts_unreadable w.said ∙ ap (λ l. Unreadable ∷ l) (sym tokens_none);
  shorter = omega (arith, w.positive, w.in_range);
}
