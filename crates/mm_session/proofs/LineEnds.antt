-- Lines and their ends.
use Rattle.std.proofs.Common.{◌≡◌, ℕ, suc, zero, ◌+◌, ◌-◌, ◌<◌, ◌==◌, Bool, true, false, cond, eqb, Option, Some, None, MatchOption, List}
use Rattle.std.proofs.Common.{[], ◌∷◌, ◌++◌, length, length-drop, get_or}
use Rattle.std.proofs.Common.{take, drop, sym, refl, ap, ◌∙◌, subst, arith}
use Rattle.bstr.specs.Find.{Nowhere, NoneBefore, Passes, IsFirstByte, is_byte}
use Rattle.std.proofs.lemmas.List.{take_all, drop_more, take-append-drop}
use Rattle.std.proofs.lemmas.Bool.{eqb-true}
use Rattle.mm_lang.specs.Lines.{HasNoFeed, lines_of, without_return}
use Rattle.mm_lang.proofs.Pieces.{lines_of-last, lines_of-line, lines_of-nil}
use Rattle.mm_session.specs.Scripts.{EndsLine}

-- A Boolean that is not true is false.
pub is_false : (b : Bool) → (b ≡ true → ⊥) → b ≡ false
is_false true h = absurd (h refl)
is_false false h = refl

-- A prefix without a place that has a line feed has no line feed.
pub no_feed_before : (bytes : List ℕ) (n : ℕ) → ((k : ℕ) → k < n → eqb (get_or bytes k 0) 10 ≡ true → ⊥) → HasNoFeed (take n bytes)
no_feed_before [] zero h = tt
no_feed_before [] (suc n) h = tt
no_feed_before (b ∷ bs) zero h = tt
no_feed_before (b ∷ bs) (suc n) h = (is_false (eqb b 10) (h 0 (omega arith)), no_feed_before bs n (λ k k_n. h (suc k) (omega arith)))

-- If no place has one, there is none.
pub no_feed_anywhere : (bytes : List ℕ) → Nowhere (Passes (is_byte 10) bytes) 0 (length bytes) → HasNoFeed bytes
no_feed_anywhere bytes h =
    subst HasNoFeed (take_all (length bytes) bytes (omega arith)) (no_feed_before bytes (length bytes) (λ k k_n. h k (omega arith) k_n))

-- The first line feed ends the first line.
pub ends_at_first : (bytes : List ℕ) (k : ℕ) → NoneBefore (Passes (is_byte 10) bytes) 0 (length bytes) k → Passes (is_byte 10) bytes k → EndsLine bytes k
ends_at_first bytes k first feed = record {
  within = first.high;
  no_feed = no_feed_before bytes k (λ i i_k. first.before i (omega arith) i_k);
  feed =
      sym (take-append-drop k bytes) ∙ ap (λ rest. take k bytes ++ rest)
      (drop_more bytes k 0 first.high ∙ ap (λ b. b ∷ drop (k + 1) bytes) (eqb-true (get_or bytes k 0) 10 feed));
}

-- The result of a search for a line feed.
pub line_end_is : (bytes : List ℕ) (result : Option ℕ) → IsFirstByte (is_byte 10) bytes result → MatchOption result (HasNoFeed bytes) (EndsLine bytes)
line_end_is bytes None h = no_feed_anywhere bytes h
line_end_is bytes (Some k) h = ends_at_first bytes k h.0 h.1

-- A line whose last byte is known, without its carriage return.
pub without_return-last : (line : List ℕ) (b : ℕ) → without_return (line ++ b ∷ []) ≡ cond (eqb b 13) line (line ++ b ∷ [])
without_return-last [] b = refl
without_return-last (c ∷ []) b = pushed (eqb b 13)
  where
    pushed : (test : Bool) → c ∷ cond test [] (b ∷ []) ≡ cond test (c ∷ []) (c ∷ b ∷ [])
    pushed true = refl
    pushed false = refl
without_return-last (c ∷ d ∷ line) b = ap (λ l. c ∷ l) (without_return-last (d ∷ line) b) ∙ pushed (eqb b 13)
  where
    pushed : (test : Bool) → c ∷ cond test (d ∷ line) (d ∷ line ++ b ∷ []) ≡ cond test (c ∷ d ∷ line) (c ∷ d ∷ line ++ b ∷ [])
    pushed true = refl
    pushed false = refl

-- A script whose first line ends with a line feed, and the rest of the script.
pub first_split : (script line : List ℕ) (end : ℕ) → EndsLine script end → line ≡ without_return (take end script)
    → let rest = take (length script - (end + 1)) (drop (end + 1) script) in
    (lines_of script ≡ line ∷ lines_of rest) × (length rest < length script)
first_split script line end h is =
    let behind = drop (end + 1) script in
    let within = h.within in
    let dropped = length-drop (end + 1) script in
    let all : take (length script - (end + 1)) behind ≡ behind = take_all (length script - (end + 1)) behind (omega (arith, dropped)) in (
      ap lines_of h.feed ∙ lines_of-line (take end script) behind h.no_feed
          ∙ ap (λ l. l ∷ lines_of behind) (sym is) ∙ ap (λ rest. line ∷ lines_of rest) (sym all),
      subst (λ rest. length rest < length script) (sym all) (omega (arith, dropped, within)),
    )

-- A script of one line that no line feed ends.
pub only_split : (script line : List ℕ) → false ≡ (length script == 0) → HasNoFeed script → line ≡ without_return script
    → (lines_of script ≡ line ∷ lines_of []) × (0 < length script)
only_split [] line some none is = absurd (let clash : false ≡ true = some in cc)
only_split (b ∷ bs) line some none is =
    (lines_of-last (b ∷ bs) (omega arith) none ∙ ap (λ l. l ∷ []) (sym is) ∙ ap (λ ls. line ∷ ls) (sym lines_of-nil), omega arith)
