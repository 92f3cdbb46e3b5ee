-- Lines and their ends.
use Rattle.std.proofs.Common.{◌≡◌, ℕ, suc, zero, ◌+◌, ◌<◌, Bool, true, false, eqb, Option, Some, None, MatchOption, List, [], ◌∷◌, ◌++◌, length, get_or, take}
use Rattle.std.proofs.Common.{drop, sym, refl, ap, ◌∙◌, subst, arith}
use Rattle.bstr.specs.Find.{Nowhere, NoneBefore, Passes, IsFirstByte, is_byte}
use Rattle.std.proofs.lemmas.List.{take_all, drop_more, take-append-drop}
use Rattle.std.proofs.lemmas.Bool.{eqb-true}
use Rattle.mm_lang.specs.Lines.{HasNoFeed}
use Rattle.mmdb_core.specs.steps.Feeds.{EndsLine}

-- a value that is not true is false
pub is_false : (b : Bool) → (b ≡ true → ⊥) → b ≡ false
is_false true h = absurd (h refl)
is_false false h = refl

-- a prefix in which no place has a line feed has none
pub no_feed_before : (bytes : List ℕ) (n : ℕ) → ((k : ℕ) → k < n → eqb (get_or bytes k 0) 10 ≡ true → ⊥) → HasNoFeed (take n bytes)
no_feed_before [] zero h = tt
no_feed_before [] (suc n) h = tt
no_feed_before (b ∷ bs) zero h = tt
no_feed_before (b ∷ bs) (suc n) h = (is_false (eqb b 10) (h 0 (omega arith)), no_feed_before bs n (λ k k_n. h (suc k) (omega arith)))

-- if no place has a line feed, there is none
pub no_feed_anywhere : (bytes : List ℕ) → Nowhere (Passes (is_byte 10) bytes) 0 (length bytes) → HasNoFeed bytes
no_feed_anywhere bytes h =
    subst HasNoFeed (take_all (length bytes) bytes (omega arith)) (no_feed_before bytes (length bytes) (λ k k_n. h k (omega arith) k_n))

-- the first place with a line feed ends the line
pub ends_at_first : (bytes : List ℕ) (k : ℕ) → NoneBefore (Passes (is_byte 10) bytes) 0 (length bytes) k → Passes (is_byte 10) bytes k → EndsLine bytes k
ends_at_first bytes k first feed = record {
  within = first.high;
  no_feed = no_feed_before bytes k (λ i i_k. first.before i (omega arith) i_k);
  feed =
      sym (take-append-drop k bytes) ∙ ap (λ rest. take k bytes ++ rest)
      (drop_more bytes k 0 first.high ∙ ap (λ b. b ∷ drop (k + 1) bytes) (eqb-true (get_or bytes k 0) 10 feed));
}

-- the result of a search for a line feed
pub line_end_is : (bytes : List ℕ) (result : Option ℕ) → IsFirstByte (is_byte 10) bytes result → MatchOption result (HasNoFeed bytes) (EndsLine bytes)
line_end_is bytes None h = no_feed_anywhere bytes h
line_end_is bytes (Some k) h = ends_at_first bytes k h.0 h.1
