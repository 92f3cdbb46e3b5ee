use Rattle.std.proofs.Common.{◌+◌, ◌/◌, ◌%◌, ◌^◌, ◌<◌, ◌≤◌, sym, ◌∙◌, ◌≡◌, ◌≢◌, ◌⊎◌, inl, inr, true, List, ℕ, [], ◌∷◌, ◌++◌, codes, decimal, length, get_or}
use Rattle.std.proofs.Common.{refl, ap, append_assoc, arith}
use Rattle.std.proofs.lemmas.Fmt.{decimal_digit, decimal_step}
use Rattle.std.specs.Char.{is_ascii_digit}
use Rattle.std.specs.List.{flat_map}
use Rattle.mm_value.specs.Refusals.{refusal_number, refusal_text}
use Rattle.mm_value.specs.declared.refusal.Refusal.{Refusal}
use Rattle.mm_value.specs.declared.refusal.Refusal.TheVariants.{LineTooLong, Syntax, NumberOutOfRange, TextTooLong, NoSuchTable, NoSuchColumn, NoSuchIndex}
use Rattle.mm_value.specs.declared.refusal.Refusal.TheVariants.{NoSuchStandingQuery, NameTaken, AliasTaken, NoSuchAlias, TypeMismatch, WrongNumberOfValues}
use Rattle.mm_value.specs.declared.refusal.Refusal.TheVariants.{ArithmeticOutOfRange, DuplicateKey, NoTargetRow, RowIsReferenced, InUse, TableFull}
use Rattle.mm_value.specs.declared.refusal.Refusal.TheVariants.{ResultTooLarge, StandingListTooLarge, TooMany, TransactionOpen, NoTransaction}
use Rattle.mm_value.specs.declared.refusal.Refusal.TheVariants.{NotInTransaction, NoSuchSavepoint, Memory}
use Rattle.mm_query.specs.declared.plan_line.PlanLine.{PlanLine}
use Rattle.mm_query.specs.declared.reply.Reply.{Reply}
use Rattle.mm_query.specs.declared.reply.Reply.TheVariants.{Done, Count, Rows, Steps, Listing, Refused}
use Rattle.mm_lang.specs.ReplyText.{HasNames, line_text, query_line, reply_text, table_lines}
use Rattle.mm_lang.proofs.ListingTexts.{listing_is_no_refusal}
use Rattle.mm_lang.proofs.ReplyLemmas.{item_line, row_line}
use Rattle.mm_lang.proofs.StepTexts.{steps_are_no_refusal}
use Rattle.mm_lang.proofs.write.reply_text.refusals_are_recognized.Goals as goal

ends : (reply : Reply) → (front : List ℕ) × (reply_text reply ≡ front ++ 10 ∷ [])
ends Done = (codes "ok", refl)
ends (Count n) = (codes "ok " ++ decimal n, refl)
ends (Rows rows) = (flat_map row_line rows ++ codes "rows " ++ decimal (length rows), refl)
ends (Steps steps) = (flat_map (item_line line_text (codes "steps ")) steps ++ codes "steps " ++ decimal (length steps), refl)
ends (Listing listing) = (
  flat_map table_lines listing.tables ++ flat_map query_line listing.standing ++ (codes "tables " ++ decimal (length listing.tables)),
  sym (append_assoc (flat_map table_lines listing.tables ++ flat_map query_line listing.standing) (codes "tables " ++ decimal (length listing.tables))
      (10 ∷ [])),
)
ends (Refused refusal) = (codes "error " ++ decimal (refusal_number refusal) ++ 32 ∷ refusal_text refusal, refl)

not_e : (b : ℕ) → b ≡ 101 → b ≢ 101 → ⊥
not_e b e ne = ne e

only_refusals : (reply : Reply) (digit : ℕ) (rest : List ℕ) → HasNames reply → is_ascii_digit digit ≡ true
    → reply_text reply ≡ codes "error " ++ digit ∷ rest → (refusal : Refusal) × (reply ≡ Refused refusal)
only_refusals Done digit rest named is e = absurd (not_e 111 (ap (λ l. get_or l 0 0) e) (omega arith))
only_refusals (Count n) digit rest named is e = absurd (not_e 111 (ap (λ l. get_or l 0 0) e) (omega arith))
only_refusals (Rows []) digit rest named is e = absurd (not_e 114 (ap (λ l. get_or l 0 0) e) (omega arith))
only_refusals (Rows (row ∷ rows)) digit rest named is e = absurd (not_e 40 (ap (λ l. get_or l 0 0) e) (omega arith))
only_refusals (Steps steps) digit rest named is e = absurd (steps_are_no_refusal steps digit rest named is e)
only_refusals (Listing listing) digit rest named is e = absurd (listing_is_no_refusal listing.tables listing.standing (digit ∷ rest) e)
only_refusals (Refused refusal) digit rest named is e = (refusal, refl)

-- A refusal's number has two digits.
told : (refusal : Refusal) (n : ℕ) → n ≡ refusal_number refusal → 10 ≤ n → n / 10 < 10 → n < 2 ^ 64 → is_ascii_digit (48 + n / 10) ≡ true
    → (digit : ℕ) × (rest : List ℕ) × (is_ascii_digit digit ≡ true) × (reply_text (Refused refusal) ≡ codes "error " ++ digit ∷ rest)
told refusal n e low high small is =
    let written : decimal (refusal_number refusal) ≡ (48 + n / 10) ∷ (48 + n % 10) ∷ [] =
    ap decimal (sym e) ∙ decimal_step n low small ∙ ap (λ l. l ++ (48 + n % 10) ∷ []) (decimal_digit (n / 10) high) in (
      48 + n / 10,
      (48 + n % 10) ∷ 32 ∷ refusal_text refusal ++ 10 ∷ [],
      is,
      ap (λ l. codes "error " ++ l ++ 32 ∷ refusal_text refusal ++ 10 ∷ []) written,
    )

-- A refusal's number begins with a digit.
numbered : (refusal : Refusal) → (digit : ℕ) × (rest : List ℕ) × (is_ascii_digit digit ≡ true)
    × (reply_text (Refused refusal) ≡ codes "error " ++ digit ∷ rest)
numbered LineTooLong = told LineTooLong 10 refl (omega arith) (omega arith) (omega arith) refl
numbered Syntax = told Syntax 11 refl (omega arith) (omega arith) (omega arith) refl
numbered NumberOutOfRange = told NumberOutOfRange 12 refl (omega arith) (omega arith) (omega arith) refl
numbered TextTooLong = told TextTooLong 13 refl (omega arith) (omega arith) (omega arith) refl
numbered NoSuchTable = told NoSuchTable 20 refl (omega arith) (omega arith) (omega arith) refl
numbered NoSuchColumn = told NoSuchColumn 21 refl (omega arith) (omega arith) (omega arith) refl
numbered NoSuchIndex = told NoSuchIndex 22 refl (omega arith) (omega arith) (omega arith) refl
numbered NoSuchStandingQuery = told NoSuchStandingQuery 23 refl (omega arith) (omega arith) (omega arith) refl
numbered NameTaken = told NameTaken 24 refl (omega arith) (omega arith) (omega arith) refl
numbered AliasTaken = told AliasTaken 25 refl (omega arith) (omega arith) (omega arith) refl
numbered NoSuchAlias = told NoSuchAlias 26 refl (omega arith) (omega arith) (omega arith) refl
numbered TypeMismatch = told TypeMismatch 30 refl (omega arith) (omega arith) (omega arith) refl
numbered WrongNumberOfValues = told WrongNumberOfValues 31 refl (omega arith) (omega arith) (omega arith) refl
numbered ArithmeticOutOfRange = told ArithmeticOutOfRange 32 refl (omega arith) (omega arith) (omega arith) refl
numbered DuplicateKey = told DuplicateKey 40 refl (omega arith) (omega arith) (omega arith) refl
numbered NoTargetRow = told NoTargetRow 41 refl (omega arith) (omega arith) (omega arith) refl
numbered RowIsReferenced = told RowIsReferenced 42 refl (omega arith) (omega arith) (omega arith) refl
numbered InUse = told InUse 43 refl (omega arith) (omega arith) (omega arith) refl
numbered TableFull = told TableFull 45 refl (omega arith) (omega arith) (omega arith) refl
numbered ResultTooLarge = told ResultTooLarge 46 refl (omega arith) (omega arith) (omega arith) refl
numbered StandingListTooLarge = told StandingListTooLarge 47 refl (omega arith) (omega arith) (omega arith) refl
numbered TooMany = told TooMany 48 refl (omega arith) (omega arith) (omega arith) refl
numbered TransactionOpen = told TransactionOpen 50 refl (omega arith) (omega arith) (omega arith) refl
numbered NoTransaction = told NoTransaction 51 refl (omega arith) (omega arith) (omega arith) refl
numbered NotInTransaction = told NotInTransaction 52 refl (omega arith) (omega arith) (omega arith) refl
numbered NoSuchSavepoint = told NoSuchSavepoint 53 refl (omega arith) (omega arith) (omega arith) refl
numbered Memory = told Memory 90 refl (omega arith) (omega arith) (omega arith) refl

pub returns-clause-line_feed : goal.returns-clause-line_feed
returns-clause-line_feed c = ends

pub returns-clause-refusals : goal.returns-clause-refusals
returns-clause-refusals c = numbered

pub returns-clause-only_refusals : goal.returns-clause-only_refusals
returns-clause-only_refusals c = only_refusals

or_plans : (reply : Reply) (rest : List ℕ) → reply_text reply ≡ codes "error " ++ rest
    → ((refusal : Refusal) × (reply ≡ Refused refusal)) ⊎ ((steps : List PlanLine) × (reply ≡ Steps steps))
or_plans Done rest e = absurd (not_e 111 (ap (λ l. get_or l 0 0) e) (omega arith))
or_plans (Count n) rest e = absurd (not_e 111 (ap (λ l. get_or l 0 0) e) (omega arith))
or_plans (Rows []) rest e = absurd (not_e 114 (ap (λ l. get_or l 0 0) e) (omega arith))
or_plans (Rows (row ∷ rows)) rest e = absurd (not_e 40 (ap (λ l. get_or l 0 0) e) (omega arith))
or_plans (Steps steps) rest e = inr (steps, refl)
or_plans (Listing listing) rest e = absurd (listing_is_no_refusal listing.tables listing.standing rest e)
or_plans (Refused refusal) rest e = inl (refusal, refl)

pub returns-clause-or_plans : goal.returns-clause-or_plans
returns-clause-or_plans c = or_plans
