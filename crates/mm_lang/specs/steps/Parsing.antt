-- The results of the steps of parsing a command.
use Rattle.std.specs.Prelude.{◌≡◌, ◌≢◌, ◌⊎◌, ℕ, ◌<◌, ◌≤◌, Bool, true, false, List, [], ◌∷◌, ◌++◌, length, ℤ, Option, Some, None, Result, Ok, Err, MatchOption}
use Rattle.std.specs.Prelude.{MatchResult, IsTrue, if◌then◌else◌}
use Rattle.std.specs.Option.{option_map_or, option_or}
use Rattle.mm_value.specs.declared.refusal.Refusal.{Refusal}
use Rattle.mm_value.specs.declared.refusal.Refusal.TheVariants.{Syntax, NumberOutOfRange, TextTooLong, Memory}
use Rattle.mm_value.specs.declared.values.Value.{Value}
use Rattle.mm_value.specs.declared.values.Value.TheVariants.{Int}
use Rattle.mm_query.specs.declared.command.Command.{Command}
use Rattle.mm_lang.specs.declared.read.keyword.Keyword.{Keyword}
use Rattle.mm_lang.specs.declared.read.keyword.Keyword.TheVariants as keyword
use Rattle.mm_lang.specs.declared.read.reader.Reader.{Reader}
use Rattle.mm_lang.specs.declared.read.token.Symbol.{Symbol}
use Rattle.mm_lang.specs.Phrases.{Phrase, one}
use Rattle.mm_lang.specs.Reading.{first_fault, reading_takes_memory}
use Rattle.mm_lang.specs.Tokens.{Token, Word, Signed, Mark, Hole, is_hole, tokens}
use Rattle.mm_lang.specs.Words.{keyword_named}

-- The result is the expected one, or Memory.
abbrev pub AnswersOrMemory : {T : Type 0} → Result T Refusal → Result T Refusal → Type 0
AnswersOrMemory due (Ok x) = due ≡ Ok x
AnswersOrMemory due (Err refusal) = (due ≡ Err refusal) ⊎ (refusal ≡ Memory)

-- The result is the expected reading, or Memory if that may fail so.
abbrev pub AnswersReading : Result Command Refusal → Result Command Refusal → Type 0
AnswersReading due (Ok command) = due ≡ Ok command
AnswersReading due (Err refusal) = (due ≡ Err refusal) ⊎ ((refusal ≡ Memory) × IsTrue (reading_takes_memory due))

-- The keyword is BEGIN, COMMIT or ROLLBACK, after which nothing is read that allocates.
abbrev pub is_control_keyword : Keyword → Bool
is_control_keyword keyword.Begin = true
is_control_keyword keyword.Commit = true
is_control_keyword keyword.Rollback = true
is_control_keyword _ = false

-- The keyword begins a change of the catalog.
abbrev pub is_definition_keyword : Keyword → Bool
is_definition_keyword keyword.Drop = true
is_definition_keyword keyword.Index = true
is_definition_keyword keyword.Table = true
is_definition_keyword keyword.Unwatch = true
is_definition_keyword keyword.Watch = true
is_definition_keyword _ = false

-- The tokens begin with the keyword of a change of the catalog.
abbrev pub begins_definition : List Token → Bool
begins_definition (Word word ∷ ts) = option_map_or is_definition_keyword (keyword_named word) false
begins_definition ts = false

-- A hole, which has no value.
abbrev pub the_hole : Phrase (Unit {0})
the_hole = one (λ t. if is_hole t then Some tt else None)

-- The tokens do not begin with a hole.
abbrev pub BeginsNoHole : List Token → Type 0
BeginsNoHole (Hole ∷ ts) = ⊥
BeginsNoHole ts = Unit {0}

-- The tokens do not begin with a word.
abbrev pub BeginsNoWord : List Token → Type 0
BeginsNoWord (Word word ∷ ts) = ⊥
BeginsNoWord ts = Unit {0}

-- The tokens do not begin with this symbol.
abbrev pub BeginsNot : Symbol → List Token → Type 0
BeginsNot symbol (Mark other ∷ ts) = other ≢ symbol
BeginsNot symbol ts = Unit {0}

-- The tokens do not begin with a word after a minus.
abbrev pub BeginsNotSigned : List Token → Type 0
BeginsNotSigned (Signed word ∷ ts) = ⊥
BeginsNotSigned ts = Unit {0}

-- The tokens do not begin with a symbol.
abbrev pub BeginsNoMark : List Token → Type 0
BeginsNoMark (Mark symbol ∷ ts) = ⊥
BeginsNoMark ts = Unit {0}

-- The first token of the bytes is `first`, and `rest` are fewer bytes with the remaining tokens.
pub record Follows (bytes : List ℕ) (first : Token) (rest : List ℕ) : Type 0 where
  pub in_front : tokens bytes ≡ first ∷ tokens rest
  pub shorter : length rest < length bytes

-- A value without literals.
abbrev pub no_literals : {A : Type 0} → A → List Value
no_literals x = []

-- A literal as its own list of literals.
abbrev pub only_literal : Value → List Value
only_literal v = v ∷ []

-- The number of a shift, if any.
abbrev pub shift_literals : Option ℤ → List Value
shift_literals None = []
shift_literals (Some z) = Int z ∷ []

-- The refusal is one of literals past their limits.
abbrev pub is_limit : Refusal → Bool
is_limit NumberOutOfRange = true
is_limit TextTooLong = true
is_limit _ = false

-- A phrase was read. Its value in the line is `said`, whose literals may be past their limits: the fault is the earlier one, or else that
-- of the first such literal. If there is no such literal, the value that was read is `said`.
pub record Gives {A : Type 0} (phrase : Phrase A) (literals : A → List Value) (old new : Reader) (x : A) : Type 0 where
  pub said : A
  pub read : phrase (tokens old.rest) ≡ Some (said, tokens new.rest)
  pub fault : new.fault ≡ option_or old.fault (first_fault (literals said))
  pub same : first_fault (literals said) ≡ None → x ≡ said
  pub shorter : length new.rest ≤ length old.rest

-- The tokens do not begin with the phrase.
abbrev pub IsMissing : {A : Type 0} → Phrase A → Reader → Refusal → Type 0
IsMissing phrase old e = (e ≡ Syntax) × (phrase (tokens old.rest) ≡ None)

-- The tokens do not begin with the phrase, or an allocation failed.
abbrev pub Fails : {A : Type 0} → Phrase A → Reader → Refusal → Type 0
Fails phrase old e = IsMissing phrase old e ⊎ (e ≡ Memory)

-- The result of reading a phrase.
abbrev pub ReadsPhrase : {A : Type 0} → Phrase A → (A → List Value) → Reader → Reader → Result A Refusal → Type 0
ReadsPhrase phrase literals old new result = MatchResult result (Gives phrase literals old new) (Fails phrase old)

-- The result of reading a phrase that allocates nothing.
abbrev pub ReadsWithoutMemory : {A : Type 0} → Phrase A → (A → List Value) → Reader → Reader → Result A Refusal → Type 0
ReadsWithoutMemory phrase literals old new result = MatchResult result (Gives phrase literals old new) (IsMissing phrase old)

-- A phrase without a value was read, or the tokens do not begin with it and nothing was read.
abbrev pub Skips : Phrase (Unit {0}) → Reader → Reader → Bool → Type 0
Skips phrase old new true = Gives phrase no_literals old new tt × (length new.rest < length old.rest)
Skips phrase old new false = (phrase (tokens old.rest) ≡ None) × (new ≡ old)

-- A phrase was read, or the tokens do not begin with it and nothing was read, or an allocation failed.
abbrev pub Finds : {A : Type 0} → Phrase A → (A → List Value) → Reader → Reader → Result (Option A) Refusal → Type 0
Finds phrase literals old new result =
    MatchResult result (λ found. MatchOption found ((phrase (tokens old.rest) ≡ None) × (new ≡ old)) (Gives phrase literals old new)) (λ e. e ≡ Memory)

-- Items were read and appended.
pub record GivesItems {A : Type 0} (phrase : Phrase (List A)) (literals : List A → List Value) (old new : Reader) (before after : List A) : Type 0 where
  pub items : List A
  pub joined : after ≡ before ++ items
  pub given : Gives phrase literals old new items

-- The result of reading the items of a list.
abbrev pub ReadsItems : {A : Type 0} → Phrase (List A) → (List A → List Value) → Reader → Reader → List A → List A → Result (Unit {0}) Refusal → Type 0
ReadsItems phrase literals old new before after result =
    MatchResult result (λ u. GivesItems phrase literals old new before after) (Fails phrase old)

-- The line was read to its end, and the first fault is the result.
abbrev pub Finishes : Reader → Result (Unit {0}) Refusal → Type 0
Finishes reader (Ok u) = (tokens reader.rest ≡ []) × (reader.fault ≡ None)
Finishes reader (Err e) = ((e ≡ Syntax) × (tokens reader.rest ≢ [])) ⊎ ((tokens reader.rest ≡ []) × (reader.fault ≡ Some e))

-- A phrase leaves at most as many tokens as there were.
abbrev pub NeverLonger : {A : Type 0} → Phrase A → Type 0
NeverLonger {A} phrase = (ts : List Token) (x : A) (us : List Token) → phrase ts ≡ Some (x, us) → length us ≤ length ts
