-- A whole line as a command, and lines by their content.
use Rattle.std.proofs.Common.{◌≡◌, ◌≢◌, ◌<◌, ◌≤◌, inl, inr, ⊎_elim, ℕ, Bool, true, false, cond, ltb, List, [], ◌∷◌, Option, Some, None, Result, Ok, Err, length}
use Rattle.std.proofs.Common.{refl, sym, ap, subst, ◌∙◌}
use Rattle.std.specs.Option.{option_and_then, option_or}
use Rattle.std.proofs.lemmas.Bool.{cases_Bool, cond-true, cond-false, false≢true, lt-ltb, le-ltb}
use Rattle.mm_value.specs.declared.refusal.Refusal.{Refusal}
use Rattle.mm_value.specs.declared.refusal.Refusal.TheVariants.{LineTooLong, Syntax, Memory}
use Rattle.mm_value.specs.declared.values.Value.{Value}
use Rattle.mm_value.specs.declared.values.Value.TheVariants.{Int, Text}
use Rattle.mm_value.specs.Literal.{is_within_limit}
use Rattle.mm_query.specs.Transactions.{is_done_without_memory}
use Rattle.mm_query.specs.declared.command.Command.{Command}
use Rattle.mm_query.specs.declared.command.Command.TheVariants.{Nothing, Define, Change, Scan, ScanIndex, Select, Explain, Show, Tables, Begin, Commit}
use Rattle.mm_query.specs.declared.command.Command.TheVariants.{Rollback, Savepoint, RollbackTo}
use Rattle.mm_lang.specs.declared.read.keyword.Keyword.{Keyword}
use Rattle.mm_lang.specs.declared.read.keyword.Keyword.TheVariants as keyword
use Rattle.mm_lang.specs.declared.read.reader.Reader.{Reader}
use Rattle.mm_lang.specs.Grammar.{command_behind, command_of}
use Rattle.mm_lang.specs.Phrases.{Phrase, ◌>>=◌, one_word, alone}
use Rattle.mm_lang.specs.Reading.{Reads, command_takes_memory, first_fault, is_nothing, literal_fault, literals_of, past_limit, plain_command, read_as}
use Rattle.mm_lang.specs.Reading.{reading, reading_takes_memory, takes_memory, unless}
use Rattle.mm_lang.specs.Spelling.{word}
use Rattle.mm_lang.specs.Tokens.{Token, Word, has_hole, tokens}
use Rattle.mm_lang.specs.Words.{keyword_named}
use Rattle.mm_lang.specs.steps.Parsing.{AnswersReading, Fails, Finishes, Gives, IsMissing, is_control_keyword, no_literals}
use Rattle.mm_lang.specs.steps.Parts.{Front, said_same}
use Rattle.mm_lang.proofs.Readings.{took}
use Rattle.mm_lang.proofs.SpelledCommands.{command_read}

-- the lines that allocate nothing, and the others

pub reads_long : (line : List ℕ) → 4096 < length line → reading line ≡ Err LineTooLong
unfolding reading
reads_long line long = cond-true (ltb 4096 (length line)) _ _ (lt-ltb 4096 (length line) long)

pub reads_nothing : (line : List ℕ) → length line ≤ 4096 → is_nothing line ≡ true → reading line ≡ Ok Nothing
unfolding reading
reads_nothing line short nothing = cond-false (ltb 4096 (length line)) _ _ (le-ltb 4096 (length line) short) ∙ cond-true (is_nothing line) _ _ nothing

reads_tokens : (line : List ℕ) → length line ≤ 4096 → is_nothing line ≡ false → reading line ≡ read_as (plain_command (tokens line))
unfolding reading
reads_tokens line short some = cond-false (ltb 4096 (length line)) _ _ (le-ltb 4096 (length line) short) ∙ cond-false (is_nothing line) _ _ some

reads_hole : (line : List ℕ) → length line ≤ 4096 → is_nothing line ≡ false → has_hole (tokens line) ≡ true → reading line ≡ Err Syntax
reads_hole line short some holed = reads_tokens line short some ∙ ap read_as (cond-true (has_hole (tokens line)) _ _ holed)

reads_command : (line : List ℕ) → length line ≤ 4096 → is_nothing line ≡ false → has_hole (tokens line) ≡ false
    → reading line ≡ read_as (command_of (tokens line))
reads_command line short some plain = reads_tokens line short some ∙ ap read_as (cond-false (has_hole (tokens line)) _ _ plain)

-- a literal past its limit does not make a line too long
literal_takes : (command : Command) (v : Value) (others : Option Refusal) → reading_takes_memory (unless command others) ≡ true
    → reading_takes_memory (unless command (option_or (literal_fault v) others)) ≡ true
literal_takes command v others takes = by_limit (is_within_limit v)
  where
    past : (w : Value) → reading_takes_memory (Err (past_limit w)) ≡ true
    past (Int z) = refl
    past (Text text) = refl

    by_limit : (fits : Bool) → reading_takes_memory (unless command (option_or (cond fits None (Some (past_limit v))) others)) ≡ true
    by_limit true = takes
    by_limit false = past v

limits_take : (command : Command) (literals : List Value) → command_takes_memory command ≡ true
    → reading_takes_memory (unless command (first_fault literals)) ≡ true
limits_take command [] takes = takes
limits_take command (v ∷ vs) takes = literal_takes command v (first_fault vs) (limits_take command vs takes)

-- the reading of tokens allocates, unless it begins or ends a transaction
tokens_take : (ts : List Token) (read : Option Command) → command_of ts ≡ read
    → ((c : Command) → read ≡ Some c → is_done_without_memory c ≡ false) → reading_takes_memory (read_as read) ≡ true
tokens_take ts None is free = refl
tokens_take ts (Some Nothing) is free = absurd (command_read ts Nothing is)
tokens_take ts (Some (Define definition)) is free = limits_take (Define definition) (literals_of (Define definition)) refl
tokens_take ts (Some (Change mutation)) is free = limits_take (Change mutation) (literals_of (Change mutation)) refl
tokens_take ts (Some (Scan table)) is free = limits_take (Scan table) (literals_of (Scan table)) refl
tokens_take ts (Some (ScanIndex index)) is free = limits_take (ScanIndex index) (literals_of (ScanIndex index)) refl
tokens_take ts (Some (Select query)) is free = limits_take (Select query) (literals_of (Select query)) refl
tokens_take ts (Some (Explain query)) is free = limits_take (Explain query) (literals_of (Explain query)) refl
tokens_take ts (Some (Show name)) is free = limits_take (Show name) (literals_of (Show name)) refl
tokens_take ts (Some Tables) is free = limits_take Tables (literals_of Tables) refl
tokens_take ts (Some Begin) is free = absurd (false≢true (sym (free Begin refl)))
tokens_take ts (Some Commit) is free = absurd (false≢true (sym (free Commit refl)))
tokens_take ts (Some Rollback) is free = absurd (false≢true (sym (free Rollback refl)))
tokens_take ts (Some (Savepoint name)) is free = limits_take (Savepoint name) (literals_of (Savepoint name)) refl
tokens_take ts (Some (RollbackTo name)) is free = absurd (false≢true (sym (free (RollbackTo name) refl)))

-- Any other line allocates, unless it begins or ends a transaction, ..
pub takes : (line : List ℕ) → length line ≤ 4096 → is_nothing line ≡ false
    → ((c : Command) → reading line ≡ Ok c → is_done_without_memory c ≡ false) → takes_memory line ≡ true
takes line short some free =
    ⊎_elim
    (λ holed. ap reading_takes_memory (reads_hole line short some holed))
    (λ plain. ap reading_takes_memory (reads_command line short some plain) ∙ tokens_take (tokens line) (command_of (tokens line)) refl (by plain))
    (cases_Bool (has_hole (tokens line)))
  where
    by : has_hole (tokens line) ≡ false → (c : Command) → command_of (tokens line) ≡ Some c → is_done_without_memory c ≡ false
    by plain Begin is = free Begin (reads_command line short some plain ∙ ap read_as is)
    by plain Commit is = free Commit (reads_command line short some plain ∙ ap read_as is)
    by plain Rollback is = free Rollback (reads_command line short some plain ∙ ap read_as is)
    by plain (RollbackTo name) is = free (RollbackTo name) (reads_command line short some plain ∙ ap read_as is)
    by plain _ is = refl

-- .. and such a line allocates nothing.
pub control_takes_none : (line : List ℕ) (c : Command) → reading line ≡ Ok c → is_done_without_memory c ≡ true → takes_memory line ≡ false
control_takes_none line c is control = ap reading_takes_memory is ∙ by c control
  where
    by : (c : Command) → is_done_without_memory c ≡ true → command_takes_memory c ≡ false
    by Begin control = refl
    by Commit control = refl
    by Rollback control = refl
    by (RollbackTo name) control = refl
    by _ control = absurd (false≢true control)

-- If the first word neither begins nor ends a transaction, the reading of the tokens allocates.
behind_takes : (ts us : List Token) (k : Keyword) → one_word keyword_named ts ≡ Some (k, us) → is_control_keyword k ≡ false
    → reading_takes_memory (read_as (command_of ts)) ≡ true
behind_takes ts us k first more = tokens_take ts (command_of ts) refl by
  where
    begins : (wanted : Keyword) (rest : List Token) → one_word keyword_named (word wanted ∷ rest) ≡ Some (wanted, rest) → ts ≡ word wanted ∷ rest
        → is_control_keyword wanted ≡ false
    begins wanted rest named spelled =
        let same : ◌≡◌ {A = Option (Front Keyword)} (Some (k, us)) (Some (wanted, rest)) = sym first ∙ ap (one_word keyword_named) spelled ∙ named in
        subst (λ w. is_control_keyword w ≡ false) (said_same k wanted us rest same).0 more

    by : (c : Command) → command_of ts ≡ Some c → is_done_without_memory c ≡ false
    by Begin is = begins keyword.Begin [] refl (command_read ts Begin is)
    by Commit is = begins keyword.Commit [] refl (command_read ts Commit is)
    by Rollback is = begins keyword.Rollback [] refl (command_read ts Rollback is)
    by (RollbackTo name) is = begins keyword.Rollback (word keyword.To ∷ Word name ∷ []) refl (command_read ts (RollbackTo name) is).1
    by _ is = refl

-- a command, and no tokens after it

abbrev command_phrase : Phrase Command
command_phrase = one_word keyword_named >>= command_behind

no_command : (old : Reader) (e : Refusal) → e ≡ Syntax → command_phrase (tokens old.rest) ≡ None
    → AnswersReading (read_as (command_of (tokens old.rest))) (Err e)
unfolding command_of
no_command old e syntax none = inl (ap (λ (o : Option (Front Command)). read_as (option_and_then (λ r. alone r.0 r.1) o)) none ∙ ap Err (sym syntax))

pub no_keyword : (old : Reader) (e : Refusal) → IsMissing (one_word keyword_named) old e → AnswersReading (read_as (command_of (tokens old.rest))) (Err e)
no_keyword old e h = no_command old e h.0 (ap (option_and_then (λ (r : Front Keyword). command_behind r.0 r.1)) h.1)

pub nothing_behind : (old mid : Reader) (k : Keyword) (e : Refusal) → Gives (one_word keyword_named) no_literals old mid k
    → Fails (command_behind k) mid e → (e ≡ Memory → is_control_keyword k ≡ false) → AnswersReading (read_as (command_of (tokens old.rest))) (Err e)
nothing_behind old mid k e g (inl h) more =
    let t = took g in no_command old e h.0 (ap (option_and_then (λ (r : Front Keyword). command_behind r.0 r.1)) t.is ∙ h.1)
nothing_behind old mid k e g (inr h) more =
    let t = took g in inr (h, behind_takes (tokens old.rest) (tokens mid.rest) k t.is (more h))

alone_some : (c : Command) (ts : List Token) → ts ≢ [] → alone c ts ≡ None
alone_some c [] h = absurd (h refl)
alone_some c (t ∷ ts) h = refl

module _ (old mid new : Reader) (k : Keyword) (c : Command) (fresh : old.fault ≡ None) (g : Gives (one_word keyword_named) no_literals old mid k)
    (h : Gives (command_behind k) literals_of mid new c) where
  whole_is : command_of (tokens old.rest) ≡ alone h.said (tokens new.rest)
  unfolding command_of
  whole_is =
      let t = took g in
      ap (λ (o : Option (Front Keyword)). option_and_then (λ (r : Front Command). alone r.0 r.1)
      (option_and_then (λ (r : Front Keyword). command_behind r.0 r.1) o)) t.is
      ∙ ap (option_and_then (λ (r : Front Command). alone r.0 r.1)) h.read

  fault_is : new.fault ≡ first_fault (literals_of h.said)
  fault_is = let t = took g in h.fault ∙ ap (λ f. option_or f (first_fault (literals_of h.said))) (t.fault ∙ fresh)

  pub unfinished : (e : Refusal) → Finishes new (Err e) → AnswersReading (read_as (command_of (tokens old.rest))) (Err e)
  unfinished e (inl f) = inl (ap read_as (whole_is ∙ alone_some h.said (tokens new.rest) f.1) ∙ ap Err (sym f.0))
  unfinished e (inr f) = inl (ap read_as (whole_is ∙ ap (alone h.said) f.0) ∙ ap (unless h.said) (sym fault_is ∙ f.1))

  pub finished : Finishes new (Ok tt) → read_as (command_of (tokens old.rest)) ≡ Ok c
  finished f =
      let none : first_fault (literals_of h.said) ≡ None = sym fault_is ∙ f.1 in
      ap read_as (whole_is ∙ ap (alone h.said) f.0) ∙ ap (unless h.said) none ∙ ap Ok (sym (h.same none))

-- a line with a hole, ..
pub reads_no_command : (line : List ℕ) → length line ≤ 4096 → is_nothing line ≡ false → has_hole (tokens line) ≡ true → Reads line (Err Syntax)
reads_no_command line short some holed = inl (reads_hole line short some holed)

-- .. and one without
pub reads : (line : List ℕ) (r : Result Command Refusal) → length line ≤ 4096 → is_nothing line ≡ false → has_hole (tokens line) ≡ false
    → AnswersReading (read_as (command_of (tokens line))) r → Reads line r
reads line (Ok command) short some plain h = reads_command line short some plain ∙ h
reads line (Err e) short some plain (inl h) = inl (reads_command line short some plain ∙ h)
reads line (Err e) short some plain (inr h) = inr (h.0, ap reading_takes_memory (reads_command line short some plain) ∙ h.1)
