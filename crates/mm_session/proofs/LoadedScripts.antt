-- Scripts that are executed line by line.
use Rattle.std.proofs.Common.{◌≡◌, ◌+◌, ◌<◌, ◌≤◌, ℕ, zero, suc, List, [], ◌∷◌, ◌++◌, Option, Some, None, Result, Ok, Err, length, map, take}
use Rattle.std.proofs.Common.{refl, sym, ap, subst}
use Rattle.std.proofs.Common.{◌∙◌, append_assoc, arith, length-append}
use Rattle.std.specs.Prelude.{slice_get}
use Rattle.std.proofs.lemmas.List.{append-nil}
use Rattle.mm_value.specs.declared.refusal.Refusal.{Refusal}
use Rattle.mm_query.specs.declared.reply.Reply.{Reply}
use Rattle.mm_query.specs.declared.reply.Reply.TheVariants as reply
use Rattle.mm_lang.specs.Lines.{lines_of}
use Rattle.mm_lang.proofs.Pieces.{lines_of-nil}
use Rattle.mm_session.specs.Calls.{LeadTo}
use Rattle.mm_session.specs.Calls.SessionCall.{Execute}
use Rattle.mm_session.specs.Loading.{ExecutesAll, Loads, StopsAt, lines_tried, refusal_in}
use Rattle.mm_session.specs.Session.{AnswersLine, SessionState, changes_after}
use Rattle.mm_session.specs.declared.loading.LoadError.{LoadError}
use Rattle.mm_session.proofs.CallStates.{refused_line_stays}

-- The first lines of a script were executed, and the others are those of the rest.
pub record Loaded (script rest : List ℕ) (count : ℕ) (old now : SessionState) : Type 0 where
  pub executed : List (List ℕ)
  pub count_is : count ≡ length executed
  pub lines : lines_of script ≡ executed ++ lines_of rest
  pub executes : ExecutesAll executed old now
  pub fewer : count + length rest ≤ length script

pub loaded_none : (script : List ℕ) (session : SessionState) → Loaded script script 0 session session
loaded_none script session = record { executed = []; count_is = refl; lines = refl; executes = refl; fewer = omega arith }

-- One more line was executed.
executes_more : (lines : List (List ℕ)) (line : List ℕ) (old now new : SessionState) → ExecutesAll lines old now → AnswersLine line now new
    → refusal_in new.reply ≡ None → ExecutesAll (lines ++ line ∷ []) old new
executes_more [] line old now new is answers unrefused =
    (new, subst (λ (before : SessionState). AnswersLine line before new) is answers, unrefused, refl)
executes_more (first ∷ lines) line old now new h answers unrefused =
    (h.0, h.1, h.2, executes_more lines line h.0 now new h.3 answers unrefused)

module _ (script rest behind line : List ℕ) (count : ℕ) (old now new : SessionState) (loaded : Loaded script rest count old now)
    (next : lines_of rest ≡ line ∷ lines_of behind) (answers : AnswersLine line now new) where
  next_line : lines_of script ≡ loaded.executed ++ line ∷ lines_of behind
  next_line = loaded.lines ∙ ap (λ ls. loaded.executed ++ ls) next

  pub loaded_more : refusal_in new.reply ≡ None → length behind < length rest → Loaded script behind (count + 1) old new
  loaded_more unrefused shorter = record {
    executed = loaded.executed ++ line ∷ [];
    count_is = ap (λ n. n + 1) loaded.count_is ∙ sym (length-append loaded.executed (line ∷ []));
    lines = next_line ∙ sym (append_assoc loaded.executed (line ∷ []) (lines_of behind));
    executes = executes_more loaded.executed line old now new loaded.executes answers unrefused;
    fewer = let before = loaded.fewer in omega (arith, before, shorter);
  }

  refused_reply : (given : Option Reply) (refusal : Refusal) → refusal_in given ≡ Some refusal → given ≡ Some (reply.Refused refusal)
  refused_reply None refusal is = absurd (cc)
  refused_reply (Some reply.Done) refusal is = absurd (cc)
  refused_reply (Some (reply.Count rows)) refusal is = absurd (cc)
  refused_reply (Some (reply.Rows rows)) refusal is = absurd (cc)
  refused_reply (Some (reply.Steps steps)) refusal is = absurd (cc)
  refused_reply (Some (reply.Listing listing)) refusal is = absurd (cc)
  refused_reply (Some (reply.Refused other)) refusal is = let same : other ≡ refusal = cc in ap (λ r. Some (reply.Refused r)) same

  first_lines : (executed others : List (List ℕ)) → take (length executed) (executed ++ others) ≡ executed
  first_lines [] others = refl
  first_lines (first ∷ executed) others = ap (λ ls. first ∷ ls) (first_lines executed others)

  line_behind : (executed others : List (List ℕ)) → slice_get (executed ++ line ∷ others) (length executed) ≡ Some line
  line_behind [] others = refl
  line_behind (first ∷ executed) others = line_behind executed others

  pub stopped : (refusal : Refusal) → refusal_in new.reply ≡ Some refusal
      → Loads script old new (Err (record { lines = count; refusal = refusal }))
  stopped refusal is =
      let replied = refused_reply new.reply refusal is in
      record {
        before = now;
        executes = subst (λ ls. ExecutesAll ls old now)
            (sym (ap (take count) next_line ∙ ap (λ n. take n (loaded.executed ++ line ∷ lines_of behind)) loaded.count_is
            ∙ first_lines loaded.executed (line ∷ lines_of behind))) loaded.executes;
        line = line;
        next = ap (λ ls. slice_get ls count) next_line ∙ ap (slice_get (loaded.executed ++ line ∷ lines_of behind)) loaded.count_is
            ∙ line_behind loaded.executed (lines_of behind);
        answers = answers;
        refused = λ i. record {
          state = refused_line_stays line now new refusal answers replied i;
          lines = answers.lines i;
          reply = replied i;
          changes = (answers.changes ∙ ap (λ r. changes_after r now.changes) replied) i;
        };
      }

-- All lines were executed.
pub loaded_all : (script rest : List ℕ) (count : ℕ) (old now : SessionState) → Loaded script rest count old now → rest ≡ []
    → Loads script old now (Ok count)
loaded_all script rest count old now loaded none =
    let lines : lines_of script ≡ loaded.executed =
    loaded.lines ∙ ap (λ r. loaded.executed ++ lines_of r) none ∙ ap (λ ls. loaded.executed ++ ls) lines_of-nil ∙ append-nil loaded.executed in
    (loaded.count_is ∙ sym (ap length lines), subst (λ ls. ExecutesAll ls old now) (sym lines) loaded.executes)

-- ---- a load is an execution of each line

executed_lead : (lines later : List (List ℕ)) (old between new : SessionState) → ExecutesAll lines old between
    → LeadTo (map Execute later) between new → LeadTo (map Execute (lines ++ later)) old new
executed_lead [] later old between new is leads = subst (λ (session : SessionState). LeadTo (map Execute later) session new) is leads
executed_lead (line ∷ lines) later old between new h leads = (h.0, h.1, executed_lead lines later h.0 between new h.3 leads)

-- The first lines and the next one are one line more.
with_next : (lines : List (List ℕ)) (count : ℕ) (line : List ℕ) → slice_get lines count ≡ Some line
    → take (suc count) lines ≡ take count lines ++ line ∷ []
with_next [] count line is = absurd (cc)
with_next (first ∷ lines) zero line is = let same : first ≡ line = cc in ap (λ l. l ∷ []) same
with_next (first ∷ lines) (suc count) line is = ap (λ ls. first ∷ ls) (with_next lines count line is)

one_more_line : (lines : List (List ℕ)) (count : ℕ) (line : List ℕ) → slice_get lines count ≡ Some line
    → take (count + 1) lines ≡ take count lines ++ line ∷ []
one_more_line lines count line is =
    let one_more : count + 1 ≡ suc count = omega arith in ap (λ n. take n lines) one_more ∙ with_next lines count line is

pub load_leads : (script : List ℕ) (old new : SessionState) (result : Result ℕ LoadError) → Loads script old new result
    → LeadTo (map Execute (lines_tried script result)) old new
load_leads script old new (Ok count) h =
    subst (λ ls. LeadTo (map Execute ls) old new) (append-nil (lines_of script)) (executed_lead (lines_of script) [] old new new h.1 refl)
load_leads script old new (Err error) h =
    subst (λ ls. LeadTo (map Execute ls) old new) (sym (one_more_line (lines_of script) error.lines h.line h.next))
    (executed_lead (take error.lines (lines_of script)) (h.line ∷ []) old h.before new h.executes (new, h.answers, refl))
