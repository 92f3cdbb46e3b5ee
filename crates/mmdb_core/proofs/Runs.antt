-- How a run advances, line by line.
use Rattle.std.proofs.Common.{◌≡◌, ℕ, ◌+◌, ◌-◌, ◌^◌, ◌<◌, ◌≤◌, ◌↔◌, ⊎_elim, Bool, true, false, Option, Some, None, List, [], ◌∷◌, ◌++◌, length, take, Result}
use Rattle.std.proofs.Common.{Ok, Err, refl, sym, ap, subst, ◌∙◌, arith, append_assoc, add-zero, add_assoc, zero-add, length-append}
use Rattle.std.proofs.KnownBytes.{Appends-nil, Appends-trans, Consumes-nil, Consumes-trans}
use Rattle.std.proofs.Math.Seq.{take-nil}
use Rattle.std.proofs.lemmas.List.{append-nil, take_all}
use Rattle.std.specs.Prelude.{IsErrOf, if◌then◌else◌}
use Rattle.std.specs.Io.KnownBytes.{Appends, Consumes}
use mir.Val.{bool_byte}
use Rattle.mm_lang.specs.Lines.{lines_of, whole_lines_of, without_return, HasNoFeed}
use Rattle.mm_lang.proofs.Pieces.{lines_of-last, lines_of-line, lines_of-nil, whole_lines_of-line, whole_lines_of-rest}
use Rattle.mm_value.proofs.Writing.{AppendsPrefix-first, AppendsPrefix-second}
use Rattle.mm_value.specs.Device.{AppendsPrefix}
use Rattle.mm_value.specs.Watched.{inner_of, has_failed}
use Rattle.mm_value.specs.declared.device.Watched.{Watched}
use Rattle.mm_query.specs.State.{State, first_state}
use Rattle.mmdb_core.specs.steps.Input.{Advances, IsLine, KnowsEnd, StopsInLine, bytes_to_come}
use Rattle.mmdb_core.specs.steps.Respond.{GoesOn, PassesReplied, WritesNothing}
use Rattle.mm_lang.specs.Answering.{answer}
use Rattle.mmdb_core.specs.Run.{Answers, AnswersFront, AnswersLines, BrokeOff, ReachedEnd, TakesWithin, Transcript, transcript}
use Rattle.mm_lang.specs.ReplyText.{text_of}
use Rattle.mm_reply.specs.Writing.{is_error}
use Rattle.mmdb_core.specs.declared.run_error.RunError.{RunError}
use Rattle.mmdb_core.specs.declared.run_error.RunError.TheVariants.{Read, Write, TooLong}
use Rattle.mmdb_core.specs.declared.input.Input.{Input}
use Rattle.mmdb_core.specs.declared.limits.Totals.{Totals}
use Rattle.mm_reply.proofs.Flushed.{appends_keeps}
use Rattle.mmdb_core.proofs.FeedLemmas.{is_false}
use Rattle.mmdb_core.proofs.Inputs.{Advances-nearer, take-append}

-- one `error` more, or none
abbrev pub one_if : Bool → ℕ
one_if is_refused = if is_refused then 1 else 0

-- The machine's run over the lines executed: whatever lines follow, their run continues after this text from this state.
pub record Transcribed (answered : List (List ℕ)) (state : State) (text : List ℕ) (refused : ℕ) : Type 0 where
  pub each : (rest : List Bool) (left : List (List ℕ)) → (choices : List Bool)
      × (transcript choices first_state (answered ++ left)
      ≡ record { text = text ++ (transcript rest state left).text; refused = refused + (transcript rest state left).refused })

transcribed_none : Transcribed [] first_state [] 0
transcribed_none = record {
  each = λ rest left. let run = transcript rest first_state left in
      (rest, ap (λ n. record { text = run.text; refused = n }) (sym (zero-add run.refused)));
}

one_more : (written text more : List ℕ) (refused one others : ℕ)
    → ◌≡◌ {A = Transcript} (record { text = written ++ (text ++ more); refused = refused + (one + others) })
    (record { text = (written ++ text) ++ more; refused = (refused + one) + others })
one_more written text more refused one others =
    ap (λ t. record { text = t; refused = refused + (one + others) }) (sym (append_assoc written text more))
    ∙ ap (λ n. record { text = (written ++ text) ++ more; refused = n }) (sym (add_assoc refused one others))

transcribed_line : (answered : List (List ℕ)) (line : List ℕ) (state : State) (text : List ℕ) (refused : ℕ) (choice : Bool)
    → Transcribed answered state text refused
    → Transcribed (answered ++ line ∷ []) (answer choice line state).state (text ++ text_of (answer choice line state).reply)
    (refused + one_if (is_error (answer choice line state).reply))
unfolding transcript
transcribed_line answered line state text refused choice so_far = record {
  each = λ rest left. let run = so_far.each (choice ∷ rest) (line ∷ left) in
      let others = transcript rest (answer choice line state).state left in (
        run.0,
        ap (transcript run.0 first_state) (append_assoc answered (line ∷ []) left)
            ∙ (run.1
            ∙ one_more text (text_of (answer choice line state).reply) others.text refused (one_if (is_error (answer choice line state).reply)) others.refused),
      );
}

-- The bytes kept so far consist of the lines executed and the window. Whatever bytes follow, and none do if the input has ended, the lines
-- are those executed and then those of the window and the bytes after it.
pub record Cut (kept window : List ℕ) (is_ended : Bool) (answered : List (List ℕ)) : Type 0 where
  pub lines : (more : List ℕ) → (is_ended ≡ true → more ≡ []) → lines_of (kept ++ more) ≡ answered ++ lines_of (window ++ more)
  pub whole : is_ended ≡ false → (more : List ℕ) → whole_lines_of (kept ++ more) ≡ answered ++ whole_lines_of (window ++ more)

cut_first : (window : List ℕ) (is_ended : Bool) → window ≡ [] → Cut [] window is_ended []
cut_first window is_ended empty = record {
  lines = λ more _. ap (λ w. lines_of (w ++ more)) (sym empty);
  whole = λ _ more. ap (λ w. whole_lines_of (w ++ more)) (sym empty);
}

-- the first of some lines
first_line : (gone line : List ℕ) (after : Input) → IsLine gone line after → (more : List ℕ) → (after.is_ended ≡ true → more ≡ [])
    → lines_of (gone ++ (after.window.bytes ++ more)) ≡ without_return line ∷ lines_of (after.window.bytes ++ more)
first_line gone line after is_line more follows =
    let rest = after.window.bytes ++ more in
    ⊎_elim
    (λ (h : gone ≡ line ++ 10 ∷ []).
    ap (λ g. lines_of (g ++ rest)) h ∙ (ap lines_of (append_assoc line (10 ∷ []) rest) ∙ lines_of-line line rest is_line.no_feed))
    (λ (h : (gone ≡ line) × (0 < length line) × (after.window.bytes ≡ []) × (after.is_ended ≡ true)).
    let none : rest ≡ [] = ap (λ w. w ++ more) h.2 ∙ follows h.3 in
    ap (λ l. lines_of (gone ++ l)) none
    ∙ (ap lines_of (append-nil gone ∙ h.0)
    ∙ (lines_of-last line h.1 is_line.no_feed
    ∙ ap (λ ls. without_return line ∷ ls) (sym (ap lines_of none ∙ lines_of-nil)))))
    is_line.end

first_whole : (gone line : List ℕ) (after : Input) → IsLine gone line after → after.is_ended ≡ false → (more : List ℕ)
    → whole_lines_of (gone ++ (after.window.bytes ++ more)) ≡ without_return line ∷ whole_lines_of (after.window.bytes ++ more)
first_whole gone line after is_line going more =
    let rest = after.window.bytes ++ more in
    ⊎_elim
    (λ (h : gone ≡ line ++ 10 ∷ []).
    ap (λ g. whole_lines_of (g ++ rest)) h ∙ (ap whole_lines_of (append_assoc line (10 ∷ []) rest) ∙ whole_lines_of-line line rest is_line.no_feed))
    (λ (h : (gone ≡ line) × (0 < length line) × (after.window.bytes ≡ []) × (after.is_ended ≡ true)).
    absurd (let clash : true ≡ false = sym h.3 ∙ going in cc))
    is_line.end

-- an input that has not ended had not ended before
not_before : {R : Type 0} {remaining : R → Option (List ℕ)} {r s : Watched R} {a b : Input} {gone : List ℕ} → Advances remaining r s a b gone
    → b.is_ended ≡ false → a.is_ended ≡ false
not_before {a = a} h going = is_false a.is_ended (λ e. let clash : true ≡ false = sym ((h.ended e).1) ∙ going in cc)

shifted : (window given gone left more : List ℕ) → window ++ given ≡ gone ++ left → window ++ (given ++ more) ≡ gone ++ (left ++ more)
shifted window given gone left more e = sym (append_assoc window given more) ∙ (ap (λ l. l ++ more) e ∙ append_assoc gone left more)

module _ {R : Type 0} {remaining : R → Option (List ℕ)} {r s : Watched R} {a b : Input} {gone kept : List ℕ} {answered : List (List ℕ)}
    (cut : Cut kept a.window.bytes a.is_ended answered) (h : Advances remaining r s a b gone) where
  follows_given : (more : List ℕ) → (b.is_ended ≡ true → more ≡ []) → a.is_ended ≡ true → take (a.still - 1) h.given ++ more ≡ []
  follows_given more follows e =
      let p = h.ended e in
      ap (λ l. take (a.still - 1) l ++ more) p.0 ∙ (ap (λ l. l ++ more) (take-nil (a.still - 1)) ∙ follows p.1)

  -- one more line was executed
  cut_line : (line : List ℕ) → IsLine gone line b → Cut (kept ++ take (a.still - 1) h.given) b.window.bytes b.is_ended (answered ++ without_return line ∷ [])
  cut_line line is_line = record {
    lines = λ more follows.
        ap lines_of (append_assoc kept (take (a.still - 1) h.given) more)
        ∙ (cut.lines (take (a.still - 1) h.given ++ more) (follows_given more follows)
        ∙ (ap (λ l. answered ++ lines_of l) (shifted a.window.bytes (take (a.still - 1) h.given) gone b.window.bytes more h.kept)
        ∙ (ap (λ ls. answered ++ ls) (first_line gone line b is_line more follows)
        ∙ sym (append_assoc answered (without_return line ∷ []) (lines_of (b.window.bytes ++ more))))));
    whole = λ going more.
        ap whole_lines_of (append_assoc kept (take (a.still - 1) h.given) more)
        ∙ (cut.whole (not_before h going) (take (a.still - 1) h.given ++ more)
        ∙ (ap (λ l. answered ++ whole_lines_of l) (shifted a.window.bytes (take (a.still - 1) h.given) gone b.window.bytes more h.kept)
        ∙ (ap (λ ls. answered ++ ls) (first_whole gone line b is_line going more)
        ∙ sym (append_assoc answered (without_return line ∷ []) (whole_lines_of (b.window.bytes ++ more))))));
  }

  -- the input ended early, before the end of the next line
  cut_stop : HasNoFeed (gone ++ b.window.bytes) → b.is_ended ≡ false → whole_lines_of (kept ++ take (a.still - 1) h.given) ≡ answered
  cut_stop no_feed going =
      cut.whole (not_before h going) (take (a.still - 1) h.given)
      ∙ (ap (λ l. answered ++ whole_lines_of l) h.kept
      ∙ (ap (λ ls. answered ++ ls) (whole_lines_of-rest (gone ++ b.window.bytes) no_feed) ∙ append-nil answered))

  -- nothing is left
  cut_end : gone ≡ [] → b.window.bytes ≡ [] → lines_of (kept ++ take (a.still - 1) h.given) ≡ answered
  cut_end none empty =
      cut.lines (take (a.still - 1) h.given) (λ e. ap (take (a.still - 1)) ((h.ended e).0) ∙ take-nil (a.still - 1))
      ∙ (ap (λ l. answered ++ lines_of l) (h.kept ∙ (ap (λ g. g ++ b.window.bytes) none ∙ empty))
      ∙ (ap (λ ls. answered ++ ls) lines_of-nil ∙ append-nil answered))

-- the run over no lines writes nothing
text_behind : (text : List ℕ) (state : State) → text ++ (transcript [] state []).text ≡ text
unfolding transcript
text_behind text state = append-nil text

refused_behind : (refused : ℕ) (state : State) → refused + (transcript [] state []).refused ≡ refused
unfolding transcript
refused_behind refused state = add-zero refused

-- The invariant of a run between lines.
pub record Running {R W : Type 0} (remaining : R → Option (List ℕ)) (contents : W → Option (List ℕ)) (limit : ℕ) (reader now : Watched R)
    (writer written : Watched W) (input : Input) (state : State) (totals : Totals) : Type 0 where
  pub given : List ℕ
  pub consumed : Consumes (remaining (inner_of reader)) (remaining (inner_of now)) given
  pub counted : length given + input.still ≡ limit + 1
  pub at_end : KnowsEnd remaining now input
  pub unfailed : has_failed written ≡ false
  pub bound : totals.lines + bytes_to_come input ≤ 2 ^ 40 + 1
  pub fewer : totals.refused ≤ totals.lines
  pub answered : List (List ℕ)
  pub count : totals.lines ≡ length answered
  pub cut : Cut (take limit given) input.window.bytes input.is_ended answered
  pub text : List ℕ
  pub appends : Appends (contents (inner_of writer)) (contents (inner_of written)) text
  pub transcribed : Transcribed answered state text totals.refused

-- a run begins
pub running_first : {R W : Type 0} (remaining : R → Option (List ℕ)) (contents : W → Option (List ℕ)) (limit : ℕ) (reader : Watched R) (writer : Watched W)
    (input : Input) (state : State) → has_failed writer ≡ false
    → input.window.bytes ≡ [] → input.still ≡ limit + 1 → input.still ≤ 2 ^ 40 + 1 → input.is_ended ≡ false → state ≡ first_state
    → Running remaining contents limit reader reader writer writer input state (record { lines = 0; refused = 0 })
running_first remaining contents limit reader writer input state unfailed empty still small going first = record {
  given = [];
  consumed = Consumes-nil (remaining (inner_of reader));
  counted = omega (arith, still);
  at_end = λ e. absurd (let clash : true ≡ false = sym e ∙ going in cc);
  unfailed = unfailed;
  bound = omega (arith, small, ap length empty);
  fewer = omega arith;
  answered = [];
  count = refl;
  cut = subst (λ kept. Cut kept input.window.bytes input.is_ended []) (sym (take-nil limit)) (cut_first input.window.bytes input.is_ended empty);
  text = [];
  appends = Appends-nil (contents (inner_of writer));
  transcribed = subst (λ s. Transcribed [] s [] 0) (sym first) transcribed_none;
}

one_if-le : (is_refused : Bool) → one_if is_refused ≤ 1
one_if-le true = omega arith
one_if-le false = omega arith

one_if_byte : (is_refused : Bool) → bool_byte is_refused ≡ one_if is_refused
one_if_byte true = refl
one_if_byte false = refl

-- a line has a byte, or its line feed
gone_some : (gone line : List ℕ) (after : Input) → IsLine gone line after → 0 < length gone
gone_some gone line after is_line =
    ⊎_elim
    (λ (h : gone ≡ line ++ 10 ∷ []). omega (arith, ap length h, length-append line (10 ∷ [])))
    (λ (h : (gone ≡ line) × (0 < length line) × (after.window.bytes ≡ []) × (after.is_ended ≡ true)). omega (arith, ap length h.0, h.1))
    is_line.end

pub passed_nearer : {R W E : Type 0} {remaining : R → Option (List ℕ)} {contents : W → Option (List ℕ)} {now later : Watched R} {input next : Input}
    {state after : State} {written more : Watched W} {result : Result Bool E}
    → PassesReplied remaining contents now later input next state after written more result → bytes_to_come next < bytes_to_come input
passed_nearer {next = next} h = omega (arith, Advances-nearer h.passes.advances, gone_some h.passes.gone h.line next h.passes.is_line)

kept_more : (limit still : ℕ) (given more : List ℕ) → length given + still ≡ limit + 1 → take limit (given ++ more) ≡ take limit given ++ take (still - 1) more
kept_more limit still given more counted =
    take-append limit given more ∙ ap (λ n. take limit given ++ take n more) (let e : limit - length given ≡ still - 1 = omega arith in e)

err_same : {T : Type 0} (a b : RunError) → ◌≡◌ {A = Result T RunError} (Err a) (Err b) → a ≡ b
err_same a b e = cc

module _ {R W : Type 0} {remaining : R → Option (List ℕ)} {contents : W → Option (List ℕ)} {limit : ℕ} {reader now : Watched R} {writer written : Watched W}
    {input : Input} {state : State} {totals : Totals} (so_far : Running remaining contents limit reader now writer written input state totals) where
  counted_more : {later : Watched R} {next : Input} {gone : List ℕ} (h : Advances remaining now later input next gone)
      → length (so_far.given ++ h.given) + next.still ≡ limit + 1
  counted_more h = omega (arith, length-append so_far.given h.given, h.counted, so_far.counted)

  consumed_more : {later : Watched R} {next : Input} {gone : List ℕ} (h : Advances remaining now later input next gone)
      → Consumes (remaining (inner_of reader)) (remaining (inner_of later)) (so_far.given ++ h.given)
  consumed_more {later} h =
      Consumes-trans (remaining (inner_of reader)) (remaining (inner_of now)) (remaining (inner_of later)) so_far.given h.given so_far.consumed h.consumed

  kept_all : {later : Watched R} {next : Input} {gone : List ℕ} (h : Advances remaining now later input next gone)
      → take limit (so_far.given ++ h.given) ≡ take limit so_far.given ++ take (input.still - 1) h.given
  kept_all h = kept_more limit input.still so_far.given h.given so_far.counted

  -- one more line was passed
  cut_more : {later : Watched R} {next : Input} (line : List ℕ) {gone : List ℕ} (h : Advances remaining now later input next gone) → IsLine gone line next
      → Cut (take limit (so_far.given ++ h.given)) next.window.bytes next.is_ended (so_far.answered ++ without_return line ∷ [])
  cut_more {next = next} line h is_line =
      subst (λ kept. Cut kept next.window.bytes next.is_ended (so_far.answered ++ without_return line ∷ [])) (sym (kept_all h))
      (cut_line so_far.cut h line is_line)

  -- the replies to the lines that had ended were written before the input ended early
  stopped : {later : Watched R} {next : Input} {more : Watched W} {fault : RunError} (h : StopsInLine remaining now later input next fault)
      → next.is_ended ≡ false → WritesNothing contents written more
      → AnswersLines (whole_lines_of (take limit (so_far.given ++ h.advances.given))) (contents (inner_of writer)) (contents (inner_of more))
  stopped {more = more} h going nothing =
      let run = so_far.transcribed.each [] [] in
      let lines : whole_lines_of (take limit (so_far.given ++ h.advances.given)) ≡ so_far.answered ++ [] =
      ap whole_lines_of (kept_all h.advances) ∙ (cut_stop so_far.cut h.advances h.no_feed going ∙ sym (append-nil so_far.answered)) in
      let text : (transcript run.0 first_state (so_far.answered ++ [])).text ≡ so_far.text = ap (λ (t : Transcript). t.text) run.1 ∙ text_behind so_far.text
      state in
      record {
        choices = run.0;
        written = subst (λ ls. Appends (contents (inner_of writer)) (contents (inner_of more)) (transcript run.0 first_state ls).text) (sym lines)
            (subst (Appends (contents (inner_of writer)) (contents (inner_of more))) (sym text)
            (appends_keeps (contents (inner_of writer)) (contents (inner_of written)) (contents (inner_of more)) so_far.text so_far.appends nothing.kept));
      }

  -- the writer failed in the reply to a line: a prefix of it was written after the others
  cut_off : {later : Watched R} {next : Input} {after : State} {more : Watched W} {E : Type 0} {e : E}
      (h : PassesReplied {E = E} remaining contents now later input next state after written more (Err e))
      → AnswersFront (lines_of (take limit (so_far.given ++ h.passes.advances.given))) (contents (inner_of writer)) (contents (inner_of more))
  cut_off {next = next} {more = more} h =
      let line = without_return h.line in
      let outcome = answer h.answers.choice line state in
      let kept = take limit (so_far.given ++ h.passes.advances.given) in
      let others = lines_of (next.window.bytes ++ []) in
      let run = (transcribed_line so_far.answered line state so_far.text totals.refused h.answers.choice so_far.transcribed).each [] others in
      let lines : lines_of kept ≡ (so_far.answered ++ line ∷ []) ++ others =
      ap lines_of (sym (append-nil kept)) ∙ (cut_more h.line h.passes.advances h.passes.is_line).lines [] (λ _. refl) in
      record {
        choices = run.0;
        written = subst (λ ls. AppendsPrefix (contents (inner_of writer)) (contents (inner_of more)) (transcript run.0 first_state ls).text) (sym lines)
            (subst (AppendsPrefix (contents (inner_of writer)) (contents (inner_of more))) (sym (ap (λ (t : Transcript). t.text) run.1))
            (AppendsPrefix-first (contents (inner_of writer)) (contents (inner_of more)) (so_far.text ++ text_of outcome.reply)
            (transcript [] outcome.state others).text
            (AppendsPrefix-second (contents (inner_of writer)) (contents (inner_of written)) (contents (inner_of more)) so_far.text
            (text_of outcome.reply) so_far.appends h.answers.reply.writes.written)));
      }

  -- a step of a run
  module _ (later : Watched R) (next : Input) (after : State) (more : Watched W) where
    -- a run continues after a line
    pub running_more : (byte : ℕ) (is_refused : Bool) → byte ≡ bool_byte is_refused
        → GoesOn remaining contents now later input next state after written more (Ok (Some is_refused))
        → Running remaining contents limit reader later writer more next after (record { lines = totals.lines + 1; refused = totals.refused + byte })
    running_more byte is_refused is h =
        let line = without_return h.line in
        let outcome = answer h.answers.choice line state in
        let replies = h.answers.reply in
        let advances = h.passes.advances in
        let one : byte ≡ one_if is_refused = is ∙ one_if_byte is_refused in
        let added : totals.refused + one_if (is_error outcome.reply) ≡ totals.refused + byte = ap (λ n. totals.refused + n)
        (sym (one ∙ ap one_if replies.refused)) in
        record {
          given = so_far.given ++ advances.given;
          consumed = consumed_more advances;
          counted = counted_more advances;
          at_end = advances.at_end so_far.at_end;
          unfailed = replies.writes.failed;
          bound = omega (arith, so_far.bound, passed_nearer h);
          fewer = omega (arith, so_far.fewer, one, one_if-le is_refused);
          answered = so_far.answered ++ line ∷ [];
          count = omega (arith, so_far.count, length-append so_far.answered (line ∷ []));
          cut = cut_more h.line advances h.passes.is_line;
          text = so_far.text ++ text_of outcome.reply;
          appends =
              Appends-trans (contents (inner_of writer)) (contents (inner_of written)) (contents (inner_of more)) so_far.text (text_of outcome.reply)
              so_far.appends replies.writes.written;
          transcribed =
              subst (λ s. Transcribed (so_far.answered ++ line ∷ []) s (so_far.text ++ text_of outcome.reply) (totals.refused + byte)) (sym h.answers.state)
              (subst (Transcribed (so_far.answered ++ line ∷ []) outcome.state (so_far.text ++ text_of outcome.reply)) added
              (transcribed_line so_far.answered line state so_far.text totals.refused h.answers.choice so_far.transcribed));
        }

    advanced : (fault : RunError) → GoesOn remaining contents now later input next state after written more (Err fault)
        → (gone : List ℕ) × Advances remaining now later input next gone
    advanced Read h = (h.0.gone, h.0.advances)
    advanced Write h = (h.passes.gone, h.passes.advances)
    advanced TooLong h = (h.0.gone, h.0.advances)

    -- a run ended early
    pub broke_off : (fault : RunError) → GoesOn remaining contents now later input next state after written more (Err fault)
        → BrokeOff remaining reader later limit (contents (inner_of writer)) (contents (inner_of more)) fault
    broke_off Read h = record {
      given = so_far.given ++ h.0.advances.given;
      consumed = consumed_more h.0.advances;
      within = omega (arith, counted_more h.0.advances);
      written = stopped h.0 h.0.why.0 h.1;
    }
    broke_off Write h = record {
      given = so_far.given ++ h.passes.advances.given;
      consumed = consumed_more h.passes.advances;
      within = omega (arith, counted_more h.passes.advances);
      written = cut_off h;
    }
    broke_off TooLong h = record {
      given = so_far.given ++ h.0.advances.given;
      consumed = consumed_more h.0.advances;
      within = omega (arith, counted_more h.0.advances);
      written = stopped h.0 h.0.why.0 h.1;
    }

    -- the bytes read when a run ended early
    too_long_iff : (fault : RunError) (taken : ℕ) → GoesOn remaining contents now later input next state after written more (Err fault)
        → taken + next.still ≡ limit + 1 → (fault ≡ TooLong) ↔ ((limit < taken) × (has_failed more ≡ false))
    too_long_iff Read taken h counted = (
      λ e. absurd (let clash : ◌≡◌ {A = RunError} Read TooLong = e in cc),
      λ over. absurd (omega (arith, h.0.why.2, over.0, counted)),
    )
    too_long_iff Write taken h counted = (
      λ e. absurd (let clash : ◌≡◌ {A = RunError} Write TooLong = e in cc),
      λ over. absurd (let clash : true ≡ false = sym h.answers.reply.writes.failed ∙ over.1 in cc),
    )
    too_long_iff TooLong taken h counted = (λ e. (omega (arith, h.0.why.1, counted), h.1.unfailed), λ over. refl)

    pub taken_at_fault : (result : Result Totals RunError) (fault : RunError) → result ≡ Err fault
        → GoesOn remaining contents now later input next state after written more (Err fault)
        → TakesWithin remaining reader later limit (IsErrOf result TooLong) (has_failed more ≡ false)
    taken_at_fault result fault is h =
        let advances = (advanced fault h).1 in
        let iff = too_long_iff fault (length (so_far.given ++ advances.given)) h (counted_more advances) in
        record {
          bytes = so_far.given ++ advances.given;
          consumed = consumed_more advances;
          within = omega (arith, counted_more advances);
          too_long = (λ e. iff.0 (err_same fault TooLong (sym is ∙ e)), λ over. is ∙ ap (λ (f : RunError). Err f) (iff.1 over));
        }

    pub taken_at_end : GoesOn remaining contents now later input next state after written more (Ok None)
        → TakesWithin remaining reader later limit (IsErrOf (Ok totals) TooLong) (has_failed more ≡ false)
    taken_at_end h =
        let known = h.0.at_end so_far.at_end h.1.1 in
        record {
          bytes = so_far.given ++ h.0.given;
          consumed = consumed_more h.0;
          within = omega (arith, counted_more h.0);
          too_long = (
            λ e. absurd (let clash : ◌≡◌ {A = Result Totals RunError} (Ok totals) (Err TooLong) = e in cc),
            λ over. absurd (omega (arith, counted_more h.0, known.0, over.0)),
          );
        }

    -- a run ends with its input
    pub reached_end : GoesOn remaining contents now later input next state after written more (Ok None)
        → ReachedEnd remaining reader later limit (contents (inner_of writer)) (contents (inner_of more)) totals
    reached_end h =
        let known = h.0.at_end so_far.at_end h.1.1 in
        let all = so_far.given ++ h.0.given in
        let short : length all ≤ limit = omega (arith, counted_more h.0, known.0) in
        let lines : lines_of all ≡ so_far.answered =
        ap lines_of (sym (take_all limit all short)) ∙ (ap lines_of (kept_all h.0) ∙ cut_end so_far.cut h.0 refl h.1.0) in
        record { input = all; consumed = consumed_more h.0; at_end = known.1; within = short; answers = answers_all all lines }
      where
        answers_all : (all : List ℕ) → lines_of all ≡ so_far.answered → Answers all (contents (inner_of writer)) (contents (inner_of more)) totals
        answers_all all lines =
            let run = so_far.transcribed.each [] [] in
            let same : lines_of all ≡ so_far.answered ++ [] = lines ∙ sym (append-nil so_far.answered) in
            let is = ap (transcript run.0 first_state) same ∙ run.1 in
            record {
              choices = run.0;
              written =
                  subst (Appends (contents (inner_of writer)) (contents (inner_of more)))
                  (sym (ap (λ (t : Transcript). t.text) is ∙ text_behind so_far.text state))
                  (appends_keeps (contents (inner_of writer)) (contents (inner_of written)) (contents (inner_of more)) so_far.text so_far.appends h.2.kept);
              lines = so_far.count ∙ ap length (sym lines);
              refused = sym (ap (λ (t : Transcript). t.refused) is ∙ refused_behind totals.refused state);
            }

    -- the device that failed when a run ended early
    pub read_at_fault : (result : Result Totals RunError) (fault : RunError) → result ≡ Err fault
        → GoesOn remaining contents now later input next state after written more (Err fault)
        → IsErrOf result Read → has_failed later ≡ true
    read_at_fault result Read is h e = h.0.why.1
    read_at_fault result Write is h e = absurd (let clash : ◌≡◌ {A = Result Totals RunError} (Err Write) (Err Read) = sym is ∙ e in cc)
    read_at_fault result TooLong is h e = absurd (let clash : ◌≡◌ {A = Result Totals RunError} (Err TooLong) (Err Read) = sym is ∙ e in cc)

    pub write_at_fault : (result : Result Totals RunError) (fault : RunError) → result ≡ Err fault
        → GoesOn remaining contents now later input next state after written more (Err fault)
        → IsErrOf result Write ↔ (has_failed more ≡ true)
    write_at_fault result Read is h = (
      λ e. absurd (let clash : ◌≡◌ {A = Result Totals RunError} (Err Read) (Err Write) = sym is ∙ e in cc),
      λ f. absurd (let clash : true ≡ false = sym f ∙ h.1.unfailed in cc),
    )
    write_at_fault result Write is h = (λ e. h.answers.reply.writes.failed, λ f. is)
    write_at_fault result TooLong is h = (
      λ e. absurd (let clash : ◌≡◌ {A = Result Totals RunError} (Err TooLong) (Err Write) = sym is ∙ e in cc),
      λ f. absurd (let clash : true ≡ false = sym f ∙ h.1.unfailed in cc),
    )

    pub write_at_end : GoesOn remaining contents now later input next state after written more (Ok None) → IsErrOf (Ok totals) Write ↔ (has_failed more ≡ true)
    write_at_end h = (
      λ e. absurd (let clash : ◌≡◌ {A = Result Totals RunError} (Ok totals) (Err Write) = e in cc),
      λ f. absurd (let clash : true ≡ false = sym f ∙ h.2.unfailed in cc),
    )

-- No line was executed, so this is the end.
pub none_answered : (answered : Option Bool) → ((is_refused : Bool) → (◌≡◌ {A = Option Bool} answered (Some is_refused)) → ⊥) → answered ≡ None
none_answered None no_line = refl
none_answered (Some is_refused) no_line = absurd (no_line is_refused refl)
