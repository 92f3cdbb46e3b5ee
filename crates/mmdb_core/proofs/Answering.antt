-- The reply written is the reply to the line read.
use Rattle.std.proofs.Common.{◌≡◌, ℕ, ◌+◌, ◌<◌, Bool, true, false, cond, eqb, List, [], ◌∷◌, ◌++◌, Option, Some, None, Result, Ok, Err, length, take}
use Rattle.std.proofs.Common.{drop, inl, inr, sym, refl, ap, subst, ◌∙◌, ⊎_elim, arith}
use Rattle.std.proofs.lemmas.List.{drop_all, take_all}
use Rattle.std.proofs.lemmas.Bool.{lt-ltb}
use Rattle.mm_lang.specs.Answering.{answer, outcome_of}
use Rattle.mm_lang.specs.Lines.{without_return, HasNoFeed}
use Rattle.mm_lang.specs.Reading.{is_nothing, plain_command, read_as, reading}
use Rattle.mm_lang.specs.Tokens.{tokens}
use Rattle.mm_value.specs.declared.device.Watched.{Watched}
use Rattle.mm_value.specs.declared.refusal.Refusal.TheVariants.{LineTooLong}
use Rattle.mm_query.specs.Machine.{Outcome, refused_outcome}
use Rattle.mm_query.specs.State.{State}
use Rattle.mm_query.specs.declared.command.Command.TheVariants.{Nothing}
use Rattle.mm_query.specs.declared.reply.Reply.TheVariants.{Refused}
use Rattle.mm_reply.specs.Sinks.{Delivers, IsAnswerTo}
use Rattle.mm_reply.specs.Writing.{WritesReply}
use Rattle.mmdb_core.specs.steps.Feeds.{EndsLine}
use Rattle.mmdb_core.specs.steps.Input.{Comes, Finds, IsLastLine, IsLine, PassesLine}
use Rattle.mmdb_core.specs.steps.Respond.{RepliesToLine, GoesOn, PassesReplied, goes_on_of}
use Rattle.mmdb_core.specs.declared.run_error.RunError.{RunError}
use Rattle.mmdb_core.specs.declared.run_error.RunError.TheVariants.{Write}
use Rattle.mmdb_core.specs.declared.input.Input.{Input}
use Rattle.mmdb_core.specs.declared.input.Next.TheVariants.{Line}
use Rattle.mmdb_core.proofs.Inputs.{Advances-skip, Advances-then}
use Rattle.mmdb_core.proofs.LongLines.{take-line}

-- a line, by its last byte
pub without_return-last : (front : List ℕ) (b : ℕ) → without_return (front ++ b ∷ []) ≡ cond (eqb b 13) front (front ++ b ∷ [])
without_return-last [] b = refl
without_return-last (a ∷ []) b = after_one (eqb b 13)
  where
    after_one : (is_return : Bool) → a ∷ cond is_return [] (b ∷ []) ≡ cond is_return (a ∷ []) (a ∷ b ∷ [])
    after_one true = refl
    after_one false = refl
without_return-last (a ∷ c ∷ front) b = ap (λ rest. a ∷ rest) (without_return-last (c ∷ front) b) ∙ after_more (eqb b 13)
  where
    after_more : (is_return : Bool) → a ∷ cond is_return (c ∷ front) ((c ∷ front) ++ b ∷ []) ≡ cond is_return (a ∷ c ∷ front) ((a ∷ c ∷ front) ++ b ∷ [])
    after_more true = refl
    after_more false = refl

-- a line that is too long is refused for that reason
long_reading : (line : List ℕ) (state : State) → 4096 < length line → answer false line state ≡ refused_outcome LineTooLong state
unfolding reading
long_reading line state long =
    ap (λ b. outcome_of (cond b (Err LineTooLong) (cond (is_nothing line) (Ok Nothing) (read_as (plain_command (tokens line))))) state)
    (lt-ltb 4096 (length line) long)

pub replies_to_long : {W E : Type 0} {contents : W → Option (List ℕ)} {old new : Watched W} (line : List ℕ) (state : State) {result : Result Bool E}
    → 4096 < length line → WritesReply contents old new (Some (Refused LineTooLong)) result → RepliesToLine contents old new line state state result
replies_to_long {contents = contents} {old} {new} line state {result} long reply =
    let is = sym (long_reading line state long) in
    record {
      choice = false;
      state = ap (λ (o : Outcome). o.state) is;
      reply = subst (λ (o : Outcome). WritesReply contents old new o.reply result) is reply;
    }

-- an outcome of a line that was delivered to a writer is the reply to the line
pub replies_to_line : {W E : Type 0} {contents : W → Option (List ℕ)} {old new : Watched W} {line : List ℕ} {before after : State} {result : Result Bool E}
    → Delivers (λ (a : Watched W) b reply taken. WritesReply {E = E} contents a b reply taken) old new result after (IsAnswerTo line before)
    → RepliesToLine contents old new line before after result
replies_to_line {contents = contents} {old} {new} {result = result} d = record {
  choice = d.is.0;
  state = d.state ∙ ap (λ (o : Outcome). o.state) d.is.1;
  reply = subst (λ (o : Outcome). WritesReply contents old new o.reply result) d.is.1 d.took;
}

-- a line found at the front of the window is passed by dropping the bytes up to the next one
first_line : (input after : Input) (len step : ℕ) → Finds input (Line len step) → after.window.bytes ≡ drop step input.window.bytes
    → after.is_ended ≡ input.is_ended → IsLine (take step input.window.bytes) (take len input.window.bytes) after
first_line input after len step finds dropped ended =
    ⊎_elim
    (λ (h : EndsLine input.window.bytes len × (step ≡ len + 1)). record {
      no_feed = h.0.no_feed;
      end = inl (ap (λ n. take n input.window.bytes) h.1 ∙ take-line input.window.bytes len h.0);
    })
    (λ (h : IsLastLine input len step).
    let all : take len input.window.bytes ≡ input.window.bytes = take_all len input.window.bytes (omega (arith, h.all)) in
    record {
      no_feed = subst HasNoFeed (sym all) h.no_feed;
      end = inr (
        ap (λ n. take n input.window.bytes) h.no_more,
        omega (arith, ap length all, h.all, h.some),
        dropped ∙ drop_all step input.window.bytes (omega (arith, h.all, h.no_more)),
        ended ∙ h.ended,
      );
    })
    finds.2

pub passes_first : {R : Type 0} {remaining : R → Option (List ℕ)} {reader later : Watched R} {input mid after : Input} (len step : ℕ)
    → Comes remaining reader later input mid (Line len step)
    → after.window.bytes ≡ drop step mid.window.bytes → after.still ≡ mid.still → after.is_ended ≡ mid.is_ended
    → PassesLine remaining reader later input after (take len mid.window.bytes)
passes_first {mid = mid} {after = after} len step comes dropped still ended = record {
  gone = take step mid.window.bytes;
  advances = Advances-then refl comes.0 (Advances-skip step dropped still ended);
  is_line = first_line mid after len step comes.1 dropped ended;
}

-- after a line was passed and its reply written, a run continues
pub replied_goes_on : {R W E : Type 0} {remaining : R → Option (List ℕ)} {contents : W → Option (List ℕ)} {reader later : Watched R} {input next : Input}
    {before after : State} {old new : Watched W}
    (result : Result Bool E) → PassesReplied remaining contents reader later input next before after old new result
    → GoesOn remaining contents reader later input next before after old new (goes_on_of result)
replied_goes_on (Ok is_refused) h = record {
  line = h.line;
  passes = h.passes;
  answers = record {
    choice = h.answers.choice;
    state = h.answers.state;
    reply = record {
      writes = record { written = h.answers.reply.writes.written; failed = h.answers.reply.writes.failed };
      refused = h.answers.reply.refused;
    };
  };
}
replied_goes_on (Err e) h = record {
  line = h.line;
  passes = h.passes;
  answers = record {
    choice = h.answers.choice;
    state = h.answers.state;
    reply = record { writes = record { written = h.answers.reply.writes.written; failed = h.answers.reply.writes.failed }; refused = tt };
  };
}
