-- Lemmas for the laws of a run's definitions.
use Rattle.std.proofs.Common.{◌≡◌, ℕ, ◌+◌, ◌<◌, ◌≤◌, Bool, true, false, cond, ltb, not, List, [], ◌++◌, length, Option, Some, None, is_some, Ok, Err, refl}
use Rattle.std.proofs.Common.{sym, ap, subst, ◌∙◌, arith, length-append}
use Rattle.std.proofs.lemmas.List.{append-nil}
use Rattle.std.specs.List.{list_any}
use Rattle.std.specs.Option.{option_map, option_map_or}
use Rattle.std.specs.Prelude.{IfSome}
use Rattle.std.specs.Io.KnownBytes.{Consumes, IsAtEnd}
use Rattle.mm_lang.proofs.Commands.{control_takes_none, reads_long}
use Rattle.mm_lang.specs.Reading.{is_nothing, plain_command, read_as, reading, reading_takes_memory, takes_memory}
use Rattle.mm_lang.specs.Tokens.{tokens}
use Rattle.mm_value.specs.declared.refusal.Refusal.TheVariants.{LineTooLong, Memory, NoSuchSavepoint, NoTransaction}
use Rattle.mm_schema.specs.Name.{same_name}
use Rattle.mm_query.specs.Machine.{back_to, refused_outcome, rows_at_latest, step}
use Rattle.mm_query.specs.State.{Saved, Savepoint, State}
use Rattle.mm_query.specs.declared.command.Command.TheVariants.{Nothing, Rollback, RollbackTo}
use Rattle.mm_query.specs.declared.reply.Reply.TheVariants.{Done, Refused}
use Rattle.mm_query.proofs.Due.{step-done, step-refused}
use Rattle.mm_lang.specs.Answering.{answer, outcome_of}

-- an allocation failure of a line that does not allocate, or none
not_refused : (line : List ℕ) (state : State) (choice : Bool) → takes_memory line ≡ false → answer choice line state ≡ outcome_of (reading line) state
not_refused line state true none = ap (λ b. cond b (refused_outcome Memory state) (outcome_of (reading line) state)) none
not_refused line state false none = refl

pub same_answer : (line : List ℕ) (state : State) (a b : Bool) → takes_memory line ≡ false → answer a line state ≡ answer b line state
same_answer line state a b none = not_refused line state a none ∙ sym (not_refused line state b none)

pub long_takes_none : (line : List ℕ) → 4096 < length line → takes_memory line ≡ false
long_takes_none line long = ap reading_takes_memory (reads_long line long)

pub nothing_takes_none : (line : List ℕ) → is_nothing line ≡ true → takes_memory line ≡ false
unfolding reading
nothing_takes_none line nothing =
    ap (λ b. reading_takes_memory (cond (ltb 4096 (length line)) (Err LineTooLong) (cond b (Ok Nothing) (read_as (plain_command (tokens line)))))) nothing
    ∙ either
    (ltb 4096 (length line))
  where
    either : (is_long : Bool) → reading_takes_memory (cond is_long (Err LineTooLong) (Ok Nothing)) ≡ false
    either true = refl
    either false = refl

-- A line that reads as ROLLBACK gets the outcome of its step, whatever the choice.
rollback_answer : (line : List ℕ) (state : State) (choice : Bool) → reading line ≡ Ok Rollback → answer choice line state ≡ step Rollback state
rollback_answer line state choice reads =
    not_refused line state choice (control_takes_none line Rollback reads refl) ∙ ap (λ r. outcome_of r state) reads

pub rolled_back : (line : List ℕ) (state : State) (saved : Saved) (choice : Bool) → reading line ≡ Ok Rollback → state.saved ≡ Some saved
    → answer choice line state
    ≡ record { reply = Some Done; state = record { schema = state.schema; rows = saved.at_begin; queries = state.queries; saved = None } }
rolled_back line state saved choice reads is =
    rollback_answer line state choice reads
    ∙ step-done Rollback state (ap (λ s. cond (not (is_some s)) (Some NoTransaction) None) is)
    ∙ ap (λ s. record {
      reply = Some Done;
      state = record {
        schema = state.schema;
        rows = option_map_or (λ (k : Saved). k.at_begin) s state.rows;
        queries = state.queries;
        saved = None;
      };
    }) is

pub no_rollback_outside : (line : List ℕ) (state : State) (choice : Bool) → reading line ≡ Ok Rollback → state.saved ≡ None
    → answer choice line state ≡ record { reply = Some (Refused NoTransaction); state = state }
no_rollback_outside line state choice reads is =
    rollback_answer line state choice reads
    ∙ step-refused Rollback state NoTransaction (ap (λ s. cond (not (is_some s)) (Some NoTransaction) None) is)

-- A line that reads as ROLLBACK TO rolls back to the savepoint, whatever the choice.
pub rolled_back_to : (line name : List ℕ) (state : State) (saved : Saved) (choice : Bool) → reading line ≡ Ok (RollbackTo name) → state.saved ≡ Some saved
    → list_any (λ (savepoint : Savepoint). same_name name savepoint.name) saved.savepoints ≡ true
    → answer choice line state ≡ record {
      reply = Some Done;
      state = record {
        schema = state.schema;
        rows = rows_at_latest (back_to name saved.savepoints) state.rows;
        queries = state.queries;
        saved = Some (record saved { savepoints = back_to name saved.savepoints });
      };
    }
rolled_back_to line name state saved choice reads is there =
    not_refused line state choice (control_takes_none line (RollbackTo name) reads refl) ∙ ap (λ r. outcome_of r state) reads
    ∙ step-done (RollbackTo name) state
    (ap (λ (s : Option Saved). cond (not (is_some s)) (Some NoTransaction)
    (cond (not (list_any (λ (k : Savepoint). same_name name k.name) (option_map_or (λ (k : Saved). k.savepoints) s []))) (Some NoSuchSavepoint) None)) is
    ∙ ap (λ (b : Bool). cond (not b) (Some NoSuchSavepoint) None) there)
    ∙ ap (λ (s : Option Saved). record {
      reply = Some Done;
      state = record {
        schema = state.schema;
        rows = rows_at_latest (back_to name (option_map_or (λ (k : Saved). k.savepoints) s [])) state.rows;
        queries = state.queries;
        saved = option_map (λ (k : Saved). record k { savepoints = back_to name k.savepoints }) s;
      };
    }) is

pub taken_within : (before after : Option (List ℕ)) (input left taken : List ℕ) (limit : ℕ) → before ≡ Some input → after ≡ Some left
    → Consumes before after taken → length taken ≤ limit + 1 → length input ≤ length left + (limit + 1)
taken_within None after input left taken limit p q consumed within = absurd (let clash : ◌≡◌ {A = Option (List ℕ)} None (Some input) = p in cc)
taken_within (Some xs) None input left taken limit p q consumed within = absurd consumed
taken_within (Some xs) (Some ys) input left taken limit p q consumed within =
    let same_xs : xs ≡ input = cc in
    let same_ys : ys ≡ left = cc in
    omega (arith, ap length same_xs, ap length same_ys, ap length consumed, length-append taken ys, within)

-- nothing of the known bytes is left
pub nothing_left : (before after : Option (List ℕ)) (input taken : List ℕ) → before ≡ Some input → Consumes before after taken → IsAtEnd after
    → after ≡ Some []
nothing_left None after input taken is consumed at_end = absurd (let clash : ◌≡◌ {A = Option (List ℕ)} None (Some input) = is in cc)
nothing_left (Some xs) None input taken is consumed at_end = absurd consumed
nothing_left (Some xs) (Some ys) input taken is consumed at_end = ap (λ (l : List ℕ). Some l) at_end

pub within_known : (before after : Option (List ℕ)) (input taken : List ℕ) (limit : ℕ) → before ≡ Some input → Consumes before after taken → IsAtEnd after
    → length taken ≤ limit → length input ≤ limit
within_known None after input taken limit is consumed at_end within = absurd (let clash : ◌≡◌ {A = Option (List ℕ)} None (Some input) = is in cc)
within_known (Some xs) None input taken limit is consumed at_end within = absurd consumed
within_known (Some xs) (Some ys) input taken limit is consumed at_end within =
    let same : xs ≡ input = cc in
    omega (arith, ap length same, ap length consumed, length-append taken ys, ap length at_end, within)

-- so the bytes read are all known ones
pub all_taken : (before after : Option (List ℕ)) (taken : List ℕ) → Consumes before after taken → IsAtEnd after → (P : List ℕ → Type 0) → P taken
    → IfSome before P
all_taken None after taken consumed at_end P p = tt
all_taken (Some xs) None taken consumed at_end P p = absurd consumed
all_taken (Some xs) (Some ys) taken consumed at_end P p = subst P (sym (consumed ∙ (ap (λ l. taken ++ l) at_end ∙ append-nil taken))) p
