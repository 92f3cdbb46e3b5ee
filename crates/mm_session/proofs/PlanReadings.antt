-- Statements whose queries are explained.
use Rattle.std.proofs.Common.{◌≡◌, ℕ, true, List, Some, Result, Ok, Err, IsTrue, false, inl, inr, is_some, ⊎_elim, refl, sym, ap, subst, ◌∙◌}
use Rattle.mm_value.specs.declared.refusal.Refusal.{Refusal}
use Rattle.mm_value.specs.declared.refusal.Refusal.TheVariants.{Memory}
use Rattle.mm_value.specs.declared.values.Value.{Value}
use Rattle.mm_query.specs.Machine.{Outcome, refused_outcome, step}
use Rattle.mm_query.specs.State.{State}
use Rattle.mm_query.specs.declared.command.Command.{Command}
use Rattle.mm_query.specs.declared.command.Command.TheVariants.{Explain}
use Rattle.mm_query.specs.declared.query.Query.{Query}
use Rattle.mm_lang.specs.Answering.{MayLeadTo}
use Rattle.mm_lang.specs.Reading.{command_takes_memory}
use Rattle.mm_lang.specs.Templates.{Prepares, holes_of, template_of}
use Rattle.mm_statement.specs.Filling.{AnswersFilling, IsFilling}
use Rattle.mm_reply.specs.Sinks.{defines}
use Rattle.mm_session.proofs.KindLemmas.{explained_query, the_query}
use Rattle.mm_session.proofs.LineReadings.{defines_alike}
use Rattle.mm_session.specs.Kinds.{query_of}
use Rattle.mm_session.specs.Statements.{Explains}
use Rattle.mm_session.specs.steps.Readings.{FillsExplain, explained}

-- The command of a line has a query if one of its readings has.
pub asked_query : (line : List ℕ) (one other : Command) → template_of line ≡ Ok one → template_of line ≡ Ok other → is_some (query_of one) ≡ true
    → (query : Query) × (query_of other ≡ Some query)
asked_query line one other p q some =
    let same : one ≡ other = cc in the_query (query_of other) (subst (λ (c : Command). is_some (query_of c) ≡ true) same some)

module _ (line : List ℕ) (values : List Value) where
  -- A refused allocation, whatever was read.
  pub explain_without : (command : Command) (query : Query) (e : Refusal) → template_of line ≡ Ok command → query_of command ≡ Some query → e ≡ Memory
      → FillsExplain line values (Err e)
  explain_without command query e read asks is =
      record { command = command; query = query; read = read; asks = asks; fills = inr (ap (λ (r : Refusal). Err r) is) }

  -- A line that has a reading is only refused memory.
  pub explain_unread : (command : Command) (query : Query) (e : Refusal) → template_of line ≡ Ok command → query_of command ≡ Some query
      → Prepares line (Err e) → FillsExplain line values (Err e)
  explain_unread command query e read asks prepares =
      ⊎_elim
      (λ (h : template_of line ≡ Err e). absurd (let clash : Ok command ≡ Err e = sym read ∙ h in cc))
      (λ (h : e ≡ Memory). explain_without command query e read asks h)
      prepares

  -- The filled command is the EXPLAIN of the query.
  pub explain_filled : (command : Command) (query : Query) (result : Result Command Refusal) → template_of line ≡ Ok command
      → query_of command ≡ Some query → AnswersFilling (holes_of line) values (explained command) result → FillsExplain line values result
  explain_filled command query result read asks answers = record {
    command = command;
    query = query;
    read = read;
    asks = asks;
    fills = subst (λ (c : Command). AnswersFilling (holes_of line) values c result) (explained_query command query asks) answers;
  }

  module _ (before : State) (outcome : Outcome) where
    -- An outcome of a filled EXPLAIN is one of explaining the statement.
    explains_filled : (filled : Command) → FillsExplain line values (Ok filled) → MayLeadTo (Ok filled) before outcome
        → Explains line values before outcome
    explains_filled filled fills leads = record {
      command = fills.command;
      query = fills.query;
      read = fills.read;
      asks = fills.asks;
      leads =
          ⊎_elim
          (λ (f : IsFilling (holes_of line) values (Explain fills.query) (Ok filled)).
          ⊎_elim
          (λ (is : outcome ≡ step filled before). inl (Ok filled, f, is))
          (λ (h : (outcome ≡ refused_outcome Memory before) × IsTrue (command_takes_memory filled)). inr h.0)
          leads)
          (λ (h : Ok filled ≡ Err Memory). absurd (cc))
          fills.fills;
    }

    -- A refusal is one of the filling, or want of memory.
    explains_refused : (e : Refusal) → FillsExplain line values (Err e) → outcome ≡ refused_outcome e before → Explains line values before outcome
    explains_refused e fills is = record {
      command = fills.command;
      query = fills.query;
      read = fills.read;
      asks = fills.asks;
      leads =
          ⊎_elim
          (λ (f : IsFilling (holes_of line) values (Explain fills.query) (Err e)). inl (Err e, f, is))
          (λ (h : Err e ≡ Err Memory). inr (is ∙ ap (λ (r : Refusal). refused_outcome r before) (let same : e ≡ Memory = cc in same)))
          fills.fills;
    }

    -- So is an outcome of a reading.
    pub explains_read : (read : Result Command Refusal) → FillsExplain line values read → MayLeadTo read before outcome → Explains line values before outcome
    explains_read (Ok filled) fills leads = explains_filled filled fills leads
    explains_read (Err refusal) fills leads = explains_refused refusal fills leads

  -- The command that explains a statement is no definition.
  pub explain_defines : (read : Result Command Refusal) → FillsExplain line values read → defines read ≡ false
  explain_defines (Ok filled) fills =
      ⊎_elim
      (λ (f : IsFilling (holes_of line) values (Explain fills.query) (Ok filled)). defines_alike (Explain fills.query) filled f.0.same)
      (λ (h : Ok filled ≡ Err Memory). absurd (cc))
      fills.fills
  explain_defines (Err refusal) fills = refl
