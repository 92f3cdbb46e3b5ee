use Rattle.std.proofs.Common.{◌≡◌, ℕ, false, List, Option, Vec, Global, map, set, sym, ap, subst, ◌∙◌, arith}
use Rattle.std.specs.List.{All}
use Rattle.mm_schema.specs.Schema.{Schema}
use Rattle.mm_reply.specs.Sinks.{Delivers}
use Rattle.mm_session.proofs.ReadyStatements.{lines_beside, lines_kept, ready_beside, ready_forgotten}
use Rattle.mm_session.proofs.SlotLemmas.{line_of_slot}
use Rattle.mm_session.specs.Statements.{RunsFound}
use Rattle.mm_session.specs.steps.Templates.{AreReady}
use Rattle.mm_session.specs.declared.statement.Statement.{Statement}
use Rattle.mm_session.specs.steps.Forms.{IsReady}
use Rattle.mm_session.specs.steps.Places.{line_in}
use Rattle.mm_session.proofs.slots.run_at.Goals as goal
use Rattle.mm_session.proofs.slots.run_at.Goals.{then-is_definition, else-is_definition}

pub returns-clause-ready : goal.returns-clause-ready
returns-clause-ready g c =
    let before = c.args.database.now.schema in
    let after = c.run_slot.new.database.schema in
    let items = c.args.statements.now.items in
    let number = c.args.number in
    let slot = c.run_slot.new.slot in
    let all : All (IsReady after) c.if-is_definition.statements.items =
    elim c.if-is_definition.branch [
      | then-is_definition w ↦
          subst (All (IsReady after)) (sym (ap (λ (v : Vec (Option Statement) Global). v.items) w.statements-is ∙ w.forget_bound_forms.ensures))
          (ready_forgotten before after items number slot c.requires.statements c.in_ok-taken.ensures.ready)
      | else-is_definition w ↦
          (let other : c.in_ok-taken.field-0.is_definition ≡ false = cc in
          subst (All (IsReady after)) (sym (ap (λ (v : Vec (Option Statement) Global). v.items) w.statements-is))
          (ready_beside before after items number slot c.requires.statements c.in_ok-taken.ensures.ready (c.in_ok-taken.ensures.schema other)))
    ] in
    all

pub returns-clause-templates : goal.returns-clause-templates
returns-clause-templates g c =
    let after = c.run_slot.new.database.schema in
    let ready : AreReady after c.if-is_definition.templates =
    elim c.if-is_definition.branch [
      | then-is_definition w ↦ subst (AreReady after) (sym w.templates-is) (w.forget.ensures after)
      | else-is_definition w ↦
          (let other : c.in_ok-taken.field-0.is_definition ≡ false = cc in
          subst (AreReady after) (sym w.templates-is)
          (subst (λ (schema : Schema). AreReady schema c.args.templates.now) (sym (c.in_ok-taken.ensures.schema other)) c.requires.templates))
    ] in
    ready

pub returns-clause-lines : goal.returns-clause-lines
returns-clause-lines g c =
    let items = c.args.statements.now.items in
    let number = c.args.number in
    let slot = c.run_slot.new.slot in
    let beside = lines_beside items number slot c.index_mut-slot.result.now (c.in_ok-taken.ensures.line ∙ ap line_in c.index_mut-slot.ensures.value) in
    elim c.if-is_definition.branch [
      | then-is_definition w ↦
          ap (λ (v : Vec (Option Statement) Global). map line_in v.items) w.statements-is
          ∙ (ap (map line_in) w.forget_bound_forms.ensures ∙ (lines_kept (set items number slot) ∙ beside))
      | else-is_definition w ↦ ap (λ (v : Vec (Option Statement) Global). map line_in v.items) w.statements-is ∙ beside
    ]

pub returns-clause-ok : goal.returns-clause-ok
returns-clause-ok g c =
    let items = c.args.statements.now.items in
    let old = c.index_mut-slot.result.now in
    subst (λ (found : Option (List ℕ)). Delivers g.S.ReplySink.takes c.args.sink.now c.run_slot.new.sink c.in_ok-taken.field-0.taken c.run_slot.new.database
    (RunsFound found c.args.values.now c.args.database.now))
    (sym (line_of_slot items c.args.number old (omega arith) ∙ ap line_in (sym c.index_mut-slot.ensures.value))) c.in_ok-taken.ensures.ok
