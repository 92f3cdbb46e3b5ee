use Rattle.std.proofs.Common.{◌≡◌, Option, Ok, Some, None, sym, subst, ◌∙◌, arith}
use Rattle.std.proofs.lemmas.Option.{get_or_from_slice_get, slice_get_within}
use Rattle.mm_reply.proofs.Delivered.{delivers_as, leads_to_answer}
use Rattle.mm_session.proofs.FilledForms.{found_runs}
use Rattle.mm_session.proofs.ReadyStatements.{ready_beside, ready_run}
use Rattle.mm_session.specs.declared.statement.Statement.{Statement}
use Rattle.mm_session.specs.steps.Forms.{IsReady}
use Rattle.mm_session.proofs.templates.Templates.run.Goals as goal

pub index_mut-requires : goal.index_mut-requires
index_mut-requires g c =
    let at = c.requires.found.1 in
    let within = slice_get_within c.args.self.now.slots.items c.args.number (Some at.statement) at.is in
    omega arith

pub unreachable-requires : goal.unreachable-requires
unreachable-requires g c =
    let at = c.requires.found.1 in
    let clash : ◌≡◌ {A = Option Statement} (Some at.statement) None =
    sym (get_or_from_slice_get c.args.self.now.slots.items c.args.number (Some at.statement) c.index_mut.result.now at.is)
    ∙ (sym c.index_mut.ensures.value ∙ c.in-None.is) in
    cc

pub run_filled-requires-clause-runs : goal.run_filled-requires-clause-runs
run_filled-requires-clause-runs g c =
    let found = c.requires.found in (
      found.1.command,
      found_runs c.args.number c.args.database.now.schema found.0 c.args.self.now found.1 c.index_mut.result.now c.in-Some.statement
          c.index_mut.ensures.value c.in-Some.is,
    )

pub returns-clause-delivers : goal.returns-clause-delivers
returns-clause-delivers g c line at =
    let before = c.args.database.now in
    delivers_as (leads_to_answer line before (Ok at.command) at.read)
    (c.run_filled.ensures.delivers at.command
    (found_runs c.args.number before.schema line c.args.self.now at c.index_mut.result.now c.in-Some.statement c.index_mut.ensures.value c.in-Some.is))

pub returns-clause-ready : goal.returns-clause-ready
returns-clause-ready g c =
    let before = c.args.database.now.schema in
    let after = c.run_filled.new.database.schema in
    let slots = c.args.self.now.slots.items in
    let at = c.requires.found.1 in
    let within = slice_get_within slots c.args.number (Some at.statement) at.is in
    let old : IsReady before (Some c.in-Some.statement) =
    subst (IsReady before) (sym c.index_mut.ensures.value ∙ c.in-Some.is) (c.requires.ready c.args.number c.index_mut.result.now within) in
    ready_beside before after slots c.args.number (Some c.run_filled.new.self) c.requires.ready
    (ready_run before after c.in-Some.statement c.run_filled.new.self c.run_filled.ensures.schema c.run_filled.ensures.kept old)
    c.run_filled.ensures.schema
