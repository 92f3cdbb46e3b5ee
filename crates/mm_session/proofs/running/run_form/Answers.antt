use Rattle.std.proofs.Common.{Ok, subst, sym}
use Rattle.mm_lang.specs.Answering.{MayLeadTo}
use Rattle.mm_query.specs.declared.command.Command.{Command}
use Rattle.mm_reply.specs.Sinks.{Delivers}
use Rattle.mm_session.proofs.FormLemmas.{change_run, query_run}
use Rattle.mm_session.proofs.running.run_form.Goals as goal

pub take_selected-requires-clause-bound : goal.take_selected-requires-clause-bound
take_selected-requires-clause-bound g c =
    let own = query_run c.args.database.now.schema c.requires.runs.0 c.in-Query.bound c.args.rows.now (rw c.in-Query.is at c.requires.runs.1) in
    (own.0, own.2)

pub run_change-requires-clause-bound : goal.run_change-requires-clause-bound
run_change-requires-clause-bound g c =
    let own = change_run c.args.database.now.schema c.requires.runs.0 c.in-Change.bound c.args.rows.now (rw c.in-Change.is at c.requires.runs.1) in
    (own.mutation, own.ran, own.runs, own.binds)

pub returns-in-Query-clause-delivers : goal.returns-in-Query-clause-delivers
returns-in-Query-clause-delivers g c command runs =
    let state = c.args.database.now in
    let own = query_run state.schema command c.in-Query.bound c.args.rows.now (rw c.in-Query.is at runs) in
    subst (λ (read : Command). Delivers g.S.ReplySink.takes c.args.sink.now c.take_selected.new.self c.take_selected.result state (MayLeadTo (Ok read) state))
    (sym own.1) (c.take_selected.ensures own.0 own.2)

pub returns-in-Change-clause-delivers : goal.returns-in-Change-clause-delivers
returns-in-Change-clause-delivers g c command runs =
    let state = c.args.database.now in
    let own = change_run state.schema command c.in-Change.bound c.args.rows.now (rw c.in-Change.is at runs) in
    subst (λ (read : Command). Delivers g.S.ReplySink.takes c.args.sink.now c.run_change.new.sink c.run_change.result c.run_change.new.database
    (MayLeadTo (Ok read) state))
    (sym own.is) (c.run_change.ensures.delivers own.mutation own.ran own.runs own.binds)
