use Rattle.std.proofs.Common.{refl, sym, subst}
use Rattle.mm_query.specs.Machine.{refused_outcome}
use Rattle.mm_lang.specs.Answering.{MayLeadTo}
use Rattle.mm_reply.proofs.Delivered.{delivers_keep}
use Rattle.mm_reply.specs.Sinks.{Delivers, defines}
use Rattle.mm_reply.proofs.responding.respond.Goals as goal

pub returns-in-Ok-clause-delivers : goal.returns-in-Ok-clause-delivers
returns-in-Ok-clause-delivers g c =
    subst (λ read. Delivers g.S.ReplySink.takes c.args.sink.now c.execute.new.sink c.execute.result c.execute.new.database
    (MayLeadTo read c.args.database.now)) (sym c.in-Ok.is) c.execute.ensures

pub returns-in-Ok-clause-schema : goal.returns-in-Ok-clause-schema
returns-in-Ok-clause-schema g c other =
    delivers_keep c.args.database.now c.args.read other
    (subst (λ read. Delivers g.S.ReplySink.takes c.args.sink.now c.execute.new.sink c.execute.result c.execute.new.database
    (MayLeadTo read c.args.database.now)) (sym c.in-Ok.is) c.execute.ensures)

pub returns-in-Err-clause-delivers : goal.returns-in-Err-clause-delivers
returns-in-Err-clause-delivers g c =
    let state = c.args.database.now in
    let outcome = refused_outcome c.in-Err.refusal state in
    record {
      outcome = outcome;
      is = subst (λ read. MayLeadTo read state outcome) (sym c.in-Err.is) refl;
      state = refl;
      took = c.take.ensures;
    }
