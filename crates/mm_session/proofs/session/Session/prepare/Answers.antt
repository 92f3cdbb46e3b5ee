use Rattle.std.proofs.Common.{map, sym, ap, subst, ◌∙◌}
use Rattle.mm_lang.specs.Templates.{template_of}
use Rattle.mm_session.proofs.ReadyStatements.{put_line, put_ready}
use Rattle.mm_session.specs.Session.{AreTaken, SessionState, TakesNumber}
use Rattle.mm_session.specs.steps.Places.{line_in}
use Rattle.mm_session.proofs.session.Session.prepare.Goals as goal

pub invariant_of-self-2 : goal.invariant_of-self-2
invariant_of-self-2 c = (
  put_ready c.self.inside.database.schema c.in_ok-statement.statement c.in_ok-number.number c.self.inside.statements.items c.add.new.statements.items
      c.in_ok-number.ensures.ok c.in_ok-statement.ensures.1 c.self.invariant.0,
  c.self.invariant.1,
)

pub returns : goal.returns
returns c =
    let statement = c.in_ok-statement.statement in
    let number = c.in_ok-number.number in
    let line = c.args.line.now in
    let old = c.self.inside.statements.items in
    let new = c.add.new.statements.items in
    let ready = c.in_ok-statement.ensures.1 in
    record {
      command = ready.command;
      read = ap template_of (sym c.in_ok-statement.ensures.0) ∙ ready.read;
      lines = subst (λ (s : SessionState). TakesNumber line number s.lines (map line_in new)) c.self.view_is
          (put_line line statement number old new c.in_ok-number.ensures.ok c.in_ok-statement.ensures.0);
      state = ap (λ (s : SessionState). s.state) c.self.view_is;
      least = subst (λ (s : SessionState). AreTaken number s.lines) c.self.view_is c.in_ok-number.ensures.least;
      reply = ap (λ (s : SessionState). s.reply) c.self.view_is;
      changes = ap (λ (s : SessionState). s.changes) c.self.view_is;
    }
