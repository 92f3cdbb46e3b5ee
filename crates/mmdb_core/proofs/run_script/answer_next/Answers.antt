use Rattle.std.proofs.Common.{take, ap, subst, sym, ◌∙◌}
use Rattle.mm_lang.specs.Lines.{without_return}
use Rattle.mmdb_core.specs.steps.Input.{Comes}
use Rattle.mmdb_core.specs.steps.Respond.{GoesOn, RepliesToLine}
use Rattle.mmdb_core.proofs.Answering.{passes_first, replied_goes_on, replies_to_line, replies_to_long}
use Rattle.mmdb_core.proofs.run_script.answer_next.Goals as goal

pub returns-in-Long : goal.returns-in-Long
returns-in-Long g c =
    let remaining = g.R.Read.remaining in
    let contents = g.W.Write.contents in
    let state = c.args.session.now.state in
    let long = subst (Comes remaining c.args.reader.now c.next.new.reader c.args.input.now c.next.new.self) c.in-Long.is c.in_ok-next.ensures.comes in
    subst (GoesOn remaining contents c.args.reader.now c.next.new.reader c.args.input.now c.next.new.self state state c.args.writer.now c.take.new.self)
    (sym c.going_on.ensures)
    (replied_goes_on c.take.result
    (record { line = long.0; passes = long.1; answers = replies_to_long (without_return long.0) state long.2 c.take.ensures }))

pub returns-in-Line : goal.returns-in-Line
returns-in-Line g c =
    let remaining = g.R.Read.remaining in
    let contents = g.W.Write.contents in
    let bytes = c.next.new.self.window.bytes in
    let before = c.args.session.now.state in
    let after = c.execute_to-answered.new.self.state in
    let line_is = c.without_return-line.ensures ∙ ap (λ b. without_return (take c.in-Line.len b)) c.taken.ensures in
    subst (GoesOn remaining contents c.args.reader.now c.next.new.reader c.args.input.now c.skip.new.self before after c.args.writer.now
    c.execute_to-answered.new.sink)
    (sym c.going_on-in-Line.ensures)
    (replied_goes_on c.execute_to-answered.result (record {
      line = take c.in-Line.len bytes;
      passes =
          passes_first c.in-Line.len c.in-Line.step
          (subst (Comes remaining c.args.reader.now c.next.new.reader c.args.input.now c.next.new.self) c.in-Line.is c.in_ok-next.ensures.comes)
          c.skip.ensures.window c.skip.ensures.still c.skip.ensures.ended;
      answers = subst (λ line. RepliesToLine contents c.args.writer.now c.execute_to-answered.new.sink line before after c.execute_to-answered.result)
          line_is (replies_to_line c.execute_to-answered.ensures.delivers);
    }))
