use Rattle.std.proofs.Common.{◌+◌, arith, ap, drop, subst, sym, take, ◌∙◌}
use Rattle.std.proofs.lemmas.List.{drop_min, take_min}
use Rattle.mmdb_c.specs.Calls.{RunsCells}
use Rattle.mmdb_c.proofs.Running.{Continues, continues_first, continues_more, not_empty, is_nil, runs_all, runs_stopped, some_cells}
use Rattle.mmdb_c.proofs.library.Library.run_many.Goals as goal

pub loop-rest-init : goal.loop-rest-init
loop-rest-init c = record {
  continues = continues_first c.args.number c.args.width c.args.runs.now c.args.cells.now c.args.self.now c.requires;
  fewer = omega (arith, c.requires);
}

pub returns-then-status-ge-FIRST_REFUSAL : goal.returns-then-status-ge-FIRST_REFUSAL
returns-then-status-ge-FIRST_REFUSAL c =
    let rest = c.loop-rest.rest.now in let status = c.run-status.result in
    let row = c.split_at.ensures.front ∙ ap (λ n. take n rest) c.min.ensures ∙ take_min c.args.width rest in
    runs_stopped c.args.number c.args.width c.loop-rest.runs c.args.cells.now rest status c.args.self.now c.loop-rest.self c.run-status.new.self
    (omega (arith, c.if-width-eq0.false)) c.loop-rest.invariant.continues (not_empty rest (c.loop-rest-test.ensures)) c.if-status-ge-FIRST_REFUSAL.true
    (subst (λ cells. RunsCells c.args.number cells status c.loop-rest.self c.run-status.new.self) row c.run-status.ensures)

pub loop-rest-smaller : goal.loop-rest-smaller
loop-rest-smaller c = let some = some_cells c.loop-rest.rest.now c.loop-rest-test.ensures in
    omega (arith, some, c.if-width-eq0.false, c.min.ensures, c.split_at.ensures.back_len)

pub loop-rest-preserved : goal.loop-rest-preserved
loop-rest-preserved c =
    let rest = c.loop-rest.rest.now in let status = c.run-status.result in
    let row = c.split_at.ensures.front ∙ ap (λ n. take n rest) c.min.ensures ∙ take_min c.args.width rest in
    let behind = c.split_at.ensures.back ∙ ap (λ n. drop n rest) c.min.ensures ∙ drop_min c.args.width rest in
    record {
      continues = subst (λ others. Continues c.args.number c.args.width (c.loop-rest.runs + 1) c.args.cells.now others c.args.self.now
          c.run-status.new.self) (sym behind)
          (continues_more c.args.number c.args.width c.loop-rest.runs c.args.cells.now rest status c.args.self.now c.loop-rest.self c.run-status.new.self
          c.loop-rest.invariant.continues (not_empty rest (c.loop-rest-test.ensures)) c.if-status-ge-FIRST_REFUSAL.false
          (subst (λ cells. RunsCells c.args.number cells status c.loop-rest.self c.run-status.new.self) row c.run-status.ensures));
      fewer = omega (
        arith,
        c.loop-rest.invariant.fewer,
        some_cells rest c.loop-rest-test.ensures,
        c.if-width-eq0.false,
        c.min.ensures,
        c.split_at.ensures.back_len,
      );
    }

pub returns : goal.returns
returns c = runs_all c.args.number c.args.width c.loop-rest.runs c.args.cells.now c.loop-rest.rest.now c.args.self.now c.loop-rest.self
    (omega (arith, c.if-width-eq0.false)) c.loop-rest.invariant.continues (is_nil c.loop-rest.rest.now c.loop-rest-test.ensures)
