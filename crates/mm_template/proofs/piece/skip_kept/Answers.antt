use Rattle.std.proofs.Common.{ap, arith, drop, length, ◌∙◌}
use Rattle.std.specs.List.{prefix_len}
use Rattle.std.proofs.lemmas.List.{take_rest}
use Rattle.mm_template.specs.steps.Pieces.{is_passed}
use Rattle.mm_template.proofs.Runs.{four_passed}
use Rattle.mm_template.proofs.piece.skip_kept.Goals as goal

pub loop-rest-preserved : goal.loop-rest-preserved
loop-rest-preserved c =
    let rest = c.loop-rest.rest.now in
    record {
      same =
          ap (λ l. drop (prefix_len (is_passed c.args.is_insert) l) l) (take_rest rest 4)
          ∙ four_passed (is_passed c.args.is_insert) rest c.is_passed.result c.is_passed-in-len4-up.result c.is_passed-in-len4-up-2.result
          c.is_passed-in-len4-up-3.result c.in-len4-up.len_at_least c.is_passed.ensures c.is_passed-in-len4-up.ensures
          c.is_passed-in-len4-up-2.ensures c.is_passed-in-len4-up-3.ensures c.if-not-are_kept.false
          ∙ c.loop-rest.invariant.same;
      shorter = omega (arith, ap length (take_rest rest 4), c.loop-rest.invariant.shorter);
    }

pub returns-clause-rest : goal.returns-clause-rest
returns-clause-rest c =
    let rest = c.loop-rest.rest.now in
    take_rest rest c.passed_len.result ∙ ap (λ n. drop n rest) c.passed_len.ensures.run ∙ c.loop-rest.invariant.same
