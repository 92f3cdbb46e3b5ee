use Rattle.std.proofs.Common.{[], false, length, subst, sym, true, ◌∙◌}
use Rattle.std.proofs.lemmas.Bool.{eqb-true}
use Rattle.mm_template.specs.steps.Progress.{IsCutTo}
use Rattle.mm_template.proofs.Cuts.{cut_blanks, cut_end, cut_literal, cut_nothing, cut_operator, cut_run, cut_start, if_some}
use Rattle.mm_template.proofs.cutter.Cutter.cut_pieces.Goals as goal
use Rattle.mm_template.proofs.cutter.Cutter.cut_pieces.Goals.{then-len-gt0+in_ok-cut_literal, else-len-gt0}

pub loop-rest-init : goal.loop-rest-init
loop-rest-init c =
    let line = c.args.line.now in
    let rest = c.skip_kept-rest.result.now in
    subst (λ l. IsCutTo line line rest l c.args.self.now.values false) (sym c.requires.template)
    (subst (λ l. IsCutTo line line rest [] l false) (sym c.requires.values)
    (cut_run _ true line line line rest [] [] c.skip_kept-rest.ensures.rest (cut_start line)))

pub loop-rest-preserved : goal.loop-rest-preserved
loop-rest-preserved c =
    let line = c.args.line.now in
    let left = c.loop-rest.left.now in
    let rest = c.loop-rest.rest.now in
    let old = c.loop-rest.self in
    let may = c.in_ok-operator.operator.takes_any in
    let behind = c.split_at.result.1.now in
    let operand = c.skip_blanks-operand.result.now in
    let len = c.in_ok-len.len in
    let after = c.split_at-in-loop-rest.result.1.now in
    let at_operand : IsCutTo line left operand old.template old.values may =
    cut_blanks may line left behind operand old.template old.values c.skip_blanks-operand.ensures.rest
    (cut_operator line left rest behind old.template old.values may c.in_ok-operator.operator.len c.in_ok-operator.ensures c.split_at.ensures.back
    c.loop-rest.invariant) in
    cut_run _ may line c.if-len-gt0.left.now after c.skip_kept-rest-in-loop-rest.result.now c.if-len-gt0.self.template c.if-len-gt0.self.values
    c.skip_kept-rest-in-loop-rest.ensures.rest
    (elim c.if-len-gt0.branch [
      | then-len-gt0+in_ok-cut_literal w ↦
          subst (λ l. IsCutTo line l.now after c.if-len-gt0.self.template c.if-len-gt0.self.values may) (sym w.left-is)
          (subst (λ s. IsCutTo line after after s.template s.values may) (sym w.self-is)
          (cut_literal line left operand c.split_at-in-loop-rest.result.0.now after old w.cut_literal.new.self len may may c.in_ok-len.ensures
          c.split_at-in-loop-rest.ensures.front c.split_at-in-loop-rest.ensures.back at_operand w.in_ok-cut_literal.ensures))
      | else-len-gt0 w ↦
          subst (λ l. IsCutTo line l.now after c.if-len-gt0.self.template c.if-len-gt0.self.values may) (sym w.left-is)
          (subst (λ s. IsCutTo line left after s.template s.values may) (sym w.self-is)
          (cut_nothing may line left operand after old.template old.values len w.if-len-gt0.false c.split_at-in-loop-rest.ensures.back at_operand))
    ])

pub returns : goal.returns
returns c =
    let rest = c.loop-rest.rest.now in
    if_some c.keep.result
    (λ keeps.
    cut_end c.args.line.now c.loop-rest.left.now rest c.loop-rest.self c.keep.new.self false
    (eqb-true (length rest) 0 (sym c.is_empty.ensures ∙ c.loop-rest-test.false)) c.loop-rest.invariant keeps)
    c.keep.ensures
