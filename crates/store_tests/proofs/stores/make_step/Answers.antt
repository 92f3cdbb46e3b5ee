use Rattle.store_tests.proofs.stores.make_step.Goals as goal

pub returns-in-Err-clause-marks : goal.returns-in-Err-clause-marks
returns-in-Err-clause-marks c = λ mark is. c.try_step-in-Err.ensures.marks mark (c.try_step.ensures.marks mark is)
