use Rattle.std.proofs.Common.{sym, ◌∙◌}
use Rattle.mm_lang.proofs.QueryTexts.{last_space}
use Rattle.mm_lang.proofs.write.query_text.space_after_tests.Goals as goal

pub returns-in-Some : goal.returns-in-Some
returns-in-Some c = c.space_after.ensures ∙ sym (last_space c.args.tests.now c.in-Some.test.now (sym c.in-Some.ensures.value))
