use Rattle.plan_laws.proofs.PrefixBytes.{numbers_below_texts, same_first_bytes, same_numbers}
use Rattle.plan_laws.proofs.prefixes.prefixes_keep_first_bytes.Goals as goal

pub returns-clause-texts : goal.returns-clause-texts
returns-clause-texts c = same_first_bytes

pub returns-clause-numbers : goal.returns-clause-numbers
returns-clause-numbers c = same_numbers

pub returns-clause-kinds : goal.returns-clause-kinds
returns-clause-kinds c = numbers_below_texts
