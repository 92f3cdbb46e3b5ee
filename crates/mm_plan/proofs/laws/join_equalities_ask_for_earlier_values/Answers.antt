use Rattle.std.proofs.Common.{refl}
use Rattle.std.specs.Prelude.{pos}
use Rattle.mm_plan.proofs.Asking.{key_asks, key_left, key_neither, key_right, only_equal}
use Rattle.mm_plan.proofs.laws.join_equalities_ask_for_earlier_values.Goals as goal

pub returns-clause-plain : goal.returns-clause-plain
returns-clause-plain c = λ own earlier before. key_left own.place own earlier (pos 0) refl before

pub returns-clause-turned : goal.returns-clause-turned
returns-clause-turned c = λ own earlier before. key_right own.place earlier own (pos 0) refl before

pub returns-clause-shifted : goal.returns-clause-shifted
returns-clause-shifted c = λ own earlier by before. key_left own.place own earlier by refl before

pub returns-clause-shifted_turned : goal.returns-clause-shifted_turned
returns-clause-shifted_turned c = λ own earlier by before. key_right own.place earlier own by refl before

pub returns-clause-meant : goal.returns-clause-meant
returns-clause-meant c = key_asks

pub returns-clause-equal : goal.returns-clause-equal
returns-clause-equal c = only_equal

pub returns-clause-literal : goal.returns-clause-literal
returns-clause-literal c = λ place left value. refl

pub returns-clause-neither : goal.returns-clause-neither
returns-clause-neither c = λ place left right not_left not_right. key_neither place left right (pos 0) not_left not_right
