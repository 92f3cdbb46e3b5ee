-- The refusal that a call returns.
use Rattle.std.proofs.Common.{◌≡◌, Option, inl, sym}
use Rattle.std.specs.Prelude.{Err, Ok, Result}
use Rattle.std.specs.Result.{result_err}
use Rattle.mm_schema.specs.Refused.{AnswersDue}
use Rattle.mm_value.specs.declared.refusal.Refusal.{Refusal}

-- the refusal that is due is returned
pub answers_due : {T : Type 0} (result : Result T Refusal) (due : Option Refusal) → result_err result ≡ due → AnswersDue due result
answers_due (Ok value) due same = sym same
answers_due (Err refusal) due same = inl (sym same)
