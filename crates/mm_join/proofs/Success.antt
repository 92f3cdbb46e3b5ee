-- Properties of success.
use Rattle.std.proofs.Common.{Result, Ok, Err}
use Rattle.std.specs.Prelude.{OnOk}

-- A consequence of a property of success holds on success too.
pub on_success : {T E : Type 0} (P Q : Type 0) (result : Result T E) → OnOk result P → (P → Q) → OnOk result Q
on_success P Q (Ok value) holds leads = leads holds
on_success P Q (Err error) holds leads = tt
