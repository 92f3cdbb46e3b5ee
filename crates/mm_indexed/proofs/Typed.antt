-- Rows that have the types of columns.
use Rattle.std.proofs.Common.{◌≡◌, ◌∙◌, List, length, sym, ap}
use Rattle.std.proofs.lemmas.List.{length-map}
use Rattle.mm_value.specs.Types.{type_of}
use Rattle.mm_value.specs.declared.col_type.ColType.{ColType}
use Rattle.mm_value.specs.declared.values.Value.{Value}
use Rattle.mm_partition.specs.Types.{HasTypes}

-- they have a value for each column
pub HasTypes-length : (types : List ColType) (row : List Value) → HasTypes types row → length row ≡ length types
HasTypes-length types row typed = sym (length-map row type_of) ∙ ap (λ (ts : List ColType). length ts) typed
