use Rattle.std.proofs.Common.{◌≡◌, ◌∷◌, []}
use Rattle.mm_value.specs.declared.col_type.ColType.TheVariants.{Int, Text}
use Rattle.structure_tests.proofs.partitions.track_and_fill.Given as goal

-- each row has a number and a text
abbrev pub invariant-loop-k : goal.invariant-loop-k
invariant-loop-k g l = l.rows.types ≡ Int ∷ Text ∷ []
