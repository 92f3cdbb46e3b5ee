-- Comparisons in several steps.
use Rattle.std.proofs.Common.{◌≡◌, ◌≢◌}
use Rattle.std.specs.Ordering.{ordering_then}
use Rattle.std.specs.declared.cmp.Ordering.{Ordering}
use Rattle.std.specs.declared.cmp.Ordering.TheVariants.{Less, Equal, Greater}

-- a comparison in three steps that is less is not greater in the first
pub then_less : (x y z : Ordering) → ordering_then (ordering_then x y) z ≡ Less → x ≢ Greater
then_less Less y z p = λ e. cc
then_less Equal y z p = λ e. cc
then_less Greater y z p = λ e. cc
