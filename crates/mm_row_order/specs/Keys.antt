-- The agreement of numbers or prefixes with the rows has at most one proof.
use Rattle.std.specs.Prelude.{ℕ}
use Rattle.std.proofs.Props.{props}
use Rattle.mm_partition.specs.Keys.{AreKeys}
use Rattle.mm_partition.specs.Places.{Places}
use Rattle.mm_partition.specs.declared.keys.ColumnKeys.{ColumnKeys}
use Rattle.mm_partition.specs.declared.keys.ColumnKeys.TheVariants.{Numbers, Prefixes, None}

pub AreKeys-prop : (column : ℕ) (places : Places) (keys : ColumnKeys) → IsProp (AreKeys column places keys)
AreKeys-prop column places (Numbers numbers) = hlevel props
AreKeys-prop column places (Prefixes prefixes) = hlevel props
AreKeys-prop column places None = hlevel props
