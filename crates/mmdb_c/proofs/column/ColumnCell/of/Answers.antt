use Rattle.std.proofs.Common.{ℕ, arith, length}
use Rattle.std.proofs.lemmas.List.{drop-replicate}
use Rattle.mmdb_c.proofs.column.ColumnCell.of.Goals as goal

pub returns : goal.returns
returns c =
    let zeros = drop-replicate {X = ℕ} (length c.args.column.now.name) 32 0 in
    grind (arith, zeros, c.copy_from_slice.ensures, c.bytes-bytes.ensures.value, c.kind_of.ensures)
