use Rattle.std.proofs.Common.{sym, subst}
use Rattle.mm_store.specs.Looked.{IsFirstSuch, IsHash}
use Rattle.mm_store.proofs.Looked.{is_first_hash, no_hash}
use Rattle.mm_store.proofs.index_ref.first_hash.Goals as goal

pub returns-in_err-place : goal.returns-in_err-place
returns-in_err-place c =
    let sought = c.in_err-place.ensures in
    subst (IsFirstSuch IsHash c.args.relation.now c.args.column) (sym c.from_residual.ensures)
    (no_hash c.args.relation.now c.args.column (record { first = sought.first; found = sought.found; none = sought.none }))

pub returns : goal.returns
returns c =
    let sought = c.in_ok-place.ensures in
    is_first_hash c.args.relation.now c.args.column c.in_ok-place.place
    (record { first = sought.first; found = sought.found; none = sought.none })
