-- At the end all values are combined.
use Rattle.std.proofs.Common.{◌≡◌, fold, length, ap, ◌∙◌, arith}
use Rattle.std.proofs.lemmas.List.{take_all}
use Rattle.mm_multiset.specs.RowHash.{folded, row_hash, with_value}
use Rattle.mm_multiset.proofs.bag.finding.hash_of.Goals as goal

pub returns : goal.returns
unfolding row_hash
returns c =
    let row = c.args.row.now in
    let all : c.loop-value.hash ≡ fold with_value 0 row =
    c.loop-value.invariant ∙ ap (λ l. fold with_value 0 l) (take_all c.loop-value.value-index row (omega (arith, ap length c.values-value-items.ensures)))
    in
    ap folded all
