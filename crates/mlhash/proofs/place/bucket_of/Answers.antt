use Rattle.std.proofs.Common.{◌%◌, ◌*◌, ◌^◌, ◌<◌, ◌≤◌, sym, ◌∙◌, arith}
use Rattle.mlhash.proofs.AddressLemmas.{low_mask, high_mask, bucket_split, bucket_whole}
use Rattle.mlhash.proofs.place.bucket_of.Goals as goal

pub returns-then-low-place : goal.returns-then-low-place
returns-then-low-place c =
    let p = c.args.place in
    let h = c.args.hash in
    let lt : h % (4 * 2 ^ p.level) < p.split = omega (arith, low_mask p.level h c.requires, c.if-low-place.true) in
    high_mask p.level h c.requires ∙ sym (bucket_split p h lt)

pub returns-else-low-place : goal.returns-else-low-place
returns-else-low-place c =
    let p = c.args.place in
    let h = c.args.hash in
    let le : p.split ≤ h % (4 * 2 ^ p.level) = omega (arith, low_mask p.level h c.requires, c.if-low-place.false) in
    low_mask p.level h c.requires ∙ sym (bucket_whole p h le)
