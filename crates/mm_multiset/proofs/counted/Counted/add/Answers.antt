-- The total stays within its bounds, and each count is at most the total.
use Rattle.std.proofs.Common.{◌^◌, pos, ◌+ℤ◌, ◌≤ℤ◌, ◌<ℤ◌, ap, sym, subst, ◌∙◌, arith}
use Rattle.std.proofs.lemmas.Int.{ints, to_z-of_z}
use mir.Syntax.{w128}
use Rattle.mm_multiset.specs.Counts.{count_in, total_of}
use Rattle.mm_multiset.proofs.Entries.{count_within, change_fits}
use Rattle.mm_multiset.proofs.counted.Counted.add.Goals as goal

pub changed-self-inside-requires-clause-least : goal.changed-self-inside-requires-clause-least
changed-self-inside-requires-clause-least c =
    let row = c.args.change.row in
    let change = c.args.change.count in
    let total = c.self.invariant.1 ∙ ap (λ v. total_of v.entries) c.self.view_is in
    let within = count_within row c.args.self.now.entries in
    let fits = c.self.ranges in
    let least = c.requires.count in
    let short = change_fits (count_in row c.args.self.now.entries) (total_of c.args.self.now.entries) change within (omega (arith, total)) least
    c.requires.total in
    subst (λ z. pos 0 ≤ℤ (pos c.self.inside.total +ℤ z)) (sym (to_z-of_z w128 change short)) (omega (arith, ints))

pub add_count-requires-clause-most : goal.add_count-requires-clause-most
add_count-requires-clause-most c =
    let row = c.args.change.row in
    let change = c.args.change.count in
    let total = c.self.invariant.1 ∙ ap (λ v. total_of v.entries) c.self.view_is in
    let same = ap (λ v. count_in row v.entries) c.self.view_is in
    let within = count_within row c.args.self.now.entries in
    let fits = c.self.ranges in
    let most = c.requires.total in
    let short = change_fits (count_in row c.args.self.now.entries) (total_of c.args.self.now.entries) change within (omega (arith, total)) c.requires.count
    most in
    subst (λ z. (pos (count_in row c.self.inside.counts.entries) +ℤ z) <ℤ pos (2 ^ 64)) (sym (to_z-of_z w128 change short)) (omega (arith, ints))
