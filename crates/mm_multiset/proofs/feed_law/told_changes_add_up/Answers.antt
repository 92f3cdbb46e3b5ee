-- Change after change.
use Rattle.std.proofs.Common.{◌≡◌, ◌+ℤ◌, pos, List, [], ◌∷◌, ap, sym, ◌∙◌, arith}
use Rattle.std.proofs.lemmas.Int.{ints}
use Rattle.mm_value.specs.declared.values.Value.{Value}
use Rattle.mm_multiset.specs.Counts.{AreTold, Entries, number_in, signed_count}
use Rattle.mm_multiset.specs.declared.signed.Signed.{Signed}
use Rattle.mm_multiset.proofs.feed_law.told_changes_add_up.Goals as goal

sums : (changes : List Signed) (before after : Entries) → AreTold changes before after → (row : List Value)
    → pos (number_in row after) ≡ pos (number_in row before) +ℤ signed_count row changes
sums [] before after told row = let same = ap (number_in row) told in omega (arith, ints, same)
sums (change ∷ changes) before after told row =
    let first = told.1 row in
    let rest = sums changes told.0 after told.2 row in
    omega (arith, ints, first, rest)

pub returns : goal.returns
returns c = λ distinct before after entries changes told now row. ap pos (sym (now row)) ∙ sums changes before after told row
