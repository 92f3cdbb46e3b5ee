use Rattle.std.proofs.Common.{◌≡◌, ℤ, neg_ℤ, ◌+ℤ◌, ◌-ℤ◌, List, sym, ap, ◌∙◌, subst, arith}
use Rattle.std.proofs.lemmas.Int.{ints}
use Rattle.std.proofs.lemmas.Result.{IfOk-weaker}
use Rattle.mm_multiset.specs.Counts.{signed_count}
use Rattle.mm_multiset.specs.Tally.{AreOnce}
use Rattle.mm_multiset.specs.declared.signed.Signed.{Signed}
use Rattle.mm_multiset.proofs.Merging.{once_turned, signed_turned}
use Rattle.mm_multiset.proofs.few.few_changes.Goals as goal

pub merged-requires-else-is_empty-clause-first :
    goal.merged-requires-else-is_empty-clause-first
merged-requires-else-is_empty-clause-first c = subst (λ (xs : List Signed). AreOnce xs) (sym c.turn.ensures) (once_turned c.args.goes.items c.requires.goes)

less : (f t a b : ℤ) → f ≡ t +ℤ a → t ≡ neg_ℤ b → f ≡ a -ℤ b
less f t a b e turned = omega (arith, ints, e, turned)

pub returns-else-is_empty-clause-change : goal.returns-else-is_empty-clause-change
returns-else-is_empty-clause-change c =
    IfOk-weaker c.merged-else-is_empty.result _ _
    (λ found sum row.
    less (signed_count row found.items) (signed_count row c.turn.new.changes.items) (signed_count row c.args.comes.items) (signed_count row c.args.goes.items)
    (sum row)
    (ap (λ (xs : List Signed). signed_count row xs) c.turn.ensures ∙ signed_turned row c.args.goes.items))
    c.merged-else-is_empty.ensures.change
