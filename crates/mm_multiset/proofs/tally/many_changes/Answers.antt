use Rattle.std.proofs.Common.{◌≡◌, ℤ, pos, neg_ℤ, ◌-ℤ◌, List, sym, ap, ◌∙◌, subst, arith}
use Rattle.std.proofs.lemmas.Int.{ints}
use Rattle.mm_multiset.specs.Counts.{IsNet, count_in, signed_count}
use Rattle.mm_multiset.specs.declared.signed.Signed.{Signed}
use Rattle.mm_multiset.proofs.Merging.{net_turned, signed_turned}
use Rattle.mm_multiset.proofs.tally.many_changes.Goals as goal

turned : (f t a b : ℤ) → f ≡ neg_ℤ t → t ≡ a -ℤ b → f ≡ b -ℤ a
turned f t a b e is = omega (arith, ints, e, is)

pub returns-clause-change : goal.returns-clause-change
returns-clause-change c = λ row.
    turned (signed_count row c.turn.new.changes.items) (signed_count row c.in_ok-found.found.items) (pos (count_in row c.args.goes.entries))
    (pos (count_in row c.args.comes.entries))
    (ap (λ (xs : List Signed). signed_count row xs) c.turn.ensures ∙ signed_turned row c.in_ok-found.found.items)
    (c.in_ok-found.ensures.change row)

pub returns-clause-net : goal.returns-clause-net
returns-clause-net c =
    subst IsNet (sym c.turn.ensures)
    (net_turned c.in_ok-found.found.items (record {
      once = c.in_ok-found.ensures.once;
      nonzero = c.in_ok-found.ensures.nonzero;
      small =
          c.in_ok-found.ensures.small;
    }))
