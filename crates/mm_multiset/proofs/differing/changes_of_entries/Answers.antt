use Rattle.std.proofs.Common.{◌≡◌, ◌≢◌, ℕ, ◌^◌, ℤ, pos, neg_ℤ, ◌-ℤ◌, ◌<ℤ◌, List, [], ◌∷◌, ◌++◌, sym, ap, ◌∙◌, subst}
use Rattle.std.proofs.lemmas.Int.{to_z-of_z}
use mir.Syntax.{w128}
use mir.Val.{of_z, to_z}
use Rattle.mm_value.specs.declared.values.Value.{Value}
use Rattle.mm_multiset.specs.Counts.{Entries}
use Rattle.mm_multiset.specs.declared.signed.Signed.{Signed}
use Rattle.mm_multiset.proofs.Passing.{Passes, brought, less_count_in, passes_none, passes_on, passes_over, small_fits}
use Rattle.mm_multiset.proofs.differing.changes_of_entries.Goals as goal

pub loop-row-init : goal.loop-row-init
loop-row-init c =
    let brings = less_count_in c.args.goes.now.entries in
    let es = c.args.comes.now.entries in
    subst (λ (xs : List Signed). Passes brings (λ row. brought brings row es) xs c.into_iter-row-iterator.result) (sym c.new-found.ensures.items)
    (subst (λ (left : Entries). Passes brings (λ row. brought brings row es) [] left)
    (sym (c.into_iter-row-iterator.ensures.into_iter_gives ∙ c.entries-row-items.ensures.entries)) (passes_none brings es c.entries-row-items.ensures.once))

pub loop-row-preserved-in_ok-push : goal.loop-row-preserved-in_ok-push
loop-row-preserved-in_ok-push c =
    let brings = less_count_in c.args.goes.now.entries in
    let es = c.args.comes.now.entries in
    let row = c.in-Some.row.now in
    let count = c.in-Some.count.now in
    let found = c.loop-row.found.items in
    let left = c.next.new.self in
    let passes : Passes brings (λ r. brought brings r es) found ((row, count) ∷ left)
    = subst (λ (xs : Entries). Passes brings (λ r. brought brings r es) found xs) c.in-Some.ensures.steps c.loop-row.invariant in
    let short = small_fits c.net-change.result c.net-change.ensures.above c.net-change.ensures.below in
    let value : c.net-change.result ≡ brings row count = c.net-change.ensures.value ∙ ap (λ (n : ℕ). pos count -ℤ pos n) c.count.ensures in
    let pushed : c.push.new.self.items ≡ found ++ record { row = row; count = brings row count } ∷ []
    = c.in_ok-push.ensures.items ∙ (ap (λ (r : List Value). found ++ record { row = r; count = to_z w128 (of_z w128 c.net-change.result) } ∷ [])
    c.in_ok-copy.ensures.ok ∙ ap (λ (z : ℤ). found ++ record { row = row; count = z } ∷ []) (to_z-of_z w128 c.net-change.result short ∙ value)) in
    let differs : c.net-change.result ≢ pos 0 = λ none. c.if-change-ne0.true (ap (of_z w128) none) in
    subst (λ (xs : List Signed). Passes brings (λ r. brought brings r es) xs left) (sym pushed)
    (passes_on brings (λ r. brought brings r es) found (row, count) left passes (subst (λ (z : ℤ). z ≢ pos 0) value differs)
    (subst (λ (z : ℤ). (neg_ℤ (pos (2 ^ 64)) <ℤ z) × (z <ℤ pos (2 ^ 64))) value (c.net-change.ensures.above, c.net-change.ensures.below)))

pub loop-row-preserved : goal.loop-row-preserved
loop-row-preserved c =
    let brings = less_count_in c.args.goes.now.entries in
    let es = c.args.comes.now.entries in
    let row = c.in-Some.row.now in
    let count = c.in-Some.count.now in
    let found = c.loop-row.found.items in
    let left = c.next.new.self in
    let passes : Passes brings (λ r. brought brings r es) found ((row, count) ∷ left)
    = subst (λ (xs : Entries). Passes brings (λ r. brought brings r es) found xs) c.in-Some.ensures.steps c.loop-row.invariant in
    let short = small_fits c.net-change.result c.net-change.ensures.above c.net-change.ensures.below in
    let value : c.net-change.result ≡ brings row count = c.net-change.ensures.value ∙ ap (λ (n : ℕ). pos count -ℤ pos n) c.count.ensures in
    let same : c.net-change.result ≡ pos 0 = sym (to_z-of_z w128 c.net-change.result short) ∙ ap (to_z w128) c.if-change-ne0.false in
    passes_over brings (λ r. brought brings r es) found (row, count) left passes (sym value ∙ same)
