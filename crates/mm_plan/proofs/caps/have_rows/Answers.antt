use Rattle.std.proofs.Common.{◌≡◌, ℕ, ◌+◌, ◌<◌, List, get_or, inl, inr, length, sym, ap, ◌∙◌, subst, arith}
use Rattle.std.specs.Prelude.{◌==◌}
use Rattle.std.proofs.lemmas.Bool.{cases_Bool, eqb-true}
use Rattle.std.proofs.lemmas.Bool.Decides.{nat_tests}
use Rattle.std.proofs.lemmas.List.{get_or_default}
use Rattle.mm_plan.proofs.Growing.{has_row}
use Rattle.mm_store.specs.Tables.{rows_at}
use Rattle.mm_plan.proofs.caps.have_rows.Goals as goal

-- A property of the first numbers and of the next one holds for one more number.
one_more : (P : ℕ → Type 0) (items : List ℕ) (i : ℕ) → ((k d : ℕ) → k < i → P (get_or items k d)) → (item : ℕ) → i < length items
    → item ≡ get_or items i item → P item → (k d : ℕ) → k < i + 1 → P (get_or items k d)
one_more P items i before item within is holds k d below =
    elim (cases_Bool (k == i)) [
      | inl here ↦ subst P (is ∙ (get_or_default items i item d within ∙ ap (λ n. get_or items n d) (sym (eqb-true k i here)))) holds
      | inr differs ↦ before k d (grind (arith, nat_tests))
    ]

pub loop-table-preserved : goal.loop-table-preserved
loop-table-preserved c =
    let tables = c.args.tables.now in
    let i = c.loop-table.table-index in
    let here = c.loop-table-test.true in
    let table = get_or tables i 0 in
    one_more (λ (t : ℕ). 0 < length (rows_at c.args.view.now.store.tables t)) tables i c.loop-table.invariant table here
    (get_or_default tables i 0 table here)
    (has_row c.args.view.now.store table c.len_of.result (c.requires i 0 here) c.len_of.ensures.count c.if-len_of-eq0.false)
