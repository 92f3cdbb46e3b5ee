use Rattle.std.proofs.Common.{◌≡◌, ◌+◌, [], ◌∷◌, ◌++◌, suc, drop, inl, inr, ap, ◌∙◌, append_assoc, arith}
use Rattle.std.specs.List.{list_any}
use Rattle.std.proofs.lemmas.Result.{err_from_is_err_and}
use Rattle.mm_value.specs.Views.{value_of}
use Rattle.mm_query.specs.Atoms.{is_past_range, updated_from, updated_row, updated_value}
use Rattle.mm_query.proofs.Updates.{in_range_behind, next_value, refused_among}
use Rattle.mm_query.proofs.update.updated_row.Goals as goal

pub returns-in_err-updated_value-clause-due : goal.returns-in_err-updated_value-clause-due
returns-in_err-updated_value-clause-due g c =
    let p = err_from_is_err_and c.from_residual-in_err-updated_value.result c.from_residual-in_err-updated_value.ensures.1 in
    let row = g.R.AsRow.row c.args.row.now in
    let next = next_value c.args.assignments.now row c.loop-column.column (value_of c.value-old.result) c.loop-column.values.items
    (updated_row c.args.assignments.now row) c.value-old.ensures c.loop-column.invariant.rest in
    rw (p.1, p.2) (elim c.in_err-updated_value.ensures.due [ inl due ↦ inl (refused_among _ _ _ _ _ next due) | inr memory ↦ inr memory ])

pub loop-column-preserved : goal.loop-column-preserved
loop-column-preserved g c =
    let assignments = c.args.assignments.now in
    let row = g.R.AsRow.row c.args.row.now in
    let i = c.loop-column.column in
    let old = value_of c.value-old.result in
    let front = c.loop-column.values.items in
    let new = updated_value assignments row i old in
    let one : i + 1 ≡ suc i = omega arith in
    let pushed : c.push.new.self.items ≡ front ++ new ∷ [] =
    c.in_ok-push.ensures.items ∙ ap (λ v. front ++ v ∷ []) c.in_ok-updated_value.ensures.ok in
    let next = next_value assignments row i old front (updated_row assignments row) c.value-old.ensures c.loop-column.invariant.rest in
    record {
      rest = ap (λ l. l ++ updated_from assignments row (i + 1) (drop (i + 1) row)) pushed
          ∙ (append_assoc front (new ∷ []) (updated_from assignments row (i + 1) (drop (i + 1) row))
          ∙ (ap (λ n. front ++ new ∷ updated_from assignments row n (drop n row)) one ∙ next));
      in_range = ap (list_any is_past_range) pushed
          ∙ in_range_behind front new c.loop-column.invariant.in_range c.in_ok-updated_value.ensures.due;
    }
