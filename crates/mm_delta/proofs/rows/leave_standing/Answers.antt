use Rattle.std.proofs.Common.{◌≡◌, ◌==◌, true, true≢false, length, List, [], ◌∷◌, refl, ap, sym, ◌∙◌, rules, filter}
use Rattle.std.proofs.Math.Dec.{eqb-suc-zero}
use Rattle.std.proofs.lemmas.Fn.{filter_same}
use Rattle.mm_tables.specs.declared.edit.Edit.{Edit}
use Rattle.mm_value.specs.declared.row_ref.RowRef.{RowRef}
use Rattle.mm_delta.specs.Steps.{stays}
use Rattle.mm_delta.proofs.rows.leave_standing.Goals as goal

-- Without an edit all references stay.
all_stay : (refs : List RowRef) → refs ≡ filter (stays []) refs
all_stay [] = refl
all_stay (at ∷ refs) = ap (λ l. at ∷ l) (all_stay refs)

none_leave : (edits : List Edit) (refs : List RowRef) → true ≡ (length edits == 0) → refs ≡ filter (stays edits) refs
none_leave [] refs is = all_stay refs
none_leave (edit ∷ edits) refs is = absurd (true≢false (is ∙ eqb-suc-zero (length edits)))

pub returns-then-not-is_empty : goal.returns-then-not-is_empty
returns-then-not-is_empty c = filter_same _ (stays c.args.edits.now) _ (λ at b f k. search rules) _ _ c.retain.ensures.filtered

pub returns-else-not-is_empty : goal.returns-else-not-is_empty
returns-else-not-is_empty c = none_leave c.args.edits.now c.args.refs.now.items (sym c.if-not-is_empty.false ∙ c.is_empty.ensures)
