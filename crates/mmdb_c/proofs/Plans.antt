-- Kinds of statements, and statements whose queries are explained with cells.
use mathlib.Core.Path.{◌≡◌, refl, ap, subst, sym, ◌∙◌}
use mathlib.Core.Logic.{◌⊎◌, inl, inr}
use Rattle.std.specs.Prelude.{◌≢◌, ℕ, true, false, List, Option, Some, None, Ok, length}
use Rattle.std.proofs.Common.{is_some}
use Rattle.mm_value.specs.declared.values.Value.{Value}
use Rattle.mm_query.specs.declared.command.Command.{Command}
use Rattle.mm_lang.specs.Templates.{template_of}
use Rattle.mm_session.proofs.KindLemmas.{kind_plans, no_query, the_query}
use Rattle.mm_session.specs.Kinds.{has_plan, kind_of, query_of}
use Rattle.mm_session.specs.Session.{SessionState}
use Rattle.mm_session.specs.Statements.{IsKindOf, IsUnexplained, LacksPlan, line_at, parameters_at}
use Rattle.mm_session.specs.declared.misuse.Misuse.{Misuse}
use Rattle.mm_session.specs.declared.misuse.Misuse.TheVariants.{NoPlan, NoSuchStatement, WrongNumberOfValues}
use Rattle.mm_session.specs.declared.statement_kind.StatementKind.{StatementKind}
use Rattle.mmdb_c.specs.Calls.{ExplainsCells, HasPlanAt, IsMisuseOf, LacksPlanAt, RefusesCells, RefusesPlan}
use Rattle.mmdb_c.specs.Cells.{StandFor}
use Rattle.mmdb_c.specs.declared.cell.Cell.{Cell}
use Rattle.mmdb_c.specs.steps.Running.{ExplainsWith}
use Rattle.mmdb_c.proofs.CellLemmas.{as_many_values}
use Rattle.mmdb_c.proofs.Running.{none_is_told, takes_others}

-- a kind is that of a statement that is there
pub kind_found : (found : Option (List ℕ)) (kind : StatementKind) → IsKindOf found (Some kind)
    → (line : List ℕ) × (found ≡ Some line) × ((command : Command) × (template_of line ≡ Ok command) × (kind ≡ kind_of command))
kind_found None kind is = absurd (cc)
kind_found (Some line) kind is = (line, refl, (is.0, is.1, let same : kind ≡ kind_of is.0 = cc in same))

-- without a kind there is no statement
pub no_kind : (found : Option (List ℕ)) → IsKindOf found None → found ≡ None
no_kind None is = refl
no_kind (Some line) is = absurd (let clash = is.2 in cc)

-- a statement whose kind has a plan has a query
pub has_plan_at : (number : ℕ) (old : SessionState) (kind : StatementKind) → IsKindOf (line_at number old.lines) (Some kind) → has_plan kind ≡ true
    → HasPlanAt number old
has_plan_at number old kind is plan =
    let there = kind_found (line_at number old.lines) kind is in
    let read = there.2 in
    let query = the_query (query_of read.0) (sym (kind_plans read.0) ∙ (ap has_plan (sym read.2) ∙ plan)) in
    record { line = there.0; is = there.1; command = read.0; read = read.1; query = query.0; asks = query.1 }

same_line : (found : Option (List ℕ)) (one other : List ℕ) → found ≡ Some one → found ≡ Some other → one ≡ other
same_line found one other p q = cc

-- and one whose kind has none has none
pub lacks_plan_at : (number : ℕ) (old : SessionState) (kind : StatementKind) → IsKindOf (line_at number old.lines) (Some kind) → has_plan kind ≡ false
    → (line : List ℕ) → line_at number old.lines ≡ Some line → LacksPlan line
lacks_plan_at number old kind is plan line at =
    let there = kind_found (line_at number old.lines) kind is in
    let read = there.2 in
    let same = same_line (line_at number old.lines) there.0 line there.1 at in
    (read.0, ap template_of (sym same) ∙ read.1, no_query (query_of read.0) (sym (kind_plans read.0) ∙ (ap has_plan (sym read.2) ∙ plan)))

-- a number without a query is that of no statement, or of one without a query
pub no_plan : (number : ℕ) (cells : List Cell) (old : SessionState) → ((line : List ℕ) → line_at number old.lines ≡ Some line → LacksPlan line)
    → IsMisuseOf number cells old ⊎ LacksPlanAt number old
no_plan number cells old lacks = by (line_at number old.lines) refl
  where
    by : (found : Option (List ℕ)) → line_at number old.lines ≡ found → IsMisuseOf number cells old ⊎ LacksPlanAt number old
    by None is = inl (inl (none_is_told _ (line_at number old.lines) (length cells) is))
    by (Some line) is = inr (line, is, lacks line is)

-- a refusal of the cells refuses the plan
pub refused_plan : (number : ℕ) (cells : List Cell) (status : ℕ) (old : SessionState) → HasPlanAt number old → RefusesCells number cells status old
    → RefusesPlan number cells status old
refused_plan number cells status old plan (inl misused) = inl (misused.0, inl misused.1)
refused_plan number cells status old plan (inr memory) = inr (memory, plan)

-- an explanation with the values of cells is one with the cells
pub explains_cells : (number : ℕ) (cells : List Cell) (values : List Value) (status : ℕ) (old new : SessionState) → StandFor cells values
    → ExplainsWith number values status old new → ExplainsCells number cells status old new
explains_cells number cells values status old new stand (inl explained) =
    inl (record { values = values; stand = stand; explains = explained.0; status_is = explained.1 })
explains_cells number cells values status old new stand (inr fault) = inr (fault.0, inl (fault.1, by fault.2.0 fault.2.1))
  where
    others : parameters_at number old.lines ≢ Some (length values) → IsMisuseOf number cells old ⊎ LacksPlanAt number old
    others differs = inl (inl (subst (λ n. parameters_at number old.lines ≢ Some n) (as_many_values cells values stand) differs))

    by : (misused : Misuse) → IsUnexplained (line_at number old.lines) (length values) misused → IsMisuseOf number cells old ⊎ LacksPlanAt number old
    by NoPlan lacks = inr lacks
    by NoSuchStatement none = others (takes_others number (length values) old.lines NoSuchStatement none)
    by WrongNumberOfValues wrong = others (takes_others number (length values) old.lines WrongNumberOfValues wrong)
