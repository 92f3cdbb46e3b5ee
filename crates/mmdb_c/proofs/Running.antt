-- Statements that are run with cells.
use mathlib.Core.Path.{◌≡◌, refl, ap, subst, ◌∙◌}
use mathlib.Core.Logic.{inl, inr}
use Rattle.std.proofs.Common.{arith}
use Rattle.std.specs.Prelude.{◌==◌, Bool, true, false, ◌≢◌, ℕ, suc, ◌+◌, ◌<◌, ◌≤◌, List, [], ◌∷◌, Option, Some, None, drop, length, take}
use Rattle.std.specs.Option.{option_map}
use Rattle.mm_value.specs.declared.values.Value.{Value}
use Rattle.mm_session.specs.Session.{SessionState}
use Rattle.mm_session.specs.Statements.{IsMisused, line_at, parameters_at}
use Rattle.mm_session.specs.declared.misuse.Misuse.{Misuse}
use Rattle.mm_session.specs.declared.misuse.Misuse.TheVariants.{NoPlan, NoSuchStatement, WrongNumberOfValues}
use Rattle.mmdb_c.specs.Calls.{RunsCells, RunsMany, RunsRows}
use Rattle.mmdb_c.specs.Statuses.{done, first_refusal_number}
use Rattle.mmdb_c.specs.Cells.{StandFor}
use Rattle.mmdb_c.specs.declared.cell.Cell.{Cell}
use Rattle.mmdb_c.specs.steps.Running.{RunsWith}
use Rattle.mmdb_c.proofs.CellLemmas.{as_many_values}

-- without a line there is no number of values
pub none_is_told : (count_of : List ℕ → ℕ) (found : Option (List ℕ)) (count : ℕ) → found ≡ None → option_map count_of found ≢ Some count
none_is_told count_of found count is e = let told : option_map count_of found ≡ None = ap (option_map count_of) is in cc

-- the number of values of a line is its own
own_is_told : (count_of : List ℕ → ℕ) (found : Option (List ℕ)) (line : List ℕ) (count : ℕ) → found ≡ Some line → count ≢ count_of line
    → option_map count_of found ≢ Some count
own_is_told count_of found line count is differs e =
    let told : option_map count_of found ≡ Some (count_of line) = ap (option_map count_of) is in
    let same : count ≡ count_of line = cc in differs same

-- a statement that is misused with some values takes another number of values
pub takes_others : (number count : ℕ) (lines : List (Option (List ℕ))) (fault : Misuse) → IsMisused (line_at number lines) count fault
    → parameters_at number lines ≢ Some count
takes_others number count lines NoSuchStatement none = none_is_told _ (line_at number lines) count none
takes_others number count lines WrongNumberOfValues wrong = own_is_told _ (line_at number lines) wrong.0 count wrong.1 wrong.2
takes_others number count lines NoPlan never = absurd never

-- a run with the values of cells is a run with the cells
pub runs_cells : (number : ℕ) (cells : List Cell) (values : List Value) (status : ℕ) (old new : SessionState) → StandFor cells values
    → RunsWith number values status old new → RunsCells number cells status old new
runs_cells number cells values status old new stand (inl ran) = inl (record { values = values; stand = stand; runs = ran.0; status_is = ran.1 })
runs_cells number cells values status old new stand (inr fault) =
    let others = takes_others number (length values) old.lines fault.2.0 fault.2.1 in
    inr (fault.0, inl (fault.1, inl (subst (λ n. parameters_at number old.lines ≢ Some n) (as_many_values cells values stand) others)))

-- the runs so far, and those of the other cells, are those of all
abbrev pub Continues : ℕ → ℕ → ℕ → List Cell → List Cell → SessionState → SessionState → Type 0
Continues number width runs cells rest before now =
    (count status : ℕ) (new : SessionState) → RunsMany number width count rest status now new → RunsMany number width (runs + count) cells status before new

pub continues_first : (number width runs : ℕ) (cells : List Cell) (before : SessionState) → runs ≡ 0 → Continues number width runs cells cells before before
continues_first number width runs cells before e =
    λ count status new many. subst (λ n. RunsMany number width n cells status before new) (omega (arith, e)) many

pub continues_more : (number width runs : ℕ) (cells rest : List Cell) (one : ℕ) (before now between : SessionState)
    → Continues number width runs cells rest before now → rest ≢ [] → one < first_refusal_number → RunsCells number (take width rest) one now between
    → Continues number width (runs + 1) cells (drop width rest) before between
continues_more number width runs cells rest one before now between was some low ran =
    λ count status new many. subst (λ n. RunsMany number width n cells status before new) (omega arith)
    (was (suc count) status new (one, between, some, low, ran, many))

pub runs_stopped : (number width runs : ℕ) (cells rest : List Cell) (status : ℕ) (before now new : SessionState) → 0 < width
    → Continues number width runs cells rest before now → rest ≢ [] → first_refusal_number ≤ status → RunsCells number (take width rest) status now new
    → RunsRows number width runs cells status before new
runs_stopped number width runs cells rest status before now new wide was some high ran =
    inl (wide, subst (λ n. RunsMany number width n cells status before new) (omega arith) (was 0 status new (inr (some, high, ran))))

pub runs_all : (number width runs : ℕ) (cells rest : List Cell) (before now : SessionState) → 0 < width
    → Continues number width runs cells rest before now → rest ≡ [] → RunsRows number width runs cells done before now
runs_all number width runs cells rest before now wide was none =
    inl (wide, subst (λ n. RunsMany number width n cells done before now) (omega arith) (was 0 done now (inl (none, refl, refl))))

abbrev IsFalse : Bool → Type 0
IsFalse false = Unit {0}
IsFalse true = ⊥

ends_at_0 : (n : ℕ) → true ≡ (n == 0) → n ≡ 0
ends_at_0 n h = grind arith

-- the meaning of the test of some cells
pub some_cells : (cells : List Cell) → false ≡ (length cells == 0) → 0 < length cells
some_cells [] h = absurd (subst IsFalse h tt)
some_cells (cell ∷ cells) h = omega arith

pub not_empty : (cells : List Cell) → false ≡ (length cells == 0) → cells ≢ []
not_empty cells h e = subst IsFalse (h ∙ ap (λ cs. length cs == 0) e) tt

pub is_nil : (cells : List Cell) → true ≡ (length cells == 0) → cells ≡ []
is_nil [] h = refl
is_nil (cell ∷ cells) h = absurd (omega (arith, ends_at_0 (suc (length cells)) h))
