-- Calls of C as calls on a session.
use Rattle.std.proofs.Common.{ℕ, zero, suc, List, [], ◌∷◌, ◌++◌, Ok, Err, drop, inl, inr, map, refl, subst, take}
use Rattle.mm_session.specs.Calls.{LeadTo, SessionCall}
use Rattle.mm_session.specs.Calls.SessionCall.{Append, Execute, Explain, Finalize, Prepare, Release, Run}
use Rattle.mm_session.specs.Loading.{lines_tried}
use Rattle.mm_session.specs.Session.{SessionState}
use Rattle.mm_session.specs.declared.column_array.ColumnArray.{ColumnArray}
use Rattle.mm_session.specs.declared.misuse.Misuse.TheVariants.{NoSuchStatement}
use Rattle.mm_session.proofs.LoadedScripts.{load_leads}
use Rattle.mmdb_c.specs.Appending.{AppendsColumns}
use Rattle.mmdb_c.specs.Calls.{Executes, ExplainsCells, Prepares, ReleasesName, RunsCells, RunsMany, RunsRows, TakesStatement}
use Rattle.mmdb_c.specs.Loading.{LoadsScript}
use Rattle.mmdb_c.specs.declared.cell.Cell.{Cell}

-- Some calls lead there.
abbrev Reaches : SessionState → SessionState → Type 0
Reaches old new = (calls : List SessionCall) × LeadTo calls old new

joined : (calls later : List SessionCall) (old between new : SessionState) → LeadTo calls old between → LeadTo later between new
    → LeadTo (calls ++ later) old new
joined [] later old between new is leads = subst (λ (state : SessionState). LeadTo later state new) is leads
joined (call ∷ calls) later old between new h leads = (h.0, h.1, joined calls later h.0 between new h.2 leads)

pub execute_leads : (line : List ℕ) (status : ℕ) (old new : SessionState) → Executes line status old new → LeadTo (Execute line ∷ []) old new
execute_leads line status old new h = (new, h.answers, refl)

pub append_leads : (table : List ℕ) (columns : List ColumnArray) (status : ℕ) (old new : SessionState) → AppendsColumns table columns status old new
    → LeadTo (Append table columns ∷ []) old new
append_leads table columns status old new h = (new, (h.result, h.appends), refl)

pub load_script_leads : (script : List ℕ) (lines status : ℕ) (old new : SessionState) → LoadsScript script lines status old new → Reaches old new
load_script_leads script lines status old new h = (map Execute (lines_tried script h.result), load_leads script old new h.result h.loads)

pub prepare_leads : (line : List ℕ) (number_old number_new status : ℕ) (old new : SessionState) → Prepares line number_old number_new status old new
    → LeadTo (Prepare line ∷ []) old new
prepare_leads line number_old number_new status old new h = (new, (h.result, h.prepared), refl)

pub run_leads : (number : ℕ) (cells : List Cell) (status : ℕ) (old new : SessionState) → RunsCells number cells status old new → Reaches old new
run_leads number cells status old new (inl h) = (Run number h.values ∷ [], (new, (Ok tt, h.runs), refl))
run_leads number cells status old new (inr h) = ([], h.0)

many_lead : (number width count : ℕ) (cells : List Cell) (status : ℕ) (old new : SessionState) → RunsMany number width count cells status old new
    → Reaches old new
many_lead number width zero cells status old new (inl h) = ([], h.2)
many_lead number width zero cells status old new (inr h) = run_leads number (take width cells) status old new h.2
many_lead number width (suc count) cells status old new h =
    let first = run_leads number (take width cells) h.0 old h.1 h.4 in
    let later = many_lead number width count (drop width cells) status h.1 new h.5 in
    (first.0 ++ later.0, joined first.0 later.0 old h.1 new first.1 later.1)

pub run_many_leads : (number width count : ℕ) (cells : List Cell) (status : ℕ) (old new : SessionState) → RunsRows number width count cells status old new
    → Reaches old new
run_many_leads number width count cells status old new (inl h) = many_lead number width count cells status old new h.1
run_many_leads number width count cells status old new (inr h) = ([], h.1)

pub explain_leads : (number : ℕ) (cells : List Cell) (status : ℕ) (old new : SessionState) → ExplainsCells number cells status old new → Reaches old new
explain_leads number cells status old new (inl h) = (Explain number h.values ∷ [], (new, (Ok tt, h.explains), refl))
explain_leads number cells status old new (inr h) = ([], h.0)

pub finalize_leads : (number status : ℕ) (old new : SessionState) → TakesStatement number status old new → LeadTo (Finalize number ∷ []) old new
finalize_leads number status old new (inl h) = (new, (Ok tt, h.1), refl)
finalize_leads number status old new (inr h) = (new, (Err NoSuchStatement, (h.1, refl, h.2)), refl)

pub release_leads : (name : List ℕ) (status : ℕ) (old new : SessionState) → ReleasesName name status old new → LeadTo (Release name ∷ []) old new
release_leads name status old new h = (new, (h.result, h.releases), refl)
