-- The commands in the laws of transactions, and the effects and refusals of transaction commands.
use Rattle.std.proofs.Common.{◌≡◌, ◌≢◌, ◌⊎◌, ◌<◌, ◌||◌, ℕ, Bool, true, false, cond, not, List, [], ◌∷◌, Option, Some, None, inl, inr, is_some, length, nat_lt}
use Rattle.std.proofs.Common.{refl, sym, ap, ◌∙◌, arith}
use Rattle.std.specs.List.{Contains, list_any}
use Rattle.std.specs.Option.{option_map, option_map_or}
use Rattle.std.proofs.lemmas.Bool.{cases_Bool, false≢true}
use Rattle.std.proofs.lemmas.Bool.Decides.{nat_tests}
use Rattle.mm_schema.specs.Instance.{Instance}
use Rattle.mm_schema.specs.Name.{same_name}
use Rattle.mm_schema.specs.Refused.{first_refusal}
use Rattle.mm_schema.specs.declared.index.IndexDef.{IndexDef}
use Rattle.mm_schema.proofs.NameLemmas.{same_bytes, same_name_refl}
use Rattle.mm_schema.proofs.StrictOrder.{Contains-from_IsIn, IsIn, IsIn-from_Contains}
use Rattle.mm_value.specs.declared.refusal.Refusal.TheVariants.{NoSuchSavepoint, NoTransaction, TooMany, TransactionOpen}
use Rattle.mm_query.specs.Machine.{back_to, conditions, is_of_index, lacks_savepoint, max_savepoints, state_after, step}
use Rattle.mm_query.specs.State.{Saved, Savepoint, State, has_transaction, savepoints_of}
use Rattle.mm_query.specs.Transactions.{is_done_without_memory, is_transaction_control, leaves_savepoint}
use Rattle.mm_query.specs.declared.command.Command.{Command}
use Rattle.mm_query.specs.declared.command.Command.TheVariants.{Nothing, Define, Change, Scan, ScanIndex, Select, Explain, Show, Tables, Begin, Commit}
use Rattle.mm_query.specs.declared.command.Command.TheVariants.{Rollback, Savepoint as SetSavepoint, RollbackTo}
use Rattle.mm_query.specs.declared.command.Definition.{Definition}
use Rattle.mm_query.specs.declared.command.Definition.TheVariants as define
use Rattle.mm_laws.proofs.Throughout.{kept_by_step, saved_by_definition}

-- ---- the groups of commands

abbrev three : List Command
three = Begin ∷ Commit ∷ Rollback ∷ []

pub is_of_three : (command : Command) → is_transaction_control command ≡ true → Contains three command
is_of_three Begin is = Contains-from_IsIn three Begin (inl refl)
is_of_three Commit is = Contains-from_IsIn three Commit (inr (inl refl))
is_of_three Rollback is = Contains-from_IsIn three Rollback (inr (inr (inl refl)))
is_of_three _ is = absurd (false≢true is)

pub three_control : (command : Command) → Contains three command → is_transaction_control command ≡ true
three_control command among = by (IsIn-from_Contains three command among)
  where
    by : IsIn command three → is_transaction_control command ≡ true
    by (inl is) = ap is_transaction_control (sym is)
    by (inr (inl is)) = ap is_transaction_control (sym is)
    by (inr (inr (inl is))) = ap is_transaction_control (sym is)
    by (inr (inr (inr none))) = absurd none

pub is_of_four : (command : Command) → is_done_without_memory command ≡ true
    → Contains three command ⊎ ((name : List ℕ) × (command ≡ RollbackTo name))
is_of_four (RollbackTo name) is = inr (name, refl)
is_of_four command is = inl (is_of_three command is)

pub four_without_memory : (command : Command) → Contains three command ⊎ ((name : List ℕ) × (command ≡ RollbackTo name))
    → is_done_without_memory command ≡ true
four_without_memory command (inr (name, is)) = ap is_done_without_memory is
four_without_memory command (inl among) = by (IsIn-from_Contains three command among)
  where
    by : IsIn command three → is_done_without_memory command ≡ true
    by (inl is) = ap is_done_without_memory (sym is)
    by (inr (inl is)) = ap is_done_without_memory (sym is)
    by (inr (inr (inl is))) = ap is_done_without_memory (sym is)
    by (inr (inr (inr none))) = absurd none

pub of_an_index : (definition : Definition) → is_of_index definition ≡ true
    → ((index : IndexDef) × (definition ≡ define.Index index)) ⊎ ((name : List ℕ) × (definition ≡ define.DropIndex name))
of_an_index (define.Index index) is = inl (index, refl)
of_an_index (define.DropIndex name) is = inr (name, refl)
of_an_index _ is = absurd (false≢true is)

pub index_is : (definition : Definition)
    → ((index : IndexDef) × (definition ≡ define.Index index)) ⊎ ((name : List ℕ) × (definition ≡ define.DropIndex name))
    → is_of_index definition ≡ true
index_is definition (inl (index, is)) = ap is_of_index is
index_is definition (inr (name, is)) = ap is_of_index is

pub another_leaves : (name other : List ℕ) → other ≢ name → leaves_savepoint name (SetSavepoint other) ≡ true
another_leaves name other differ = elim (cases_Bool (same_name name other)) [
  | inl same ↦ absurd (differ (sym (same_bytes name other same)))
  | inr apart ↦ ap not apart
]

pub same_does_not : (name : List ℕ) → leaves_savepoint name (SetSavepoint name) ≡ false
same_does_not name = ap not (same_name_refl name)

-- ---- when a transaction is open

pub open_by_begin : (state : State) → has_transaction (step Begin state).state ≡ true
open_by_begin state = by state.saved
  where
    by : (saved : Option Saved) → has_transaction (step Begin (record state { saved = saved })).state ≡ true
    by None = refl
    by (Some saved) = refl

pub closed_by_commit : (state : State) → has_transaction (step Commit state).state ≡ false
closed_by_commit state = by state.saved
  where
    by : (saved : Option Saved) → has_transaction (step Commit (record state { saved = saved })).state ≡ false
    by None = refl
    by (Some saved) = refl

pub closed_by_rollback : (state : State) → has_transaction (step Rollback state).state ≡ false
closed_by_rollback state = by state.saved
  where
    by : (saved : Option Saved) → has_transaction (step Rollback (record state { saved = saved })).state ≡ false
    by None = refl
    by (Some saved) = refl

-- saved rows that are changed are still saved
still_saved : (change : Saved → Saved) (saved : Option Saved) → is_some (option_map change saved) ≡ is_some saved
still_saved change None = refl
still_saved change (Some saved) = refl

pub as_it_was : (command : Command) (state : State) → is_transaction_control command ≡ false
    → has_transaction (step command state).state ≡ has_transaction state
as_it_was command state free =
    kept_by_step (λ (s : State). has_transaction s ≡ has_transaction state) command state (λ due. by command free) refl
  where
    by : (c : Command) → is_transaction_control c ≡ false → has_transaction (state_after c state) ≡ has_transaction state
    by Nothing free = refl
    by (Define definition) free = ap is_some (saved_by_definition definition state)
    by (Change mutation) free = refl
    by (Scan table) free = refl
    by (ScanIndex index) free = refl
    by (Select query) free = refl
    by (Explain query) free = refl
    by (Show name) free = refl
    by Tables free = refl
    by Begin free = absurd (false≢true (sym free))
    by Commit free = absurd (false≢true (sym free))
    by Rollback free = absurd (false≢true (sym free))
    by (SetSavepoint name) free =
        still_saved (λ (saved : Saved). record saved { savepoints = record { name = name; rows = state.rows } ∷ saved.savepoints }) state.saved
    by (RollbackTo name) free =
        still_saved (λ (saved : Saved). record saved { savepoints = back_to name saved.savepoints }) state.saved

-- ---- commands that nothing refuses

pub may_begin : (state : State) → has_transaction state ≡ false → first_refusal (conditions Begin state) ≡ None
may_begin state closed = ap (λ b. cond b (Some TransactionOpen) None) closed

pub may_commit : (state : State) → has_transaction state ≡ true → first_refusal (conditions Commit state) ≡ None
may_commit state is_open = ap (λ b. cond (not b) (Some NoTransaction) None) is_open

pub may_roll_back : (state : State) → has_transaction state ≡ true → first_refusal (conditions Rollback state) ≡ None
may_roll_back state is_open = ap (λ b. cond (not b) (Some NoTransaction) None) is_open

pub may_divide : (name : List ℕ) (state : State) → has_transaction state ≡ true → length (savepoints_of state) < 64
    → first_refusal (conditions (SetSavepoint name) state) ≡ None
may_divide name state is_open few =
    let room : nat_lt (length (savepoints_of state)) max_savepoints ≡ true = grind (arith, nat_tests) in
    ap (λ b. cond (not b) (Some NoTransaction) (cond (not (nat_lt (length (savepoints_of state)) max_savepoints)) (Some TooMany) None)) is_open
    ∙ ap (λ b. cond (not b) (Some TooMany) None) room

-- an existing savepoint has its name
named_there : (name : List ℕ) (rows : Instance) (savepoints : List Savepoint) → IsIn (record { name = name; rows = rows }) savepoints
    → list_any (λ (s : Savepoint). same_name name s.name) savepoints ≡ true
named_there name rows [] here = absurd here
named_there name rows (s ∷ ss) (inl is) =
    ap (λ b. b || list_any (λ (s : Savepoint). same_name name s.name) ss) (ap (λ (s : Savepoint). same_name name s.name) is ∙ same_name_refl name)
named_there name rows (s ∷ ss) (inr later) = by (same_name name s.name) (named_there name rows ss later)
  where
    by : (b : Bool) → list_any (λ (s : Savepoint). same_name name s.name) ss ≡ true
        → (b || list_any (λ (s : Savepoint). same_name name s.name) ss) ≡ true
    by true there = refl
    by false there = there

-- savepoints exist only in a transaction
open_there : (saved : Option Saved) (savepoint : Savepoint) → IsIn savepoint (option_map_or (λ (s : Saved). s.savepoints) saved []) → is_some saved ≡ true
open_there None savepoint here = absurd here
open_there (Some saved) savepoint here = refl

pub may_go_back : (name : List ℕ) (rows : Instance) (state : State) → Contains (savepoints_of state) (record { name = name; rows = rows })
    → first_refusal (conditions (RollbackTo name) state) ≡ None
may_go_back name rows state among =
    let here : IsIn (record { name = name; rows = rows }) (savepoints_of state) = IsIn-from_Contains (savepoints_of state)
    (record { name = name; rows = rows }) among in
    ap (λ b. cond (not b) (Some NoTransaction) (cond (lacks_savepoint name state) (Some NoSuchSavepoint) None))
    (open_there state.saved (record { name = name; rows = rows }) here)
    ∙ ap (λ b. cond (not b) (Some NoSuchSavepoint) None) (named_there name rows (savepoints_of state) here)
