-- The TABLE commands of a dump create its tables.
use Rattle.std.proofs.Common.{◌≡◌, List, [], ◌∷◌, ◌++◌, None, map, refl, sym, ap, ◌∙◌, append_assoc, append-nil}
use Rattle.std.proofs.lemmas.List.{map-append}
use Rattle.mm_schema.specs.Instance.{Instance}
use Rattle.mm_schema.specs.Refused.{first_refusal}
use Rattle.mm_schema.specs.declared.table.Table.{Table}
use Rattle.mm_query.specs.Machine.{after_all, conditions, reply_to, state_after, step, unless_refused}
use Rattle.mm_query.specs.State.{State}
use Rattle.mm_query.specs.declared.command.Command.{Command}
use Rattle.mm_query.specs.declared.command.Command.TheVariants as command
use Rattle.mm_query.specs.declared.command.Definition.TheVariants as define
use Rattle.mm_dump.specs.Dumps.{table_entries}
use Rattle.mm_dump.proofs.Restorable.{AreCreatable, state_of, without_indexes}
use Rattle.mm_dump.specs.Entries.{Entry, entry_command}

-- A command that nothing refuses is done.
pub step_done : (c : Command) (state : State) → first_refusal (conditions c state) ≡ None → (step c state).state ≡ state_after c state
step_done c state due = ap (λ refusal. (unless_refused refusal state (record { reply = reply_to c state; state = state_after c state })).state) due

-- Commands one after another.
pub after_both : (cs ds : List Command) (state : State) → after_all (cs ++ ds) state ≡ after_all ds (after_all cs state)
after_both [] ds state = refl
after_both (c ∷ cs) ds state = after_both cs ds (step c state).state

-- The commands of entries.
abbrev pub commands_of : List Entry → List Command
commands_of entries = map entry_command entries

abbrev pub bare : List Table → List Table
bare tables = map without_indexes tables

-- No rows for each table.
abbrev pub no_rows : List Table → Instance
no_rows tables = map (λ (table : Table). []) tables

pub created : (earlier tables : List Table) → AreCreatable earlier tables
    → after_all (commands_of (table_entries tables)) (state_of (bare earlier) (no_rows earlier))
    ≡ state_of (bare (earlier ++ tables)) (no_rows (earlier ++ tables))
created earlier [] creatable = λ i. state_of (bare (sym (append-nil earlier) i)) (no_rows (sym (append-nil earlier) i))
created earlier (t ∷ ts) creatable =
    let here = state_of (bare earlier) (no_rows earlier) in
    let create = command.Define (define.Table t.definition) in
    let pushed : state_after create here ≡ state_of (bare (earlier ++ t ∷ [])) (no_rows (earlier ++ t ∷ [])) =
    λ i. state_of (sym (map-append without_indexes earlier (t ∷ [])) i) (sym (map-append (λ (table : Table). []) earlier (t ∷ [])) i) in
    ap (after_all (commands_of (table_entries ts))) (step_done create here creatable.0 ∙ pushed)
    ∙ created (earlier ++ t ∷ []) ts creatable.1
    ∙ (λ i. state_of (bare (append_assoc earlier (t ∷ []) ts i)) (no_rows (append_assoc earlier (t ∷ []) ts i)))
