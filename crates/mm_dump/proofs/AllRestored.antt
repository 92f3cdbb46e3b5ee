-- Dumps restore every state that commands lead to.
use Rattle.std.proofs.Common.{◌≡◌, ℕ, false, List, [], ◌++◌, refl, sym, ap, ◌∙◌, append_assoc}
use Rattle.std.proofs.lemmas.List.{map-append}
use Rattle.mm_query.specs.Machine.{after_all, some_lacks_target}
use Rattle.mm_query.specs.State.{State, first_state}
use Rattle.mm_query.specs.declared.command.Command.{Command}
use Rattle.mm_dump.specs.Dumps.{IsDump, index_entries, rows_entries, table_entries, watch_entries}
use Rattle.mm_dump.specs.Entries.{Entry, entry_command}
use Rattle.mm_dump.proofs.Asked.{reached_asked}
use Rattle.mm_dump.proofs.Creating.{after_both, commands_of}
use Rattle.mm_dump.proofs.Reached.{reached_restorable}
use Rattle.mm_dump.proofs.Restoring.{tables_restored}
use Rattle.mm_dump.proofs.Watching.{all_watched, watching}

module _ (commands : List Command) (targets : (name : List ℕ) → some_lacks_target name (after_all commands first_state) ≡ false) where
  abbrev reached : State
  reached = after_all commands first_state

  pub all_restored : (entries : List Entry) → IsDump reached entries
      → after_all (commands_of entries) first_state ≡ watching reached.schema.tables reached.rows reached.schema.standing reached.queries
  all_restored entries dump =
      let tables = reached.schema.tables in
      let creates = table_entries tables in
      let inserts = rows_entries tables dump.0 in
      let indexes = index_entries tables in
      let watches = watch_entries reached.schema reached.schema.standing reached.queries in
      let front = creates ++ (inserts ++ indexes) in
      let grouped : creates ++ (inserts ++ (indexes ++ watches)) ≡ front ++ watches =
      ap (λ l. creates ++ l) (sym (append_assoc inserts indexes watches)) ∙ sym (append_assoc creates (inserts ++ indexes) watches) in
      let asked = reached_asked commands in
      ap (λ es. after_all (commands_of es) first_state) (dump.2 ∙ grouped)
      ∙ ap (λ cs. after_all cs first_state) (map-append entry_command front watches)
      ∙ after_both (commands_of front) (commands_of watches) first_state
      ∙ ap (after_all (commands_of watches)) (tables_restored tables reached.rows (reached_restorable commands targets) front (dump.0, dump.1, refl))
      ∙ all_watched tables reached.rows reached.schema.standing [] [] reached.schema.standing reached.queries asked.0 asked.1.asked asked.1.fit asked.1.names
      asked.1.few
