-- Whether ROLLBACK TO is refused in an open transaction.
use Rattle.std.proofs.Common.{◌≡◌, ℕ, Bool, true, false, cond, not, List, [], Some, None, ap, ◌∙◌}
use Rattle.std.specs.List.{AllByRecursion, list_any}
use Rattle.std.specs.Option.{option_map_or}
use Rattle.mm_schema.specs.Name.{same_name}
use Rattle.mm_schema.specs.Refused.{first_refusal}
use Rattle.mm_value.specs.declared.refusal.Refusal.TheVariants.{NoSuchSavepoint, NoTransaction}
use Rattle.mm_query.specs.Machine.{conditions, lacks_savepoint}
use Rattle.mm_query.specs.State.{Saved, Savepoint, State}
use Rattle.mm_query.specs.declared.command.Command.TheVariants.{RollbackTo}
use Rattle.mm_store.specs.Tables.{Tables}
use Rattle.mm_txn.specs.Contents.{Holdings}
use Rattle.mm_txn.specs.Saved.{kept_state, saved_of}
use Rattle.mm_txn.specs.declared.savepoints.Mark.{Mark}
use Rattle.mm_txn.proofs.LatestMarks.{IsLatest, none_named, some_named}
use Rattle.mm_txn.proofs.TypedSteps.{saved_where_open}

module _ (name : List ℕ) (held : Holdings) (is_open : Bool) (marks : List Mark) (is : is_open ≡ true) where
  abbrev store : Tables
  store = held.store

  abbrev state : State
  state = kept_state held is_open marks

  lacks_is : lacks_savepoint name state ≡ not (list_any (λ (s : Savepoint). same_name name s.name) (saved_of store marks).savepoints)
  lacks_is =
      ap (λ (b : Bool). not (list_any (λ (s : Savepoint). same_name name s.name)
      (option_map_or (λ (saved : Saved). saved.savepoints) (cond b (Some (saved_of store marks)) None) []))) is

  by_parts : (lacks : Bool) → lacks_savepoint name state ≡ lacks → first_refusal (conditions (RollbackTo name) state) ≡ cond lacks (Some NoSuchSavepoint) None
  by_parts lacks is_lacking =
      ap (λ (b : Bool). cond (not b) (Some NoTransaction) (cond (lacks_savepoint name state) (Some NoSuchSavepoint) None))
      (saved_where_open is_open (saved_of store marks) ∙ is)
      ∙ ap (λ (b : Bool). cond b (Some NoSuchSavepoint) None) is_lacking

  -- ROLLBACK TO is refused if no mark has the name, ..
  pub refused_due : AllByRecursion (λ (mark : Mark). same_name name mark.name ≡ false) marks → first_refusal (conditions (RollbackTo name) state)
      ≡ Some NoSuchSavepoint
  refused_due none = by_parts true (lacks_is ∙ ap not (none_named name store marks none))

  -- .. and not if one has it.
  pub granted_due : (place : ℕ) → IsLatest name marks place → first_refusal (conditions (RollbackTo name) state) ≡ None
  granted_due place latest = by_parts false (lacks_is ∙ ap not (some_named name store marks place latest))
