-- The numbers of the header, for laws that a wrong definition would violate.
use Rattle.std.specs.Prelude.{◌≡◌, ℕ, List, Some, None}
use Rattle.mm_value.specs.declared.refusal.Refusal.{Refusal}
use Rattle.mm_value.specs.declared.refusal.Refusal.TheVariants as refusal
use Rattle.mm_value.specs.declared.values.Value.{Value}
use Rattle.mm_schema.specs.declared.index.IndexDef.{IndexDef}
use Rattle.mm_schema.specs.declared.table.TableDef.{TableDef}
use Rattle.mm_query.specs.declared.atom.Assignment.{Assignment}
use Rattle.mm_query.specs.declared.atom.Atom.{Atom}
use Rattle.mm_query.specs.declared.command.Command.{Command}
use Rattle.mm_query.specs.declared.command.Command.TheVariants as command
use Rattle.mm_query.specs.declared.command.Definition.{Definition}
use Rattle.mm_query.specs.declared.command.Definition.TheVariants as definition
use Rattle.mm_query.specs.declared.command.Mutation.{Mutation}
use Rattle.mm_query.specs.declared.command.Mutation.TheVariants as mutation
use Rattle.mm_query.specs.declared.command.NamedQuery.{NamedQuery}
use Rattle.mm_query.specs.declared.listing.Listing.{Listing}
use Rattle.mm_query.specs.declared.plan_line.PlanLine.{PlanLine}
use Rattle.mm_query.specs.declared.query.Query.{Query}
use Rattle.mm_query.specs.declared.reply.Reply.{Reply}
use Rattle.mm_query.specs.declared.reply.Reply.TheVariants as reply
use Rattle.mm_session.specs.Kinds.{kind_of}
use Rattle.mmdb_c.specs.Kinds.{kind_number}
use Rattle.mmdb_c.specs.Statuses.{done, first_refusal_number, has_rows, misuse, status_of}

-- The statuses below 10, and that of misuse.
pub record HasReplyNumbers : Type 0 where
  pub nothing : status_of None ≡ 0
  pub is_done : status_of (Some reply.Done) ≡ 1
  pub count : (rows : ℕ) → status_of (Some (reply.Count rows)) ≡ 2
  pub rows : (rows : List (List Value)) → status_of (Some (reply.Rows rows)) ≡ 3
  pub steps : (steps : List PlanLine) → status_of (Some (reply.Steps steps)) ≡ 4
  pub listing : (listing : Listing) → status_of (Some (reply.Listing listing)) ≡ 4
  pub names : (done ≡ 1) × (has_rows ≡ 3) × (first_refusal_number ≡ 10) × (misuse ≡ 100)

-- The status of a refusal.
abbrev pub status_of_refusal : Refusal → ℕ
status_of_refusal refused = status_of (Some (reply.Refused refused))

-- The statuses from 10 to 90.
pub record HasRefusalNumbers : Type 0 where
  pub line_too_long : status_of_refusal refusal.LineTooLong ≡ 10
  pub syntax_error : status_of_refusal refusal.Syntax ≡ 11
  pub number_out_of_range : status_of_refusal refusal.NumberOutOfRange ≡ 12
  pub text_too_long : status_of_refusal refusal.TextTooLong ≡ 13
  pub no_such_table : status_of_refusal refusal.NoSuchTable ≡ 20
  pub no_such_column : status_of_refusal refusal.NoSuchColumn ≡ 21
  pub no_such_index : status_of_refusal refusal.NoSuchIndex ≡ 22
  pub no_such_standing_query : status_of_refusal refusal.NoSuchStandingQuery ≡ 23
  pub name_taken : status_of_refusal refusal.NameTaken ≡ 24
  pub alias_taken : status_of_refusal refusal.AliasTaken ≡ 25
  pub no_such_alias : status_of_refusal refusal.NoSuchAlias ≡ 26
  pub type_mismatch : status_of_refusal refusal.TypeMismatch ≡ 30
  pub wrong_number_of_values : status_of_refusal refusal.WrongNumberOfValues ≡ 31
  pub arithmetic_out_of_range : status_of_refusal refusal.ArithmeticOutOfRange ≡ 32
  pub duplicate_key : status_of_refusal refusal.DuplicateKey ≡ 40
  pub no_target_row : status_of_refusal refusal.NoTargetRow ≡ 41
  pub row_is_referenced : status_of_refusal refusal.RowIsReferenced ≡ 42
  pub in_use : status_of_refusal refusal.InUse ≡ 43
  pub table_full : status_of_refusal refusal.TableFull ≡ 45
  pub result_too_large : status_of_refusal refusal.ResultTooLarge ≡ 46
  pub standing_list_too_large : status_of_refusal refusal.StandingListTooLarge ≡ 47
  pub too_many : status_of_refusal refusal.TooMany ≡ 48
  pub transaction_open : status_of_refusal refusal.TransactionOpen ≡ 50
  pub no_transaction : status_of_refusal refusal.NoTransaction ≡ 51
  pub not_in_transaction : status_of_refusal refusal.NotInTransaction ≡ 52
  pub no_such_savepoint : status_of_refusal refusal.NoSuchSavepoint ≡ 53
  pub memory : status_of_refusal refusal.Memory ≡ 90

-- The number of the kind of a command.
abbrev pub number_of : Command → ℕ
number_of read = kind_number (kind_of read)

-- The number of the kind of a definition.
abbrev pub definition_number : Definition → ℕ
definition_number defined = number_of (command.Define defined)

-- The number of the kind of a change of rows.
abbrev pub mutation_number : Mutation → ℕ
mutation_number change = number_of (command.Change change)

-- The kinds of statements, by their commands.
pub record HasKindNumbers : Type 0 where
  pub nothing : number_of command.Nothing ≡ 0
  pub table : (table : TableDef) → definition_number (definition.Table table) ≡ 10
  pub drop_table : (name : List ℕ) → definition_number (definition.DropTable name) ≡ 11
  pub index : (index : IndexDef) → definition_number (definition.Index index) ≡ 12
  pub drop_index : (name : List ℕ) → definition_number (definition.DropIndex name) ≡ 13
  pub watch : (watched : NamedQuery) → definition_number (definition.Watch watched) ≡ 14
  pub unwatch : (name : List ℕ) → definition_number (definition.Unwatch name) ≡ 15
  pub insert : (table : List ℕ) (rows : List (List Value)) → mutation_number (mutation.Insert table rows) ≡ 20
  pub update : (table : List ℕ) (assignments : List (Assignment (List ℕ))) (tests : List (Atom (List ℕ)))
      → mutation_number (mutation.Update table assignments tests) ≡ 21
  pub delete : (table : List ℕ) (tests : List (Atom (List ℕ))) → mutation_number (mutation.Delete table tests) ≡ 22
  pub scan : (table : List ℕ) → number_of (command.Scan table) ≡ 30
  pub scan_index : (index : List ℕ) → number_of (command.ScanIndex index) ≡ 31
  pub select : (query : Query) → number_of (command.Select query) ≡ 32
  pub show : (name : List ℕ) → number_of (command.Show name) ≡ 33
  pub explain : (query : Query) → number_of (command.Explain query) ≡ 40
  pub tables : number_of command.Tables ≡ 41
  pub begin : number_of command.Begin ≡ 50
  pub commit : number_of command.Commit ≡ 51
  pub rollback : number_of command.Rollback ≡ 52
  pub savepoint : (name : List ℕ) → number_of (command.Savepoint name) ≡ 53
  pub rollback_to : (name : List ℕ) → number_of (command.RollbackTo name) ≡ 54
