-- Catalog, store and lists still agree after changes of rows, commits and rollbacks.
use Rattle.std.proofs.Common.{◌≡◌, ℕ, Result, Ok, Err, OnOk, OnErr, List, [], drop, refl, sym, subst}
use Rattle.mm_indexed.specs.Index.{EachTurns}
use Rattle.mm_schema.specs.Instance.{Instance}
use Rattle.mm_schema.specs.Schema.{Schema}
use Rattle.mm_standing.specs.Queries.{RowsByPlace}
use Rattle.mm_standing.specs.State.{Lists, count_at, count_now}
use Rattle.mm_store.specs.Tables.{SameForm, Tables}
use Rattle.mm_value.specs.declared.refusal.Refusal.{Refusal}
use Rattle.mm_value.specs.declared.values.Value.{Value}
use Rattle.mm_txn.specs.Contents.{Makes}
use Rattle.mm_plan.specs.Kept.{instance_of}
use Rattle.mm_txn.specs.Kept.{KeepsState}
use Rattle.mm_txn.specs.Rest.{AreAtRest}
use Rattle.mm_txn.specs.Saved.{AreSaved}
use Rattle.mm_txn.specs.PlacedEdits.{HaveRows}
use Rattle.mm_txn.specs.Listed.{AreListed, rows_by_place}
use Rattle.mm_txn.proofs.KeptReferences.{kept_by_rows}
use Rattle.mm_txn.proofs.ListSteps.{listed_back, listed_still, placed_still}
use Rattle.mm_txn.proofs.ListedRows.{have_formed}
use Rattle.mm_txn.proofs.RowsBeside.{AreOf-formed}

module _ (schema : Schema) (store newer : Tables) (lists new : Lists) (rest : AreAtRest schema store lists) (links : newer.links ≡ store.links)
    (queries : new.queries ≡ lists.queries) where
  at_rest : EachTurns SameForm store.tables newer.tables → AreListed (instance_of newer.tables) new → AreAtRest schema newer new
  at_rest form listed = record {
    kept = kept_by_rows schema store newer rest.kept (AreOf-formed schema.tables store.tables newer.tables form rest.kept.relations) links;
    placed = placed_still schema lists.queries new.queries queries rest.placed;
    listed = listed;
  }

  -- Committed rows stay, ..
  pub rest_settled : EachTurns SameForm store.tables newer.tables → instance_of newer.tables ≡ instance_of store.tables
      → ((list : ℕ) (row : List Value) → count_now new list row ≡ count_now lists list row) → new.prepared ≡ [] → AreAtRest schema newer new
  rest_settled form rows counts ready =
      at_rest form (subst (λ (r : Instance). AreListed r new) (sym rows) (listed_still (instance_of store.tables) lists new queries rest.listed counts ready))

  -- .. and rows that are restored have the lists that agreed with them.
  pub rest_back : EachTurns SameForm store.tables newer.tables → (mark : ℕ) (rows : Instance) → instance_of newer.tables ≡ rows → AreSaved mark rows lists
      → ((list : ℕ) (row : List Value) → count_at mark list row new ≡ count_at mark list row lists) → drop mark new.log ≡ [] → new.prepared ≡ []
      → AreAtRest schema newer new
  rest_back form mark rows is saved counts log ready =
      at_rest form (subst (λ (r : Instance). AreListed r new) (sym is) (listed_back rows lists new queries mark saved counts log ready))

-- Catalog, store and lists still agree if the rows in use stay.
pub rest_same : (schema : Schema) (store newer : Tables) (lists : Lists) → AreAtRest schema store lists → newer.links ≡ store.links
    → EachTurns SameForm store.tables newer.tables → instance_of newer.tables ≡ instance_of store.tables → AreAtRest schema newer lists
rest_same schema store newer lists rest links form rows =
    at_rest schema store newer lists lists rest links refl form (subst (λ (r : Instance). AreListed r lists) (sym rows) rest.listed)

pub rest_staged : (schema : Schema) (store newer : Tables) (lists : Lists) → AreAtRest schema store lists → KeepsState store newer
    → AreAtRest schema newer lists
rest_staged schema store newer lists rest kept = rest_same schema store newer lists rest kept.links kept.form kept.rows

-- Catalog, store and lists agree after edits.
pub rest_made : (schema : Schema) (rows : RowsByPlace) (store newer : Tables) (lists new : Lists) (result : Result Unit Refusal)
    → AreAtRest schema store lists → Makes rows store newer lists new result → AreAtRest schema newer new
rest_made schema rows store newer lists new result rest made =
    at_rest schema store newer lists new rest made.links made.queries (form result made.ok made.err) made.listed
  where
    form : (r : Result Unit Refusal) → OnOk r (HaveRows rows store newer) → OnErr r (HaveRows (rows_by_place (instance_of store.tables)) store newer)
        → EachTurns SameForm store.tables newer.tables
    form (Ok value) ok err = have_formed rows store newer ok
    form (Err refusal) ok err = have_formed (rows_by_place (instance_of store.tables)) store newer err
