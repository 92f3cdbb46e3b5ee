-- New tables have no rows, and an index adds none.
use Rattle.std.proofs.Common.{◌≡◌, ℕ, List, [], ◌∷◌, sym, subst, ◌∙◌}
use Rattle.std.specs.List.{All}
use Rattle.std.proofs.lemmas.List.Elements.{All-nil}
use Rattle.mm_delta.specs.Edited.{before_at}
use Rattle.mm_partition.specs.Types.{HasTypes}
use Rattle.mm_indexed.specs.Kept.{StoredRows}
use Rattle.mm_standing.specs.Queries.{RowsByPlace}
use Rattle.mm_store.specs.Tables.{Tables, rows_at}
use Rattle.store_tests.specs.SampleStore.{plain_types}
use Rattle.standing_tests.specs.Cases.{HaveNumbers}
use Rattle.standing_tests.proofs.NumberRows.{numbers_behind}
use Rattle.standing_tests.proofs.steps.tables.Goals.{then-indexed+in_ok-add_index, else-indexed}
use Rattle.standing_tests.proofs.steps.tables.Goals as goal

-- all rows of the tables are of integers
abbrev AreOfNumbers : List StoredRows → Type 0
AreOfNumbers tables = (place : ℕ) → All (HasTypes plain_types) (rows_at tables place)

pub returns-clause-typed : goal.returns-clause-typed
returns-clause-typed c =
    let none : AreOfNumbers c.new-store.result.tables =
    subst AreOfNumbers (sym c.new-store.ensures.tables) (λ place. All-nil (HasTypes plain_types)) in
    let one = c.in_ok-add_table.ensures.ok in
    let first : AreOfNumbers c.add_table.new.self.tables = subst AreOfNumbers (sym one.1) (numbers_behind c.new-store.result.tables one.0 one.2 none) in
    let two = c.in_ok-add_table-2.ensures.ok in
    let both : AreOfNumbers c.add_table-2.new.self.tables =
    subst AreOfNumbers (sym two.1) (numbers_behind c.add_table.new.self.tables two.0 two.2 first) in
    elim c.if-indexed.branch [
      | then-indexed+in_ok-add_index w ↦ subst (λ (s : Tables). HaveNumbers (before_at s)) (sym w.store-is)
          (subst HaveNumbers (sym w.in_ok-add_index.ensures.rows) both)
      | else-indexed w ↦ subst (λ (s : Tables). HaveNumbers (before_at s)) (sym w.store-is) both
    ]
