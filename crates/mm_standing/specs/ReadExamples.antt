-- Worked examples of the number of rows that a change reads. Each table has a key in column 0 and a number in column 1.
use Rattle.std.specs.Prelude.{◌≡◌, ℕ, pos, false, List, [], ◌∷◌, codes, map}
use Rattle.mm_store.specs.Tables.{Tables}
use Rattle.mm_value.specs.declared.col_type.ColType.TheVariants as type
use Rattle.mm_value.specs.declared.values.Value.{Value}
use Rattle.mm_value.specs.declared.values.Value.TheVariants.{Int}
use Rattle.mm_query.specs.declared.atom.Atom.{Atom}
use Rattle.mm_query.specs.declared.atom.Comparison.{Comparison}
use Rattle.mm_query.specs.declared.atom.Comparison.TheVariants.{Equal, Less}
use Rattle.mm_query.specs.declared.atom.Operand.TheVariants.{Literal, Column}
use Rattle.mm_query.specs.declared.bound_query.BoundQuery.{BoundQuery}
use Rattle.mm_query.specs.declared.bound_query.FieldPlace.{FieldPlace}
use Rattle.mm_query.specs.declared.query.FromItem.{FromItem}
use Rattle.mm_delta.specs.Edited.{after_at, before_at, come_at, gone_at}
use Rattle.mm_delta.specs.declared.edited.TableChange.{TableChange}
use Rattle.mm_standing.specs.Queries.{StandingQuery}

-- The row of a key and a number.
abbrev pub row_of : ℕ → ℕ → List Value
row_of key number = Int (pos key) ∷ Int (pos number) ∷ []

-- The key and the number of the row at a place of FROM.
abbrev pub key_at : ℕ → FieldPlace
key_at place = record { place = place; column = 0 }

abbrev pub number_at : ℕ → FieldPlace
number_at place = record { place = place; column = 1 }

-- A table of FROM and its alias.
abbrev pub item : List ℕ → List ℕ → FromItem
item table alias = record { table = table; alias = alias }

-- A query that shows the keys of the rows at some places.
abbrev pub keys_where : List FromItem → List ℕ → List (Atom FieldPlace) → BoundQuery
keys_where from places atoms = record { distinct = false; fields = map key_at places; from = from; atoms = atoms; order = [] }

-- The atom that compares the numbers of the rows at two places.
abbrev pub numbers_compare : Comparison → ℕ → ℕ → Atom FieldPlace
numbers_compare comparison a b = record { left = number_at a; comparison = comparison; right = Column (number_at b) }

-- `SELECT a.id, b.id FROM t a, t b WHERE a.k = b.k`, where `t` is at place 0 of the store.
abbrev pub equal_pairs : StandingQuery
equal_pairs = record {
  query = keys_where (item (codes "t") (codes "a") ∷ item (codes "t") (codes "b") ∷ []) (0 ∷ 1 ∷ []) (numbers_compare Equal 0 1 ∷ []);
  tables = 0 ∷ 0 ∷ [];
  types = type.Int ∷ type.Int ∷ [];
}

-- `SELECT a.id, b.id, c.id FROM t a, t b, t c WHERE a.k = b.k AND b.k = c.k`, where `t` is at place 0 of the store.
abbrev pub equal_triples : StandingQuery
equal_triples = record {
  query = keys_where (item (codes "t") (codes "a") ∷ item (codes "t") (codes "b") ∷ item (codes "t") (codes "c") ∷ []) (0 ∷ 1 ∷ 2 ∷ []) (
      numbers_compare Equal 0 1 ∷ numbers_compare Equal 1 2 ∷ []
      );
  tables = 0 ∷ 0 ∷ 0 ∷ [];
  types = type.Int ∷ type.Int ∷ type.Int ∷ [];
}

-- `SELECT a.id FROM t a, u b WHERE a.k < b.k AND b.k < 5`, where `t` and `u` are at the places 0 and 1.
abbrev pub below_some_below_5 : StandingQuery
below_some_below_5 = record {
  query = keys_where (item (codes "t") (codes "a") ∷ item (codes "u") (codes "b") ∷ []) (0 ∷ []) (
      numbers_compare Less 0 1 ∷ record { left = number_at 1; comparison = Less; right = Literal (Int (pos 5)) } ∷ []
      );
  tables = 0 ∷ 1 ∷ [];
  types = type.Int ∷ [];
}

-- A change inserts one row into the table at a place, and deletes none from it.
pub record BringsRow (store : Tables) (changes : List TableChange) (table : ℕ) (row : List Value) : Type 0 where
  pub gone : gone_at store changes table ≡ []
  pub come : come_at store changes table ≡ row ∷ []

-- A change inserts no row into the table, and deletes none from it.
pub record LeavesTable (store : Tables) (changes : List TableChange) (table : ℕ) : Type 0 where
  pub gone : gone_at store changes table ≡ []
  pub come : come_at store changes table ≡ []

-- The row (3, 5) is inserted into the table at place 0, which has the rows (1, 5), (2, 5) and (4, 9).
pub record AddsThirdFive (store : Tables) (changes : List TableChange) : Type 0 where
  pub before : before_at store 0 ≡ row_of 1 5 ∷ row_of 2 5 ∷ row_of 4 9 ∷ []
  pub after : after_at store changes 0 ≡ row_of 1 5 ∷ row_of 2 5 ∷ row_of 3 5 ∷ row_of 4 9 ∷ []
  pub added : BringsRow store changes 0 (row_of 3 5)

-- A row is inserted into the table at place 0, while the one at place 1 has the row (1, 4) and is not edited.
pub record AddsBesideFour (store : Tables) (changes : List TableChange) (row : List Value) : Type 0 where
  pub before : before_at store 1 ≡ row_of 1 4 ∷ []
  pub added : BringsRow store changes 0 row
  pub left : LeavesTable store changes 1
