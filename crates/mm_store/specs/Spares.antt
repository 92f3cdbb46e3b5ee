-- The spare nodes of trees.
use Rattle.std.specs.Prelude.{◌≡◌, ℕ, ◌≤◌, All}
use Rattle.mm_indexed.specs.Index.{kind_of, spare_of}
use Rattle.mm_indexed.specs.Kept.{StoredRows}
use Rattle.mm_schema.specs.declared.index.IndexKind.TheVariants as kind
use Rattle.mm_store.specs.Tables.{IsAt, Tables}

-- The tree on the key of a table keeps at most `n` spare nodes, and so does each TREE index.
pub record HasFewSpares (n : ℕ) (stored : StoredRows) : Type 0 where
  pub key : stored.spare ≤ n
  pub each : All (λ x. kind_of x ≡ kind.Tree → spare_of x ≤ n) stored.indexes

-- The trees of the table at a place have few spare nodes.
abbrev pub HasFewSparesAt : ℕ → Tables → ℕ → Type 0
HasFewSparesAt n store place = (stored : StoredRows) → IsAt store place stored → HasFewSpares n stored
