-- Tests of the column and the kind of an index.
use Rattle.std.specs.Prelude.{ℕ, ◌==◌, ◌&&◌, Bool, true, false}
use Rattle.mm_schema.specs.declared.index.IndexKind.{IndexKind}
use Rattle.mm_schema.specs.declared.index.IndexKind.TheVariants as kind
use Rattle.mm_indexed.specs.Index.{column_of, kind_of}
use Rattle.mm_indexed.specs.declared.indexes.index.Index.{Index}

-- Two kinds of index are the same.
abbrev pub same_kind : IndexKind → IndexKind → Bool
same_kind kind.Tree kind.Tree = true
same_kind kind.Tree kind.Hash = false
same_kind kind.Hash kind.Tree = false
same_kind kind.Hash kind.Hash = true

-- The index is on the column and of the kind.
abbrev pub is_on : ℕ → IndexKind → Index → Bool
is_on column kind index = (column_of index == column) && same_kind (kind_of index) kind
