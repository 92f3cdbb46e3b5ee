use Rattle.std.proofs.Common.{◌≡◌, ◌++◌, drop, map}
use Rattle.mm_schema.specs.References.{reference_at, references_from, references_of}
use Rattle.mm_schema.proofs.catalog.Catalog.references.Given as goal

-- the foreign keys found so far and those of the remaining columns are all of them
abbrev pub invariant-loop-column : goal.invariant-loop-column
invariant-loop-column l =
    l.found.items ++ map (reference_at l.self l.from) (references_from l.column (drop l.column l.columns))
    ≡ map (reference_at l.self l.from) (references_of l.columns)
