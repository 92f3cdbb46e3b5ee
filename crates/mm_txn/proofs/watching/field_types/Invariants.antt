use Rattle.std.proofs.Common.{◌≡◌, Some, map, take}
use Rattle.mm_laws.specs.Typing.{type_at}
use Rattle.mm_txn.proofs.watching.field_types.Given as goal

-- the types of the fields so far were found
abbrev pub invariant-loop-field : goal.invariant-loop-field
invariant-loop-field l = map Some l.types.items ≡ map (type_at l.catalog l.from) (take l.field-index l.fields)
