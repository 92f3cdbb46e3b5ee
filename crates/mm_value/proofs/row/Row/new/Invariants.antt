use Rattle.std.specs.List.{AllWithin}
use Rattle.mm_value.specs.Storable.{IsStorable}
use Rattle.mm_value.proofs.row.Row.new.Given as goal

-- the values so far are storable
abbrev pub invariant-loop-value : goal.invariant-loop-value
invariant-loop-value l = AllWithin IsStorable l.fn.values.items 0 l.value-index
