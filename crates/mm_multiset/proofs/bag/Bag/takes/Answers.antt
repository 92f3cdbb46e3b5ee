-- One more value has the type of its column.
use Rattle.std.proofs.Common.{◌≡◌, ◌+◌, ℕ, false, not, true≢false, List, Some, map, take, refl, sym, ap, ◌∙◌}
use Rattle.std.specs.Prelude.{slice_get}
use Rattle.std.specs.Option.{option_map}
use Rattle.std.proofs.lemmas.List.{take_more_same}
use Rattle.std.proofs.lemmas.Option.{get_or_from_slice_get, slice_get-map, slice_get_within}
use Rattle.mm_value.specs.Types.{type_of}
use Rattle.mm_value.specs.contracts.col_type.ColType.{the_type}
use Rattle.mm_value.specs.declared.col_type.ColType.{ColType}
use Rattle.mm_value.specs.declared.col_type.ColType.TheVariants as type
use Rattle.mm_value.specs.declared.values.Value.{Value}
use Rattle.mm_multiset.proofs.bag.Bag.takes.Goals as goal
use denote.Enum.Bare.{sameb}

same_type : (a b : ColType) → not (sameb the_type a b) ≡ false → a ≡ b
same_type type.Int type.Int h = refl
same_type type.Int type.Text h = absurd (true≢false h)
same_type type.Text type.Int h = absurd (true≢false h)
same_type type.Text type.Text h = refl

one_more : (row : List Value) (types : List ColType) (i : ℕ) (value : Value) (here : ColType) → slice_get row i ≡ Some value
    → slice_get types i ≡ Some here → type_of value ≡ here → take i (map type_of row) ≡ take i types
    → take (i + 1) (map type_of row) ≡ take (i + 1) types
one_more row types i value here at column is so_far =
    let found : slice_get (map type_of row) i ≡ Some (type_of value) = slice_get-map type_of row i ∙ ap (option_map type_of) at in
    take_more_same (map type_of row) types i here (slice_get_within (map type_of row) i (type_of value) found) (slice_get_within types i here column) so_far
    (get_or_from_slice_get (map type_of row) i (type_of value) here found ∙ is ∙ sym (get_or_from_slice_get types i here here column))

pub loop-i-preserved : goal.loop-i-preserved
loop-i-preserved c =
    one_more c.args.row.now c.self.inside.rows.types c.loop-i.i c.value.result.now c.column_type.result c.value.ensures c.column_type.ensures
    (sym c.col_type.ensures ∙ same_type c.col_type.result c.column_type.result (sym c.ne.ensures ∙ c.if-ne.false))
    c.loop-i.invariant
