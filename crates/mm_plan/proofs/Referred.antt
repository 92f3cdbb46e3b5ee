-- Keys of join equalities without a shift.
use Rattle.std.proofs.Common.{◌≡◌, ℕ, List, sym, ap, ◌∙◌}
use Rattle.std.specs.Prelude.{pos}
use Rattle.std.specs.Option.{unwrap_or}
use Rattle.mm_join.specs.Equated.{IsJoin, added, plain_key}
use Rattle.mm_join.specs.declared.key.JoinKey.{JoinKey}
use Rattle.mm_query.specs.Atoms.{shifted, value_in}
use Rattle.mm_query.specs.Queries.{value_at}
use Rattle.mm_query.specs.declared.atom.Atom.{Atom}
use Rattle.mm_query.specs.declared.bound_query.FieldPlace.{FieldPlace}
use Rattle.mm_value.specs.declared.values.Value.TheVariants.{Int}
use Rattle.std.specs.Prelude.{map, Some}

-- A key without a shift requires the field's own value.
pub unshifted : (atoms : List (Atom FieldPlace)) (outers : List ℕ) (key : JoinKey) (column : ℕ) → key.column ≡ column → added key.shift ≡ pos 0
    → IsJoin atoms outers key → IsJoin atoms outers (plain_key column key.field)
unshifted atoms outers key column is none asked = λ rows row wide fits.
    sym (ap (λ n. value_in n row) is)
    ∙ (asked rows row wide fits ∙ ap (λ by. shifted by (unwrap_or (value_at (map Some rows) key.field) (Int (pos 0)))) none)
