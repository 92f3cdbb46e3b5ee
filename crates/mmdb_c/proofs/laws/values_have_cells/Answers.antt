use Rattle.std.proofs.Common.{◌≡◌, ◌++◌, ◌-◌, ◌+◌, ℕ, List, arith, length, length-append, refl, replicate, take}
use Rattle.std.specs.Prelude.{pos}
use Rattle.std.proofs.lemmas.Grind.{common_steps}
use Rattle.mm_value.specs.Storable.{IsStorable}
use Rattle.mm_value.specs.declared.values.Value.{Value}
use Rattle.mm_value.specs.declared.values.Value.TheVariants.{Int, Text}
use Rattle.mmdb_c.specs.Cells.{StandsFor}
use Rattle.mmdb_c.specs.declared.cell.Cell.{Cell}
use Rattle.mmdb_c.proofs.laws.values_have_cells.Goals as goal

zeros : (n : ℕ) → length {A = ℕ} (replicate n 0) ≡ n
zeros n = grind (arith, common_steps)

padded : (text : List ℕ) (n : ℕ) → length text + n ≡ 64 → length (text ++ replicate n 0) ≡ 64
padded text n is = omega (arith, length-append text (replicate n 0), zeros n, is)

front : (text others : List ℕ) → take (length text) (text ++ others) ≡ text
front text others = grind (arith, common_steps)

-- A cell for each value.
cell_of : (stored : Value) → IsStorable stored → (cell : Cell) × (length cell.text ≡ 64) × StandsFor cell stored
cell_of (Int number) fits = (record { kind = 0; len = 0; number = number; text = replicate 64 0 }, zeros 64, (refl, refl))
cell_of (Text text) is = (
  record { kind = 1; len = length text; number = pos 0; text = text ++ replicate (64 - length text) 0 },
  padded text (64 - length text) (omega (arith, is.short)),
  (refl, refl, front text (replicate (64 - length text) 0), is),
)

pub returns-clause-each : goal.returns-clause-each
returns-clause-each c = cell_of
