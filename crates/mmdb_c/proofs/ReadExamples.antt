-- Rows of a reply that are read into a few cells.
use Rattle.std.proofs.Common.{◌≡◌, ◌<◌, ℕ, zero, suc, List, [], ◌∷◌, arith, drop, length, refl, take}
use Rattle.std.proofs.lemmas.List.{length-take}
use Rattle.mm_value.specs.declared.values.Value.{Value}
use Rattle.mmdb_c.specs.Cells.{StandFor}
use Rattle.mmdb_c.specs.Replies.{ReadsRows}
use Rattle.mmdb_c.specs.declared.cell.Cell.{Cell}
use Rattle.mmdb_c.proofs.CellLemmas.{as_many_values}

-- Fewer cells than values do not have these values.
too_few : (cells : List Cell) (values : List Value) → length cells < length values → StandFor (take (length values) cells) values → ⊥
too_few cells values few stand =
    omega (arith, few, as_many_values (take (length values) cells) values stand, length-take (length values) cells)

module _ (a b c d e f : Value) where
  abbrev rows : List (List Value)
  rows = (a ∷ b ∷ []) ∷ (c ∷ d ∷ []) ∷ (e ∷ f ∷ []) ∷ []

  pub read_two : (old new : List Cell) (count : ℕ) → length old ≡ 5 → length new ≡ 5 → ReadsRows rows 1 old new count
      → (count ≡ 2) × StandFor (take 4 new) (c ∷ d ∷ e ∷ f ∷ []) × (drop 4 new ≡ drop 4 old)
  read_two old new zero room same h = absurd (omega (arith, room, h.most))
  read_two old new (suc zero) room same h = absurd (omega (arith, room, h.most))
  read_two old new (suc (suc zero)) room same h = (refl, h.read.stand, h.read.back)
  read_two old new (suc (suc (suc count))) room same h = absurd (omega (arith, h.there))

  pub read_one : (old new : List Cell) (count : ℕ) → length old ≡ 3 → length new ≡ 3 → ReadsRows rows 1 old new count
      → (count ≡ 1) × StandFor (take 2 new) (c ∷ d ∷ []) × (drop 2 new ≡ drop 2 old)
  read_one old new zero room same h = absurd (omega (arith, room, h.most))
  read_one old new (suc zero) room same h = (refl, h.read.stand, h.read.back)
  read_one old new (suc (suc zero)) room same h = absurd (too_few new (c ∷ d ∷ e ∷ f ∷ []) (omega (arith, same)) h.read.stand)
  read_one old new (suc (suc (suc count))) room same h = absurd (omega (arith, h.there))

  pub read_none : (old new : List Cell) (count : ℕ) → length old ≡ 1 → length new ≡ 1 → ReadsRows rows 1 old new count → (count ≡ 0) × (new ≡ old)
  read_none old new zero room same h = (refl, h.read.back)
  read_none old new (suc zero) room same h = absurd (too_few new (c ∷ d ∷ []) (omega (arith, same)) h.read.stand)
  read_none old new (suc (suc zero)) room same h = absurd (too_few new (c ∷ d ∷ e ∷ f ∷ []) (omega (arith, same)) h.read.stand)
  read_none old new (suc (suc (suc count))) room same h = absurd (omega (arith, h.there))

  pub read_past : (old new : List Cell) (count : ℕ) → ReadsRows rows 3 old new count → (count ≡ 0) × (new ≡ old)
  read_past old new zero h = (refl, h.read.back)
  read_past old new (suc count) h = absurd (omega (arith, h.there))
