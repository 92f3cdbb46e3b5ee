-- Rows that are read into cells.
use mathlib.Core.Path.{◌≡◌, sym, ap, subst, ◌∙◌}
use Prim.Native.Nat.{ℕ}
use Rattle.std.proofs.Common.{arith, length-append, length-drop}
use Rattle.std.proofs.lemmas.Grind.{flat_map-append}
use Rattle.std.proofs.lemmas.List.{append-nil, get_or-drop, take_more}
use Rattle.std.proofs.lemmas.Option.{slice_get_within, get_or_from_slice_get}
use Rattle.std.proofs.Math.Seq.{take-add}
use Rattle.std.specs.Prelude.{◌+◌, ◌<◌, List, [], ◌∷◌, ◌++◌, Some, drop, get_or, length, slice_get, take}
use Rattle.mm_value.specs.declared.values.Value.{Value}
use Rattle.mmdb_c.specs.Cells.{StandFor}
use Rattle.mmdb_c.specs.Replies.{StartsWith, values_of}
use Rattle.mmdb_c.specs.declared.cell.Cell.{Cell}
use Rattle.mmdb_c.specs.steps.Reading.{WritesCells}
use Rattle.mmdb_c.proofs.CellLemmas.{drop_same, stand_both}

-- the values of a row come after those that were read before
pub starts_more : (values row : List Value) (old mid new : List Cell) → StartsWith values old mid → WritesCells (length values) row mid new
    → StartsWith (values ++ row) old new
starts_more values row old mid new was wrote =
    let n = length values in let m = length row in
    let both : length (values ++ row) ≡ n + m = length-append values row in
    let first : take (n + m) new ≡ take n mid ++ take m (drop n new) = take-add n m new ∙ ap (λ cs. cs ++ take m (drop n new)) wrote.front in
    let stood : StandFor (take (n + m) new) (values ++ row) =
    subst (λ cs. StandFor cs (values ++ row)) (sym first) (stand_both (take n mid) (take m (drop n new)) values row was.stand wrote.stand) in
    let behind : drop (n + m) new ≡ drop (n + m) old = wrote.back ∙ drop_same mid old n (n + m) (omega arith) was.back in
    record {
      stand = subst (λ k. StandFor (take k new) (values ++ row)) (sym both) stood;
      back = subst (λ k. drop k new ≡ drop k old) (sym both) behind;
    }

-- the values of count rows from the first on, and of the next row
pub values_more : (rows : List (List Value)) (first count : ℕ) (row : List Value) → slice_get rows (first + count) ≡ Some row
    → values_of (take (count + 1) (drop first rows)) ≡ values_of (take count (drop first rows)) ++ row
values_more rows first count row at =
    let rest = drop first rows in
    let within : count < length rest = omega (arith, slice_get_within rows (first + count) row at, length-drop first rows) in
    let next : get_or rest count row ≡ row = get_or-drop first rows count row ∙ get_or_from_slice_get rows (first + count) row row at in
    let more : take (count + 1) rest ≡ take count rest ++ row ∷ [] = take_more rest count row within ∙ ap (λ r. take count rest ++ r ∷ []) next in
    ap values_of more ∙ flat_map-append (λ r. r) (take count rest) (row ∷ []) ∙ ap (λ vs. values_of (take count rest) ++ vs) (append-nil row)
