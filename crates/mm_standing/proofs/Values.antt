-- Rows of one width, whose values follow each other.
use Rattle.std.proofs.Common.{◌≡◌, ℕ, suc, ◌+◌, ◌*◌, List, [], ◌∷◌, ◌++◌, length, take, drop, refl, sym, ap, ◌∙◌, arith}
use Rattle.std.specs.List.{All}
use Rattle.std.proofs.lemmas.List.{length-append, take-append-le, drop-append-le, take_all, drop_all}
use Rattle.mm_value.specs.declared.values.Value.{Value}
use Rattle.mm_templist.specs.Pieces.{pieces}
use Rattle.mm_standing.specs.Showing.{values_in_turn}

module _ (width : ℕ) where
  abbrev IsWide : List Value → Type 0
  IsWide row = length row ≡ width

  rest_wide : (row : List Value) (rows : List (List Value)) → All IsWide (row ∷ rows) → All IsWide rows
  rest_wide row rows wide k d within = wide (suc k) d (omega (arith, within))

  pub length_in_turn : (rows : List (List Value)) → All IsWide rows → length (values_in_turn rows) ≡ length rows * width
  length_in_turn [] wide = omega arith
  length_in_turn (row ∷ rows) wide =
      let here : length row ≡ width = wide 0 row (omega arith) in
      let behind = length_in_turn rows (rest_wide row rows wide) in
      let more : suc (length rows) * width ≡ width + length rows * width = omega arith in
      length-append row (values_in_turn rows) ∙ ((λ i. here i + behind i) ∙ sym more)

  in_front : (row behind : List Value) → length row ≡ width → take width (row ++ behind) ≡ row
  in_front row behind here =
      take-append-le width row behind (omega (arith, here)) ∙ take_all width row (omega (arith, here))

  behind_it : (row behind : List Value) → length row ≡ width → drop width (row ++ behind) ≡ behind
  behind_it row behind here =
      drop-append-le width row behind (omega (arith, here)) ∙ ap (λ l. l ++ behind) (drop_all width row (omega (arith, here)))

  -- The pieces of the values are the rows.
  pub pieces_in_turn : (rows : List (List Value)) → All IsWide rows → pieces width (length rows) (values_in_turn rows) ≡ rows
  pieces_in_turn [] wide = refl
  pieces_in_turn (row ∷ rows) wide =
      let here : length row ≡ width = wide 0 row (omega arith) in
      (λ i. in_front row (values_in_turn rows) here i ∷ pieces width (length rows) (behind_it row (values_in_turn rows) here i))
      ∙ ap (λ l. row ∷ l) (pieces_in_turn rows (rest_wide row rows wide))
