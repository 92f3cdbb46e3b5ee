-- Appending a row changes no earlier row.
use Rattle.std.proofs.Common.{◌≡◌, suc, ◌++◌, List, [], ◌∷◌, All, drop, length, map, take, refl, ap, ◌∙◌, arith, length-drop}
use Rattle.std.proofs.Math.Seq.{drop-append_seam, take-length}
use Rattle.std.proofs.lemmas.List.{drop-append-le, map-append, take-append-le}
use Rattle.mm_query.specs.Buffers.{IsWithin, part}
use Rattle.mm_query.specs.declared.row_buffer.Span.{Span}

module _ {X : Type 0} (xs more : List X) where
  part-stays : (span : Span) → IsWithin xs span → part (xs ++ more) span ≡ part xs span
  part-stays span within =
      ap (take span.len) (drop-append-le span.start xs more (omega (arith, within)))
      ∙ take-append-le span.len (drop span.start xs) more (omega (arith, within, length-drop span.start xs))

  parts-stay : (spans : List Span) → All (IsWithin xs) spans → map (part (xs ++ more)) spans ≡ map (part xs) spans
  parts-stay [] within = refl
  parts-stay (s ∷ spans) within =
      let rest : All (IsWithin xs) spans = λ k d below. within (suc k) d (omega (arith, below)) in
      λ i. part-stays s (within 0 s (omega arith)) i ∷ parts-stay spans rest i

  new_part : part (xs ++ more) (record { start = length xs; len = length more }) ≡ more
  new_part = ap (take (length more)) (drop-append_seam xs more) ∙ take-length more

  pub parts-push : (spans : List Span) → All (IsWithin xs) spans
      → map (part (xs ++ more)) (spans ++ record { start = length xs; len = length more } ∷ []) ≡ map (part xs) spans ++ more ∷ []
  parts-push spans within =
      map-append (part (xs ++ more)) spans (record { start = length xs; len = length more } ∷ [])
      ∙ (λ i. parts-stay spans within i ++ new_part i ∷ [])
