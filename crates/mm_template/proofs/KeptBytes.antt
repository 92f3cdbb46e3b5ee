-- The table of the kept bytes.
use Rattle.std.proofs.Common.{◌≡◌, ◌<◌, ℕ, Bool, map, get_or, refl, ap, ◌∙◌, arith}
use Rattle.std.specs.List.{range_with_len}
use Rattle.std.proofs.lemmas.List.FromFn.{get_or-map-range_with_len}
use Rattle.mm_template.specs.declared.piece.TheConstants.{KEPT_BYTES}
use Rattle.mm_template.specs.steps.Pieces.{is_kept_byte}

table_is : KEPT_BYTES ≡ map is_kept_byte (range_with_len 0 256)
table_is = refl

pub at_byte : (b : ℕ) (d : Bool) → b < 256 → get_or KEPT_BYTES b d ≡ is_kept_byte b
at_byte b d fits = ap (λ l. get_or l b d) table_is ∙ get_or-map-range_with_len is_kept_byte 0 256 b b d fits (omega arith)
