use Rattle.std.proofs.Common.{Err, [], ◌∷◌, ◌++◌, codes, refl, append_assoc, ◌∙◌}
use Rattle.std.proofs.lemmas.Result.{err_from_is_err_and}
use Rattle.mm_value.proofs.Writing.{Writes-then, Writes-stops}
use Rattle.mm_lang.specs.Spelling.{kind_word}
use Rattle.mm_lang.specs.Words.{keyword_text}
use Rattle.mm_lang.proofs.ListingTexts.{index_parts}
use Rattle.mm_lang.proofs.write.listing_text.write_index.Goals as goal

pub returns-in_err-write_four : goal.returns-in_err-write_four
returns-in_err-write_four g c =
    let p = err_from_is_err_and c.from_residual.result c.from_residual.ensures.1 in
    let index = c.args.index.now in
    let kind = keyword_text (kind_word index.kind) in
    let front = (codes "INDEX " ++ c.bytes.result.now) ++ (codes " ON " ++ c.bytes-2.result.now) in
    let behind = (codes " (" ++ index.column) ++ (codes ") " ++ kind) in
    Writes-stops (behind ++ 10 ∷ [])
    (index_parts index c.bytes.result.now c.bytes-2.result.now index.column kind c.bytes.ensures.value c.bytes-2.ensures.value refl refl
    ∙ append_assoc front behind (10 ∷ [])) p.1 c.in_err-write_four.ensures

pub returns-in_err-write_four-2 : goal.returns-in_err-write_four-2
returns-in_err-write_four-2 g c =
    let p = err_from_is_err_and c.from_residual-in_err-write_four-2.result c.from_residual-in_err-write_four-2.ensures.1 in
    Writes-stops (10 ∷ [])
    (index_parts c.args.index.now c.bytes.result.now c.bytes-2.result.now c.bytes-3.result.now c.kind_text.result.now c.bytes.ensures.value
    c.bytes-2.ensures.value c.bytes-3.ensures.value c.kind_text.ensures) p.1
    (Writes-then {result = Err c.in_err-write_four-2.field-0.0} refl c.in_ok-write_four.ensures c.in_err-write_four-2.ensures)

pub returns : goal.returns
returns g c =
    Writes-then
    (index_parts c.args.index.now c.bytes.result.now c.bytes-2.result.now c.bytes-3.result.now c.kind_text.result.now c.bytes.ensures.value
    c.bytes-2.ensures.value c.bytes-3.ensures.value c.kind_text.ensures)
    (Writes-then refl c.in_ok-write_four.ensures c.in_ok-write_four-2.ensures) c.put_all.ensures
