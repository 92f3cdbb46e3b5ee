use Rattle.std.proofs.Common.{Err, ◌∷◌, ◌++◌, refl, append_assoc, ◌∙◌}
use Rattle.std.proofs.lemmas.Result.{err_from_is_err_and}
use Rattle.mm_value.proofs.Writing.{Writes-then, Writes-stops}
use Rattle.mm_lang.specs.ReplyText.{role_text}
use Rattle.mm_lang.specs.Spelling.{type_word}
use Rattle.mm_lang.specs.Words.{keyword_text}
use Rattle.mm_lang.proofs.ListingTexts.{column_parts}
use Rattle.mm_lang.proofs.write.listing_text.write_column.Goals as goal

pub returns-in_err-put_all : goal.returns-in_err-put_all
returns-in_err-put_all g c =
    let p = err_from_is_err_and c.from_residual.result c.from_residual.ensures.1 in
    let column = c.args.column.now in
    let name = c.bytes.result.now in
    let type = keyword_text (type_word column.col_type) in
    Writes-stops (32 ∷ type ++ role_text column.role)
    (column_parts column name type c.bytes.ensures.value refl ∙ append_assoc name (32 ∷ type) (role_text column.role)) p.1 c.in_err-put_all.ensures

pub returns-in_err-write_after_space : goal.returns-in_err-write_after_space
returns-in_err-write_after_space g c =
    let p = err_from_is_err_and c.from_residual-in_err-write_after_space.result c.from_residual-in_err-write_after_space.ensures.1 in
    let column = c.args.column.now in
    Writes-stops (role_text column.role) (column_parts column c.bytes.result.now c.type_text.result.now c.bytes.ensures.value c.type_text.ensures) p.1
    (Writes-then {result = Err c.in_err-write_after_space.field-0.0} refl c.in_ok-put_all.ensures c.in_err-write_after_space.ensures)

pub returns : goal.returns
returns g c =
    Writes-then (column_parts c.args.column.now c.bytes.result.now c.type_text.result.now c.bytes.ensures.value c.type_text.ensures)
    (Writes-then refl c.in_ok-put_all.ensures c.in_ok-write_after_space.ensures) c.write_role.ensures
