use Rattle.std.proofs.Common.{Err, [], ◌∷◌, ◌++◌, codes, decimal, length, refl, append_assoc, ◌∙◌}
use Rattle.std.specs.List.{flat_map}
use Rattle.std.proofs.lemmas.Result.{err_from_is_err_and}
use Rattle.mm_value.proofs.Writing.{Writes-then, Writes-stops}
use Rattle.mm_lang.specs.ReplyText.{query_line, table_lines}
use Rattle.mm_lang.proofs.ListingTexts.{listing_parts}
use Rattle.mm_lang.proofs.write.listing_text.write_listing.Goals as goal

pub returns-in_err-write_tables : goal.returns-in_err-write_tables
returns-in_err-write_tables g c =
    let p = err_from_is_err_and c.from_residual.result c.from_residual.ensures.1 in
    let tables = c.as_slice-tables.result.now in
    let standing = c.args.listing.now.standing in
    let count = codes "tables " ++ decimal (length tables) ++ 10 ∷ [] in
    Writes-stops (flat_map query_line standing ++ count)
    (listing_parts c.args.listing.now tables standing c.as_slice-tables.ensures refl
    ∙ append_assoc (flat_map table_lines tables) (flat_map query_line standing) count) p.1 c.in_err-write_tables.ensures

pub returns-in_err-write_queries : goal.returns-in_err-write_queries
returns-in_err-write_queries g c =
    let p = err_from_is_err_and c.from_residual-in_err-write_queries.result c.from_residual-in_err-write_queries.ensures.1 in
    let tables = c.as_slice-tables.result.now in
    Writes-stops (codes "tables " ++ decimal (length tables) ++ 10 ∷ [])
    (listing_parts c.args.listing.now tables c.as_slice.result.now c.as_slice-tables.ensures c.as_slice.ensures) p.1
    (Writes-then {result = Err c.in_err-write_queries.field-0.0} refl c.in_ok-write_tables.ensures c.in_err-write_queries.ensures)

pub returns : goal.returns
returns g c =
    Writes-then (listing_parts c.args.listing.now c.as_slice-tables.result.now c.as_slice.result.now c.as_slice-tables.ensures c.as_slice.ensures)
    (Writes-then refl c.in_ok-write_tables.ensures c.in_ok-write_queries.ensures) c.write_count.ensures
