use Rattle.std.proofs.Common.{Err, ◌∷◌, ◌++◌, refl, sym, ap, append_assoc, ◌∙◌}
use Rattle.std.proofs.lemmas.Result.{err_from_is_err_and}
use Rattle.mm_value.proofs.Writing.{Writes-then, Writes-stops}
use Rattle.mm_lang.specs.ReplyText.{on_delete_text}
use Rattle.mm_lang.proofs.write.listing_text.write_reference.Goals as goal

pub returns-in_err-write_after_space : goal.returns-in_err-write_after_space
returns-in_err-write_after_space g c =
    let p = err_from_is_err_and c.from_residual.result c.from_residual.ensures.1 in
    let table = c.args.table.now in
    let behind = on_delete_text c.args.on_delete in
    Writes-stops (32 ∷ table ++ behind)
    (ap (λ l. 32 ∷ l ++ 32 ∷ table ++ behind) (sym c.text.ensures) ∙ append_assoc (32 ∷ c.text.result.now) (32 ∷ table) behind) p.1
    c.in_err-write_after_space.ensures

pub returns-in_err-write_after_space-2 : goal.returns-in_err-write_after_space-2
returns-in_err-write_after_space-2 g c =
    let p = err_from_is_err_and c.from_residual-in_err-write_after_space-2.result c.from_residual-in_err-write_after_space-2.ensures.1 in
    let table = c.args.table.now in
    let behind = on_delete_text c.args.on_delete in
    Writes-stops behind (ap (λ l. 32 ∷ l ++ 32 ∷ table ++ behind) (sym c.text.ensures)) p.1
    (Writes-then {result = Err c.in_err-write_after_space-2.field-0.0} refl c.in_ok-write_after_space.ensures c.in_err-write_after_space-2.ensures)

pub returns : goal.returns
returns g c =
    let table = c.args.table.now in
    let behind = on_delete_text c.args.on_delete in
    Writes-then (ap (λ l. 32 ∷ l ++ 32 ∷ table ++ behind) (sym c.text.ensures))
    (Writes-then refl c.in_ok-write_after_space.ensures c.in_ok-write_after_space-2.ensures) c.write_on_delete.ensures
