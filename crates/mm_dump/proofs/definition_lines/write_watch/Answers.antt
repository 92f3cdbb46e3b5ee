use Rattle.std.proofs.Common.{[], ◌∷◌, ◌++◌, codes, refl, sym, ap, ◌∙◌, append_assoc, List, ℕ, ◌≡◌}
use Rattle.std.proofs.lemmas.Result.{err_from_is_err_and}
use Rattle.mm_value.proofs.Writing.{Writes-then, Writes-stops}
use Rattle.mm_lang.specs.QueryText.{named_query, query_text}
use Rattle.mm_dump.proofs.definition_lines.write_watch.Goals as goal

-- the line in the parts in which it is written
parts : (name bytes text : List ℕ) → bytes ≡ name
    → (codes "WATCH " ++ (name ++ (codes " SELECT " ++ text))) ++ 10 ∷ [] ≡ codes "WATCH " ++ (bytes ++ (codes " SELECT " ++ (text ++ 10 ∷ [])))
parts name bytes text is =
    ap (λ l. codes "WATCH " ++ l) (append_assoc name (codes " SELECT " ++ text) (10 ∷ [])
    ∙ ap (λ n. n ++ (codes " SELECT " ++ (text ++ 10 ∷ []))) (sym is))

pub returns-in_err-put_all : goal.returns-in_err-put_all
returns-in_err-put_all g c =
    let p = err_from_is_err_and c.from_residual.result c.from_residual.ensures.1 in
    let text = query_text (named_query c.args.catalog.now c.args.query.now) in
    Writes-stops (c.args.name.now ++ (codes " SELECT " ++ (text ++ 10 ∷ []))) (parts c.args.name.now c.args.name.now text refl) p.1 c.in_err-put_all.ensures

pub returns-in_err-put_all-2 : goal.returns-in_err-put_all-2
returns-in_err-put_all-2 g c =
    let p = err_from_is_err_and c.from_residual-in_err-put_all-2.result c.from_residual-in_err-put_all-2.ensures.1 in
    let text = query_text (named_query c.args.catalog.now c.args.query.now) in
    Writes-then (parts c.args.name.now c.bytes.result.now text c.bytes.ensures.value) c.in_ok-put_all.ensures
    (Writes-stops (codes " SELECT " ++ (text ++ 10 ∷ [])) refl p.1 c.in_err-put_all-2.ensures)

pub returns-in_err-put_all-3 : goal.returns-in_err-put_all-3
returns-in_err-put_all-3 g c =
    let p = err_from_is_err_and c.from_residual-in_err-put_all-3.result c.from_residual-in_err-put_all-3.ensures.1 in
    let text = query_text (named_query c.args.catalog.now c.args.query.now) in
    Writes-then (parts c.args.name.now c.bytes.result.now text c.bytes.ensures.value) c.in_ok-put_all.ensures
    (Writes-then refl c.in_ok-put_all-2.ensures (Writes-stops (text ++ 10 ∷ []) refl p.1 c.in_err-put_all-3.ensures))

pub returns-in_err-write_query : goal.returns-in_err-write_query
returns-in_err-write_query g c =
    let p = err_from_is_err_and c.from_residual-in_err-write_query.result c.from_residual-in_err-write_query.ensures.1 in
    let text = query_text (named_query c.args.catalog.now c.args.query.now) in
    Writes-then (parts c.args.name.now c.bytes.result.now text c.bytes.ensures.value) c.in_ok-put_all.ensures
    (Writes-then refl c.in_ok-put_all-2.ensures
    (Writes-then refl c.in_ok-put_all-3.ensures (Writes-stops (10 ∷ []) refl p.1 c.in_err-write_query.ensures)))

pub returns : goal.returns
returns g c =
    let text = query_text (named_query c.args.catalog.now c.args.query.now) in
    Writes-then (parts c.args.name.now c.bytes.result.now text c.bytes.ensures.value) c.in_ok-put_all.ensures
    (Writes-then refl c.in_ok-put_all-2.ensures
    (Writes-then refl c.in_ok-put_all-3.ensures (Writes-then refl c.in_ok-write_query.ensures c.put_all-4.ensures)))
