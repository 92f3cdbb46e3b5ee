use Rattle.std.proofs.Common.{◌≡◌, ◌++◌, inl, inr, map, sym, ap, ◌∙◌}
use Rattle.std.proofs.lemmas.Result.{err_from_is_err_and}
use Rattle.mm_schema.specs.Refused.{first_refusal}
use Rattle.mm_query.specs.Queries.{bag_of, rows_read, size_conditions}
use Rattle.mm_query.specs.Walk.{found_behind}
use Rattle.mm_query.proofs.PlainEval.{found_is_bag}
use Rattle.mm_query.proofs.plain.plain_eval.Goals as goal

pub returns-in_err-walk-clause-due : goal.returns-in_err-walk-clause-due
returns-in_err-walk-clause-due c =
    let p = err_from_is_err_and c.from_residual-in_err-walk.result c.from_residual-in_err-walk.ensures.1 in
    let query = c.args.query.now in
    let bag : c.new-found.result.items
    ++ found_behind query (rows_read (λ r. r.now) c.in_ok-chosen.chosen.items) (map (λ rows. rows.now) c.as_slice-lists.result.now)
    ≡ bag_of query c.args.rows.now =
    (λ i. c.new-found.ensures.items i ++ found_behind query (rows_read (λ r. r.now) (c.in_ok-chosen.ensures.items i))
    (map (λ rows. rows.now) (c.as_slice-lists.ensures.value i)))
    ∙ (found_is_bag query (map (λ rows. rows.now) c.rows.inside.lists.items) ∙ ap (bag_of query) c.rows.view_is) in
    rw (p.1, p.2) (elim c.in_err-walk.ensures.due [ inl due ↦ inl (ap (λ l. first_refusal (size_conditions l)) (sym bag) ∙ due) | inr memory ↦ inr memory ])

pub returns-clause-due : goal.returns-clause-due
returns-clause-due c =
    let query = c.args.query.now in
    let bag : c.new-found.result.items
    ++ found_behind query (rows_read (λ r. r.now) c.in_ok-chosen.chosen.items) (map (λ rows. rows.now) c.as_slice-lists.result.now)
    ≡ bag_of query c.args.rows.now =
    (λ i. c.new-found.ensures.items i ++ found_behind query (rows_read (λ r. r.now) (c.in_ok-chosen.ensures.items i))
    (map (λ rows. rows.now) (c.as_slice-lists.ensures.value i)))
    ∙ (found_is_bag query (map (λ rows. rows.now) c.rows.inside.lists.items) ∙ ap (bag_of query) c.rows.view_is) in
    ap (λ l. first_refusal (size_conditions l)) (sym bag) ∙ c.in_ok-walk.ensures.due

pub returns-clause-ok : goal.returns-clause-ok
returns-clause-ok c =
    let query = c.args.query.now in
    c.in_ok-walk.ensures.ok
    ∙ ((λ i. c.new-found.ensures.items i ++ found_behind query (rows_read (λ r. r.now) (c.in_ok-chosen.ensures.items i))
    (map (λ rows. rows.now) (c.as_slice-lists.ensures.value i)))
    ∙ (found_is_bag query (map (λ rows. rows.now) c.rows.inside.lists.items) ∙ ap (bag_of query) c.rows.view_is))
