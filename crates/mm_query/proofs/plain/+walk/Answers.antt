use Rattle.std.proofs.Common.{◌≡◌, ◌≤◌, ◌++◌, [], ◌∷◌, Some, OnOk, inl, inr, length, map, sym, subst}
use Rattle.std.proofs.lemmas.Result.{err_from_is_err_and}
use Rattle.mm_schema.specs.Refused.{AnswersDue, first_refusal}
use Rattle.mm_query.specs.Queries.{rows_read, size_conditions}
use Rattle.mm_query.specs.Walk.{found_behind}
use Rattle.mm_query.proofs.PlainEval.{due_of_longer, empty_by_length, next_is_part, pushed_front}
use Rattle.mm_query.proofs.plain.+walk.Goals as goal

pub returns-in_default-clause-due : goal.returns-in_default-clause-due
returns-in_default-clause-due t c =
    let none : c.args.lists.now ≡ [] = empty_by_length c.args.lists.now c.in_default.ensures.cases in
    subst (λ l. AnswersDue (first_refusal (size_conditions (c.args.found.now.items ++ l))) c.add_fitting.result)
    (λ i. found_behind c.args.query.now (rows_read (λ r. r.now) (c.deref.ensures.value i)) (map (λ rows. rows.now) (sym none i)))
    c.add_fitting.ensures.due

pub returns-in_default-clause-ok : goal.returns-in_default-clause-ok
returns-in_default-clause-ok t c =
    let none : c.args.lists.now ≡ [] = empty_by_length c.args.lists.now c.in_default.ensures.cases in
    subst (λ l. OnOk c.add_fitting.result (c.add_fitting.new.found.items ≡ c.args.found.now.items ++ l))
    (λ i. found_behind c.args.query.now (rows_read (λ r. r.now) (c.deref.ensures.value i)) (map (λ rows. rows.now) (sym none i)))
    c.add_fitting.ensures.ok

pub returns-in_err-walk-clause-due : goal.returns-in_err-walk-clause-due
returns-in_err-walk-clause-due t c =
    let p = err_from_is_err_and c.from_residual-in_err-walk.result c.from_residual-in_err-walk.ensures.1 in
    let query = c.args.query.now in
    let front = rows_read (λ r. r.now) c.args.chosen.now.items in
    let rest = map (λ rows. rows.now) c.in-Some.rest.now in
    let row = c.row-item.result in
    let pushed : rows_read (λ r. r.now) c.push.new.self.items ≡ front ++ Some row ∷ [] =
    pushed_front (λ r. r.now) _ _ _ _ c.in_ok-push.ensures.items c.loop-row.invariant.chosen in
    let split = c.in-Some.ensures.cases in
    let longer : length (c.loop-row.found.items ++ found_behind query (rows_read (λ r. r.now) c.push.new.self.items) rest)
    ≤ length (c.args.found.now.items ++ found_behind query front (map (λ rows. rows.now) c.args.lists.now)) =
    subst (λ l. length (c.loop-row.found.items ++ found_behind query l rest)
    ≤ length (c.args.found.now.items ++ found_behind query front (map (λ rows. rows.now) c.args.lists.now))) (sym pushed)
    (subst (λ l. length (c.loop-row.found.items ++ found_behind query (front ++ Some row ∷ []) rest)
    ≤ length (c.args.found.now.items ++ found_behind query front (map (λ rows. rows.now) l))) (sym split.0)
    (next_is_part (λ r. found_behind query (front ++ Some r ∷ []) rest) c.args.found.now.items c.in-Some.rows.now.now c.loop-row.row-index row
    c.loop-row-test.true c.row-item.is c.loop-row.found.items c.loop-row.invariant.found)) in
    rw (p.1, p.2) (elim c.in_err-walk.ensures.due [ inl due ↦ inl (due_of_longer _ _ _ longer due) | inr memory ↦ inr memory ])
