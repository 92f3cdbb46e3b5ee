use Rattle.std.proofs.Common.{◌≡◌, map, ap, ◌∙◌}
use Rattle.std.specs.List.{filter}
use Rattle.std.proofs.lemmas.Result.{on_ok_weaker}
use Rattle.mm_join.proofs.Rising.{has, rest_of, run_behind}
use Rattle.mm_join.specs.declared.entries.Entry.{Entry}
use Rattle.mm_join.proofs.cursor.Cursor.find.Goals as goal

pub returns-clause-run : goal.returns-clause-run
returns-clause-run c =
    let entries = c.as_slice-entries.result.now in
    let seen : entries ≡ c.args.self.now = c.as_slice-entries.ensures.value ∙ c.self.view_is in
    on_ok_weaker c.copy_run-copied.result
    (λ is.
    is
    ∙ ap (map (λ (entry : Entry). entry.at))
    (ap (filter (has c.args.prefix)) (rest_of entries c.first_of-first.result)
    ∙ (run_behind c.args.prefix entries c.first_of-first.result c.first_of-first.ensures.before ∙ ap (filter (has c.args.prefix)) seen)))
    c.copy_run-copied.ensures
