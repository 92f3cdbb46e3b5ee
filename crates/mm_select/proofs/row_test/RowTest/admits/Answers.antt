use Rattle.std.proofs.Common.{rules, ◌≡◌, ◌∷◌, [], false, Some, sym, ap, ◌∙◌}
use Rattle.std.specs.List.{list_any}
use Rattle.mm_partition.specs.Views.{viewed}
use Rattle.mm_query.specs.Queries.{none_fails}
use Rattle.mm_select.proofs.Meeting.{all_admit}
use Rattle.mm_select.proofs.Walks.{row_given}
use Rattle.mm_select.specs.Accesses.{asks_along}
use Rattle.mm_templist.specs.Combos.{row_of}
use Rattle.mm_select.proofs.row_test.RowTest.admits.Goals as goal

pub returns-then-not-self-clause-told : goal.returns-then-not-self-clause-told
returns-then-not-self-clause-told c =
    let test = c.args.self.now in
    let silent : list_any (asks_along test.access) test.atoms.now ≡ false = search rules in
    sym (all_admit (row_of c.args.view.now.store test.table c.args.at) test.access c.requires.along test.atoms.now silent)

pub returns-clause-told : goal.returns-clause-told
returns-clause-told c =
    let test = c.args.self.now in
    let is = row_given c.args.view.now.store test.table c.args.at (viewed c.row-row.result) c.requires.there c.row-row.ensures.row in
    c.none_fails.ensures ∙ ap (λ row. none_fails test.atoms.now (Some row ∷ [])) (sym is)
