-- Neither store has a row in the first table.
use Rattle.std.proofs.Common.{ap, ◌∙◌}
use Rattle.mm_standing.specs.Queries.{RowsByPlace}
use Rattle.mm_store.specs.Tables.{Tables, rows_at}
use Rattle.standing_tests.proofs.TableRows.{none_from_both}
use Rattle.standing_tests.proofs.case.Case.watch_elsewhere.Goals as goal

pub watch-requires-clause-rows : goal.watch-requires-clause-rows
watch-requires-clause-rows c =
    none_from_both c.args.query c.in_ok-tables.tables.items c.other.inside.store.tables c.settle.new.store.tables c.in_ok-tables.ensures.items
    (ap (λ (s : Tables). rows_at s.tables 0) c.other.view_is ∙ c.in_ok-refuse_elsewhere.ensures.empty_there)
    (ap (λ (rows : RowsByPlace). rows 0) c.settle.ensures.rows
    ∙ ap (λ (s : Tables). rows_at s.tables 0) c.self.view_is ∙ c.in_ok-refuse_elsewhere.ensures.empty)
