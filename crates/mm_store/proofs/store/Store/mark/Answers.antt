use Rattle.std.proofs.Common.{◌≡◌, map, ◌∙◌, subst, arith}
use Rattle.mm_indexed.specs.RowLists.{rows_of}
use Rattle.mm_store.specs.Marks.{IsMark, rows_at_mark}
use Rattle.mm_store.specs.Tables.{Tables, tables_of}
use Rattle.mm_store.proofs.Reading.{rows_shown}
use Rattle.mm_store.proofs.store.Store.mark.Goals as goal

pub returns-clause-is : goal.returns-clause-is
returns-clause-is c =
    let here : IsMark (tables_of c.self.inside.base) c.mark.result = record {
      within = omega (arith, c.mark.ensures.mark);
      lawful = c.mark.ensures.lawful;
    } in
    subst (λ (store : Tables). IsMark store c.mark.result) c.self.view_is here

pub returns-clause-rows : goal.returns-clause-rows
returns-clause-rows c =
    subst (λ (store : Tables). rows_at_mark c.mark.result store ≡ map rows_of store.tables) c.self.view_is
    (c.mark.ensures.rows ∙ rows_shown c.self.inside.base.stored.tables c.are_lawful.ensures c.are_whole.ensures)
