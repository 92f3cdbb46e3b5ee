use Rattle.std.proofs.Common.{◌++◌, ◌∷◌, [], List, length, ap, ◌∙◌, arith}
use Rattle.mm_tables.specs.Tables.{Stored}
use Rattle.mm_tables.specs.declared.logged_table.LoggedTable.{LoggedTable}
use Rattle.mm_tables.proofs.Making.{IsLogged-added}
use Rattle.mm_tables.proofs.tables.Tables.add_table.Goals as goal

pub invariant_of-self-2 : goal.invariant_of-self-2
invariant_of-self-2 c =
    let table : LoggedTable = record { rows = c.in_ok-rows.rows; owed = record { key = 0; indexes = 0 } } in
    IsLogged-added c.self.inside.tables.items c.push_reserved.new.self.items c.self.inside.log.items table
    (c.push_reserved.ensures.items ∙ ap (λ (ts : List LoggedTable). ts ++ table ∷ []) c.reserve.ensures.items)
    (ap (λ (s : Stored). s.log) c.self.view_is ∙ c.requires.log)
    (omega (arith, c.requires.few, ap (λ (s : Stored). length s.tables) c.self.view_is))
    (λ i at. c.in_ok-rows.ensures.places at i) (λ i. 0) (λ i. 0) c.self.invariant
