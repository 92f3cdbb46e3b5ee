-- The rows at the place of a table's name are those of the name.
use Rattle.std.proofs.Common.{◌<◌, length, sym, ap, subst, ◌∙◌}
use Rattle.std.specs.Option.{unwrap_or}
use Rattle.mm_store.specs.Tables.{IsAt, Tables}
use Rattle.mm_txn.proofs.DatabaseSteps.{rows_of_name, rows_there, some_there}
use Rattle.mm_txn.proofs.ReferenceRows.{some_place}
use Rattle.mm_txn.proofs.listing.listed_table.Goals as goal

pub len_of-requires : goal.len_of-requires
len_of-requires c =
    let found = some_place c.args.catalog.now c.args.table.now.definition.name c.requires.there in
    subst (λ (s : Tables). c.unwrap_or-place.result < length s.tables) (sym c.view.ensures.store)
    (subst (λ k. k < length c.args.store.now.tables) (sym (c.unwrap_or-place.ensures ∙ ap (λ p. unwrap_or p 0) (c.place_of.ensures.place ∙ found.1)))
    (rows_there c.args.catalog.now c.args.store.now.tables c.requires.relations c.args.table.now.definition.name found.0 found.1))

pub returns : goal.returns
returns c =
    let schema = c.args.catalog.now in
    let rs = c.args.store.now.tables in
    let name = c.args.table.now.definition.name in
    let found = some_place schema name c.requires.there in
    let at = c.unwrap_or-place.ensures ∙ ap (λ p. unwrap_or p 0) (c.place_of.ensures.place ∙ found.1) in
    let stored = some_there rs found.0 (rows_there schema rs c.requires.relations name found.0 found.1) in
    let here = subst (λ k. IsAt c.args.store.now k stored.0) (sym at) stored.1 in
    let count = c.len_of.ensures.count stored.0 (subst (λ (s : Tables). IsAt s c.unwrap_or-place.result stored.0) (sym c.view.ensures.store) here) in
    let rows = rows_of_name schema rs c.requires.relations name found.0 found.1 stored.0 stored.1 in
    λ i. record { table = c.in_ok-copy.ensures i; rows = (count ∙ ap length (sym rows)) i }
