use Rattle.std.proofs.Common.{ap, ◌∙◌}
use Rattle.std.specs.Prelude.{position}
use Rattle.mm_indexed.specs.Kept.{StoredRows}
use Rattle.mm_indexed.specs.Served.{is_on}
use Rattle.mm_indexed.proofs.Served.{if_found, if_none}
use Rattle.mm_indexed.proofs.indexed_rows.IndexedRows.index_of.Goals as goal

pub returns-clause-found : goal.returns-clause-found
returns-clause-found c =
    if_found c.args.column c.args.kind c.args.self.now.indexes c.first_on.result
    (c.first_on.ensures ∙ ap (position (is_on c.args.column c.args.kind)) (c.as_slice.ensures.value ∙ ap (λ (s : StoredRows). s.indexes) c.self.view_is))

pub returns-clause-none : goal.returns-clause-none
returns-clause-none c =
    if_none c.args.column c.args.kind c.args.self.now.indexes c.first_on.result
    (c.first_on.ensures ∙ ap (position (is_on c.args.column c.args.kind)) (c.as_slice.ensures.value ∙ ap (λ (s : StoredRows). s.indexes) c.self.view_is))
