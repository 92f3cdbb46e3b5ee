use Rattle.std.proofs.Common.{◌<◌, ◌∙◌, List, ap, get_or, length, subst}
use Rattle.mm_delta.specs.declared.indexed_changes.TableIndex.{TableIndex}
use Rattle.mm_delta.proofs.ReadAhead.{index_read}
use Rattle.mm_delta.proofs.indexed_changes.IndexedChanges.overlay.Goals as goal

pub returns-then-found-table-clause-read : goal.returns-then-found-table-clause-read
returns-then-found-table-clause-read c =
    let i = c.loop-found.found-index in
    let found = c.found-item.result in
    let items = c.deref-found-items.ensures.value in
    index_read c.self.inside.changes.now c.self.inside.indexes.items c.args.self.now c.self.view_is c.self.invariant i found
    (subst (λ (l : List TableIndex). i < length l) items c.loop-found-test.true)
    (c.found-item.is ∙ ap (λ (l : List TableIndex). get_or l i found) items) c.args.table c.if-found-table.true
