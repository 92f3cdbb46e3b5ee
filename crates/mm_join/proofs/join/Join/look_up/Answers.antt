use Rattle.std.proofs.Common.{◌+◌, ◌≤◌, sym, subst}
use Rattle.std.specs.List.{sum_by}
use Rattle.mm_store.proofs.Joining.{some_at}
use Rattle.mm_store.specs.Tables.{rows_at}
use Rattle.mm_templist.specs.Combos.{combo_rows}
use Rattle.mm_join.specs.AccessMethods.{IsAccessMethod, inner_of, reads_along}
use Rattle.mm_join.specs.declared.access_methods.AccessMethod.{AccessMethod}
use Rattle.mm_join.proofs.join.Join.look_up.Goals as goal

pub along-requires : goal.along-requires
along-requires c =
    let store = c.args.view.now.store in
    let join = c.args.self.now in
    let (table, can) = c.requires.next in
    let (some, there) = some_at store.tables table can.0.1 in
    record {
      next = (
        table,
        can,
        subst (IsAccessMethod store join.outer.now.tables (inner_of join table)) (sym c.by.ensures)
            ((c.requires.served table some can.0 there).1, λ stored here. (c.requires.served table stored can.0 here).0),
      );
    }

pub returns-clause-reads : goal.returns-clause-reads
returns-clause-reads c = λ table is.
    let store = c.args.view.now.store in
    subst (λ (w : AccessMethod). c.along.new.view.reads ≤ c.args.view.now.reads
    + sum_by (reads_along w (rows_at store.tables table)) (combo_rows store c.args.self.now.outer.now)) c.by.ensures
    (c.along.ensures.reads table is)
