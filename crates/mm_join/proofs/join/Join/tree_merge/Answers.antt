use Rattle.std.proofs.Common.{ℕ, ◌+◌, ◌<◌, ◌≤◌, length, sym, subst, arith}
use Rattle.std.specs.List.{sum_by}
use Rattle.mm_store.proofs.Joining.{some_at}
use Rattle.mm_store.specs.Tables.{IsAt, Tables, rows_at}
use Rattle.mm_templist.specs.Combos.{combo_rows}
use Rattle.mm_join.specs.Joined.{IsNext}
use Rattle.mm_join.specs.Joins.{CanJoin, Joins}
use Rattle.mm_join.specs.Reads.{merge_reads}
use Rattle.mm_join.specs.AccessMethods.{IsAccessMethod, inner_of, reads_along}
use Rattle.mm_join.specs.declared.inner.Inner.{Inner}
use Rattle.mm_join.proofs.join.Join.tree_merge.Goals as goal

pub new-requires-clause-there : goal.new-requires-clause-there
new-requires-clause-there c =
    subst (λ (x : Inner). x.table < length c.args.view.now.store.tables) (sym (c.inner.ensures c.requires.next.0 c.requires.next.1.0.0)) c.requires.next.1.0.1

pub new-requires-clause-tree : goal.new-requires-clause-tree
new-requires-clause-tree c = λ stored at.
    let store = c.args.view.now.store in
    let (table, can) = c.requires.next in
    let here = subst (λ (x : Inner). IsAt store x.table stored) (c.inner.ensures table can.0.0) at in
    let served = c.requires.served table stored can.0 here in
    (served.0, served.1)

pub along-requires : goal.along-requires
along-requires c =
    let store = c.args.view.now.store in
    let join = c.args.self.now in
    let (table, can) = c.requires.next in
    let (some, there) = some_at store.tables table can.0.1 in
    let inner = c.inner.ensures table can.0.0 in
    record {
      next = subst (λ (s : Tables). (n : ℕ) × CanJoin s join n × IsAccessMethod s join.outer.now.tables (inner_of join n) c.by.result)
          (sym c.new.ensures.same) (
            table,
            can,
            subst (IsAccessMethod store join.outer.now.tables (inner_of join table)) (sym c.by.ensures) (
              (c.requires.served table some can.0 there).2,
              λ stored here.
                  c.in_ok-cursor.ensures.walk stored (subst (λ (x : Inner). IsAt store x.table stored) (sym inner) here),
            ),
          );
    }

pub returns-in_err-cursor-clause-reads : goal.returns-in_err-cursor-clause-reads
returns-in_err-cursor-clause-reads c = λ table is.
    let inner = c.inner.ensures table is.0 in
    let read : c.new.new.view.reads ≤ c.args.view.now.reads + length (rows_at c.args.view.now.store.tables table) =
    subst (λ (x : Inner). c.new.new.view.reads ≤ c.args.view.now.reads + length (rows_at c.args.view.now.store.tables x.table)) inner c.new.ensures.reads in
    omega (arith, read)

pub returns-clause-joins : goal.returns-clause-joins
returns-clause-joins c = λ table is.
    subst (λ (s : Tables). Joins s c.args.self.now table c.along.result) c.new.ensures.same
    (c.along.ensures.joins table (subst (λ (s : Tables). IsNext s c.args.self.now.outer.now.tables c.args.self.now.descriptor.tables.now table)
    (sym c.new.ensures.same) is))

pub returns-clause-reads : goal.returns-clause-reads
returns-clause-reads c = λ table is.
    let store = c.args.view.now.store in
    let join = c.args.self.now in
    let inner = c.inner.ensures table is.0 in
    let next = subst (λ (s : Tables). IsNext s join.outer.now.tables join.descriptor.tables.now table) (sym c.new.ensures.same) is in
    let along : c.along.new.view.reads ≤ c.new.new.view.reads
    + sum_by (merge_reads c.args.key (rows_at store.tables table)) (combo_rows store join.outer.now) =
    subst (λ n. c.along.new.view.reads ≤ c.new.new.view.reads + n)
    (λ j. sum_by (reads_along (c.by.ensures j) (rows_at (c.new.ensures.same j).tables table)) (combo_rows (c.new.ensures.same j) join.outer.now))
    (c.along.ensures.reads table next) in
    omega (
      arith,
      subst (λ (x : Inner). c.new.new.view.reads ≤ c.args.view.now.reads + length (rows_at store.tables x.table)) inner c.new.ensures.reads,
      along,
    )
