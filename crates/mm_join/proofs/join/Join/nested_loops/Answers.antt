use Rattle.std.proofs.Common.{◌<◌, length, refl, sym, subst}
use Rattle.std.specs.List.Sorted.{IsPermutation}
use Rattle.mm_join.specs.declared.inner.Inner.{Inner}
use Rattle.mm_store.specs.Tables.{IsAt}
use Rattle.mm_join.proofs.join.Join.nested_loops.Goals as goal

pub walk-requires-clause-there : goal.walk-requires-clause-there
walk-requires-clause-there c =
    subst (λ (x : Inner). x.table < length c.args.view.now.store.tables) (sym (c.inner.ensures c.requires.next.0 c.requires.next.1.0.0)) c.requires.next.1.0.1

pub walk-requires-clause-tree : goal.walk-requires-clause-tree
walk-requires-clause-tree c = λ stored here. (stored.key, refl, tt)

pub along-requires : goal.along-requires
along-requires c =
    record {
      next = (
        c.requires.next.0,
        c.requires.next.1,
        λ stored here.
            subst (λ l. IsPermutation l stored.refs) (sym c.in_ok-all.ensures)
            (c.walk.ensures.walk stored stored.key
            (subst (λ (x : Inner). IsAt c.args.view.now.store x.table stored) (sym (c.inner.ensures c.requires.next.0 c.requires.next.1.0.0)) here) refl).same,
      );
    }

pub returns-clause-reads : goal.returns-clause-reads
returns-clause-reads c = λ table is. c.along.ensures.reads table is
