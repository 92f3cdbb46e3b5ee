use Rattle.mm_join.proofs.join.Join.precomputed.Goals as goal

pub along-requires : goal.along-requires
along-requires c =
    record {
      next = (c.requires.next.0, c.requires.next.1, λ stored here. c.requires.asked c.requires.next.0 stored c.requires.next.1.0 here);
    }

pub returns-clause-reads : goal.returns-clause-reads
returns-clause-reads c = λ table is. c.along.ensures.reads table is
