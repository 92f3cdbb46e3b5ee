use Rattle.mm_indexed.proofs.indexes.hash_entries.put_pair.Goals as goal

pub insert-requires-clause-small : goal.insert-requires-clause-small
insert-requires-clause-small c = c.are_references_small.ensures c.args.at c.requires.live
