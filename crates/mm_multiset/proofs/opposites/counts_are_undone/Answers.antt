-- After the undo, each count is as before.
use Rattle.mm_multiset.proofs.Undoing.{undone, found_all, kept_all}
use Rattle.mm_multiset.proofs.opposites.counts_are_undone.Goals as goal

pub returns-clause-counts : goal.returns-clause-counts
returns-clause-counts c = undone

pub returns-clause-found : goal.returns-clause-found
returns-clause-found c = found_all

pub returns-clause-kept : goal.returns-clause-kept
returns-clause-kept c = kept_all
