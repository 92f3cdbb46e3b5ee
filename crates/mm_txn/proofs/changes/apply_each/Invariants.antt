-- The edits of the later tables are made.
use Rattle.std.proofs.Common.{◌≡◌, ◌≤◌, ℕ, vec_len}
use Rattle.mm_indexed.specs.Index.{EachTurns}
use Rattle.mm_store.specs.Marks.{KeepsMarks, mark_of}
use Rattle.mm_store.specs.Tables.{SameForm}
use Rattle.mm_txn.proofs.EachApplied.{AreLeft}
use Rattle.mm_txn.proofs.changes.apply_each.Given as goal

abbrev pub invariant-loop-removals : goal.invariant-loop-removals
invariant-loop-removals l = record {
  left : AreLeft l.fn.store l.fn.own l.fn.cascaded.items l.cascaded.items l.store;
  form : EachTurns SameForm l.fn.store.tables l.store.tables;
  links : l.store.links ≡ l.fn.store.links;
  longer : mark_of l.fn.store ≤ mark_of l.store;
  marks : (mark : ℕ) → mark ≤ mark_of l.fn.store → KeepsMarks l.fn.store l.store mark;
}

abbrev pub decreases-loop-removals : goal.decreases-loop-removals
decreases-loop-removals l = vec_len l.cascaded
