use Rattle.std.proofs.Common.{◌+◌, [], map, ◌∙◌, subst, sym, arith}
use Rattle.mm_partition.specs.Views.{viewed}
use Rattle.mm_partition.specs.Places.{slot_at}
use Rattle.mm_store.specs.Tables.{IsAt}
use Rattle.mm_tables.specs.declared.edit.Edit.{Edit}
use Rattle.mm_tables.specs.declared.edit.Edit.TheVariants.{Stage}
use Rattle.mm_delta.specs.Unseen.{come_seen, gone_seen}
use Rattle.mm_delta.proofs.Placed.{coming_more}
use Rattle.mm_delta.proofs.UnseenEdits.{first_named, one_named}
use Rattle.mm_delta.proofs.unseen.Sight.seen_rows.Goals as goal

abbrev none : Edit
none = Stage (record { slot = 0 })

pub add_seen-requires-clause-ready : goal.add_seen-requires-clause-ready
add_seen-requires-clause-ready c = λ stored at.
    (c.requires.fit stored (subst (λ s. IsAt s c.args.table stored) c.loop-edit.invariant.same at)).fits c.loop-edit.edit-index none
    c.loop-edit-test.true

pub returns-in_err-add_seen-clause-reads : goal.returns-in_err-add_seen-clause-reads
returns-in_err-add_seen-clause-reads c =
    omega (
      arith,
      c.loop-edit.invariant.reads,
      c.in_err-add_seen.ensures.reads,
      one_named c.args.edits.now c.loop-edit.edit-index none c.loop-edit-test.true,
      first_named c.args.edits.now (c.loop-edit.edit-index + 1),
    )

pub loop-edit-preserved : goal.loop-edit-preserved
loop-edit-preserved c = record {
  same = c.in_ok-add_seen.ensures.same ∙ c.loop-edit.invariant.same;
  gone = λ stored at.
      coming_more (gone_seen c.args.self.now.query.now c.args.self.now.place (slot_at stored.places)) c.args.edits.now c.loop-edit.edit-index none
      [] (map viewed c.loop-edit.seen.gone.items) (map viewed c.add_seen.new.seen.gone.items) c.loop-edit-test.true
      (c.loop-edit.invariant.gone stored at)
      (c.in_ok-add_seen.ensures.gone stored (subst (λ s. IsAt s c.args.table stored) (sym c.loop-edit.invariant.same) at));
  come = λ stored at.
      coming_more (come_seen c.args.self.now.query.now c.args.self.now.place (slot_at stored.places)) c.args.edits.now c.loop-edit.edit-index none
      [] (map viewed c.loop-edit.seen.come.items) (map viewed c.add_seen.new.seen.come.items) c.loop-edit-test.true
      (c.loop-edit.invariant.come stored at)
      (c.in_ok-add_seen.ensures.come stored (subst (λ s. IsAt s c.args.table stored) (sym c.loop-edit.invariant.same) at));
  reads = omega (
    arith,
    c.loop-edit.invariant.reads,
    c.in_ok-add_seen.ensures.reads,
    one_named c.args.edits.now c.loop-edit.edit-index none c.loop-edit-test.true,
  );
}
