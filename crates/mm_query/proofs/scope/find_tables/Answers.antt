use Rattle.std.proofs.Common.{inl, sym, ◌∙◌}
use Rattle.mm_query.proofs.FoundTables.{missed_among, places_more, there_more}
use Rattle.mm_query.proofs.Due.{due_one}
use Rattle.mm_query.proofs.scope.find_tables.Goals as goal

pub returns-in_default-clause-due : goal.returns-in_default-clause-due
returns-in_default-clause-due c =
    inl (due_one _ _ (missed_among c.args.catalog.now c.args.from.now c.loop-item.item-index c.item-item.result c.loop-item-test.true c.item-item.is
    (sym c.in_default.ensures.place)))

pub loop-item-preserved : goal.loop-item-preserved
loop-item-preserved c = record {
  places = c.in_ok-push.ensures.ok
      ∙ places_more c.args.catalog.now c.args.from.now c.loop-item.item-index c.item-item.result c.loop-item-test.true c.item-item.is
      c.loop-item.tables c.in-Some.place (sym c.in-Some.ensures.place) c.loop-item.invariant.places;
  there = there_more c.args.catalog.now c.args.from.now c.loop-item.item-index c.item-item.result c.loop-item-test.true c.item-item.is
      c.in-Some.place (sym c.in-Some.ensures.place) c.loop-item.invariant.there;
}
