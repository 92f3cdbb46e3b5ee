use Rattle.std.proofs.Common.{length, map, sym, ap, subst, ◌∙◌}
use Rattle.mm_query.specs.Resolving.{places_in}
use Rattle.mm_plan.specs.Kept.{AreKept, instance_of}
use Rattle.mm_query.specs.Plans.{plan_of}
use Rattle.mm_query.specs.declared.bound_query.BoundQuery.{BoundQuery}
use Rattle.mm_store.specs.Tables.{Tables}
use Rattle.mm_txn.specs.Contents.{state_held}
use Rattle.mm_query.specs.Machine.{plan_in}
use Rattle.mm_query.specs.State.{State}
use Rattle.mm_txn.proofs.contents.Contents.explain.Goals as goal

pub explain-requires-clause-kept : goal.explain-requires-clause-kept
explain-requires-clause-kept c = subst (AreKept c.self.inside.catalog) (sym c.view-view.ensures.store) c.self.invariant.kept

pub explain-requires-clause-tables : goal.explain-requires-clause-tables
explain-requires-clause-tables c =
    c.as_slice-tables.ensures ∙ c.in_ok-bound.ensures.tables
    ∙ sym (ap (λ (b : BoundQuery). places_in c.self.inside.catalog b.from) c.in_ok-bound.ensures.ok)

pub returns-clause-lines : goal.returns-clause-lines
returns-clause-lines c =
    c.in_ok-lines.ensures c.args.query c.in_ok-bound.ensures.due c.in_ok-bound.ensures.ok
    ∙ ap (λ (s : Tables). plan_of c.self.inside.catalog (map length (instance_of s.tables)) c.args.query) c.view-view.ensures.store
    ∙ ap (λ (s : State). plan_in s c.args.query) (ap state_held c.self.view_is)
