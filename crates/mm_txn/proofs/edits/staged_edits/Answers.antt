-- The edits of the table that a change names, and for a DELETE those of the cascaded rows.
use Rattle.std.proofs.Common.{◌≡◌, List, map, sym, ap, subst, ◌∙◌}
use Rattle.mm_plan.specs.Kept.{AreKept, AreOf}
use Rattle.mm_query.specs.Binding.{Binds}
use Rattle.mm_txn.specs.Bound.{IsBoundChange, bound_of}
use Rattle.mm_txn.specs.PlacedEdits.{AreEditsOf, AreOwnEditsOf, PlacedEdits, placed}
use Rattle.mm_txn.specs.declared.bound.ChangeToRun.{ChangeToRun}
use Rattle.mm_txn.proofs.AllEdits.{delete_bound, edits_alone, edits_with_others, is_delete, other_bound, own_fit, own_removes}
use Rattle.mm_txn.proofs.KeptReferences.{kept_by_rows}
use Rattle.mm_txn.proofs.RowsBeside.{AreOf-formed}
use Rattle.mm_txn.proofs.edits.staged_edits.Goals as goal
use Rattle.mm_txn.proofs.edits.staged_edits.Goals.{In_ok-own, in-Delete, in_default, then-cascades_rows+in_ok-cascaded, else-cascades_rows}

-- the staged store still has the tables of the catalog
are : (c : In_ok-own) → AreOf c.args.catalog.now.tables c.own_edits.new.store.tables
are c =
    AreOf-formed c.args.catalog.now.tables c.args.store.now.tables c.own_edits.new.store.tables c.own_edits.ensures.store.form c.requires.kept.relations

pub own_edits-requires : goal.own_edits-requires
own_edits-requires c = (c.args.catalog.now, c.requires.bound.0, c.requires.kept.relations, c.requires.bound.1)

pub cascades-requires-clause-kept : goal.cascades-requires-clause-kept
cascades-requires-clause-kept c =
    kept_by_rows c.args.catalog.now c.args.store.now c.own_edits.new.store c.requires.kept (are (goal.at.cascades-requires-clause-kept c).In_ok-own)
    c.own_edits.ensures.store.links

pub cascades-requires-clause-distinct : goal.cascades-requires-clause-distinct
cascades-requires-clause-distinct c = c.requires.bound.1.distinct

pub cascades-requires-clause-fit : goal.cascades-requires-clause-fit
cascades-requires-clause-fit c =
    let mutation = c.requires.bound.0 in
    own_fit c.args.catalog.now c.own_edits.new.store (are (goal.at.cascades-requires-clause-fit c).In_ok-own) mutation c.in_ok-own.own.table
    c.in_ok-own.own.edits (c.in_ok-own.ensures.ok c.args.catalog.now mutation c.requires.kept.relations c.requires.bound.1)

pub cascades-requires-clause-removals : goal.cascades-requires-clause-removals
cascades-requires-clause-removals c =
    let mutation = c.requires.bound.0 in
    let schema = c.args.catalog.now in
    let bound = c.requires.bound.1 in
    let is : is_delete mutation ≡ c.match-matches.matches = elim c.match-matches.branch [
      | in-Delete w ↦
          delete_bound schema mutation w.in-Delete.table w.in-Delete.tests.now
          (subst (λ (change : ChangeToRun). Binds schema mutation (bound_of change)) w.in-Delete.is bound.binds)
          ∙ sym w.matches-is
      | in_default w ↦ other_bound schema mutation c.args.change bound.binds w.in_default.not-Delete ∙ sym w.matches-is
    ] in
    own_removes schema c.own_edits.new.store (are (goal.at.cascades-requires-clause-removals c).In_ok-own) mutation c.in_ok-own.own.table
    c.in_ok-own.own.edits (c.in_ok-own.ensures.ok schema mutation c.requires.kept.relations bound) (is ∙ c.if-cascades_rows.true)

pub returns-clause-ok : goal.returns-clause-ok
returns-clause-ok c = λ mutation bound.
    let own = c.in_ok-own.own in
    let schema = c.args.catalog.now in
    let store = c.own_edits.new.store in
    let there = are (goal.at.returns-clause-ok c).In_ok-own in
    let is : is_delete mutation ≡ c.match-matches.matches = elim c.match-matches.branch [
      | in-Delete w ↦
          delete_bound schema mutation w.in-Delete.table w.in-Delete.tests.now
          (subst (λ (change : ChangeToRun). Binds schema mutation (bound_of change)) w.in-Delete.is bound.binds)
          ∙ sym w.matches-is
      | in_default w ↦ other_bound schema mutation c.args.change bound.binds w.in_default.not-Delete ∙ sym w.matches-is
    ] in
    let own_edits = c.in_ok-own.ensures.ok schema mutation c.requires.kept.relations bound in
    elim c.if-cascades_rows.branch [
      | then-cascades_rows+in_ok-cascaded w ↦
          subst (λ (es : List PlacedEdits). AreEditsOf mutation schema store (placed own) es)
          (ap (λ cascaded. map placed cascaded.items) (sym w.cascaded-is))
          (edits_with_others schema store there mutation own.table own.edits own_edits (is ∙ w.if-cascades_rows.true)
          (map placed w.in_ok-cascaded.cascaded.items) w.in_ok-cascaded.ensures.are w.in_ok-cascaded.ensures.cascades)
      | else-cascades_rows w ↦
          subst (λ (es : List PlacedEdits). AreEditsOf mutation schema store (placed own) es)
          (ap (map placed) (sym (ap (λ cascaded. cascaded.items) w.cascaded-is ∙ w.new-cascaded.ensures.items)))
          (edits_alone schema store there mutation own.table own.edits own_edits (is ∙ w.if-cascades_rows.false))
    ]
