use Rattle.std.proofs.Common.{◌≡◌, All, sym, ap, subst, ◌∙◌}
use Rattle.std.proofs.lemmas.List.Elements.{All-push}
use Rattle.mm_partition.specs.Places.{slot_at}
use Rattle.mm_store.specs.Edits.{AreReady, rows_come}
use Rattle.mm_delta.specs.Changes.{IsCome}
use Rattle.mm_delta.specs.Edited.{edits_at}
use Rattle.mm_delta.specs.declared.indexed_changes.TableIndex.{TableIndex}
use Rattle.mm_delta.proofs.ReadAhead.{are_of}
use Rattle.mm_delta.proofs.indexed_changes.IndexedChanges.new.Goals as goal
use Rattle.mm_delta.proofs.indexed_changes.IndexedChanges.new.Goals.{then-is_met+then-not-any+in_ok-columns+in_ok-index+in_ok-push, else-is_met}

pub new-requires-clause-ready : goal.new-requires-clause-ready
new-requires-clause-ready c = λ stored at. subst (AreReady stored) (sym c.edits_of.ensures) (c.requires.fit _ stored at)

pub loop-place-preserved : goal.loop-place-preserved
loop-place-preserved c =
    let P : TableIndex → Type 0 = λ found. found.index.edits ≡ edits_at c.args.changes.now found.table in
    let Q : TableIndex → Type 0 = λ found. IsCome c.args.view.now.store c.args.changes.now found.table found.index.come in
    elim c.if-is_met.branch [
      | then-is_met+then-not-any+in_ok-columns+in_ok-index+in_ok-push w ↦ (
        subst (λ v. All P v.items) (sym w.indexes-is)
            (subst (All P) (sym w.in_ok-push.ensures.items)
            (All-push P c.loop-place.indexes.items _ c.loop-place.invariant.0 (w.in_ok-index.ensures.edits ∙ w.edits_of.ensures))),
        subst (λ v. All Q v.items) (sym w.indexes-is)
            (subst (All Q) (sym w.in_ok-push.ensures.items)
            (All-push Q c.loop-place.indexes.items _ c.loop-place.invariant.1
            (λ stored at. w.in_ok-index.ensures.come stored at ∙ ap (rows_come (slot_at stored.places)) w.edits_of.ensures))),
      )
      | else-is_met w ↦ (
        subst (λ v. All P v.items) (sym w.indexes-is) c.loop-place.invariant.0,
        subst (λ v. All Q v.items) (sym w.indexes-is) c.loop-place.invariant.1,
      )
    ]

pub returns-clause-read : goal.returns-clause-read
returns-clause-read c = are_of c.args.changes.now c.loop-place.indexes.items c.args.view.now.store c.requires.fit c.loop-place.invariant.1
