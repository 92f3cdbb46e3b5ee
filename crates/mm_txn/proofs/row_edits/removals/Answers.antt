use Rattle.std.proofs.Common.{◌≡◌, List, map, ap, ◌∙◌, subst, sym}
use Rattle.std.specs.Prelude.{IfOk}
use Rattle.std.proofs.lemmas.Result.{IfOk-weaker}
use Rattle.mm_partition.specs.Places.{slot_at}
use Rattle.mm_plan.specs.Finding.{meets}
use Rattle.mm_row_order.specs.Refs.{row_at}
use Rattle.mm_store.specs.Edits.{AreFit, pairs_of}
use Rattle.mm_tables.specs.declared.edit.Edit.TheVariants.{Delete}
use Rattle.mm_value.specs.declared.row_ref.RowRef.{RowRef}
use Rattle.mm_store.proofs.Shown.{table_seen}
use Rattle.mm_txn.proofs.EditsMade.{fit-gone, pairs-removed}
use Rattle.mm_txn.proofs.row_edits.removals.Goals as goal

pub returns : goal.returns
returns c =
    let atoms = c.args.atoms.now in
    let made : IfOk c.gone_each.result (λ edits. edits ≡ map Delete c.in_ok-found.found.items) =
    subst (λ (refs : List RowRef). IfOk c.gone_each.result (λ edits. edits ≡ map Delete refs)) c.as_slice.ensures c.gone_each.ensures in
    record {
      pairs = IfOk-weaker c.gone_each.result (λ edits. edits ≡ map Delete c.in_ok-found.found.items) _
          (λ edits is stored here.
          ap (pairs_of (slot_at stored.places)) (is ∙ ap (map Delete) (c.in_ok-found.ensures.found stored here))
          ∙ pairs-removed (slot_at stored.places) (meets atoms) stored.refs) made;
      fit = IfOk-weaker c.gone_each.result (λ edits. edits ≡ map Delete c.in_ok-found.found.items) _
          (λ edits is stored here.
          subst (AreFit stored) (sym (is ∙ ap (map Delete) (c.in_ok-found.ensures.found stored here)))
          (fit-gone stored (table_seen c.args.view.now c.args.table stored here).kept (λ at. meets atoms (row_at (slot_at stored.places) at)))) made;
    }
