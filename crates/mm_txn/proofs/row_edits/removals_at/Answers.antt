use Rattle.std.proofs.Common.{◌≡◌, List, map, ap, ◌∙◌, subst, sym}
use Rattle.std.specs.List.{All, list_any}
use Rattle.std.specs.Prelude.{IfOk}
use Rattle.std.proofs.lemmas.Result.{IfOk-weaker}
use Rattle.mm_partition.specs.Places.{IsLive}
use Rattle.mm_plan.specs.Finding.{among}
use Rattle.mm_tables.specs.Edits.{same_ref}
use Rattle.mm_store.specs.Edits.{AreFit}
use Rattle.mm_tables.specs.declared.edit.Edit.TheVariants.{Delete}
use Rattle.mm_value.specs.declared.row_ref.RowRef.{RowRef}
use Rattle.mm_store.proofs.Shown.{table_seen}
use Rattle.mm_txn.specs.RowEdits.{BringNone}
use Rattle.mm_txn.proofs.EditsMade.{fit-gone, none-gone}
use Rattle.mm_txn.proofs.row_edits.removals_at.Goals as goal

pub in_key_order-requires-clause-live : goal.in_key_order-requires-clause-live
in_key_order-requires-clause-live c = λ stored here. subst (All (IsLive stored.places)) (sym c.from_vec.ensures.items) (c.requires.live stored here)

pub returns : goal.returns
returns c =
    let refs = c.from_vec.result.items in
    let given : refs ≡ c.args.refs.items = c.from_vec.ensures.items in
    let made : IfOk c.gone_each.result (λ edits. edits ≡ map Delete c.in_ok-gone.gone.items) =
    subst (λ (refs : List RowRef). IfOk c.gone_each.result (λ edits. edits ≡ map Delete refs)) c.as_slice.ensures c.gone_each.ensures in
    record {
      items = IfOk-weaker c.gone_each.result (λ edits. edits ≡ map Delete c.in_ok-gone.gone.items) _
          (λ edits is stored here.
          is ∙ ap (map Delete) (c.in_ok-gone.ensures.found stored here ∙ ap (λ rs. among rs stored) given)) made;
      fit = IfOk-weaker c.gone_each.result (λ edits. edits ≡ map Delete c.in_ok-gone.gone.items) _
          (λ edits is stored here.
          subst (AreFit stored) (sym (is ∙ ap (map Delete) (c.in_ok-gone.ensures.found stored here)))
          (fit-gone stored (table_seen c.args.view.now c.args.table stored here).kept (λ at. list_any (same_ref at) refs))) made;
      none_comes = IfOk-weaker c.gone_each.result (λ edits. edits ≡ map Delete c.in_ok-gone.gone.items) _
          (λ edits is. subst BringNone (sym is) (none-gone c.in_ok-gone.gone.items)) made;
    }
