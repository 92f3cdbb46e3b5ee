use Rattle.std.proofs.Common.{[], sym, ◌∙◌, subst}
use Rattle.std.specs.List.{cons_option}
use Rattle.std.specs.Prelude.{IfSome}
use Rattle.mm_value.specs.Views.{value_of}
use Rattle.mm_partition.specs.Places.{IsLive, slot_at}
use Rattle.mm_indexed.specs.Kept.{StoredRows}
use Rattle.mm_indexed.specs.Reads.{AreMatches}
use Rattle.mm_store.proofs.Joining.{one_relation}
use Rattle.mm_store.proofs.Looked.{found_live, found_of_key}
use Rattle.mm_store.proofs.view.View.find.Goals as goal

pub returns-clause-found : goal.returns-clause-found
returns-clause-found c = λ stored at.
    let relation = c.relation.result.now in
    let is = c.find.ensures in
    subst (λ (s : StoredRows). AreMatches s.key (slot_at s.places) (value_of c.args.key) s.refs (cons_option c.find.result []))
    (one_relation relation stored (sym c.relation.ensures.at ∙ at))
    (found_of_key relation c.relation.ensures.whole (value_of c.args.key) c.find.result is.held is.fits
    is.none)

pub returns-clause-live : goal.returns-clause-live
returns-clause-live c = λ stored at.
    let relation = c.relation.result.now in
    subst (λ (s : StoredRows). IfSome c.find.result (IsLive s.places)) (one_relation relation stored (sym c.relation.ensures.at ∙ at))
    (found_live relation c.relation.ensures.whole c.find.result c.find.ensures.held)
