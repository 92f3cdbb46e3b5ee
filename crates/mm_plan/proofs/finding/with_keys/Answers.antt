use Rattle.std.proofs.Common.{◌≡◌, ◌+◌, ◌<◌, ◌++◌, ◌∷◌, [], get_or, length, map, take, sym, ap, ◌∙◌, subst, arith}
use Rattle.std.specs.Prelude.{slice_get}
use Rattle.std.specs.List.{All}
use Rattle.std.proofs.lemmas.List.{map-append, take_all, take_more}
use Rattle.std.proofs.lemmas.List.Elements.{All-get_or, All-push}
use Rattle.mm_partition.specs.Views.{viewed}
use Rattle.mm_partition.specs.Places.{IsLive, row_in}
use Rattle.mm_plan.specs.Finding.{IsKeyed}
use Rattle.mm_plan.specs.declared.finding.Keyed.{Keyed}
use Rattle.mm_indexed.proofs.Typed.{HasTypes-length}
use Rattle.mm_store.proofs.Joining.{some_at}
use Rattle.mm_store.specs.Tables.{IsAt, Tables}
use Rattle.mm_value.specs.declared.row_ref.RowRef.{RowRef}
use Rattle.mm_plan.proofs.finding.with_keys.Goals as goal

abbrev none : RowRef
none = record { slot = 0 }

pub row-row-requires-clause-there : goal.row-row-requires-clause-there
row-row-requires-clause-there c = subst (λ (s : Tables). c.args.table < length s.tables) (sym c.loop-at.invariant.same) c.requires.there

pub row-row-requires-clause-live : goal.row-row-requires-clause-live
row-row-requires-clause-live c = λ stored at.
    All-get_or (IsLive stored.places) c.args.refs.now c.loop-at.at-index none c.loop-at-test.true
    (c.requires.live stored (subst (λ (s : Tables). IsAt s c.args.table stored) c.loop-at.invariant.same at))

pub value-requires : goal.value-requires
value-requires c =
    let (stored, here) = some_at c.args.view.now.store.tables c.args.table c.requires.there in
    let typed = c.row-row.ensures.typed stored (subst (λ (s : Tables). IsAt s c.args.table stored) (sym c.loop-at.invariant.same) here) in
    omega (arith, HasTypes-length stored.places.types (viewed c.row-row.result) typed, (c.requires.key stored here).1)

pub loop-at-preserved : goal.loop-at-preserved
loop-at-preserved c =
    let refs = c.args.refs.now in
    let i = c.loop-at.at-index in
    let at : RowRef = get_or refs i none in
    let at_of = λ (row : Keyed). row.at in
    let more : take i refs ++ at ∷ [] ≡ take (i + 1) refs = sym (take_more refs i none c.loop-at-test.true) in
    let new : Keyed = record { key = c.value.result; at = at } in
    record {
      same = c.row-row.ensures.same ∙ c.loop-at.invariant.same;
      refs = ap (map at_of) c.in_ok-push.ensures.items
          ∙ (map-append at_of c.loop-at.rows.items (new ∷ []) ∙ (ap (λ rs. rs ++ at ∷ []) c.loop-at.invariant.refs ∙ more));
      keys = λ stored here.
          let is = c.row-row.ensures.row stored (subst (λ (s : Tables). IsAt s c.args.table stored) (sym c.loop-at.invariant.same) here) in
          let keyed : IsKeyed stored new =
          ap (λ content. slice_get (row_in content) stored.key) is
          ∙ (ap (slice_get (viewed c.row-row.result)) (sym (c.requires.key stored here).0) ∙ c.value.ensures) in
          subst (All (IsKeyed stored)) (sym c.in_ok-push.ensures.items)
          (All-push (IsKeyed stored) c.loop-at.rows.items new (c.loop-at.invariant.keys stored here) keyed);
      reads = omega (arith, c.row-row.ensures.counted, c.loop-at.invariant.reads);
    }

pub returns-clause-refs : goal.returns-clause-refs
returns-clause-refs c = c.loop-at.invariant.refs ∙ take_all c.loop-at.at-index c.args.refs.now c.loop-at-test.false
