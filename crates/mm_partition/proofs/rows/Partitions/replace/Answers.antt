use Rattle.std.proofs.Common.{◌≡◌, ℕ, List, length, map, refl, sym, ap, ◌∙◌, arith}
use Rattle.mm_value.specs.Types.{type_of}
use Rattle.mm_value.specs.declared.values.Value.{Value}
use Rattle.mm_partition.specs.declared.slots.State.{State}
use Rattle.mm_partition.specs.declared.slots.State.TheVariants as state
use Rattle.mm_partition.specs.Cells.{types_of}
use Rattle.mm_partition.specs.Places.{Live, Places}
use Rattle.mm_partition.specs.Types.{HasTypes}
use Rattle.mm_partition.proofs.ContentLemmas.{length-contents, Stands, live_at, ChangesOnly-at, Written, Written-cells, Storable-written, extent_is}
use Rattle.mm_partition.proofs.CellLemmas.{length-row_of, length-typed, refill_all}
use Rattle.mm_partition.proofs.ContentLemmas.{live_within}
use Rattle.mm_partition.proofs.FreeLemmas.{IsStored-at}
use Rattle.mm_partition.proofs.rows.Partitions.replace.Goals as goal

pub swap_each-requires-clause-within : goal.swap_each-requires-clause-within
swap_each-requires-clause-within c k d h =
    omega (arith, live_within _ _ _ _ _ _ c.self.view_is c.requires.live.1, c.index_of.ensures, (c.self.invariant.cells k d h).size)

pub invariant_of-self : goal.invariant_of-self
invariant_of-self c =
    let states : List State = c.self.inside.states.items in
    let i : ℕ = c.index_of.result in
    let stands : Stands c.self.inside.columns.items states i state.Live c.requires.live.0 =
    live_at _ _ _ _ _ _ i c.self.view_is (sym c.index_of.ensures) c.requires.live.1 in
    let written : Written c.self.inside.columns.items c.swap_each.new.columns.items states states i (Live c.args.row) = Written-cells _ _ states i
    state.Live c.args.row
    stands.state_is (c.swap_each.ensures.here ∙ (c.as_mut_slice.ensures.value ∙ c.into_values-values.ensures)) c.swap_each.ensures.others in
    IsStored-at _ _ _ _ _ _ _ _ _ refl c.self.invariant.free_slots (c.swap_each.ensures.fits _ _ c.self.invariant.cells)
    (Storable-written _ _ states states i _ written c.is_storable.ensures c.self.invariant.storable) c.self.invariant

pub returns-clause-was : goal.returns-clause-was
returns-clause-was c =
    let i : ℕ = c.index_of.result in
    let stands : Stands c.self.inside.columns.items c.self.inside.states.items i state.Live c.requires.live.0 =
    live_at _ _ _ _ _ _ i c.self.view_is (sym c.index_of.ensures) c.requires.live.1 in
    let given : List Value = c.into_values-values.result.items in
    let typed : HasTypes (types_of c.self.inside.columns.items) given = ap (map type_of) c.into_values-values.ensures
    ∙ (c.requires.typed ∙ sym (ap (λ (p : Places). p.types) c.self.view_is)) in
    let width : length c.swap_each.new.values ≡ length given = ap length c.swap_each.ensures.values
    ∙ (length-row_of c.self.inside.columns.items i ∙ sym (length-typed c.self.inside.columns.items given typed)) in
    let written : c.new.result ≡ c.swap_each.new.values =
    c.new.ensures ∙ refill_all _ given c.swap_each.new.values (omega (arith, c.into_values-values.result.ok)) width in
    c.requires.live.1 ∙ ap Live (sym stands.row_is ∙ (sym c.swap_each.ensures.values ∙ sym written))

pub returns-clause-replaced : goal.returns-clause-replaced
returns-clause-replaced c =
    let states : List State = c.self.inside.states.items in
    let i : ℕ = c.index_of.result in
    let stands : Stands c.self.inside.columns.items states i state.Live c.requires.live.0 =
    live_at _ _ _ _ _ _ i c.self.view_is (sym c.index_of.ensures) c.requires.live.1 in
    ChangesOnly-at _ _ _ states states _ _ i c.args.at (Live c.args.row) c.self.view_is
    (sym c.index_of.ensures)
    (Written-cells c.self.inside.columns.items c.swap_each.new.columns.items states i state.Live c.args.row stands.state_is
    (c.swap_each.ensures.here ∙ (c.as_mut_slice.ensures.value ∙ c.into_values-values.ensures)) c.swap_each.ensures.others)

pub returns-clause-extent : goal.returns-clause-extent
returns-clause-extent c = length-contents 0 c.swap_each.new.columns.items c.self.inside.states.items ∙ sym (extent_is _ _ _ _ c.self.view_is)
