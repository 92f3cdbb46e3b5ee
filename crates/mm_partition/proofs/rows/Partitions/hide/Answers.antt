use Rattle.std.proofs.Common.{ℕ, List, length, set, refl, sym, ap, ◌∙◌, arith, length-set}
use Rattle.mm_partition.specs.declared.slots.State.{State}
use Rattle.mm_partition.specs.declared.slots.State.TheVariants as state
use Rattle.mm_partition.specs.Places.{Places, Hidden}
use Rattle.mm_partition.proofs.ContentLemmas.{length-contents, Stands, live_at, ChangesOnly-at, Written-slot, Storable-written, stored_in, live_within}
use Rattle.mm_partition.proofs.FreeLemmas.{IsFreeStack-kept, IsStored-at}
use Rattle.mm_partition.proofs.rows.Partitions.hide.Goals as goal

pub index_mut-requires : goal.index_mut-requires
index_mut-requires c = omega (arith, live_within _ _ _ _ _ _ c.self.view_is c.requires.1, c.index_of.ensures)

pub invariant_of-self : goal.invariant_of-self
invariant_of-self c =
    let states : List State = c.self.inside.states.items in
    let i : ℕ = c.index_of.result in
    let stands : Stands c.self.inside.columns.items states i state.Live c.requires.0 =
    live_at _ _ _ _ _ _ i c.self.view_is (sym c.index_of.ensures) c.requires.1 in
    IsStored-at states (set states i state.Hidden) _ _ _ _ _ _ _ (length-set states i state.Hidden)
    (IsFreeStack-kept states _ i state.Live state.Hidden stands.state_is refl refl c.self.invariant.free_slots) c.self.invariant.cells
    (Storable-written _ _ states _ i _ (Written-slot _ _ states i state.Hidden c.requires.0 stands.within stands.row_is (λ k apart. refl))
    (stored_in _ states i state.Live c.requires.0 stands.state_is stands.row_is c.self.invariant.storable) c.self.invariant.storable)
    c.self.invariant

pub returns-clause-hidden : goal.returns-clause-hidden
returns-clause-hidden c row is =
    let states : List State = c.self.inside.states.items in
    let i : ℕ = c.index_of.result in
    let stands : Stands c.self.inside.columns.items states i state.Live row =
    live_at _ _ _ _ _ _ i c.self.view_is (sym c.index_of.ensures) is in
    ChangesOnly-at _ c.self.inside.columns.items c.self.inside.columns.items states (set states i state.Hidden) _ _ i c.args.at (Hidden row) c.self.view_is
    (sym c.index_of.ensures)
    (Written-slot _ _ states i state.Hidden row stands.within stands.row_is (λ k apart. refl))

pub returns-clause-extent : goal.returns-clause-extent
returns-clause-extent c =
    let states : List State = c.self.inside.states.items in
    length-contents 0 _ (set states c.index_of.result state.Hidden)
    ∙ (length-set states c.index_of.result state.Hidden
    ∙ (sym (length-contents 0 c.self.inside.columns.items states) ∙ ap (λ (p : Places). length p.slots) c.self.view_is))
