use Rattle.std.proofs.Common.{ℕ, List, ◌∷◌, [], ◌++◌, length, set, refl, sym, ap, ◌∙◌, subst, arith, length-set}
use Rattle.mm_partition.specs.declared.slots.State.{State}
use Rattle.mm_partition.specs.declared.slots.State.TheVariants as state
use Rattle.mm_partition.specs.Places.{Places, Free}
use Rattle.mm_partition.specs.Stored.{IsFreeStack, IsStored}
use Rattle.mm_partition.proofs.ContentLemmas.{length-contents, Stands, hidden_at, ChangesOnly-at, Written-slot, Storable-written, hidden_within}
use Rattle.mm_partition.proofs.FreeLemmas.{IsFreeStack-freed, some_taken, IsStored-at}
use Rattle.mm_partition.proofs.rows.Partitions.release.Goals as goal

pub index_mut-requires : goal.index_mut-requires
index_mut-requires c = omega (arith, hidden_within _ _ _ _ _ _ c.self.view_is c.requires.1, c.index_of-index.ensures)

pub clear_each-requires : goal.clear_each-requires
clear_each-requires c k d h =
    omega (arith, hidden_within _ _ _ _ _ _ c.self.view_is c.requires.1, c.index_of-index.ensures, (c.self.invariant.cells k d h).size)

pub overflow_cast-index : goal.overflow_cast-index
overflow_cast-index c = omega (arith, hidden_within _ _ _ _ _ _ c.self.view_is c.requires.1, c.index_of-index.ensures, c.self.invariant.few)

pub push_reserved-requires : goal.push_reserved-requires
push_reserved-requires c =
    let states : List State = c.self.inside.states.items in
    let i : ℕ = c.index_of-index.result in
    let stands : Stands c.self.inside.columns.items states i state.Hidden c.requires.0 =
    hidden_at _ _ _ _ _ _ i c.self.view_is (sym c.index_of-index.ensures) c.requires.1 in
    omega (
      arith,
      some_taken states c.self.inside.free.items i state.Hidden stands.state_is refl c.self.invariant.free_slots,
      c.self.invariant.free_room,
      c.self.inside.free.ok.0,
    )

pub invariant_of-self : goal.invariant_of-self
invariant_of-self c =
    let states : List State = c.self.inside.states.items in
    let i : ℕ = c.index_of-index.result in
    let stands : Stands c.self.inside.columns.items states i state.Hidden c.requires.0 =
    hidden_at _ _ _ _ _ _ i c.self.view_is (sym c.index_of-index.ensures) c.requires.1 in
    let freed : IsFreeStack (set states i state.Free) (c.self.inside.free.items ++ i ∷ []) =
    IsFreeStack-freed states _ i state.Hidden stands.state_is refl c.self.invariant.free_slots in
    let stored : IsStored (set states i state.Free) c.push_reserved.new.self.items _ _ c.self.inside.spare c.clear_each.new.columns.items =
    IsStored-at states (set states i state.Free) _ _ _ _ _ _ _ (length-set states i state.Free)
    (subst (IsFreeStack (set states i state.Free)) (sym c.push_reserved.ensures.items) freed)
    (c.clear_each.ensures.fits _ _ c.self.invariant.cells)
    (Storable-written _ _ states _ i _ (Written-slot _ _ states i state.Free _ stands.within refl c.clear_each.ensures.others) tt c.self.invariant.storable)
    c.self.invariant in
    record {
      free_slots = stored.free_slots;
      states_room = stored.states_room;
      free_room = omega (arith, stored.free_room, c.push_reserved.ensures.capacity);
      few = stored.few;
      cells = stored.cells;
      storable = stored.storable;
    }

pub returns-clause-freed : goal.returns-clause-freed
returns-clause-freed c =
    let states : List State = c.self.inside.states.items in
    let i : ℕ = c.index_of-index.result in
    let stands : Stands c.self.inside.columns.items states i state.Hidden c.requires.0 =
    hidden_at _ _ _ _ _ _ i c.self.view_is (sym c.index_of-index.ensures) c.requires.1 in
    ChangesOnly-at _ c.self.inside.columns.items c.clear_each.new.columns.items states (set states i state.Free) _ _ i c.args.at Free c.self.view_is
    (sym c.index_of-index.ensures)
    (Written-slot _ _ states i state.Free _ stands.within refl c.clear_each.ensures.others)

pub returns-clause-extent : goal.returns-clause-extent
returns-clause-extent c =
    let states : List State = c.self.inside.states.items in
    length-contents 0 c.clear_each.new.columns.items (set states c.index_of-index.result state.Free)
    ∙ (length-set states c.index_of-index.result state.Free
    ∙ (sym (length-contents 0 c.self.inside.columns.items states) ∙ ap (λ (p : Places). length p.slots) c.self.view_is))
