use Rattle.std.proofs.Common.{◌≡◌, ℕ, ◌+◌, List, ◌∷◌, [], ◌++◌, length, set, ap, ◌∙◌, subst, arith, length-set, length-append}
use Rattle.std.specs.Prelude.{vec_len}
use Rattle.mm_partition.specs.declared.slots.State.{State}
use Rattle.mm_partition.specs.declared.slots.State.TheVariants as state
use Rattle.mm_partition.specs.Cells.{row_of}
use Rattle.mm_partition.specs.Places.{Places, Live}
use Rattle.mm_partition.specs.Stored.{IsFreeStack, IsStored}
use Rattle.mm_partition.proofs.ContentLemmas.{length-contents, content_if, ChangesOnly-at, extent_is, free_at, Written-slot, Written-pushed, Storable-written}
use Rattle.mm_partition.proofs.FreeLemmas.{IsFreeStack-given, last_is_free, IsStored-pushed, is_empty, IsStored-at}
use Rattle.mm_partition.proofs.rows.Partitions.place.Goals as goal
use Rattle.std.proofs.lemmas.Option.{slice_get_past, slice_get_within}

pub invariant_of-self : goal.invariant_of-self
invariant_of-self c =
    let room : vec_len c.self.inside.free + c.self.inside.spare ≡ c.args.self.now.room = ap (λ (p : Places). p.room) c.self.view_is in
    let none = c.in-None.ensures.cases in
    IsStored-pushed c.self.inside.states.items _ c.self.inside.free.items c.pop.new.self.items _ _ _ _ c.self.inside.spare c.len-index.result
    c.self.inside.columns.items _
    (omega arith) (is_empty c.self.inside.free.items (omega (arith, none.0))) (is_empty c.pop.new.self.items (omega (arith, none.1)))
    c.push_reserved.ensures.items (omega (arith, room, none.0)) (omega (arith, c.push_reserved.ensures.capacity)) (omega (arith, c.pop.ensures.capacity))
    c.push_each.ensures.fits
    (Storable-written c.self.inside.columns.items _ c.self.inside.states.items _ c.len-index.result _
    (Written-pushed _ _ c.self.inside.states.items _ c.len-index.result state.Live c.args.values.now (omega arith) c.push_reserved.ensures.items
    c.push_each.ensures.here c.push_each.ensures.others)
    c.requires.storable c.self.invariant.storable)
    c.self.invariant

pub returns-in-None-clause-fresh : goal.returns-in-None-clause-fresh
returns-in-None-clause-fresh c =
    let states : List State = c.self.inside.states.items in
    free_at _ states _ _ c.reference_to.result (length states) c.self.view_is (c.reference_to.ensures
    ∙ (let e : c.len-index.result ≡ length states = omega arith in e))
    (ap (λ s. content_if s (row_of c.self.inside.columns.items (length states)))
    (slice_get_past states (length states) (omega arith)))

pub returns-in-None-clause-placed : goal.returns-in-None-clause-placed
returns-in-None-clause-placed c =
    let states : List State = c.self.inside.states.items in
    ChangesOnly-at _ c.self.inside.columns.items c.push_each.new.columns.items states c.push_reserved.new.self.items _ _ c.len-index.result
    c.reference_to.result (Live c.args.values.now) c.self.view_is c.reference_to.ensures
    (Written-pushed _ _ states _ c.len-index.result state.Live c.args.values.now (omega arith) c.push_reserved.ensures.items
    c.push_each.ensures.here c.push_each.ensures.others)

pub returns-in-None-clause-within : goal.returns-in-None-clause-within
returns-in-None-clause-within c = omega (arith, c.reference_to.ensures, extent_is _ _ _ _ c.self.view_is)

pub returns-in-None-clause-extent : goal.returns-in-None-clause-extent
returns-in-None-clause-extent c =
    let states : List State = c.self.inside.states.items in
    let size : length c.push_reserved.new.self.items ≡ length states + 1 = ap length c.push_reserved.ensures.items ∙ length-append states (state.Live ∷ []) in
    omega (
      arith,
      length-contents 0 c.push_each.new.columns.items c.push_reserved.new.self.items,
      size,
      c.reference_to.ensures,
      extent_is _ _ _ _ c.self.view_is,
    )

pub swap_each-requires-clause-within : goal.swap_each-requires-clause-within
swap_each-requires-clause-within c k d h =
    let states : List State = c.self.inside.states.items in
    let free : IsFreeStack states (c.pop.new.self.items ++ c.in-Some.index ∷ []) = subst (IsFreeStack states) c.in-Some.ensures.items
    c.self.invariant.free_slots in
    omega (arith, slice_get_within states c.in-Some.index state.Free (last_is_free states _ _ free), (c.self.invariant.cells k d h).size)

pub index_mut-requires : goal.index_mut-requires
index_mut-requires c =
    let states : List State = c.self.inside.states.items in
    let free : IsFreeStack states (c.pop.new.self.items ++ c.in-Some.index ∷ []) = subst (IsFreeStack states) c.in-Some.ensures.items
    c.self.invariant.free_slots in
    omega (arith, slice_get_within states c.in-Some.index state.Free (last_is_free states _ _ free))

pub invariant_of-self-in-Some : goal.invariant_of-self-in-Some
invariant_of-self-in-Some c =
    let states : List State = c.self.inside.states.items in
    let i : ℕ = c.in-Some.index in
    let free : IsFreeStack states (c.pop.new.self.items ++ i ∷ []) = subst (IsFreeStack states) c.in-Some.ensures.items c.self.invariant.free_slots in
    let stored : IsStored (set states i state.Live) c.pop.new.self.items _ _ c.self.inside.spare c.swap_each.new.columns.items =
    IsStored-at states (set states i state.Live) _ _ _ _ _ _ _ (length-set states i state.Live) (IsFreeStack-given states _ i free)
    (c.swap_each.ensures.fits _ _ c.self.invariant.cells)
    (Storable-written c.self.inside.columns.items _ states _ i _
    (Written-slot _ _ states i state.Live c.args.values.now (slice_get_within states i state.Free (last_is_free states _ _ free))
    c.swap_each.ensures.here c.swap_each.ensures.others)
    c.requires.storable c.self.invariant.storable)
    c.self.invariant in
    record {
      free_slots = stored.free_slots;
      states_room = stored.states_room;
      free_room = omega (arith, stored.free_room, c.pop.ensures.capacity);
      few = stored.few;
      cells = stored.cells;
      storable = stored.storable;
    }

pub returns-in-Some-clause-fresh : goal.returns-in-Some-clause-fresh
returns-in-Some-clause-fresh c =
    let states : List State = c.self.inside.states.items in
    let i : ℕ = c.in-Some.index in
    let free : IsFreeStack states (c.pop.new.self.items ++ i ∷ []) = subst (IsFreeStack states) c.in-Some.ensures.items c.self.invariant.free_slots in
    free_at _ states _ _ c.reference_to-in-Some.result i c.self.view_is c.reference_to-in-Some.ensures
    (ap (λ s. content_if s (row_of c.self.inside.columns.items i)) (last_is_free states _ _ free))

pub returns-in-Some-clause-placed : goal.returns-in-Some-clause-placed
returns-in-Some-clause-placed c =
    let states : List State = c.self.inside.states.items in
    let i : ℕ = c.in-Some.index in
    let free : IsFreeStack states (c.pop.new.self.items ++ i ∷ []) = subst (IsFreeStack states) c.in-Some.ensures.items c.self.invariant.free_slots in
    ChangesOnly-at _ c.self.inside.columns.items c.swap_each.new.columns.items states (set states i state.Live) _ _ i c.reference_to-in-Some.result
    (Live c.args.values.now) c.self.view_is c.reference_to-in-Some.ensures
    (Written-slot _ _ states i state.Live c.args.values.now (slice_get_within states i state.Free (last_is_free states _ _ free))
    c.swap_each.ensures.here c.swap_each.ensures.others)

pub returns-in-Some-clause-within : goal.returns-in-Some-clause-within
returns-in-Some-clause-within c =
    let states : List State = c.self.inside.states.items in
    let i : ℕ = c.in-Some.index in
    let free : IsFreeStack states (c.pop.new.self.items ++ i ∷ []) = subst (IsFreeStack states) c.in-Some.ensures.items c.self.invariant.free_slots in
    omega (arith, slice_get_within states i state.Free (last_is_free states _ _ free), c.reference_to-in-Some.ensures, extent_is _ _ _ _ c.self.view_is)

pub returns-in-Some-clause-extent : goal.returns-in-Some-clause-extent
returns-in-Some-clause-extent c =
    let states : List State = c.self.inside.states.items in
    let i : ℕ = c.in-Some.index in
    let free : IsFreeStack states (c.pop.new.self.items ++ i ∷ []) = subst (IsFreeStack states) c.in-Some.ensures.items c.self.invariant.free_slots in
    omega (
      arith,
      length-contents 0 c.swap_each.new.columns.items (set states i state.Live),
      length-set states i state.Live,
      slice_get_within states i state.Free (last_is_free states _ _ free),
      c.reference_to-in-Some.ensures,
      extent_is _ _ _ _ c.self.view_is,
    )
