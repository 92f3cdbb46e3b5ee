use Rattle.std.proofs.Common.{◌+◌, List, length, sym, ap, ◌∙◌, subst, arith}
use Rattle.std.specs.Prelude.{All, vec_len}
use Rattle.mm_partition.specs.declared.slots.State.{State}
use Rattle.mm_partition.specs.Cells.{Fits}
use Rattle.mm_partition.specs.Stored.{IsFreeStack}
use Rattle.mm_partition.proofs.ContentLemmas.{length-contents, IsUnchanged-at, Storable-same, extent_is}
use Rattle.mm_partition.proofs.rows.Partitions.reserve.Goals as goal

pub invariant_of-self-in_err-reserve_each : goal.invariant_of-self-in_err-reserve_each
invariant_of-self-in_err-reserve_each c = record {
  free_slots = subst (λ xs. IsFreeStack xs c.reserve-2.new.self.items) (sym c.reserve.ensures.items)
      (subst (IsFreeStack c.self.inside.states.items) (sym c.reserve-2.ensures.items) c.self.invariant.free_slots);
  states_room = omega (arith, c.self.invariant.states_room, c.reserve.ensures.capacity, ap {A = List State} length c.reserve.ensures.items);
  free_room = omega (arith, c.self.invariant.free_room, c.reserve-2.ensures.capacity, ap {A = List State} length c.reserve.ensures.items);
  cells = subst (λ (xs : List State). All (Fits (length xs) c.self.inside.spare) c.reserve_each.new.columns.items) (sym c.reserve.ensures.items)
      (c.reserve_each.ensures.stays _ _ c.self.invariant.cells);
  few = omega (arith, c.self.invariant.few, ap {A = List State} length c.reserve.ensures.items);
  storable = Storable-same _ _ c.self.inside.states.items _ c.reserve.ensures.items c.reserve_each.ensures.rows c.self.invariant.storable;
}

pub returns-in_err-reserve_each-clause-rows : goal.returns-in_err-reserve_each-clause-rows
returns-in_err-reserve_each-clause-rows c =
    IsUnchanged-at _ c.self.inside.columns.items c.reserve_each.new.columns.items c.self.inside.states.items _
    (vec_len c.self.inside.free + c.self.inside.spare) 0 c.self.view_is c.reserve.ensures.items c.reserve_each.ensures.rows

pub returns-in_err-reserve_each-clause-extent : goal.returns-in_err-reserve_each-clause-extent
returns-in_err-reserve_each-clause-extent c =
    length-contents 0 _ c.reserve.new.self.items ∙ (ap {A = List State} length c.reserve.ensures.items ∙ sym (extent_is _ _ _ _ c.self.view_is))

pub invariant_of-self-2 : goal.invariant_of-self-2
invariant_of-self-2 c = record {
  free_slots = subst (λ xs. IsFreeStack xs c.reserve-2.new.self.items) (sym c.reserve.ensures.items)
      (subst (IsFreeStack c.self.inside.states.items) (sym c.reserve-2.ensures.items) c.self.invariant.free_slots);
  states_room = omega (arith, c.in_ok-reserve.ensures.ok, c.reserve.new.self.ok.0);
  free_room = omega (arith, c.in_ok-reserve-2.ensures.ok, c.reserve.new.self.ok.0);
  cells = subst (λ (xs : List State). All (Fits (length xs) c.in_ok-spare.spare) c.reserve_each.new.columns.items) (sym c.reserve.ensures.items)
      (c.in_ok-reserve_each.ensures.room _ _ c.self.invariant.cells);
  few = omega (arith, ap {A = List State} length c.reserve.ensures.items);
  storable = Storable-same _ _ c.self.inside.states.items _ c.reserve.ensures.items c.reserve_each.ensures.rows c.self.invariant.storable;
}

pub returns-clause-rows : goal.returns-clause-rows
returns-clause-rows c =
    IsUnchanged-at _ c.self.inside.columns.items c.reserve_each.new.columns.items c.self.inside.states.items _
    (vec_len c.self.inside.free + c.self.inside.spare) 0 c.self.view_is c.reserve.ensures.items c.reserve_each.ensures.rows

pub returns-clause-extent : goal.returns-clause-extent
returns-clause-extent c =
    length-contents 0 _ c.reserve.new.self.items ∙ (ap {A = List State} length c.reserve.ensures.items ∙ sym (extent_is _ _ _ _ c.self.view_is))
