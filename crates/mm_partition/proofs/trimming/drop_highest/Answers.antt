use Rattle.std.proofs.Common.{◌≡◌, ◌-◌, ℕ, List, length, take, refl, sym, ap, subst, ◌∙◌, arith, vec_len}
use Rattle.std.proofs.lemmas.List.Sorted.{IsNonDecreasingBy-from_sort, IsNonDecreasingBy-take}
use Rattle.std.specs.List.Sorted.{IsNonDecreasing}
use Rattle.mm_partition.specs.declared.slots.State.{State}
use Rattle.mm_partition.specs.Stored.{IsFreeStack, IsCut, EndsFree}
use Rattle.mm_partition.proofs.TrimLemmas.{IsFreeStack-permuted, IsFreeStack-dropped, IsCut-same, IsCut-dropped}
use Rattle.mm_partition.proofs.trimming.drop_highest.Goals as goal

pub loop-states-init : goal.loop-states-init
loop-states-init c = record {
  stack = IsFreeStack-permuted c.args.states.now.items c.args.free.now.items _ c.sort_unstable.ensures.permutation c.requires;
  sorted = IsNonDecreasingBy-from_sort (λ x. x) c.sort_unstable.new.self.items c.sort_unstable.ensures.sorted;
  cut = IsCut-same c.args.states.now.items;
  states_room = refl;
  free_room = c.sort_unstable.ensures.capacity;
}

pub loop-states-preserved : goal.loop-states-preserved
loop-states-preserved c =
    let states : List State = c.loop-states.states.items in
    let free : List ℕ = c.loop-states.free.items in
    let so_far = c.loop-states.invariant in
    let ends : EndsFree states = subst EndsFree c.as_slice-in-loop-states.ensures.value c.loop-states-test.ensures in
    let states_size : vec_len c.loop-states.states ≡ length states = omega arith in
    let free_size : vec_len c.loop-states.free ≡ length free = omega arith in
    let states_left : c.pop.new.self.items ≡ take (length states - 1) states = c.pop.ensures.rest ∙ ap (λ n. take (n - 1) states) states_size in
    let free_left : c.pop-in-loop-states.new.self.items ≡ take (length free - 1) free = c.pop-in-loop-states.ensures.rest
    ∙ ap (λ n. take (n - 1) free) free_size in
    record {
      stack = subst (λ xs. IsFreeStack xs c.pop-in-loop-states.new.self.items) (sym states_left)
          (subst (IsFreeStack (take (length states - 1) states)) (sym free_left)
          (IsFreeStack-dropped states free ends so_far.sorted so_far.stack));
      sorted = subst IsNonDecreasing (sym free_left) (IsNonDecreasingBy-take (λ x. x) (length free - 1) free so_far.sorted);
      cut = subst (IsCut c.args.states.now.items) (sym states_left) (IsCut-dropped c.args.states.now.items states ends so_far.cut);
      states_room = c.pop.ensures.capacity ∙ so_far.states_room;
      free_room = c.pop-in-loop-states.ensures.capacity ∙ so_far.free_room;
    }
