use Rattle.std.proofs.Common.{◌+◌, ◌≤◌, drop, length, vec_len}
use Rattle.std.specs.Vec.{vec_capacity}
use Rattle.mm_standing.specs.Bags.{IsSound, Made, done_of, undos}
use Rattle.mm_standing.proofs.bags.make_all.Given as goal

-- the changes applied so far, and the rest
abbrev pub invariant-loop-change : goal.invariant-loop-change
invariant-loop-change l =
    let left = drop l.change-index l.prepared in
    record {
      sound : IsSound l.bags.items left l.log.items;
      room : vec_len l.log + length left ≤ vec_capacity l.log;
      made : Made l.fn.bags.items (done_of l.fn.bags.items l.prepared) (undos l.fn.bags.items l.fn.log.items)
          l.bags.items (done_of l.bags.items left) (undos l.bags.items l.log.items);
    }
