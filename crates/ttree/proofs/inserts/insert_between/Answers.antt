use Rattle.std.proofs.Common.{◌≡◌, ◌≢◌, ◌-◌, ◌<◌, ◌≤◌, [], ◌∷◌, ◌++◌, List, length, take, drop, get_or, sym, ap, ◌∙◌, subst, arith, rules}
use Rattle.std.proofs.lemmas.List.Edits.{length-insert, length-remove}
use Rattle.std.proofs.lemmas.Option.{get_or_from_slice_get}
use Rattle.std.specs.List.{All, insert, remove}
use Rattle.std.specs.declared.cmp.Ordering.TheVariants.{Less, Equal, Greater}
use Rattle.mm_value.specs.declared.row_ref.RowRef.{RowRef}
use Rattle.mm_order.specs.Refs.{AddsInOrder}
use Rattle.mm_order.proofs.Pairs.{All-append_left, All-append_right}
use Rattle.ttree_node.specs.Tree.{Root, fork, height_of, in_order}
use Rattle.ttree.proofs.Parts.{IsOrdered-middle, adds_between, below_last, moved_least}
use Rattle.ttree.proofs.inserts.insert_between.Goals as goal

pub place_among-at-requires-clause-ordered : goal.place_among-at-requires-clause-ordered
place_among-at-requires-clause-ordered g c =
    rw c.entries.ensures.value (IsOrdered-middle _ _ (in_order c.args.node.left) c.args.node.entries (in_order c.args.node.right) c.requires.ordered)

pub place_among-at-requires-clause-apart : goal.place_among-at-requires-clause-apart
place_among-at-requires-clause-apart g c =
    let P : RowRef → Type 0 = λ a. g.O.RefOrder.cmp c.args.order.now a c.args.added ≢ Equal in
    let middle : All P c.args.node.entries = All-append_right P (in_order c.args.node.left) c.args.node.entries
    (All-append_left P (in_order c.args.node.left ++ c.args.node.entries) (in_order c.args.node.right) c.requires.apart) in
    rw c.entries.ensures.value middle

pub returns-then-len-lt16-clause-adds : goal.returns-then-len-lt16-clause-adds
returns-then-len-lt16-clause-adds g c =
    let cmp = g.O.RefOrder.cmp c.args.order.now in
    let at = c.place_among-at.result in
    let before : All (λ a. cmp a c.args.added ≡ Less) (take at c.args.node.entries) = rw c.entries.ensures.value at c.place_among-at.ensures.before in
    let after : All (λ a. cmp a c.args.added ≡ Greater) (drop at c.args.node.entries) = rw c.entries.ensures.value at c.place_among-at.ensures.after in
    let below : at < length c.args.node.entries = below_last _ _ (g.met.O.RefOrder.total c.args.order.now) c.args.node.entries
    (IsOrdered-middle _ _ (in_order c.args.node.left) c.args.node.entries (in_order c.args.node.right) c.requires.ordered) c.requires.tree.2.filled
    c.args.added c.requires.covered at before c.requires.not_after in
    rw c.put_entry.ensures (adds_between _ _ (g.met.O.RefOrder.total c.args.order.now) (in_order c.args.node.left) c.args.node.entries
    (in_order c.args.node.right) c.requires.ordered c.requires.tree.2.filled c.args.added c.requires.covered at c.place_among-at.ensures.above_first
    below before after)

pub returns-clause-adds : goal.returns-clause-adds
returns-clause-adds g c =
    let cmp = g.O.RefOrder.cmp c.args.order.now in
    let at = c.place_among-at.result in
    let entries = c.args.node.entries in
    let left : List RowRef = in_order c.args.node.left in
    let right : List RowRef = in_order c.args.node.right in
    let least : RowRef = c.take_entry-least.result in
    let before : All (λ a. cmp a c.args.added ≡ Less) (take at entries) = rw c.entries.ensures.value at c.place_among-at.ensures.before in
    let after : All (λ a. cmp a c.args.added ≡ Greater) (drop at entries) = rw c.entries.ensures.value at c.place_among-at.ensures.after in
    let below : at < length entries = below_last _ _ (g.met.O.RefOrder.total c.args.order.now) entries
    (IsOrdered-middle _ _ left entries right c.requires.ordered) c.requires.tree.2.filled c.args.added c.requires.covered at before c.requires.not_after in
    let adds : AddsInOrder cmp (left ++ entries ++ right) c.args.added (left ++ insert entries at c.args.added ++ right) =
    adds_between _ _ (g.met.O.RefOrder.total c.args.order.now) left entries right c.requires.ordered c.requires.tree.2.filled c.args.added c.requires.covered
    at c.place_among-at.ensures.above_first below before after in
    let least_is : get_or entries 0 least ≡ least = get_or_from_slice_get entries 0 least least c.take_entry-least.ensures.taken in
    let made : in_order (fork c.balance.result) ≡ left ++ least ∷ [] ++ insert (remove entries 0) (at - 1) c.args.added ++ right = search rules in
    subst (AddsInOrder cmp (left ++ entries ++ right) c.args.added)
    (sym (made ∙ ap (λ xs. xs ++ right) (moved_least left entries at least c.args.added c.place_among-at.ensures.above_first c.requires.tree.2.filled
    least_is))) adds

pub returns-clause-full : goal.returns-clause-full
returns-clause-full g c low high =
    let n = c.args.node in
    let at = c.place_among-at.result in
    let left : height_of c.set_left.new.self.left ≤ 1 = search rules in
    let right : height_of c.set_left.new.self.right ≡ 0 = search rules in
    let stays : c.balance.result ≡ c.set_left.new.self = c.balance.ensures.stays (omega (arith, left, right)) (omega (arith, left, right)) in
    let is : c.set_left.new.self.entries ≡ insert (remove n.entries 0) (at - 1) c.args.added = search rules in
    let long : length n.entries ≡ 16 = search rules in
    let fewer = length-remove n.entries 0 (omega (arith, long)) in
    let within : at ≤ 16 = search rules in
    subst (λ (r : Root). 15 ≤ length r.entries) (sym stays)
    (omega (arith, ap length is, length-insert (remove n.entries 0) (at - 1) c.args.added (omega (arith, within, long, fewer)), fewer, long))
