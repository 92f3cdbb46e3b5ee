-- The opposite of the change is added.
use Rattle.std.proofs.Common.{◌≡◌, ℤ, pos, ◌-ℤ◌, neg_ℤ, FitsSigned, ◌∷◌, [], sym, ap, subst, ◌∙◌, List, length, arith}
use Rattle.std.proofs.lemmas.Int.{ints, to_z-of_z}
use mir.Syntax.{w64}
use mir.Val.{of_z, to_z}
use Rattle.mm_partition.specs.Places.{Content}
use Rattle.mm_standing.specs.Bags.{AddedTo, IsWithin, row_of}
use Rattle.mm_standing.specs.declared.change.RowChange.{RowChange}
use Rattle.mm_standing.proofs.Purging.{slot_inside}
use Rattle.mm_standing.proofs.Steps.{undo_short, undo_turned}
use Rattle.mm_standing.proofs.bags.undo.Goals as goal

minus : (z : ℤ) → pos 0 -ℤ z ≡ neg_ℤ z
minus z = omega (arith, ints)

pub overflow_sub-change : goal.overflow_sub-change
overflow_sub-change c =
    let short = undo_short c.args.bags.now.items c.args.change.now c.requires.within c.requires.now in
    subst (FitsSigned w64) (sym (ap (λ (z : ℤ). pos 0 -ℤ z) (to_z-of_z w64 c.args.change.now.by short.0) ∙ minus c.args.change.now.by)) short.1

pub add-requires-clause-within : goal.add-requires-clause-within
add-requires-clause-within c =
    let bags = c.args.bags.now.items in
    let change = c.args.change.now in
    let with : ℤ → RowChange = λ z. record { list = change.list; change = record { row = row_of bags change; count = z } } in
    subst (λ (z : ℤ). IsWithin bags (with z ∷ [])) (sym (undo_turned bags change c.requires.within c.requires.now)) c.requires.within

pub remove_new-requires-clause-slot : goal.remove_new-requires-clause-slot
remove_new-requires-clause-slot c =
    let change = c.args.change.now in
    let inside = slot_inside c.args.bags.now.items change c.requires.there in
    let same = c.add.ensures.slots change.list in
    omega (arith, inside, ap (λ (ss : List Content). length ss) same)

pub returns : goal.returns
returns c =
    let bags = c.args.bags.now.items in
    let change = c.args.change.now in
    let mid = c.add.new.bags.items in
    let with : ℤ → RowChange = λ z. record { list = change.list; change = record { row = row_of bags change; count = z } } in (
      mid,
      subst (λ (z : ℤ). AddedTo (with z) bags mid) (undo_turned bags change c.requires.within c.requires.now) c.add.ensures,
      c.remove_new.ensures.removed,
      c.remove_new.ensures.kept,
    )
