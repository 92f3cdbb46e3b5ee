use Rattle.std.proofs.Common.{ℕ, List, [], take, sym, ◌∙◌, subst, arith}
use Rattle.std.specs.Prelude.{IsPermutation}
use Rattle.std.proofs.lemmas.List.{take_all}
use Rattle.std.proofs.lemmas.List.Sorted.{IsPermutation-refl}
use Rattle.mm_value.specs.declared.row_ref.RowRef.{RowRef}
use Rattle.mm_partition.specs.Places.{slot_at}
use Rattle.mm_indexed.specs.Index.{Keeps}
use Rattle.mm_indexed.specs.declared.indexes.index.Index.{Index}
use Rattle.mm_indexed.specs.declared.indexes.index.Index.TheVariants.{Hash}
use Rattle.mm_indexed.proofs.Building.{absent_before, Keeps-more}
use Rattle.mm_indexed.proofs.Steps.{Keeps-grown, same_index}
use Rattle.mm_indexed.proofs.indexes.index.Index.hash_over.Goals as goal

pub loop-at-init : goal.loop-at-init
loop-at-init c =
    let empty : Index = Hash c.args.column c.new-pairs.result in
    let same = same_index empty c.reserve.new.self c.reserve.ensures.grown.same in
    record {
      keeps = Keeps-grown c.args.key (slot_at c.args.rows.now) [] empty c.reserve.new.self c.reserve.ensures.grown.same
          (subst (λ (es : List (ℕ × RowRef)). IsPermutation es []) (sym c.new-pairs.ensures.entries) (IsPermutation-refl []));
      on = (same.0, same.1);
      room = omega (arith, c.in_ok-reserve.ensures.room);
    }

pub insert-requires-clause-column : goal.insert-requires-clause-column
insert-requires-clause-column c = omega (arith, c.loop-at.invariant.on.0, c.requires.column)

pub insert-requires-clause-keeps : goal.insert-requires-clause-keeps
insert-requires-clause-keeps c = (
  take c.loop-at.at-index c.args.refs.now,
  absent_before c.args.refs.now c.loop-at.at-index _ c.requires.apart c.loop-at-test.true,
  c.loop-at.invariant.keeps,
)

pub insert-requires-clause-spare : goal.insert-requires-clause-spare
insert-requires-clause-spare c = omega (arith, c.loop-at.invariant.room, c.loop-at-test.true)

pub loop-at-preserved : goal.loop-at-preserved
loop-at-preserved c = record {
  keeps = Keeps-more c.args.key (slot_at c.args.rows.now) c.args.refs.now c.loop-at.at-index _ c.insert.new.self c.loop-at-test.true
      (c.insert.ensures.keeps (take c.loop-at.at-index c.args.refs.now) c.loop-at.invariant.keeps);
  on = (c.insert.ensures.same.0 ∙ c.loop-at.invariant.on.0, c.insert.ensures.same.1 ∙ c.loop-at.invariant.on.1);
  room = omega (arith, c.loop-at.invariant.room, c.insert.ensures.spare);
}

pub returns-clause-keeps : goal.returns-clause-keeps
returns-clause-keeps c =
    subst (λ (xs : List RowRef). Keeps c.args.key (slot_at c.args.rows.now) xs c.loop-at.index)
    (take_all c.loop-at.at-index c.args.refs.now c.loop-at-test.false) c.loop-at.invariant.keeps
