use Rattle.std.proofs.Common.{◌≡◌, List, length, drop, sym, subst, arith}
use Rattle.std.specs.Prelude.{slice_set}
use Rattle.std.proofs.lemmas.List.{length-set}
use Rattle.mm_indexed.specs.Index.{EachTurns, Grown, GrownTo}
use Rattle.mm_indexed.specs.declared.indexes.index.Index.{Index}
use Rattle.mm_indexed.proofs.Turning.{TurnedTo-more, EachTurns-stopped, Grown-refl, written_back}
use Rattle.mm_indexed.proofs.indexes.reserve_all.Goals as goal

pub loop-index-preserved : goal.loop-index-preserved
loop-index-preserved c =
    TurnedTo-more (GrownTo c.args.n) c.loop-index.index-index c.args.indexes.now.items c.loop-index.index-items c.index-item.result c.reserve.new.self
    (omega (arith, c.loop-index.invariant.size)) c.loop-index.invariant (record { grown = c.reserve.ensures.grown; room = c.in_ok-reserve.ensures.room })

pub returns-in_err-reserve-clause-grown : goal.returns-in_err-reserve-clause-grown
returns-in_err-reserve-clause-grown c =
    let start : List Index = c.args.indexes.now.items in
    let ys : List Index = slice_set c.loop-index.index-items c.loop-index.index-index c.reserve.new.self in
    let size : length ys ≡ length c.loop-index.index-items = length-set c.loop-index.index-items c.loop-index.index-index c.reserve.new.self in
    let turned : EachTurns Grown start ys = EachTurns-stopped (GrownTo c.args.n) Grown (λ x y g. g.grown) Grown-refl c.loop-index.index-index start
    c.loop-index.index-items c.index-item.result c.reserve.new.self (omega (arith, c.loop-index.invariant.size)) c.loop-index.invariant
    c.reserve.ensures.grown in
    subst (EachTurns Grown start) (sym
    (written_back ys (drop (length ys) start) c.args.indexes.now.len
    (omega (arith, size, c.loop-index.invariant.size, c.deref_mut-index-items.ensures.len)))) turned
