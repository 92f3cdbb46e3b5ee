use Rattle.std.proofs.Common.{◌≡◌, List, length, drop, refl, sym, subst, arith}
use Rattle.std.specs.Prelude.{slice_set}
use Rattle.std.proofs.lemmas.List.{length-set}
use Rattle.mm_indexed.specs.Index.{EachTurns}
use Rattle.mm_indexed.proofs.Turning.{EachTurns-stopped, TurnedTo-more, written_back}
use Rattle.mm_link.specs.Grown.{HasGrown}
use Rattle.mm_base.specs.Joined.{GrownTo}
use Rattle.mm_link.specs.declared.link.Link.{Link}
use Rattle.mm_base.proofs.links.reserve_all.Goals as goal

pub loop-link-preserved : goal.loop-link-preserved
loop-link-preserved c =
    TurnedTo-more (GrownTo c.args.table c.args.extent) c.loop-link.link-index c.args.links.now.items c.loop-link.link-items c.link-item.result
    c.reserve.new.self (omega (arith, c.loop-link.invariant.size)) c.loop-link.invariant
    (record { grown = c.reserve.ensures.grown; to = c.in_ok-reserve.ensures.ok })

stays : (link : Link) → HasGrown link link
stays link = record { reference = refl; kept = λ from. refl; referrers = omega arith; targets = omega arith }

pub returns-in_err-reserve-clause-grown : goal.returns-in_err-reserve-clause-grown
returns-in_err-reserve-clause-grown c =
    let start : List Link = c.args.links.now.items in
    let ys : List Link = slice_set c.loop-link.link-items c.loop-link.link-index c.reserve.new.self in
    let size : length ys ≡ length c.loop-link.link-items = length-set c.loop-link.link-items c.loop-link.link-index c.reserve.new.self in
    let turned : EachTurns HasGrown start ys = EachTurns-stopped (GrownTo c.args.table c.args.extent) HasGrown (λ x y g. g.grown) stays
    c.loop-link.link-index start c.loop-link.link-items c.link-item.result c.reserve.new.self (omega (arith, c.loop-link.invariant.size))
    c.loop-link.invariant c.reserve.ensures.grown in
    subst (EachTurns HasGrown start) (sym
    (written_back ys (drop (length ys) start) c.args.links.now.len
    (omega (arith, size, c.loop-link.invariant.size, c.deref_mut-link-items.ensures.len)))) turned
