use Rattle.std.proofs.Common.{◌≡◌, ◌+◌, IsTrue, arith, false, rules, subst, sym}
use Rattle.std.proofs.lemmas.Grind.{common_steps}
use Rattle.mm_dump.specs.Parts.{part_of}
use Rattle.mm_dump.specs.Places.{IsPiece, parts_of}
use Rattle.mm_dump.proofs.PartLists.{drop_smaller}
use Rattle.mm_dump.proofs.Remaining.{empty_end, piece_end, piece_part, piece_whole}
use Rattle.mm_dump.proofs.pieces.add_piece.Goals as goal

pub returns-else-is_empty-clause-piece : goal.returns-else-is_empty-clause-piece
returns-else-is_empty-clause-piece g c =
    let rest : c.add_part.result ≡ false = search rules in
    piece_part (g.S.DumpSource.state c.args.source.now) c.catalog-catalog.result.now c.args.from c.loop-part.place.part c.loop-part.place.row c.add_part.new.row
    (part_of c.in-Some.part) c.loop-part.bytes.items c.add_part.new.bytes.items c.catalog-catalog.ensures (sym c.in-Some.ensures)
    c.loop-part.invariant.piece (c.add_part.ensures.part rest)

pub loop-part-smaller : goal.loop-part-smaller
loop-part-smaller g c =
    let next : c.in_ok-next.next ≡ c.loop-part.place.part + 1 = grind (arith, common_steps) in
    drop_smaller (parts_of c.catalog-catalog.result.now) c.loop-part.place.part c.in_ok-next.next (part_of c.in-Some.part) (sym c.in-Some.ensures) next

pub loop-part-preserved : goal.loop-part-preserved
loop-part-preserved g c =
    let next : c.in_ok-next.next ≡ c.loop-part.place.part + 1 = grind (arith, common_steps) in
    let whole : IsTrue c.add_part.result = search rules in
    let state = g.S.DumpSource.state c.args.source.now in
    let bytes = c.add_part.new.bytes.items in
    record {
      piece = subst (λ n. IsPiece state bytes c.args.from (record { part = n; row = 0 })) (sym next)
          (piece_whole state c.catalog-catalog.result.now c.args.from c.loop-part.place.part c.loop-part.place.row (part_of c.in-Some.part)
          c.loop-part.bytes.items bytes c.catalog-catalog.ensures (sym c.in-Some.ensures) c.loop-part.invariant.piece (c.add_part.ensures.whole whole));
      fits = c.add_part.ensures.room c.loop-part.invariant.fits;
    }

pub returns-clause-end : goal.returns-clause-end
returns-clause-end g c none =
    let state = g.S.DumpSource.state c.args.source.now in
    empty_end state c.args.from c.loop-part.place c.loop-part.bytes.items c.loop-part.invariant.piece
    (piece_end state c.catalog-catalog.result.now c.loop-part.place c.catalog-catalog.ensures (sym c.in_default.ensures)) none
