use Rattle.mm_lang.proofs.ListingTexts.{Writes-as}
use Rattle.mm_value.proofs.Writing.{Writes-nil}
use Rattle.mm_dump.proofs.DumpParts.{no_watch, watch_is}
use Rattle.mm_dump.proofs.pieces.write_standing.Goals as goal

pub returns-in-Some : goal.returns-in-Some
returns-in-Some g c =
    let state = g.S.DumpSource.state c.args.source.now in
    Writes-as (watch_is state c.args.standing.now c.catalog.result.now c.in-Some.query.now c.catalog.ensures c.in-Some.ensures) c.write_watch.ensures

pub returns-in-None : goal.returns-in-None
returns-in-None g c =
    Writes-as (no_watch (g.S.DumpSource.state c.args.source.now) c.args.standing.now c.in-None.ensures) (Writes-nil tt c.requires)
