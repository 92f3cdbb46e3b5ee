-- The tables of one more query have their new places.
use Rattle.std.proofs.Common.{◌≡◌, ◌<◌, ◌++◌, List, drop, length, map, take, refl, sym, ap, ◌∙◌, arith}
use Rattle.std.proofs.lemmas.List.{length-map}
use Rattle.mm_schema.specs.References.{above}
use Rattle.mm_standing.specs.Queries.{StandingQuery}
use Rattle.mm_standing.specs.State.{Lists}
use Rattle.mm_standing.proofs.InPlace.{changed_more, changed_whole, length_changed}
use Rattle.mm_standing.proofs.Rest.{types_turned}
use Rattle.mm_standing.proofs.standing.Standing.table_dropped.Goals as goal

pub loop-watched-preserved : goal.loop-watched-preserved
loop-watched-preserved c =
    let queries : List StandingQuery = c.args.self.now.queries in
    let now : List StandingQuery = c.loop-watched.watched-items in
    let i = c.loop-watched.watched-index in
    let f = λ (s : StandingQuery). let moved : StandingQuery = record s { tables = map (above c.args.table) s.tables } in moved in
    let long = length_changed f queries i in
    let so_far = ap (λ (qs : List StandingQuery). length qs) c.loop-watched.invariant in
    let within : i < length queries = omega (arith, long, so_far, c.loop-watched-test.true, c.loop-watched.auto.watched-items) in
    changed_more f queries now i c.table_dropped.new.self c.watched-item.result c.loop-watched.invariant within c.table_dropped.ensures

-- All queries have their new places, and the types of their fields are unchanged.
pub invariant_of-self : goal.invariant_of-self
invariant_of-self c =
    let old = c.self.inside in
    let queries : List StandingQuery = c.args.self.now.queries in
    let f = λ (s : StandingQuery). let moved : StandingQuery = record s { tables = map (above c.args.table) s.tables } in moved in
    let types = λ (s : StandingQuery). s.types in
    let now : List StandingQuery = c.loop-watched.watched-items in
    let same : old.queries.items ≡ queries = ap (λ (v : Lists). v.queries) c.self.view_is in
    let long = length_changed f queries c.loop-watched.watched-index in
    let so_far = ap (λ (qs : List StandingQuery). length qs) c.loop-watched.invariant in
    let was = ap (λ (qs : List StandingQuery). length qs) same in
    let whole : take old.queries.len (now ++ drop (length now) old.queries.items) ≡ map f queries =
    changed_whole f queries now (drop (length now) old.queries.items) c.loop-watched.watched-index old.queries.len c.loop-watched.invariant
    (omega (arith, c.loop-watched-test.false, c.loop-watched.auto.watched-items)) (omega (arith, long, so_far, was, old.queries.ok.0)) in
    let size = ap (λ (qs : List StandingQuery). length qs) whole in (
      c.self.invariant.0,
      c.self.invariant.1,
      omega (arith, size, length-map queries f, was, c.self.invariant.2),
      c.self.invariant.3 ∙ ap (map types) same ∙ sym (types_turned f (λ s. refl) queries) ∙ sym (ap (map types) whole),
    )
