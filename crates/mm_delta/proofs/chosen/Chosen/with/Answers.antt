use Rattle.std.proofs.Common.{◌<◌, Some, arith, sym}
use Rattle.std.specs.Option.{option_map}
use Rattle.mm_partition.specs.Views.{viewed}
use Rattle.mm_delta.proofs.Seen.{set_seen, length_seen}
use Rattle.mm_delta.proofs.chosen.Chosen.with.Goals as goal

pub returns : goal.returns
returns c =
    let n = length_seen (option_map viewed) c.self.inside.places c.self.inside.rows c.args.self.now (sym c.self.view_is) (omega arith) in
    let inside : c.args.place < c.self.inside.places = omega (arith, n) in
    set_seen (option_map viewed) c.self.inside.places c.args.place (Some c.args.row) c.self.inside.rows c.args.self.now (sym c.self.view_is) inside
