use Rattle.std.proofs.Common.{rules}
use Rattle.std.proofs.lemmas.Fn.{dedup_same}
use Rattle.mm_query.specs.Queries.{same_row}
use Rattle.mm_templist.specs.Shown.{placed_row}
use Rattle.mm_templist.proofs.shown.drop_equal_neighbours.Goals as goal

pub returns : goal.returns
returns c =
    let row = placed_row c.args.width c.args.values.now in
    dedup_same _ (λ a b. same_row (row a) (row b)) _ (λ x y b f x' y' h. search rules) c.args.places.now.items c.dedup_by.new.self.items
    c.dedup_by.ensures.filtered
