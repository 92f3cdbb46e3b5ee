use Rattle.mm_partition.specs.Places.{slot_at}
use Rattle.mm_link.proofs.Referring.{referred_listed, referred_to, tied_if_referred}
use Rattle.mm_link.proofs.link.Link.is_referred.Goals as goal

pub returns-clause-referred : goal.returns-clause-referred
returns-clause-referred c =
    let from = c.args.from.now in
    let to = c.args.to.now in
    let column = c.args.self.now.reference.column in
    let now = slot_at from.places in
    let then = slot_at to.places in
    let ties = c.args.self.now.ties in (
      λ yes. referred_to column to.key now then ties c.requires.follows c.requires.apart c.args.at c.requires.live (c.is_referred.ensures.0 yes),
      λ some. c.is_referred.ensures.1
          (tied_if_referred column to.key now then ties c.requires.follows c.requires.apart c.args.at c.requires.live some),
    )

pub returns-clause-rows : goal.returns-clause-rows
returns-clause-rows c =
    let from = c.args.from.now in
    let to = c.args.to.now in
    let column = c.args.self.now.reference.column in
    let now = slot_at from.places in
    let then = slot_at to.places in
    let ties = c.args.self.now.ties in
    referred_listed column to.key now then ties c.requires.follows from.places.types from.key from.refs from.indexes c.is_kept.ensures
    c.args.at c.requires.live c.is_referred.result
    (λ yes. referred_to column to.key now then ties c.requires.follows c.requires.apart c.args.at c.requires.live (c.is_referred.ensures.0 yes))
    (λ some. c.is_referred.ensures.1
    (tied_if_referred column to.key now then ties c.requires.follows c.requires.apart c.args.at c.requires.live some))
