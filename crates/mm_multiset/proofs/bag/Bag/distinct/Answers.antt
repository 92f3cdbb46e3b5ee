-- There are as many counted slots as entries whose count is not 0.
use Rattle.std.proofs.Common.{ap, sym, ◌∙◌, filter, length, map}
use Rattle.std.proofs.lemmas.List.{length-map}
use Rattle.std.proofs.lemmas.List.Sorted.{length_permutation}
use Rattle.mm_multiset.specs.Counts.{has_rows}
use Rattle.mm_multiset.specs.Slots.{entries_of, entry_at}
use Rattle.mm_multiset.proofs.Shown.{walk_gives}
use Rattle.mm_multiset.proofs.bag.Bag.distinct.Goals as goal

pub returns : goal.returns
returns c =
    let slots = c.self.inside.rows.slots in
    let counts = c.self.inside.counts.counts in
    let shown = c.counted-shown.result.now in
    sym (length-map shown (entry_at slots counts))
    ∙ (sym (length_permutation (map (entry_at slots counts) shown) (filter has_rows (entries_of slots counts))
    (walk_gives slots counts shown c.self.invariant.0.marked c.counted-shown.ensures))
    ∙ ap (λ v. length (filter has_rows v.entries)) c.self.view_is)
