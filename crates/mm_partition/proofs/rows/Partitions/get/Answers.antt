use Rattle.std.proofs.Common.{◌≡◌, sym, ap, ◌∙◌, subst}
use Rattle.mm_partition.specs.Places.{Live, holds_row, content_at, row_in}
use Rattle.mm_partition.specs.Types.{HasTypes}
use Rattle.mm_partition.proofs.ContentLemmas.{live_typed}
use Rattle.mm_partition.proofs.rows.Partitions.get.Goals as goal

pub invariant_of-result : goal.invariant_of-result
invariant_of-result c =
    let here : content_at c.args.self.now c.index_of.result ≡ Live c.requires.0 =
    ap (content_at c.args.self.now) c.index_of.ensures ∙ c.requires.1 in
    record {
      taken = ap holds_row here;
      typed = subst (λ x. HasTypes c.args.self.now.types (row_in x)) (sym here)
          (live_typed _ _ _ _ c.args.at c.requires.0 c.self.view_is c.requires.1);
    }
