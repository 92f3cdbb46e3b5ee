use Rattle.std.proofs.Common.{◌≡◌, sym, ap, ◌∙◌, subst}
use Rattle.mm_partition.specs.Places.{Hidden, holds_row, content_at, row_in}
use Rattle.mm_partition.specs.Types.{HasTypes}
use Rattle.mm_partition.proofs.ExchangeLemmas.{hidden_typed}
use Rattle.mm_partition.proofs.rows.Partitions.get_hidden.Goals as goal

pub invariant_of-result : goal.invariant_of-result
invariant_of-result c =
    let here : content_at c.args.self.now c.index_of.result ≡ Hidden c.requires.0 =
    ap (content_at c.args.self.now) c.index_of.ensures ∙ c.requires.1 in
    record {
      taken = ap holds_row here;
      typed = subst (λ x. HasTypes c.args.self.now.types (row_in x)) (sym here)
          (hidden_typed _ _ _ _ c.args.at c.requires.0 c.self.view_is c.requires.1);
    }
