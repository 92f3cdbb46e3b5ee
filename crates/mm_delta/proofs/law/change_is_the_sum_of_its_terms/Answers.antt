use Rattle.mm_delta.proofs.SumOfTerms.{change_by_names}
use Rattle.mm_delta.proofs.Sums.{balance_from_permutation}
use Rattle.mm_delta.proofs.law.change_is_the_sum_of_its_terms.Goals as goal

pub returns : goal.returns
returns c query before after gone come row h =
    change_by_names query before after gone come row (λ t. balance_from_permutation (after t) (gone t) (before t) (come t) (h t))
