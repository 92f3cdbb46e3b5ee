use Rattle.std.proofs.Common.{arith}
use Rattle.std.proofs.lemmas.List.{take_rest}
use Rattle.mm_lang.proofs.Fronts.{splits_joined}
use Rattle.mm_lang.proofs.read.token.split_comparison.Goals as goal

pub returns-in-61 : goal.returns-in-61
returns-in-61 c =
    let rest = c.args.rest.now in
    rw (take_rest rest 1) (splits_joined c.args.alone c.args.joined rest c.in-61.len_at_least (omega arith))
