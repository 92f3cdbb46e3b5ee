-- Prefixes preserve the order of values, and distinct prefixes determine it.
use Rattle.mm_value.proofs.Prefixes.{prefixes_keep, prefixes_tell}
use Rattle.mm_value.proofs.prefix.prefixes_keep_order.Goals as goal

pub returns-clause-keeps : goal.returns-clause-keeps
returns-clause-keeps c = prefixes_keep

pub returns-clause-tells : goal.returns-clause-tells
returns-clause-tells c = prefixes_tell
