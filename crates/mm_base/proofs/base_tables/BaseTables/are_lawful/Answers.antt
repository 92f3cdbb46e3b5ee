use Rattle.std.proofs.Common.{subst}
use Rattle.mm_tables.specs.Tables.{keys_of, state_of}
use Rattle.mm_base.specs.Bases.{AreLawful, Base}
use Rattle.mm_base.proofs.base_tables.BaseTables.are_lawful.Goals as goal

pub returns : goal.returns
returns c = subst (λ (s : Base). AreLawful (keys_of s.stored.tables) (state_of s.stored.tables)) c.self.view_is c.self.invariant.lawful
