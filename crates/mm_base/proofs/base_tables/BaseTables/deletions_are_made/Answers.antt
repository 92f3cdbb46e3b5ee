use Rattle.std.proofs.Common.{◌<◌, length, subst, arith}
use Rattle.std.proofs.lemmas.List.{length-map}
use Rattle.mm_tables.specs.Tables.{Stored, key_in, keys_of, slots_in, slots_of, state_of}
use Rattle.mm_base.specs.Bases.{AreLawful, Base, IsLawful}
use Rattle.mm_base.proofs.Deletions.{fewer_if_deleted, none_if_deleted}
use Rattle.mm_base.proofs.base_tables.BaseTables.deletions_are_made.Goals as goal

pub returns-clause-apart : goal.returns-clause-apart
returns-clause-apart c edits command only =
    let s : Stored = c.args.self.now.stored in
    let there : c.args.table < length (state_of s.tables) = omega (arith, c.requires, length-map s.tables slots_of) in
    let lawful : IsLawful (key_in s.tables c.args.table) (slots_in s.tables c.args.table) =
    subst (λ (x : Base). AreLawful (keys_of x.stored.tables) (state_of x.stored.tables)) c.self.view_is c.self.invariant.lawful c.args.table there in
    none_if_deleted (key_in s.tables c.args.table) (slots_in s.tables c.args.table) lawful.apart lawful.small edits command only

pub returns-clause-few : goal.returns-clause-few
returns-clause-few c edits command only =
    let s : Stored = c.args.self.now.stored in
    let there : c.args.table < length (state_of s.tables) = omega (arith, c.requires, length-map s.tables slots_of) in
    let lawful : IsLawful (key_in s.tables c.args.table) (slots_in s.tables c.args.table) =
    subst (λ (x : Base). AreLawful (keys_of x.stored.tables) (state_of x.stored.tables)) c.self.view_is c.self.invariant.lawful c.args.table there in
    omega (
      arith,
      lawful.few,
      fewer_if_deleted (key_in s.tables c.args.table) (slots_in s.tables c.args.table) lawful.apart lawful.small edits command only,
    )
