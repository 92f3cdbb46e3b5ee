use Rattle.std.proofs.Common.{◌++◌, ◌∷◌, [], List, length, sym, ap, ◌∙◌, subst}
use Rattle.std.specs.List.{All}
use Rattle.mm_tables.specs.declared.log_record.LogRecord.{LogRecord}
use Rattle.mm_base.specs.Bases.{Base, IsSound, rows_now}
use Rattle.mm_base.specs.Columns.{IsFrom}
use Rattle.mm_base.specs.Joined.{IsJoined}
use Rattle.mm_base.proofs.InBases.{added_lawful, added_rows}
use Rattle.mm_base.proofs.Moving.{joined_added}
use Rattle.mm_base.proofs.base_tables.BaseTables.add_table.Goals as goal

pub invariant_of-self : goal.invariant_of-self
invariant_of-self c = subst (IsSound c.self.inside.tables) (sym c.in_err-append.ensures.items) c.self.invariant

pub invariant_of-self-in_default : goal.invariant_of-self-in_default
invariant_of-self-in_default c =
    let old = c.self.inside.tables in
    let new = c.add_table.new.self in
    let adds = c.in_default.ensures.added in
    let from : All (IsFrom (length old.tables) (length c.args.types.now)) c.args.references.now =
    subst (λ (s : Base). All (IsFrom (length s.stored.tables) (length c.args.types.now)) c.args.references.now) (sym c.self.view_is) c.requires.references in
    record {
      lawful = added_lawful c.args.key c.args.types.now old.tables new.tables adds c.self.invariant.lawful;
      joined = subst (λ (log : List LogRecord). All (IsJoined new.tables log) c.append.new.self.items) (sym c.in_default.ensures.log)
          (subst (All (IsJoined new.tables [])) (sym c.in_ok-append.ensures.items)
          (joined_added c.args.key c.args.types.now old.tables new.tables adds old.log c.self.inside.links.items c.in_ok-links.links.items
          c.args.references.now c.in_ok-links.ensures.references from c.in_ok-links.ensures.ready c.self.invariant.joined));
    }

pub returns-clause-rows : goal.returns-clause-rows
returns-clause-rows c =
    added_rows c.args.key c.args.types.now c.self.inside.tables.tables c.add_table.new.self.tables c.in_default.ensures.added
    ∙ ap (λ (s : Base). rows_now s.stored ++ [] ∷ []) c.self.view_is
