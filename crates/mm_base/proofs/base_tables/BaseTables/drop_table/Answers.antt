use Rattle.std.proofs.Common.{◌≢◌, ◌<◌, List, length, sym, ap, ◌∙◌, subst, arith}
use Rattle.std.specs.Prelude.{remove}
use Rattle.std.specs.List.{All}
use Rattle.mm_link.specs.declared.link.Link.{Link}
use Rattle.mm_tables.specs.declared.log_record.LogRecord.{LogRecord}
use Rattle.mm_base.specs.Bases.{Base, references_of, references_without, rows_now}
use Rattle.mm_base.specs.Joined.{IsJoined}
use Rattle.mm_base.proofs.InBases.{removed_lawful, removed_rows}
use Rattle.mm_base.proofs.Moving.{joined_removed, links_removed}
use Rattle.mm_base.proofs.base_tables.BaseTables.drop_table.Goals as goal

pub invariant_of-self : goal.invariant_of-self
invariant_of-self c =
    let old = c.self.inside.tables in
    let new = c.drop_table.new.self in
    let there : c.args.table < length old.tables = omega (arith, c.requires.within, ap (λ (s : Base). length s.stored.tables) c.self.view_is) in
    let unused : All (λ (link : Link). link.reference.to ≢ c.args.table) c.self.inside.links.items =
    subst (λ (s : Base). All (λ (link : Link). link.reference.to ≢ c.args.table) s.links) (sym c.self.view_is) c.requires.unused in
    record {
      lawful = removed_lawful old.tables new.tables c.args.table c.drop_table.ensures.tables there c.self.invariant.lawful;
      joined = subst (λ (log : List LogRecord). All (IsJoined new.tables log) c.drop_links.new.links.items) (sym c.drop_table.ensures.log)
          (joined_removed c.args.table old.tables new.tables old.log there c.drop_table.ensures.tables c.self.inside.links.items c.drop_links.ensures.0
          c.drop_links.new.links.items c.drop_links.ensures.1 c.drop_links.ensures.2 unused c.self.invariant.joined);
    }

pub returns-clause-rows : goal.returns-clause-rows
returns-clause-rows c =
    removed_rows c.self.inside.tables.tables c.drop_table.new.self.tables c.args.table c.drop_table.ensures.tables
    ∙ ap (λ (s : Base). remove (rows_now s.stored) c.args.table) c.self.view_is

pub returns-clause-links : goal.returns-clause-links
returns-clause-links c =
    links_removed c.args.table c.self.inside.links.items c.drop_links.ensures.0 c.drop_links.new.links.items c.drop_links.ensures.1 c.drop_links.ensures.2
    ∙ ap (λ (s : Base). references_without c.args.table (references_of s.links)) c.self.view_is
