use Rattle.std.proofs.Common.{sym, ◌∙◌}
use Rattle.indexmap.specs.IndexMap.{insert_entry}
use Rattle.mm_schema.specs.Name.{same_name}
use Rattle.mm_schema.proofs.CatalogLemmas.{IsPushed, entry_comes_last, sound_push, view_push}
use Rattle.mm_schema.proofs.catalog.Catalog.add_table.Goals as goal
use Rattle.mm_schema.proofs.catalog.Catalog.add_table.Goals.{Joined-branch-2}

-- Nothing refuses the table, so its entry is appended.
pushed : (c : Joined-branch-2) → IsPushed c.args.definition c.self.inside.tables c.insert.new.self
pushed c =
    c.in_ok-insert.ensures.entries
    ∙ (λ i. insert_entry same_name c.self.inside.tables.entries (c.copy-name.ensures i)
    (record { definition = c.args.definition; indexes = c.new-indexes.ensures i }))
    ∙ entry_comes_last c.args.definition c.self.inside.tables c.args.self.now c.self.invariant.keyed c.self.view_is (sym c.in_default.ensures) _

pub invariant_of-self-2 : goal.invariant_of-self-2
invariant_of-self-2 c = sound_push c.args.definition c.self.inside.tables c.insert.new.self (pushed c) c.self.invariant

pub returns-clause-ok : goal.returns-clause-ok
returns-clause-ok c = view_push c.args.definition c.self.inside.tables c.insert.new.self c.args.self.now (pushed c) c.self.view_is
