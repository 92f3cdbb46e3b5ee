-- The edits are made in the store and in the lists.
use Rattle.std.proofs.Common.{◌∷◌, map, sym, ap, subst}
use Rattle.mm_txn.specs.Contents.{Holdings, IsDue, Makes, MayMake}
use Rattle.mm_txn.specs.PlacedEdits.{placed, rows_edited}
use Rattle.mm_txn.specs.Reads.{ReadsForLists}
use Rattle.mm_txn.proofs.RestKept.{rest_made}
use Rattle.mm_txn.proofs.contents.Contents.make_edits.Goals as goal

pub edit_tables-requires : goal.edit_tables-requires
edit_tables-requires c =
    subst (λ (h : Holdings). MayMake h.store h.lists (placed c.args.edits.own ∷ map placed c.args.edits.cascaded.items)) (sym c.self.view_is) c.requires

pub invariant_of-self : goal.invariant_of-self
invariant_of-self c =
    rest_made c.self.inside.catalog (rows_edited c.self.inside.store (placed c.args.edits.own ∷ map placed c.args.edits.cascaded.items)) c.self.inside.store
    c.edit_tables.new.store c.self.inside.standing c.edit_tables.new.standing c.edit_tables.result c.self.invariant c.edit_tables.ensures.made

pub returns-clause-due : goal.returns-clause-due
returns-clause-due c =
    subst (λ (h : Holdings). IsDue h.store h.lists (placed c.args.edits.own) (map placed c.args.edits.cascaded.items) c.edit_tables.result) c.self.view_is
    c.edit_tables.ensures.due

pub returns-clause-made : goal.returns-clause-made
returns-clause-made c =
    subst (λ (h : Holdings). Makes (rows_edited h.store (placed c.args.edits.own ∷ map placed c.args.edits.cascaded.items)) h.store c.edit_tables.new.store
    h.lists c.edit_tables.new.standing c.edit_tables.result) c.self.view_is c.edit_tables.ensures.made

pub returns-clause-schema : goal.returns-clause-schema
returns-clause-schema c = ap (λ (h : Holdings). h.schema) c.self.view_is

pub returns-clause-reads : goal.returns-clause-reads
returns-clause-reads c =
    subst (λ (h : Holdings). ReadsForLists h.store (placed c.args.edits.own ∷ map placed c.args.edits.cascaded.items) h.lists.queries c.edit_tables.new.reads)
    c.self.view_is c.edit_tables.ensures.reads
