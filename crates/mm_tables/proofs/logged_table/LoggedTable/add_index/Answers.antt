use Rattle.std.proofs.Common.{sym, ap, subst, arith}
use Rattle.mm_partition.specs.Places.{slot_at}
use Rattle.mm_indexed.specs.Kept.{StoredRows}
use Rattle.mm_tables.specs.Tables.{HasSpare}
use Rattle.mm_tables.proofs.Slots.{either_way, both_ok}
use Rattle.mm_tables.proofs.logged_table.LoggedTable.add_index.Goals as goal

pub returns-clause-slots : goal.returns-clause-slots
returns-clause-slots c =
    either_way c.add_index.result _ _ _ c.add_index.ensures.rest c.add_index.ensures.err (λ is. ap (λ (r : StoredRows). slot_at r.places) is)
    (λ is. ap (λ (r : StoredRows). slot_at r.places) is)

pub returns-clause-key : goal.returns-clause-key
returns-clause-key c =
    either_way c.add_index.result _ _ _ c.add_index.ensures.rest c.add_index.ensures.err (λ is. ap (λ (r : StoredRows). r.key) is)
    (λ is. ap (λ (r : StoredRows). r.key) is)

pub returns-clause-spare : goal.returns-clause-spare
returns-clause-spare c was =
    either_way c.add_index.result _ _ _ (both_ok c.add_index.result _ _ c.add_index.ensures.rest c.add_index.ensures.room) c.add_index.ensures.err
    (λ is. record { key = omega (arith, ap (λ (r : StoredRows). r.spare) is.0, was.key); indexes = is.1 was.indexes })
    (λ is. subst (λ (r : StoredRows). HasSpare c.args.self.now.owed.key c.args.self.now.owed.indexes r) (sym is) was)
