use Rattle.std.proofs.Common.{sym, ◌∙◌}
use Rattle.mm_partition.specs.Places.{slot_at}
use Rattle.mm_indexed.specs.Twins.{AreApart}
use Rattle.mm_tables.proofs.Slots.{on_true_from}
use Rattle.mm_tables.proofs.twins.brings_twin.Goals as goal

pub returns-in-Some-clause-twin : goal.returns-in-Some-clause-twin
returns-in-Some-clause-twin c =
    on_true_from (AreApart c.args.rows.now.key (slot_at c.args.rows.now.places) → ⊥) c.has_twin.result
    (λ yes apart. apart c.in-Some.at (c.requires c.in-Some.at (sym c.came.ensures ∙ c.in-Some.is)) (c.has_twin.ensures.0 yes))
