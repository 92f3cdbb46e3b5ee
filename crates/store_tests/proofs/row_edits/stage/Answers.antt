use Rattle.std.proofs.Common.{◌∷◌, [], List, ℤ, ap₂, subst, w64}
use Rattle.std.proofs.lemmas.Int.{to_z-of_z}
use Rattle.mm_store.specs.Staging.{IsStaged}
use Rattle.mm_value.specs.declared.values.Value.{Value}
use Rattle.mm_value.specs.declared.values.Value.TheVariants.{Int}
use Rattle.store_tests.proofs.row_edits.stage.Goals as goal

pub returns-clause-staged : goal.returns-clause-staged
returns-clause-staged c = λ stored now there here.
    subst (λ (row : List Value). IsStaged c.stage.result row stored now)
    (ap₂ (λ (k v : ℤ). Int k ∷ Int v ∷ []) (to_z-of_z w64 c.args.key c.ranges.key) (to_z-of_z w64 c.args.value c.ranges.value))
    (c.stage.ensures.staged stored now there here)
