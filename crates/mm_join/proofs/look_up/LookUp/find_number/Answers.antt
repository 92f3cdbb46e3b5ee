use Rattle.std.proofs.Common.{ap, ◌∙◌, subst}
use Rattle.std.proofs.lemmas.Int.{to_z-of_z}
use Rattle.std.specs.Prelude.{◌+ℤ◌, ℤ, FitsSigned, OnOk}
use Rattle.std.specs.Int.{w64}
use Rattle.mm_indexed.specs.Kept.{StoredRows}
use Rattle.mm_store.proofs.Shown.{table_seen}
use Rattle.mm_store.specs.Tables.{IsAt}
use Rattle.mm_value.specs.declared.values.Value.TheVariants.{Int}
use Rattle.mm_join.proofs.Found.{finds_none}
use Rattle.mm_join.specs.Equated.{added}
use Rattle.mm_join.specs.AccessMethods.{Finds}
use Rattle.mm_join.proofs.look_up.LookUp.find_number.Goals as goal

pub returns-in-Some-clause-found : goal.returns-in-Some-clause-found
returns-in-Some-clause-found c =
    subst (λ (n : ℤ). OnOk c.find_value.result ((stored : StoredRows) → IsAt c.args.view.now.store c.args.table stored
    → Finds stored c.args.self.now.key.column c.args.self.now.among (Int n) c.find_value.new.found.items))
    (to_z-of_z w64 c.in-Some.sum c.in-Some.ensures.within
    ∙ (c.in-Some.ensures.sum ∙ ap (λ (n : ℤ). n +ℤ added c.args.self.now.key.shift) (to_z-of_z w64 c.args.number c.ranges.number)))
    c.find_value.ensures.found

pub returns-in-None-clause-found : goal.returns-in-None-clause-found
returns-in-None-clause-found c = λ stored here.
    let past = subst (λ n. ¬ FitsSigned w64 (n +ℤ added c.args.self.now.key.shift)) (to_z-of_z w64 c.args.number c.ranges.number)
    (c.shifted_number.ensures.past c.in-None.is) in
    finds_none stored c.args.self.now.key.column c.args.self.now.among (c.args.number +ℤ added c.args.self.now.key.shift) c.clear.new.self.items
    (table_seen c.args.view.now c.args.table stored here).storable past c.clear.ensures.items
