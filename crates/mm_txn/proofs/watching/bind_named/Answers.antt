-- The earlier of the refusals of the query and of the name is due.
use Rattle.std.proofs.Common.{Some, inl, inr, sym, ap, ◌∙◌, ⊎_elim}
use Rattle.mm_value.specs.declared.refusal.Refusal.{Refusal}
use Rattle.mm_txn.specs.Rest.{earlier_refusal}
use Rattle.mm_txn.proofs.Naming.{granted_due, refused_due}
use Rattle.mm_txn.proofs.watching.bind_named.Goals as goal

pub returns-in-Err-clause-due : goal.returns-in-Err-clause-due
returns-in-Err-clause-due c =
    let own = c.standing_refusal-taken.ensures in
    let told = c.earlier_refusal.ensures in
    ⊎_elim
    (λ h. inl (refused_due _ _ _ _ _ _ _ _ c.in-Err.refusal h ∙ ap (λ x. Some (earlier_refusal c.in-Err.refusal x)) (sym own)
    ∙ ap (λ (r : Refusal). Some r) (sym told)))
    (λ memory. inr (told ∙ ap (λ x. earlier_refusal x c.standing_refusal-taken.result) memory))
    c.in-Err.ensures.due

pub returns-in-Some-clause-due : goal.returns-in-Some-clause-due
returns-in-Some-clause-due c =
    inl (granted_due _ _ _ _ _ _ _ _ c.in-Ok.ensures.due ∙ sym c.standing_refusal-taken.ensures ∙ c.in-Some.is)
