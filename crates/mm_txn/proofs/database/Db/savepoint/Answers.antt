-- The transaction can also be rolled back to the current rows.
use Rattle.std.proofs.Common.{◌≡◌, ℕ, Bool, true, List, [], ◌∷◌, ◌++◌, sym, ap, subst}
use Rattle.mm_txn.specs.Saved.{IsConsistent}
use Rattle.mm_txn.specs.declared.savepoints.Mark.{Mark}
use Rattle.mm_txn.proofs.OpenSteps.{marked}
use Rattle.mm_txn.proofs.database.Db.savepoint.Goals as goal

pub invariant_of-self-2 : goal.invariant_of-self-2
invariant_of-self-2 c =
    let inside = c.self.inside in
    let marks : List Mark = inside.marks.items in
    let mark : Mark = record { name = c.args.name; commands = c.lengths-commands.result.0; changes = c.lengths-commands.result.1 } in
    let opened : inside.is_open ≡ true = c.if-not-self.false in
    let was : IsConsistent inside.contents true marks =
    subst (λ (b : Bool). IsConsistent inside.contents b marks) opened c.self.invariant in
    let now : IsConsistent inside.contents true (marks ++ mark ∷ []) =
    marked inside.contents marks c.is_at_rest.ensures.back c.is_at_rest.ensures.rows was mark (ap (λ (p : ℕ × ℕ). p.0) c.lengths-commands.ensures)
    (ap (λ (p : ℕ × ℕ). p.1) c.lengths-commands.ensures) in
    subst (λ (b : Bool). IsConsistent inside.contents b c.push.new.self.items) (sym opened)
    (subst (λ (ms : List Mark). IsConsistent inside.contents true ms) (sym c.in_ok-push.ensures.items) now)
