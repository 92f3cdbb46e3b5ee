-- The rows are still the current ones.
use Rattle.std.proofs.Common.{◌≡◌, ℕ, ◌≤◌, refl, sym, ap, subst, ◌∙◌}
use Rattle.mm_indexed.specs.Index.{EachTurns}
use Rattle.mm_plan.specs.Kept.{instance_of}
use Rattle.mm_store.specs.Marks.{IsMark, KeepsMarks, rows_at_mark}
use Rattle.mm_store.specs.Tables.{SameForm}
use Rattle.mm_txn.specs.Contents.{Holdings}
use Rattle.mm_txn.proofs.RestKept.{rest_same}
use Rattle.mm_txn.proofs.contents.Contents.unstage.Goals as goal

pub revert-requires : goal.revert-requires
revert-requires c = record { mark = subst (λ (h : Holdings). IsMark h.store c.args.mark) (sym c.self.view_is) c.requires.mark }

pub invariant_of-self : goal.invariant_of-self
invariant_of-self c =
    rest_same c.self.inside.catalog c.self.inside.store c.revert.new.self c.self.inside.standing c.self.invariant c.revert.ensures.links c.revert.ensures.form
    (c.revert.ensures.rows
    ∙ subst (λ (h : Holdings). rows_at_mark c.args.mark h.store ≡ instance_of h.store.tables) (sym c.self.view_is) c.requires.rows)

pub returns-clause-schema : goal.returns-clause-schema
returns-clause-schema c = ap (λ (h : Holdings). h.schema) c.self.view_is

pub returns-clause-rows : goal.returns-clause-rows
returns-clause-rows c =
    subst (λ (h : Holdings). instance_of c.revert.new.self.tables ≡ rows_at_mark c.args.mark h.store) c.self.view_is c.revert.ensures.rows

pub returns-clause-marks : goal.returns-clause-marks
returns-clause-marks c =
    subst (λ (h : Holdings). (n : ℕ) → n ≤ c.args.mark → KeepsMarks h.store c.revert.new.self n) c.self.view_is c.revert.ensures.marks

pub returns-clause-links : goal.returns-clause-links
returns-clause-links c = c.revert.ensures.links ∙ ap (λ (h : Holdings). h.store.links) c.self.view_is

pub returns-clause-form : goal.returns-clause-form
returns-clause-form c =
    subst (λ (h : Holdings). EachTurns SameForm h.store.tables c.revert.new.self.tables) c.self.view_is c.revert.ensures.form

pub returns-clause-lists : goal.returns-clause-lists
returns-clause-lists c = ap (λ (h : Holdings). h.lists) c.self.view_is
