-- The lists fit the rows at the mark.
use Rattle.std.proofs.Common.{◌≡◌, ℕ, ◌≤◌, List, take, sym, ap, subst, ◌∙◌, arith}
use Rattle.mm_standing.specs.State.{Lists, count_at}
use Rattle.mm_store.specs.Marks.{IsMark, KeepsMarks, rows_at_mark}
use Rattle.mm_value.specs.declared.values.Value.{Value}
use Rattle.mm_txn.specs.Contents.{Holdings}
use Rattle.mm_plan.specs.Kept.{instance_of}
use Rattle.mm_txn.specs.Saved.{AreSaved}
use Rattle.mm_txn.proofs.GoingBack.{none_behind}
use Rattle.mm_txn.proofs.RestKept.{rest_back}
use Rattle.mm_txn.proofs.contents.Contents.revert.Goals as goal

pub revert-requires : goal.revert-requires
revert-requires c = record { mark = subst (λ (h : Holdings). IsMark h.store c.args.commands) (sym c.self.view_is) c.requires.back.mark }

pub invariant_of-self : goal.invariant_of-self
invariant_of-self c =
    rest_back c.self.inside.catalog c.self.inside.store c.revert.new.self c.self.inside.standing c.revert-2.new.self c.self.invariant c.revert.ensures.links
    (ap (λ (l : Lists). l.queries) c.revert-2.ensures.rest) c.revert.ensures.form c.args.changes
    (rows_at_mark c.args.commands c.self.inside.store) c.revert.ensures.rows
    (subst (λ (h : Holdings). AreSaved c.args.changes (rows_at_mark c.args.commands h.store) h.lists) (sym c.self.view_is) c.requires.back.saved)
    (λ list row. c.revert-2.ensures.counts c.args.changes (omega arith) list row)
    (none_behind c.args.changes c.self.inside.standing.log c.revert-2.new.self.log c.revert-2.ensures.log)
    (ap (λ (l : Lists). l.prepared) c.revert-2.ensures.rest ∙ c.self.invariant.listed.ready)

pub returns-clause-schema : goal.returns-clause-schema
returns-clause-schema c = ap (λ (h : Holdings). h.schema) c.self.view_is

pub returns-clause-rows : goal.returns-clause-rows
returns-clause-rows c =
    subst (λ (h : Holdings). instance_of c.revert.new.self.tables ≡ rows_at_mark c.args.commands h.store) c.self.view_is c.revert.ensures.rows

pub returns-clause-marks : goal.returns-clause-marks
returns-clause-marks c =
    subst (λ (h : Holdings). (n : ℕ) → n ≤ c.args.commands → KeepsMarks h.store c.revert.new.self n) c.self.view_is c.revert.ensures.marks

pub returns-clause-queries : goal.returns-clause-queries
returns-clause-queries c =
    ap (λ (l : Lists). l.queries) c.revert-2.ensures.rest ∙ ap (λ (h : Holdings). h.lists.queries) c.self.view_is

pub returns-clause-counts : goal.returns-clause-counts
returns-clause-counts c =
    subst (λ (h : Holdings). (n : ℕ) → n ≤ c.args.changes → (list : ℕ) (row : List Value)
    → count_at n list row c.revert-2.new.self ≡ count_at n list row h.lists) c.self.view_is c.revert-2.ensures.counts

pub returns-clause-log : goal.returns-clause-log
returns-clause-log c = c.revert-2.ensures.log ∙ ap (λ (h : Holdings). take c.args.changes h.lists.log) c.self.view_is
