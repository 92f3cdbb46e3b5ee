use Rattle.std.proofs.Common.{Bool, sym, ◌∙◌}
use Rattle.mm_link.specs.declared.link.Link.{Link}
use Rattle.mm_tables.proofs.Slots.{on_false}
use Rattle.mm_base.specs.Orphans.{BringsTargets, brings_orphan}
use Rattle.mm_base.proofs.Asked.{any_passes, found_all, found_more, none_all, none_more}
use Rattle.mm_base.proofs.orphans.bring_orphans.Goals as goal

pub returns-then-brings_orphan-clause-rows : goal.returns-then-brings_orphan-clause-rows
returns-then-brings_orphan-clause-rows c =
    let tables = c.args.tables.now.tables in
    let p : Link → Bool = λ link. brings_orphan tables c.args.table c.args.edits.now link.reference in
    any_passes p (BringsTargets tables c.args.table c.args.edits.now) c.args.links.now c.loop-link.link-index c.link-item.result c.link-item.result
    c.loop-link-test.true c.link-item.is (sym c.brings_orphan.ensures.rows ∙ c.if-brings_orphan.true)

pub loop-link-preserved : goal.loop-link-preserved
loop-link-preserved c =
    let tables = c.args.tables.now.tables in
    let p : Link → Bool = λ link. brings_orphan tables c.args.table c.args.edits.now link.reference in
    let P : Link → Type 0 = BringsTargets tables c.args.table c.args.edits.now in
    record {
      rows = none_more p P c.args.links.now c.loop-link.link-index c.link-item.result c.link-item.result c.loop-link-test.true c.link-item.is
          (sym c.brings_orphan.ensures.rows ∙ c.if-brings_orphan.false) c.loop-link.invariant.rows;
      found = found_more p P c.args.links.now c.loop-link.link-index c.link-item.result c.link-item.result c.loop-link-test.true c.link-item.is
          (on_false _ _ c.if-brings_orphan.false c.brings_orphan.ensures.found) c.loop-link.invariant.found;
    }

pub returns-clause-rows : goal.returns-clause-rows
returns-clause-rows c =
    let tables = c.args.tables.now.tables in
    none_all (λ link. brings_orphan tables c.args.table c.args.edits.now link.reference) (BringsTargets tables c.args.table c.args.edits.now) c.args.links.now
    c.loop-link.link-index c.loop-link-test.false c.loop-link.invariant.rows

pub returns-clause-found : goal.returns-clause-found
returns-clause-found c =
    let tables = c.args.tables.now.tables in
    found_all (λ link. brings_orphan tables c.args.table c.args.edits.now link.reference) (BringsTargets tables c.args.table c.args.edits.now) c.args.links.now
    c.loop-link.link-index c.loop-link-test.false c.loop-link.invariant.found
