use Rattle.std.proofs.Common.{◌≡◌, List, length, drop, sym, ◌∙◌, subst, arith, rules, tests}
use Rattle.std.specs.Prelude.{not}
use Rattle.std.specs.Bool.{◌==◌}
use Rattle.std.specs.List.{filter}
use Rattle.mm_indexed.specs.Index.{EachTurns}
use Rattle.mm_indexed.proofs.Turning.{written_back}
use Rattle.mm_link.specs.Grown.{HasMovedUp}
use Rattle.mm_link.specs.declared.link.Link.{Link}
use Rattle.mm_base.proofs.Lists.{kept_is}
use Rattle.mm_base.proofs.links.drop_links.Goals as goal

pub returns : goal.returns
returns c =
    let kept : List Link = c.retain.new.self.items in
    let test = λ (link : Link). not (link.reference.from == c.args.table) in
    let ran = c.retain.ensures.filtered in
    let is : kept ≡ filter test c.args.links.now.items =
    ran.4 ∙ kept_is _ test _ (λ x b q k. search (rules, tests)) ran.0 c.args.links.now.items ran.1 ran.2 ran.3 in
    let turned : EachTurns (HasMovedUp c.args.table) kept c.loop-link.link-items =
    subst (λ (start : List Link). EachTurns (HasMovedUp c.args.table) start c.loop-link.link-items) c.deref_mut-link-items.ensures.value
    (record { size = c.loop-link.invariant.size; each = λ k d within. c.loop-link.invariant.done k d (omega (arith, within, c.loop-link-test.false)) within })
    in (
      kept,
      is,
      subst (EachTurns (HasMovedUp c.args.table) kept) (sym
          (written_back c.loop-link.link-items (drop (length c.loop-link.link-items) kept) c.retain.new.self.len
          (omega (arith, c.loop-link.invariant.size, c.deref_mut-link-items.ensures.len)))) turned,
    )
