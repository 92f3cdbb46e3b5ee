use Rattle.std.proofs.Common.{inl, refl, sym, ◌∙◌, subst}
use Rattle.mm_partition.specs.Places.{slot_at}
use Rattle.mm_indexed.proofs.Hiding.{IsHiding, IsHiding-all, IsHiding-next}
use Rattle.mm_indexed.proofs.indexed_rows.hiding.hide_each.Goals as goal

pub loop-at-init : goal.loop-at-init
loop-at-init c =
    let now = slot_at c.args.rows.now in
    record {
      hiding = subst (IsHiding now now) (sym c.into_iter-at-iterator.ensures.into_iter_gives)
          (record { each = λ r. inl refl; live = c.requires.live; apart = c.requires.apart; left = c.requires.all });
      room = refl;
      extent = refl;
      types = refl;
    }

pub loop-at-preserved : goal.loop-at-preserved
loop-at-preserved c =
    let start = slot_at c.args.rows.now in
    let inv = c.loop-at.invariant in
    record {
      hiding = IsHiding-next start c.loop-at.rows c.hide.new.self c.in-Some.at c.next.new.self
          (subst (IsHiding start (slot_at c.loop-at.rows)) c.in-Some.ensures.steps inv.hiding) c.hide.ensures.hidden;
      room = c.hide.ensures.room ∙ inv.room;
      extent = c.hide.ensures.extent ∙ inv.extent;
      types = c.hide.ensures.types ∙ inv.types;
    }

pub returns-clause-hidden : goal.returns-clause-hidden
returns-clause-hidden c =
    let start = slot_at c.args.rows.now in
    IsHiding-all start (slot_at c.loop-at.rows) (subst (IsHiding start (slot_at c.loop-at.rows)) c.in-None.ensures.steps.0 c.loop-at.invariant.hiding)
