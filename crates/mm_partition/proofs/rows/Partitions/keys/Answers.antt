use Rattle.std.proofs.Common.{◌≡◌, ◌<◌, List, [], length, map, get_or, ℕ, Some, refl, sym, ap, ◌∙◌, subst, arith}
use Rattle.std.proofs.Math.IntN.{pos}
use Rattle.std.proofs.lemmas.List.{get_or-map, length-map}
use Rattle.mm_value.specs.Prefix.{order_prefix}
use Rattle.mm_value.specs.declared.values.Value.TheVariants.{Int}
use Rattle.mm_partition.specs.Cells.{Fits, cell}
use Rattle.mm_partition.specs.TextCells.{prefix_of}
use Rattle.mm_partition.specs.declared.columns.Column.TheVariants.{Numbers, Texts}
use Rattle.mm_partition.specs.declared.slots.State.TheVariants as state
use Rattle.mm_partition.proofs.ContentLemmas.{Stands, live_at, extent_is, value_at, prefix_at}
use Rattle.mm_partition.proofs.rows.Partitions.keys.Goals as goal

pub returns-in-Numbers : goal.returns-in-Numbers
returns-in-Numbers c =
    let within : c.args.column < length c.self.inside.columns.items = omega arith in
    let fits : Fits (length c.self.inside.states.items) c.self.inside.spare (Numbers c.in-Numbers.numbers) =
    subst (Fits _ _) (sym c.index.ensures ∙ c.in-Numbers.is) (c.self.invariant.cells c.args.column c.index.result.now within) in
    record {
      extent = omega (arith, ap length c.as_slice.ensures.value, fits.size, extent_is _ _ _ _ c.self.view_is);
      each = λ at row live.
          value_at _ _ _ _ at row at.slot c.args.column c.index.result.now c.self.view_is refl live within c.index.ensures
          ∙ (ap (λ x. Some (cell x at.slot)) c.in-Numbers.is
          ∙ ap (λ xs. Some (Int (get_or xs at.slot (pos 0)))) (sym c.as_slice.ensures.value));
    }

pub returns-in-Some : goal.returns-in-Some
returns-in-Some c =
    let texts : List (List ℕ) = c.in-Texts.texts.texts in
    let items : c.in-Some.prefixes.now ≡ map prefix_of texts = c.in-Some.ensures c.in-Some.prefixes refl in
    let within : c.args.column < length c.self.inside.columns.items = omega arith in
    let fits : Fits (length c.self.inside.states.items) c.self.inside.spare (Texts c.in-Texts.texts) =
    subst (Fits _ _) (sym c.index.ensures ∙ c.in-Texts.is) (c.self.invariant.cells c.args.column c.index.result.now within) in
    record {
      extent = omega (arith, ap length items, length-map texts prefix_of, fits.size, extent_is _ _ _ _ c.self.view_is);
      each = λ at row live.
          let stands : Stands c.self.inside.columns.items c.self.inside.states.items at.slot state.Live row =
          live_at _ _ _ _ _ _ _ c.self.view_is refl live in
          ap (λ xs. get_or xs at.slot 0) items
          ∙ (get_or-map prefix_of texts at.slot [] 0 (omega (arith, stands.within, fits.size))
          ∙ (ap (λ y. order_prefix (cell y at.slot)) (sym c.in-Texts.is)
          ∙ sym (prefix_at _ _ _ _ at row at.slot c.args.column c.index.result.now c.self.view_is refl live within c.index.ensures)));
    }
