use Rattle.std.proofs.Common.{◌≡◌, ℕ, [], ◌∷◌, ◌++◌, List, Some, length, get_or, ◌<◌, sym, ap, ◌∙◌, subst, arith}
use Rattle.std.specs.List.{All, Contains}
use Rattle.std.specs.Option.{IfSome}
use Rattle.std.proofs.lemmas.List.Elements.{Contains-push}
use Rattle.mm_join.specs.Equated.{IsJoin}
use Rattle.mm_query.specs.declared.atom.Atom.{Atom}
use Rattle.mm_query.specs.declared.bound_query.FieldPlace.{FieldPlace}
use Rattle.mm_store.specs.Looked.{IsFirstSuch, IsTree}
use Rattle.mm_store.specs.Tables.{IsAt, Tables}
use Rattle.mm_templist.specs.Combos.{AreLive}
use Rattle.query_tests.proofs.joins.try_capped.Goals as goal

pub tree_merge-requires-clause-next : goal.tree_merge-requires-clause-next
tree_merge-requires-clause-next g c =
    let outer = c.in_ok-outer.outer in (
      1,
      (
        (
          ap (λ ts. ts ++ 1 ∷ []) (sym c.in_ok-outer.ensures.tables),
          subst (λ (s : Tables). 1 < length s.tables) (sym (c.select.ensures.same ∙ c.view-view.ensures.store)) (omega (arith, c.requires.two)),
        ),
        subst (λ (s : Tables). All (AreLive s outer.tables) outer.combos) (sym c.select.ensures.same) c.in_ok-outer.ensures.live,
      ),
    )

pub tree_merge-requires-clause-served : goal.tree_merge-requires-clause-served
tree_merge-requires-clause-served g c = λ table stored next here.
    let column : ℕ = c.expect-key.result.column in
    let second : 1 ≡ table = ap (λ ts. get_or ts 1 0) (next.0 ∙ ap (λ ts. ts ++ table ∷ []) c.in_ok-outer.ensures.tables) in
    let there : IsAt c.view-view.result.store 1 stored =
    subst (λ (s : Tables). IsAt s 1 stored) c.select.ensures.same (subst (λ t. IsAt c.select.new.view.store t stored) (sym second) here) in
    let found : IsFirstSuch IsTree stored column (Some c.expect-tree.result) =
    subst (IsFirstSuch IsTree stored column) c.expect-tree.ensures (c.tree_on-tree.ensures stored there) in (
      found.0,
      found.1,
      subst (λ o. IfSome o (λ key. (atoms : List (Atom FieldPlace)) (outers : List ℕ) → Contains atoms c.equal.result → length outers ≡ 1
          → IsJoin atoms outers key))
          c.expect-key.ensures c.join_key.ensures.key (c.equal.result ∷ []) c.in_ok-outer.outer.tables (Contains-push [] c.equal.result)
          (ap (λ ts. length ts) c.in_ok-outer.ensures.tables),
    )
