use Rattle.std.proofs.Common.{◌≡◌, ℕ, [], ◌∷◌, ◌++◌, List, length, sym, ap, subst, arith}
use Rattle.std.specs.Prelude.{pos}
use Rattle.std.specs.List.{All, Contains}
use Rattle.std.specs.Option.{IfSome}
use Rattle.std.proofs.lemmas.List.Elements.{Contains-push}
use Rattle.mm_query.specs.declared.atom.Atom.{Atom}
use Rattle.mm_query.specs.declared.atom.Comparison.TheVariants.{Equal}
use Rattle.mm_query.specs.declared.atom.Operand.TheVariants.{Shifted}
use Rattle.mm_query.specs.declared.bound_query.FieldPlace.{FieldPlace}
use Rattle.mm_templist.specs.Combos.{AreLive, Combos}
use Rattle.mm_join.specs.Equated.{IsJoin}
use Rattle.query_tests.proofs.joins.builds_a_hash_table_of_no_rows.Goals as goal

abbrev atom : Atom FieldPlace
atom = record { left = record { place = 0; column = 1 }; comparison = Equal; right = Shifted (record { place = 1; column = 0 }) (pos 3) }

pub builds_for_none-requires-clause-next : goal.builds_for_none-requires-clause-next
builds_for_none-requires-clause-next g c = (
  1,
  (
    (ap (λ (list : Combos). list.tables ++ 1 ∷ []) (sym c.new-outer.ensures), omega (arith, c.in_ok-store.ensures)),
    subst (λ (list : Combos). All (AreLive c.in_ok-store.store list.tables) list.combos) (sym c.new-outer.ensures) (λ k d within. absurd (omega arith)),
  ),
)

pub builds_for_none-requires-clause-asked : goal.builds_for_none-requires-clause-asked
builds_for_none-requires-clause-asked g c = λ table next.
    subst (λ o. IfSome o (λ key. (atoms : List (Atom FieldPlace)) (outers : List ℕ) → Contains atoms atom → length outers ≡ 1 → IsJoin atoms outers key))
    c.expect-key.ensures c.join_key.ensures.key (atom ∷ []) c.new-outer.result.tables (Contains-push [] atom)
    (ap (λ (list : Combos). length list.tables) c.new-outer.ensures)
