-- In a placing two extents have one of the relations.
use Rattle.std.proofs.Common.{◌≡◌, zero, suc, ℕ, ℤ, true, false, List, [], ◌∷◌, arith, inl, inr, sym}
use Rattle.std.specs.List.{Contains}
use Rattle.std.proofs.lemmas.Bool.{cases_order}
use Rattle.std.proofs.lemmas.Int.{ints, by_lt_z}
use Rattle.order_laws.specs.declared.Order.{Order}
use Rattle.order_laws.specs.declared.Point.{Point}
use Rattle.order_laws.specs.declared.Point.TheVariants.{Start, End}
use Rattle.order_laws.specs.declared.Position.{Position}
use Rattle.order_laws.specs.Placings.{IsSatisfied, position_at}
use Rattle.order_laws.specs.Positions.{Stand}
use Rattle.crm_allen.specs.declared.relations.Allen.{Allen}
use Rattle.crm_allen.specs.declared.relations.Allen.TheVariants.{Before, Meets, Overlaps, Finished, Contains as Containing, Starts, Equal, Started, During, Finishes, Overlapped, Met, After}
use Rattle.crm_allen.specs.Relations.{assumed, relation_orders}
use Rattle.crm_allen.proofs.Growing.{IsStanding, satisfied_with}

-- before, at, or behind
data Compared (p q : Position) : Type 0 where
  lower : Stand true p q → Compared p q
  level : Stand false p q → Stand false q p → Compared p q
  higher : Stand true q p → Compared p q

same_instant : (p q : Position) → p.instant ≡ q.instant → Compared p q
same_instant p q e =
    elim (cases_order p.rank q.rank) [
      | inl same ↦ level (inr (e, omega (arith, same))) (inr (sym e, omega (arith, same)))
      | inr (inl lt) ↦ lower (inr (e, lt))
      | inr (inr gt) ↦ higher (inr (sym e, gt))
    ]

compare : (p q : Position) → Compared p q
compare p q =
    by_lt_z p.instant q.instant (λ lt. lower (inl lt))
    (λ ge. by_lt_z q.instant p.instant (λ gt. higher (inl gt)) (λ le. same_instant p q (omega (arith, ints))))

abbrev lt : Point → Point → Order
lt x y = assumed x y true

abbrev le : Point → Point → Order
le x y = assumed x y false

-- one that it is
pub record Stands (dates : List ℤ) (placing : List Position) (a b : ℕ) : Type 0 where
  pub relation : Allen
  pub has : IsSatisfied (relation_orders relation a b) dates placing

module _ (extents : ℕ) (dates : List ℤ) (placing : List Position) where
  none : IsSatisfied [] dates placing
  none n lt = absurd (omega (arith, lt))

  one : (o : Order) → IsStanding extents dates placing o → IsSatisfied (o ∷ []) dates placing
  one o h = satisfied_with extents dates placing o [] h none

  two : (o p : Order) → IsStanding extents dates placing o → IsStanding extents dates placing p → IsSatisfied (o ∷ p ∷ []) dates placing
  two o p h k = satisfied_with extents dates placing o (p ∷ []) h (one p k)

  three : (o p q : Order) → IsStanding extents dates placing o → IsStanding extents dates placing p → IsStanding extents dates placing q → IsSatisfied (o ∷ p ∷ q ∷ []) dates placing
  three o p q h k l = satisfied_with extents dates placing o (p ∷ q ∷ []) h (two p q k l)

  four : (o p q r : Order) → IsStanding extents dates placing o → IsStanding extents dates placing p → IsStanding extents dates placing q → IsStanding extents dates placing r →
      IsSatisfied (o ∷ p ∷ q ∷ r ∷ []) dates placing
  four o p q r h k l m = satisfied_with extents dates placing o (p ∷ q ∷ r ∷ []) h (three p q r k l m)

  abbrev at : Point → Position
  at x = position_at dates placing x

  module _ (a b : ℕ) where
    -- each starts before the other ends: their starts and their ends decide
    inner : Stand true (at (Start b)) (at (End a)) → Stand true (at (Start a)) (at (End b)) →
        Compared (at (Start a)) (at (Start b)) → Compared (at (End a)) (at (End b)) → Stands dates placing a b
    inner u v (lower s) (lower e) = record { relation = Overlaps; has = three (lt (Start a) (Start b)) (lt (Start b) (End a)) (lt (End a) (End b)) s u e }
    inner u v (lower s) (level e f) = record { relation = Finished; has = three (lt (Start a) (Start b)) (le (End a) (End b)) (le (End b) (End a)) s e f }
    inner u v (lower s) (higher e) = record { relation = Containing; has = two (lt (Start a) (Start b)) (lt (End b) (End a)) s e }
    inner u v (level s t) (lower e) = record { relation = Starts; has = three (le (Start a) (Start b)) (le (Start b) (Start a)) (lt (End a) (End b)) s t e }
    inner u v (level s t) (level e f) =
        record { relation = Equal; has = four (le (Start a) (Start b)) (le (Start b) (Start a)) (le (End a) (End b)) (le (End b) (End a)) s t e f }
    inner u v (level s t) (higher e) = record { relation = Started; has = three (le (Start a) (Start b)) (le (Start b) (Start a)) (lt (End b) (End a)) s t e }
    inner u v (higher s) (lower e) = record { relation = During; has = two (lt (Start b) (Start a)) (lt (End a) (End b)) s e }
    inner u v (higher s) (level e f) = record { relation = Finishes; has = three (lt (Start b) (Start a)) (le (End b) (End a)) (le (End a) (End b)) s f e }
    inner u v (higher s) (higher e) = record { relation = Overlapped; has = three (lt (Start b) (Start a)) (lt (Start a) (End b)) (lt (End b) (End a)) s v e }

    outer : Stand true (at (Start b)) (at (End a)) → Compared (at (End b)) (at (Start a)) → Stands dates placing a b
    outer u (lower e) = record { relation = After; has = one (lt (End b) (Start a)) e }
    outer u (level e f) = record { relation = Met; has = two (le (End b) (Start a)) (le (Start a) (End b)) e f }
    outer u (higher v) = inner u v (compare (at (Start a)) (at (Start b))) (compare (at (End a)) (at (End b)))

    first : Compared (at (End a)) (at (Start b)) → Stands dates placing a b
    first (lower e) = record { relation = Before; has = one (lt (End a) (Start b)) e }
    first (level e f) = record { relation = Meets; has = two (le (End a) (Start b)) (le (Start b) (End a)) e f }
    first (higher u) = outer u (compare (at (End b)) (at (Start a)))

    pub standing : Stands dates placing a b
    standing = first (compare (at (End a)) (at (Start b)))

-- one item alone
pub only : (r q : Allen) → Contains (r ∷ []) q → r ≡ q
only r q (zero, lt, e) = e
only r q (suc k, lt, e) = absurd (omega (arith, lt))
