-- What a list that was filtered has.
use Rattle.std.proofs.Common.{zero, suc, ◌≡◌, ◌<◌, ℕ, Bool, true, false, cond, List, [], ◌∷◌, length, arith, refl, subst, ap, sym, ◌∙◌}
use Rattle.std.specs.Prelude.{slice_index_or, ◌↔◌}
use Rattle.std.specs.List.{Contains, filter}
use Rattle.std.proofs.lemmas.List.Elements.{All-contains, filter_passes}
use Rattle.crm_allen.specs.declared.relations.Allen.{Allen}
use Rattle.crm_allen.specs.declared.relations.Allen.TheVariants.{Before, Meets, Overlaps, Finished, Contains as Containing, Starts, Equal, Started, During, Finishes, Overlapped, Met, After}
use Rattle.std.specs.List.{list_any}
use Rattle.std.specs.Prelude.{◌&&◌}
use Rattle.std.proofs.lemmas.Bool.{eqb-true}
use Rattle.std.proofs.lemmas.Map.Views.{any-filter_same}
use Rattle.crm_allen.specs.Names.{all_relations, place_of, is_same_relation, is_among}

contains_behind : {X : Type 0} (y : X) (xs : List X) (x : X) → Contains xs x → Contains (y ∷ xs) x
contains_behind y xs x c = (suc c.0, omega (arith, c.1), c.2)

kept_behind : {X : Type 0} (b : Bool) (y : X) (xs : List X) (x : X) → Contains xs x → Contains (cond b (y ∷ xs) xs) x
kept_behind true y xs x c = contains_behind y xs x c
kept_behind false y xs x c = c

filtered_at : {X : Type 0} (p : X → Bool) (xs : List X) (x : X) (k : ℕ) → k < length xs → slice_index_or xs k x ≡ x → p x ≡ true → Contains (filter p xs) x
filtered_at p [] x k lt e h = absurd (omega (arith, lt))
filtered_at p (y ∷ xs) x zero lt e h =
    subst (λ (b : Bool). Contains (cond b (y ∷ filter p xs) (filter p xs)) x) (sym (ap p e ∙ h)) (0, omega arith, e)
filtered_at p (y ∷ xs) x (suc k) lt e h = kept_behind (p y) y (filter p xs) x (filtered_at p xs x k (omega (arith, lt)) e h)

all_there : (r : Allen) → Contains all_relations r
all_there Before = (0, omega arith, refl)
all_there Meets = (1, omega arith, refl)
all_there Overlaps = (2, omega arith, refl)
all_there Finished = (3, omega arith, refl)
all_there Containing = (4, omega arith, refl)
all_there Starts = (5, omega arith, refl)
all_there Equal = (6, omega arith, refl)
all_there Started = (7, omega arith, refl)
all_there During = (8, omega arith, refl)
all_there Finishes = (9, omega arith, refl)
all_there Overlapped = (10, omega arith, refl)
all_there Met = (11, omega arith, refl)
all_there After = (12, omega arith, refl)

-- the relations that pass a test are those of the filtered list
pub listed : (p : Allen → Bool) (r : Allen) → (p r ≡ true) ↔ Contains (filter p all_relations) r
listed p r = (
  (λ h. let c = all_there r in filtered_at p all_relations r c.0 c.1 c.2 h),
  (λ c. All-contains (λ (x : Allen). p x ≡ true) (filter p all_relations) r (filter_passes p all_relations) c),
)

-- a relation is known by its place
abbrev relation_at : ℕ → Allen
relation_at n = slice_index_or all_relations n Before

relation_at_place : (r : Allen) → r ≡ relation_at (place_of r)
relation_at_place Before = refl
relation_at_place Meets = refl
relation_at_place Overlaps = refl
relation_at_place Finished = refl
relation_at_place Containing = refl
relation_at_place Starts = refl
relation_at_place Equal = refl
relation_at_place Started = refl
relation_at_place During = refl
relation_at_place Finishes = refl
relation_at_place Overlapped = refl
relation_at_place Met = refl
relation_at_place After = refl

same_place : (r q : Allen) → place_of r ≡ place_of q → r ≡ q
same_place r q e = relation_at_place r ∙ (ap relation_at e ∙ sym (relation_at_place q))

and_true : (b : Bool) → (b && true) ≡ b
and_true true = refl
and_true false = refl

any_of_all : (r : Allen) → list_any (is_same_relation r) all_relations ≡ true
any_of_all Before = refl
any_of_all Meets = refl
any_of_all Overlaps = refl
any_of_all Finished = refl
any_of_all Containing = refl
any_of_all Starts = refl
any_of_all Equal = refl
any_of_all Started = refl
any_of_all During = refl
any_of_all Finishes = refl
any_of_all Overlapped = refl
any_of_all Met = refl
any_of_all After = refl

pub among_filtered : (p : Allen → Bool) (r : Allen) → is_among (filter p all_relations) r ≡ p r
among_filtered p r =
    any-filter_same (is_same_relation r) p (p r) (λ q e. ap p (sym (same_place r q (eqb-true (place_of r) (place_of q) e)))) all_relations
    ∙ (ap (λ b. p r && b) (any_of_all r) ∙ and_true (p r))

pub filter_same : (p q : Allen → Bool) → ((r : Allen) → p r ≡ q r) → (xs : List Allen) → filter p xs ≡ filter q xs
filter_same p q e [] = refl
filter_same p q e (x ∷ xs) = rw (e x, filter_same p q e xs) refl

pub filtered_itself : (p : Allen → Bool) → filter (is_among (filter p all_relations)) all_relations ≡ filter p all_relations
filtered_itself p = filter_same (is_among (filter p all_relations)) p (among_filtered p) all_relations

-- whether a relation is among those that pass a test
pub listed_among : (p : Allen → Bool) (r : Allen) → is_among (filter p all_relations) r ≡ true → Contains (filter p all_relations) r
listed_among p r h = (listed p r).0 (sym (among_filtered p r) ∙ h)
