-- Allen's thirteen relations: their sequence and their names.
use Rattle.std.specs.Prelude.{ℕ, ◌==◌, Bool, List, [], ◌∷◌, codes}
use Rattle.std.specs.List.{list_any}
use Rattle.crm_allen.specs.declared.relations.Allen.{Allen}
use Rattle.crm_allen.specs.declared.relations.Allen.TheVariants.{Before, Meets, Overlaps, Finished, Contains, Starts, Equal, Started, During, Finishes, Overlapped, Met, After}

abbrev pub all_relations : List Allen
all_relations =
    Before ∷ Meets ∷ Overlaps ∷ Finished ∷ Contains ∷ Starts ∷ Equal ∷ Started ∷ During ∷ Finishes ∷ Overlapped ∷ Met ∷ After ∷ []

abbrev pub relation_name : Allen → List ℕ
relation_name Before = codes "before"
relation_name Meets = codes "meets"
relation_name Overlaps = codes "overlaps"
relation_name Finished = codes "finished"
relation_name Contains = codes "contains"
relation_name Starts = codes "starts"
relation_name Equal = codes "equal"
relation_name Started = codes "started"
relation_name During = codes "during"
relation_name Finishes = codes "finishes"
relation_name Overlapped = codes "overlapped"
relation_name Met = codes "met"
relation_name After = codes "after"

-- the place in the sequence
abbrev pub place_of : Allen → ℕ
place_of Before = 0
place_of Meets = 1
place_of Overlaps = 2
place_of Finished = 3
place_of Contains = 4
place_of Starts = 5
place_of Equal = 6
place_of Started = 7
place_of During = 8
place_of Finishes = 9
place_of Overlapped = 10
place_of Met = 11
place_of After = 12

-- whether a list of relations has the relation
abbrev pub is_same_relation : Allen → Allen → Bool
is_same_relation r q = place_of r == place_of q

abbrev pub is_among : List Allen → Allen → Bool
is_among relations r = list_any (is_same_relation r) relations
