-- The texts of relations.
use Rattle.std.specs.Prelude.{ℕ, List, [], ◌∷◌, ◌++◌, nat_lt, if◌then◌else◌, codes, flat_map, Option, Some, None}
use Rattle.std.specs.Fmt.{decimal}
use Rattle.crm_outside.specs.Printing.{lines_from}
use Rattle.order_laws.specs.declared.Order.{Order}
use Rattle.order_core.specs.Sets.{Orders}
use Rattle.order_texts.specs.Texts.{placing_line}
use Rattle.crm_allen.specs.declared.relations.Allen.{Allen}
use Rattle.crm_allen.specs.Names.{relation_name, is_among}
use Rattle.crm_allen.specs.Possible.{possible_relations}
use Rattle.crm_allen.specs.Relations.{example_placing}

abbrev pub name_text : Allen → List ℕ
name_text r = codes " " ++ relation_name r

-- a text of a relation, where it is among others
abbrev pub text_if : List Allen → (Allen → List ℕ) → Allen → List ℕ
text_if relations text r = if is_among relations r then text r else []

abbrev pub extent_name : ℕ → List ℕ
extent_name k = codes "x" ++ decimal k

-- two extents, and the names of relations
unfoldable pub relations_line : ℕ → ℕ → List Allen → List ℕ
relations_line a b relations = extent_name a ++ (codes " " ++ (extent_name b ++ (flat_map name_text relations ++ codes "\n")))

-- the line of a period and each later one, with their possible relations
abbrev pub pair_text : List Order → ℕ → ℕ → List ℕ
pair_text orders a b = if nat_lt a b then relations_line a b (possible_relations orders a b) else []

abbrev pub row_text : List Order → List ℕ → ℕ → List ℕ
row_text orders periods a = flat_map (pair_text orders a) periods

abbrev pub rows_text : List Order → List ℕ → List ℕ
rows_text orders periods = lines_from (λ _ a. row_text orders periods a) 0 periods

unfoldable pub relation_line : Allen → List ℕ
relation_line r = codes "relation" ++ (name_text r ++ codes "\n")

-- a relation, and a placing that has it
abbrev pub example_text : Orders → ℕ → ℕ → Allen → List ℕ
example_text set a b r = relation_line r ++ placing_line (relation_name r) (example_placing set a b r)

-- the possible relations of two periods, each with its example
abbrev pub examples_text : Orders → ℕ → ℕ → List ℕ
examples_text set a b = lines_from (λ _ r. example_text set a b r) 0 (possible_relations set.list a b)
