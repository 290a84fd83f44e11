-- The table of extents as it grows.
use Rattle.std.specs.Prelude.{Bool, Option, Some, None, List}
use Rattle.indexmap.specs.IndexMap.{insert_entry}
use Rattle.rdf_terms.specs.declared.terms.Term.{Term}
use Rattle.rdf_terms.specs.contracts.terms.TermPartialEq.TheImpl.{ghosts}

abbrev pub with_kind : Option Bool → List (Term × Bool) → Term → List (Term × Bool)
with_kind None rows node = rows
with_kind (Some period) rows node = insert_entry ghosts.eq rows node period

-- the rows with one more node, where it has a kind; a node that is there keeps its place
abbrev pub with_node : (Term → Option Bool) → List (Term × Bool) → Term → List (Term × Bool)
with_node kind rows node = with_kind (kind node) rows node
