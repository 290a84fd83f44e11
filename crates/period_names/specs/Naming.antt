-- The periods that words name, and what is printed of them.
use Rattle.std.specs.Prelude.{ℕ, Bool, true, ◌++◌, ◌^◌, ◌&&◌, nat_lt, if◌then◌else◌, cond, List, drop, codes, Option, Some, None, position, slice_get}
use Rattle.std.specs.Fmt.{decimal}
use Rattle.std.specs.Option.{option_map}
use Rattle.std.specs.Str.{bytes_eq}
use Rattle.std.specs.Str.Parse.{digits_value}
use Rattle.rdf_terms.specs.declared.terms.Term.{Term}
use Rattle.rdf_terms.specs.declared.terms.Term.TheVariants.{Iri, Blank}
use Rattle.rdf_terms.specs.Naming.{NameLists}
use Rattle.rdf_terms.specs.Terms.{same_term}
use Rattle.period_names.specs.declared.asking.Period.{Period}
use Rattle.report_base.specs.declared.status.Status.TheVariants.{Usage}
use Rattle.report_base.specs.Reports.{Report}
use Rattle.report_base.specs.Texts.{extent_line}

-- the number that the digits behind `_:b` write
abbrev pub number_behind : List ℕ → ℕ
number_behind word = digits_value 10 (drop 3 word)

-- `_:b` and a decimal number below 2^32 without leading zero
abbrev pub is_blank_name : List ℕ → Bool
is_blank_name word = nat_lt (number_behind word) (2 ^ 32) && bytes_eq word (codes "_:b" ++ decimal (number_behind word))

-- the number of the blank node that a word names
abbrev pub blank_named : List ℕ → Option ℕ
blank_named word = if is_blank_name word then Some (number_behind word) else None

-- every other word is an IRI
abbrev pub node_by : NameLists → List ℕ → Option ℕ → Option Term
node_by names word (Some n) = Some (Blank n)
node_by names word None = option_map (λ n. Iri n) (position (bytes_eq word) names.iris)

-- the node that a word names, where it is among the names
abbrev pub node_named : NameLists → List ℕ → Option Term
node_named names word = node_by names word (blank_named word)

-- an extent by its number, where it is a period
abbrev pub period_where : ℕ → Term → Option (Term × Bool) → Option Period
period_where k node None = None
period_where k node (Some e) = cond e.1 (Some (record { number = k; node = node })) None

abbrev pub period_at : List (Term × Bool) → Term → Option ℕ → Option Period
period_at extents node None = None
period_at extents node (Some k) = period_where k node (slice_get extents k)

-- the extent that a node is, where it is a period
abbrev pub period_of : List (Term × Bool) → Option Term → Option Period
period_of extents None = None
period_of extents (Some node) = period_at extents node (position (λ e. same_term node e.0) extents)

-- the period that a word names
abbrev pub period_named : NameLists → List (Term × Bool) → List ℕ → Option Period
period_named names extents word = period_of extents (node_named names word)

abbrev pub period_line : NameLists → Period → List ℕ
period_line names x = extent_line names x.number (x.node, true)

abbrev pub period_lines : NameLists → Period → Period → List ℕ
period_lines names a b = period_line names a ++ period_line names b

-- the report that a word names no period
abbrev pub no_period_report : List ℕ → Report
no_period_report word = record { status = Usage; text = codes "no period " ++ (word ++ codes "\n") }
