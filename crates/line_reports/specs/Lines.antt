-- The triples with their lines and columns.
use Rattle.std.specs.Prelude.{ℕ, List, ◌++◌, codes}
use Rattle.std.specs.Fmt.{decimal}
use Rattle.rdf_terms.specs.declared.terms.Triple.{Triple}
use Rattle.rdf_terms.specs.declared.triples.Records.{Records}
use Rattle.rdf_terms.specs.Naming.{NameLists}
use Rattle.crm_outside.specs.Printing.{lines_from}
use Rattle.ntriples_writer.specs.Lines.{canonical_line}
use Rattle.text_places.specs.declared.places.Place.{Place}
use Rattle.text_places.specs.Places.{place_of}
use Rattle.report_base.specs.declared.status.Status.TheVariants.{Done}
use Rattle.report_base.specs.Reports.{Report}

-- a triple's number, its line and its column
unfoldable pub head_text : ℕ → Place → List ℕ
head_text number place =
    codes "t" ++ (decimal number ++ (codes " " ++ (decimal place.line ++ (codes " " ++ (decimal place.column ++ codes " ")))))

-- and its canonical line
unfoldable pub placed_line : NameLists → ℕ → Triple → Place → List ℕ
placed_line names number t place = head_text number place ++ canonical_line names t

abbrev pub triple_line : NameLists → List ℕ → ℕ → Triple → List ℕ
triple_line names bytes number t = placed_line names number t (place_of bytes t.at)

abbrev pub lines_text : NameLists → List ℕ → List Triple → List ℕ
lines_text names bytes triples = lines_from (triple_line names bytes) 0 triples

abbrev pub lines_report : Records → List ℕ → Report
lines_report r bytes = record { status = Done; text = lines_text r.names bytes r.triples }
