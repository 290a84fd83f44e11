-- What is printed of contradictions.
use Rattle.std.specs.Prelude.{ℕ, ◌++◌, List, length, codes, Option, None, Some}
use Rattle.std.specs.Fmt.{decimal}
use Rattle.rdf_terms.specs.declared.triples.Records.{Records}
use Rattle.rdf_terms.specs.Naming.{NameLists}
use Rattle.boundary_orders.specs.Dossiers.{Findings}
use Rattle.crm_outside.specs.Printing.{lines_from}
use Rattle.order_conflicts.specs.declared.conflicts.Conflicts.{Conflicts}
use Rattle.order_conflicts.specs.declared.suspects.Suspect.{Suspect}
use Rattle.order_conflicts.specs.declared.tangles.Tangle.{Tangle}
use Rattle.order_conflicts.specs.Conflicts.{conflicts_in}
use Rattle.order_texts.specs.Texts.{chain_text, count_line}
use Rattle.report_base.specs.declared.status.Status.{Status}
use Rattle.report_base.specs.declared.status.Status.TheVariants.{Done, Findings as HasFindings}
use Rattle.report_base.specs.Reports.{Report, findings_from, within_limits}
use Rattle.report_base.specs.Texts.{orders_text}

-- the line of a tangle with its number, and that of its cycle
unfoldable pub tangle_line : ℕ → Tangle → List ℕ
tangle_line k t = codes "tangle " ++ (decimal k ++ (chain_text t.orders ++ (codes "\ncycle" ++ (chain_text t.cycle ++ codes "\n"))))

unfoldable pub suspect_line : Suspect → List ℕ
suspect_line s = codes "suspect t" ++ (decimal s.triple ++ (chain_text s.orders ++ codes "\n"))

abbrev pub tangles_text : List Tangle → List ℕ
tangles_text tangles = count_line (codes "tangles") (length tangles) ++ lines_from tangle_line 0 tangles

abbrev pub suspects_text : List Suspect → List ℕ
suspects_text suspects = lines_from (λ _ s. suspect_line s) 0 suspects ++ count_line (codes "suspects") (length suspects)

abbrev pub outcome_text : Option Conflicts → List ℕ
outcome_text None = codes "consistent\n"
outcome_text (Some c) = codes "inconsistent\n" ++ (tangles_text c.tangles ++ suspects_text c.suspects)

abbrev pub outcome_status : Option Conflicts → Status
outcome_status None = Done
outcome_status (Some c) = HasFindings

-- the extents, the dates and the orders, and what contradicts itself in them
abbrev pub report_text : NameLists → Findings → List ℕ
report_text names found = orders_text names found ++ outcome_text (conflicts_in found.orders)

-- findings exactly where the orders are inconsistent
abbrev pub found_report : NameLists → Findings → Report
found_report names found = record { status = outcome_status (conflicts_in found.orders); text = report_text names found }

-- the orders of records, and what contradicts itself in them
abbrev pub conflicts_report : Records → Report
conflicts_report r = within_limits (findings_from r) (found_report r.names (findings_from r))
