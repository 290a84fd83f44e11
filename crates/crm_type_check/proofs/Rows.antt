-- The faults of small records, by computation.
use Rattle.std.proofs.Common.{◌≡◌, ℕ, [], ◌∷◌, refl, codes}
use Rattle.rdf_terms.specs.declared.terms.Term.{Term}
use Rattle.rdf_terms.specs.declared.terms.Term.TheVariants.{Iri, Blank, Lit}
use Rattle.rdf_terms.specs.declared.terms.Triple.{Triple}
use Rattle.rdf_terms.specs.Naming.{NameLists}
use Rattle.crm_classes.specs.Table.{rows as class_rows, above}
use Rattle.crm_properties.specs.Table.{rows}
use Rattle.crm_properties.specs.Names.{crm_space, archaeo_space, extension_space, relation_iri}
use Rattle.time_primitive.specs.declared.DateKind.TheVariants as kind
use Rattle.rdf_vocabulary.specs.Iris.{rdf_type, xsd_g_year, xsd_g_year_month, xsd_date, xsd_date_time, xsd_string}
use Rattle.crm_type_check.specs.declared.Fault.{Fault}
use Rattle.crm_type_check.specs.declared.FaultKind.{FaultKind}
use Rattle.crm_type_check.specs.declared.FaultKind.TheVariants.{C1, C2, C3, D1, R1, R2, R3, R4, A1}
use Rattle.crm_type_check.specs.Relations.{faults_of}

abbrev say : ℕ → Term → Term → Term → ℕ × Triple
say n s p o = (n, record { s = s; p = p; o = o; at = n })

abbrev told : ℕ → FaultKind → Fault
told n kind = record { triple = n; at = n; kind = kind }

relation_names : NameLists
relation_names = record {
  iris = codes "http://e/r" ∷ codes "http://www.w3.org/1999/02/22-rdf-syntax-ns#type" ∷ codes "urn:crmtime:Relation" ∷ codes "urn:crmtime:relation-from" ∷ codes "http://e/a"
      ∷ codes "urn:crmtime:relation-to" ∷ codes "http://e/b" ∷ codes "urn:crmtime:relation-type" ∷ codes "urn:crmtime:AP13-before" ∷ [];
  literals = [];
}

-- a relation without its type, with all parts, and with two ends
without_type : faults_of relation_names (say 0 (Iri 0) (Iri 1) (Iri 2) ∷ say 1 (Iri 0) (Iri 3) (Iri 4) ∷ say 2 (Iri 0) (Iri 5) (Iri 6) ∷ []) ≡ told 0 A1 ∷ []
unfolding relation_names rows class_rows above crm_space archaeo_space extension_space rdf_type relation_iri
without_type = refl

whole_relation :
    faults_of relation_names (say 0 (Iri 0) (Iri 1) (Iri 2) ∷ say 1 (Iri 0) (Iri 3) (Iri 4) ∷ say 2 (Iri 0) (Iri 5) (Iri 6) ∷ say 3 (Iri 0) (Iri 7) (Iri 8) ∷ []) ≡ []
unfolding relation_names rows class_rows above crm_space archaeo_space extension_space rdf_type relation_iri
whole_relation = refl

two_ends :
    faults_of relation_names (say 0 (Iri 0) (Iri 1) (Iri 2) ∷ say 1 (Iri 0) (Iri 3) (Iri 4) ∷ say 2 (Iri 0) (Iri 5) (Iri 6) ∷ say 3 (Iri 0) (Iri 7) (Iri 8)
    ∷ say 4 (Iri 0) (Iri 5) (Iri 4) ∷ []) ≡ told 0 A1 ∷ []
unfolding relation_names rows class_rows above crm_space archaeo_space extension_space rdf_type relation_iri
two_ends = refl

class_names : NameLists
class_names = record {
  iris = codes "http://e/q" ∷ codes "http://www.w3.org/1999/02/22-rdf-syntax-ns#type" ∷ codes "http://www.cidoc-crm.org/cidoc-crm/E5_Event"
      ∷ codes "http://www.cidoc-crm.org/cidoc-crm/E21_Person" ∷ codes "http://www.cidoc-crm.org/cidoc-crm/P176_starts_before" ∷ codes "http://e/y"
      ∷ codes "http://www.cidoc-crm.org/cidoc-crm/E52_Time-Span" ∷ codes "http://www.cidoc-crm.org/cidoc-crm/P9_consists_of"
      ∷ codes "http://www.cidoc-crm.org/cidoc-crm/E2_Temporal_Entity" ∷ codes "http://www.cidoc-crm.org/cidoc-crm/P4i_is_time-span_of"
      ∷ codes "http://www.cidoc-crm.org/cidoc-crm/P3_has_note" ∷ codes "http://www.cidoc-crm.org/cidoc-crm/P82a_begin_of_the_begin"
      ∷ codes "http://www.cidoc-crm.org/cidoc-crm/CRMarchaeo/AP7_produced" ∷ [];
  literals = (record { lexical = codes "soon"; datatype = codes "http://www.w3.org/2001/XMLSchema#string"; tag = [] })
      ∷ (record { lexical = codes "1450"; datatype = codes "http://www.w3.org/2001/XMLSchema#gYear"; tag = [] }) ∷ [];
}

-- classes of two families
families : faults_of class_names (say 0 (Iri 0) (Iri 1) (Iri 2) ∷ say 1 (Iri 0) (Iri 1) (Iri 3) ∷ []) ≡ told 0 C2 ∷ told 1 C2 ∷ []
unfolding class_names rows class_rows above crm_space archaeo_space extension_space rdf_type relation_iri
families = refl

-- a time-span at the domain of a property of periods; an undeclared node is at no fault, and a class above the domain fits
span_at_domain : faults_of class_names (say 0 (Iri 0) (Iri 4) (Iri 5) ∷ say 1 (Iri 0) (Iri 1) (Iri 6) ∷ []) ≡ told 0 D1 ∷ []
unfolding class_names rows class_rows above crm_space archaeo_space extension_space rdf_type relation_iri
span_at_domain = refl

comparable_domain : faults_of class_names (say 0 (Iri 0) (Iri 1) (Iri 8) ∷ say 1 (Iri 0) (Iri 7) (Iri 5) ∷ []) ≡ []
unfolding class_names rows class_rows above crm_space archaeo_space extension_space rdf_type relation_iri
comparable_domain = refl

-- the inverse swaps the ends: its subject is a time-span, its object no period
inverse_ends : faults_of class_names (say 0 (Iri 0) (Iri 9) (Iri 5) ∷ say 1 (Iri 0) (Iri 1) (Iri 2) ∷ say 2 (Iri 5) (Iri 1) (Iri 3) ∷ []) ≡ told 0 D1 ∷ told 0 R1 ∷ []
unfolding class_names rows class_rows above crm_space archaeo_space extension_space rdf_type relation_iri
inverse_ends = refl

-- a literal and a property as types; AP7 is not checked
odd_types : faults_of class_names (say 0 (Iri 0) (Iri 1) (Lit 0) ∷ say 1 (Iri 0) (Iri 1) (Iri 4) ∷ say 2 (Iri 0) (Iri 12) (Lit 0) ∷ []) ≡ told 0 C1 ∷ told 1 C3 ∷ []
unfolding class_names rows class_rows above crm_space archaeo_space extension_space rdf_type relation_iri
odd_types = refl

-- a literal in place of an instance, no literal in place of a text, and texts that are and are no dates
literals : faults_of class_names (say 0 (Iri 0) (Iri 4) (Lit 0) ∷ say 1 (Iri 0) (Iri 10) (Iri 5) ∷ say 2 (Iri 0) (Iri 10) (Lit 0) ∷ say 3 (Iri 0) (Iri 11) (Blank 0)
    ∷ say 4 (Iri 0) (Iri 11) (Lit 1) ∷ say 5 (Iri 0) (Iri 11) (Lit 0) ∷ [])
    ≡ told 0 R2 ∷ told 1 R3 ∷ told 3 R3 ∷ told 5 (R4 (record { kind = kind.Form; at = 0 })) ∷ []
unfolding class_names rows class_rows above crm_space archaeo_space extension_space rdf_type relation_iri xsd_g_year xsd_g_year_month xsd_date xsd_date_time xsd_string
literals = refl
