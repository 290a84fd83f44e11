-- The types and the triples that are due, with one triple or fault more.
use Rattle.std.proofs.Common.{◌≡◌, ℕ, ◌+◌, ◌<◌, ◌++◌, Option, Some, List, [], ◌∷◌, filter, get_or, length, map, slice_get, take, sym, ap, ap₂, ◌∙◌}
use Rattle.std.specs.List.{cons_option, filter_map}
use Rattle.std.proofs.lemmas.List.{map-append}
use Rattle.std.proofs.lemmas.List.Elements.{filter-append, filter_map-append}
use Rattle.std.proofs.lemmas.Option.{get_or_from_slice_get, slice_get_within}
use Rattle.rdf_terms.specs.declared.terms.Triple.{Triple}
use Rattle.rdf_terms.specs.Naming.{NameLists}
use Rattle.triple_pool.specs.Pool.{number_from}
use Rattle.triple_pool.proofs.Listing.{number_take}
use Rattle.crm_type_check.specs.declared.Fault.{Fault}
use Rattle.certificate_checker.specs.declared.class_judge.TypeRow.{TypeRow}
use Rattle.boundary_orders.proofs.Growing.{take_grow}
use Rattle.crm_certify.specs.Types.{type_row, is_c2, due_of}

numbered_next : (ts : List Triple) (i : ℕ) (t : Triple) → slice_get ts i ≡ Some t → number_from 0 (take i ts) ++ (i, t) ∷ [] ≡ number_from 0 (take (i + 1) ts)
numbered_next ts i t at =
    ap (λ (u : Triple). number_from 0 (take i ts) ++ (i, u) ∷ []) (sym (get_or_from_slice_get ts i t t at)) ∙ number_take ts i t (slice_get_within ts i t at)

pub types_grow : (names : NameLists) (ts : List Triple) (i : ℕ) (t : Triple) (old new : List TypeRow) (row : Option TypeRow) → slice_get ts i ≡ Some t →
    row ≡ type_row names (i, t) → old ≡ filter_map (type_row names) (number_from 0 (take i ts)) → new ≡ old ++ cons_option row [] →
    new ≡ filter_map (type_row names) (number_from 0 (take (i + 1) ts))
types_grow names ts i t old new row at is before after =
    after
    ∙ ap₂ (λ (rows : List TypeRow) (o : Option TypeRow). rows ++ cons_option o []) before is
    ∙ sym (filter_map-append (type_row names) (number_from 0 (take i ts)) ((i, t) ∷ []))
    ∙ ap (filter_map (type_row names)) (numbered_next ts i t at)

due_append : (fs gs : List Fault) → due_of (fs ++ gs) ≡ due_of fs ++ due_of gs
due_append fs gs =
    ap (map (λ (f : Fault). f.triple)) (filter-append (λ f. is_c2 f.kind) fs gs)
    ∙ map-append (λ (f : Fault). f.triple) (filter (λ f. is_c2 f.kind) fs) (filter (λ f. is_c2 f.kind) gs)

-- of a list that is read to an index
pub due_grow : (read fs : List Fault) (i : ℕ) (d : Fault) (old new : List ℕ) → read ≡ fs → i < length read →
    old ≡ due_of (take i fs) → new ≡ old ++ due_of (get_or read i d ∷ []) → new ≡ due_of (take (i + 1) fs)
due_grow read fs i d old new same within before after =
    after
    ∙ ap (λ (ns : List ℕ). ns ++ due_of (get_or read i d ∷ [])) before
    ∙ sym (due_append (take i fs) (get_or read i d ∷ []))
    ∙ ap due_of (take_grow read fs i d same within)
