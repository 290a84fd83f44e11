-- Faults appended piece by piece, and the faults of all triples.
use Rattle.std.proofs.Common.{ℕ, ◌≡◌, ◌++◌, Bool, List, [], ◌∷◌, map, sym, ap, ap₂, ◌∙◌, append_assoc}
use Rattle.std.specs.List.{flat_map}
use Rattle.std.proofs.Math.Path.{fun_ext}
use Rattle.std.proofs.lemmas.List.{map-append, append-nil}
use Rattle.std.proofs.lemmas.Grind.{flat_map-append}
use Rattle.rdf_terms.specs.declared.terms.Term.{Term}
use Rattle.rdf_terms.specs.declared.terms.Triple.{Triple}
use Rattle.rdf_terms.specs.Naming.{NameLists}
use Rattle.crm_type_check.specs.declared.FaultKind.{FaultKind}
use Rattle.crm_type_check.specs.declared.Fault.{Fault}
use Rattle.crm_type_check.specs.declared.own.OwnFaults.{OwnFaults}
use Rattle.crm_type_check.specs.declared.classes.ClassSet.{ClassSet}
use Rattle.crm_type_check.specs.declared.relation.RelationParts.{RelationParts}
use Rattle.crm_type_check.specs.Faults.{Declared, declared_in, own_faults}
use Rattle.crm_type_check.specs.Relations.{parts_in, relation_by_parts, relation_of, has_a1, kinds, kinds_by, kinds_of, fault_at, faults_at}
use Rattle.crm_type_check.specs.Index.{by_marks, IsIndex}
use Rattle.crm_type_check.proofs.Declaring.{marks_declare}

pub add_map : {A B : Type 0} (f : A → B) (xs : List B) (ys zs : List A) → (xs ++ map f ys) ++ map f zs ≡ xs ++ map f (ys ++ zs)
add_map f xs ys zs = append_assoc xs (map f ys) (map f zs) ∙ ap (λ l. xs ++ l) (sym (map-append f ys zs))

-- what is noted tells the faults
pub kinds_noted : (names : NameLists) (ps : List (ℕ × Triple)) (sets : Term → ClassSet) (relations : Term → RelationParts) → IsIndex names ps sets relations →
    (t : Triple) → kinds_by names (by_marks sets) relations t ≡ kinds_of names ps t
kinds_noted names ps sets relations index t =
    let classes : by_marks sets ≡ declared_in names ps = fun_ext (λ node. fun_ext (λ test. marks_declare names ps sets relations index node test)) in
    let parts : relations ≡ parts_in names ps = fun_ext (λ node. index.parts node) in
    ap₂ (λ (d : Declared) (r : Term → RelationParts). kinds_by names d r t) classes parts

-- what is noted tells the relations
pub relation_noted : (names : NameLists) (ps : List (ℕ × Triple)) (sets : Term → ClassSet) (relations : Term → RelationParts) → IsIndex names ps sets relations →
    (node : Term) → relation_by_parts names (by_marks sets) (relations node) ≡ relation_of names ps node
relation_noted names ps sets relations index node =
    let classes : by_marks sets ≡ declared_in names ps = fun_ext (λ node. fun_ext (λ test. marks_declare names ps sets relations index node test)) in
    ap₂ (relation_by_parts names) classes (index.parts node)

-- the faults of one triple more
pub faults_grow : (names : NameLists) (ps done : List (ℕ × Triple)) (n : ℕ) (t : Triple) (old new : List Fault) (own : OwnFaults) (partial : Bool)
    (sets : Term → ClassSet) (relations : Term → RelationParts) → IsIndex names ps sets relations →
    own ≡ own_faults names (by_marks sets) t → partial ≡ has_a1 names (by_marks sets) relations t →
    old ≡ flat_map (faults_at names ps) done → new ≡ old ++ map (fault_at n t) (kinds own partial) →
    new ≡ flat_map (faults_at names ps) (done ++ (n, t) ∷ [])
faults_grow names ps done n t old new own partial sets relations index owns partly before after =
    let told : kinds own partial ≡ kinds_of names ps t = ap₂ kinds owns partly ∙ kinds_noted names ps sets relations index t in
    after
    ∙ ap₂ (λ (xs : List Fault) (ks : List FaultKind). xs ++ map (fault_at n t) ks) before told
    ∙ ap (λ (xs : List Fault). flat_map (faults_at names ps) done ++ xs) (sym (append-nil (faults_at names ps (n, t))))
    ∙ sym (flat_map-append (faults_at names ps) done ((n, t) ∷ []))
