-- What is noted after one triple more.
use Rattle.std.proofs.Common.{ℕ, zero, suc, ◌≡◌, ◌<◌, ◌&&◌, ◌||◌, ◌++◌, Bool, true, false, cond, Option, Some, None, List, [], ◌∷◌, map, filter, get_or, length, nat_eq, refl, sym, ap, ap₂, ◌∙◌, arith, inl, inr, subst, ◌==◌}
use Rattle.std.specs.Prelude.{slice_set, replicate}
use Rattle.std.proofs.lemmas.Bool.{cases_eq, eq-eqb, ne_eqb}
use Rattle.std.proofs.lemmas.List.{get_or-set_same, get_or-set_other, length-set, map-append, append-nil}
use Rattle.std.proofs.lemmas.List.Folds.{list_any-append}
use Rattle.std.proofs.lemmas.List.Elements.{filter-append}
use Rattle.rdf_terms.specs.declared.terms.Term.{Term}
use Rattle.rdf_terms.specs.declared.terms.Triple.{Triple}
use Rattle.rdf_terms.specs.Terms.{same_term}
use Rattle.rdf_terms.specs.Naming.{NameLists}
use Rattle.crm_properties.specs.declared.Prop.{Prop}
use Rattle.crm_properties.specs.PropertyNumbers.{relation_from, relation_to, relation_type}
use Rattle.crm_type_check.specs.declared.classes.ClassSet.{ClassSet}
use Rattle.crm_type_check.specs.declared.relation.Occurrence.{Occurrence}
use Rattle.crm_type_check.specs.declared.relation.RelationParts.{RelationParts}
use Rattle.crm_type_check.specs.Meaning.{passes, class_of, is_type, property_of}
use Rattle.crm_type_check.specs.Faults.{declares, declared_in}
use Rattle.crm_type_check.specs.Relations.{has_property, with_property, occurrence}
use Rattle.crm_type_check.specs.Index.{no_classes, no_parts, is_marked, with_mark, set_after, once_more, with_part, parts_after, IsIndex}

or_false : (b : Bool) → b ≡ (b || false)
or_false true = refl
or_false false = refl

-- a mark of class d is one more for d alone
mark_after : (b e : Bool) (o : Option ℕ) (set : ClassSet) (c : ℕ) → c < length set.marks →
    is_marked (cond (b && e) (with_mark o set) set) c ≡ (is_marked set c || (b && (e && passes (nat_eq c) o)))
mark_after false e o set c l = or_false (is_marked set c)
mark_after true false o set c l = or_false (is_marked set c)
mark_after true true None set c l = or_false (is_marked set c)
mark_after true true (Some d) set c l =
    elim (cases_eq c d) [
      | inl same ↦
          subst (λ (n : ℕ). get_or (slice_set set.marks n true) c false ≡ (is_marked set c || nat_eq c n)) same
          (get_or-set_same set.marks c true false l ∙ sym (or_true (is_marked set c) (nat_eq c c) (eq-eqb c c refl)))
      | inr differs ↦
          get_or-set_other set.marks d c true false differs ∙ or_false (is_marked set c) ∙ ap (λ (b : Bool). is_marked set c || b) (sym (ne_eqb c d differs))
    ]
  where
    or_true : (a b : Bool) → b ≡ true → (a || b) ≡ true
    or_true true b h = refl
    or_true false b h = h

size_after : (b : Bool) (o : Option ℕ) (set : ClassSet) → length set.marks ≡ 71 → length (cond b (with_mark o set) set).marks ≡ 71
size_after false o set h = h
size_after true None set h = h
size_after true (Some d) set h = length-set set.marks d true ∙ h

one_more : (ts : List Triple) (t : Triple) → occurrence (ts ++ t ∷ []) ≡ once_more (occurrence ts) t
one_more [] t = refl
one_more (u ∷ []) t = refl
one_more (u ∷ v ∷ ts) t = refl

-- the triples with a property, with one triple more
also : (names : NameLists) (ps : List (ℕ × Triple)) (n : ℕ) (t : Triple) (node : Term) (code : ℕ) →
    occurrence (with_property names (ps ++ (n, t) ∷ []) node code)
    ≡ cond (has_property names node code t) (once_more (occurrence (with_property names ps node code)) t) (occurrence (with_property names ps node code))
also names ps n t node code =
    ap (λ (ts : List Triple). occurrence (filter (has_property names node code) ts)) (map-append (λ (p : ℕ × Triple). p.1) ps ((n, t) ∷ []))
    ∙ ap occurrence (filter-append (has_property names node code) (map (λ (p : ℕ × Triple). p.1) ps) (t ∷ []))
    ∙ by (has_property names node code t)
  where
    by : (b : Bool) → occurrence (with_property names ps node code ++ cond b (t ∷ []) [])
        ≡ cond b (once_more (occurrence (with_property names ps node code)) t) (occurrence (with_property names ps node code))
    by true = one_more (with_property names ps node code) t
    by false = ap occurrence (append-nil (with_property names ps node code))

parts_grown : (same : Bool) (o : Option Prop) (t : Triple) (parts : RelationParts) →
    cond same (with_part o t parts) parts
    ≡ record {
      from = cond (same && passes (λ p. p.code == relation_from) o) (once_more parts.from t) parts.from;
      to = cond (same && passes (λ p. p.code == relation_to) o) (once_more parts.to t) parts.to;
      kind = cond (same && passes (λ p. p.code == relation_type) o) (once_more parts.kind t) parts.kind;
    }
parts_grown false o t parts = refl
parts_grown true None t parts = refl
parts_grown true (Some p) t parts = refl

same_parts : (f t k g u l : Occurrence) → f ≡ g → t ≡ u → k ≡ l →
    let left : RelationParts = record { from = f; to = t; kind = k } in
    let right : RelationParts = record { from = g; to = u; kind = l } in
    left ≡ right
same_parts f t k g u l a b c =
    ap₂ (λ (x y : Occurrence). let whole : RelationParts = record { from = x; to = y; kind = k } in whole) a b
    ∙ ap (λ (z : Occurrence). let whole : RelationParts = record { from = g; to = u; kind = z } in whole) c

pub index_starts : (names : NameLists) (sets : Term → ClassSet) (relations : Term → RelationParts) →
    ((node : Term) → sets node ≡ no_classes) → ((node : Term) → relations node ≡ no_parts) → IsIndex names [] sets relations
index_starts names sets relations classes parts = record {
  marks = λ node c l. ap (λ (s : ClassSet). is_marked s c) (classes node) ∙ unmarked 71 c;
  sizes = λ node. ap (λ (s : ClassSet). length s.marks) (classes node);
  parts = parts;
}
  where
    unmarked : (n c : ℕ) → get_or (replicate n false) c false ≡ false
    unmarked zero c = refl
    unmarked (suc n) zero = refl
    unmarked (suc n) (suc c) = unmarked n c

pub index_grows : (names : NameLists) (ps : List (ℕ × Triple)) (n : ℕ) (t : Triple) (sets news : Term → ClassSet) (relations others : Term → RelationParts) →
    IsIndex names ps sets relations → ((node : Term) → news node ≡ set_after names t node (sets node)) →
    ((node : Term) → others node ≡ parts_after names t node (relations node)) → IsIndex names (ps ++ (n, t) ∷ []) news others
index_grows names ps n t sets news relations others index classes parts = record {
  marks = λ node c l. marks node c l;
  sizes = λ node. ap (λ (s : ClassSet). length s.marks) (classes node)
      ∙ size_after (same_term t.s node && is_type names t) (class_of names t.o) (sets node) (index.sizes node);
  parts = λ node. parts node
      ∙ parts_grown (same_term t.s node) (property_of names t.p) t (relations node)
      ∙ ap (λ (r : RelationParts). let whole : RelationParts = record {
        from = cond (has_property names node relation_from t) (once_more r.from t) r.from;
        to = cond (has_property names node relation_to t) (once_more r.to t) r.to;
        kind = cond (has_property names node relation_type t) (once_more r.kind t) r.kind;
      } in whole) (index.parts node)
      ∙ same_parts _ _ _ _ _ _ (sym (also names ps n t node relation_from)) (sym (also names ps n t node relation_to)) (sym (also names ps n t node relation_type));
}
  where
    marks : (node : Term) (c : ℕ) → c < 71 → is_marked (news node) c ≡ declared_in names (ps ++ (n, t) ∷ []) node (nat_eq c)
    marks node c l =
        ap (λ (s : ClassSet). is_marked s c) (classes node)
        ∙ mark_after (same_term t.s node) (is_type names t) (class_of names t.o) (sets node) c (omega (arith, index.sizes node))
        ∙ ap (λ (b : Bool). b || declares names node (nat_eq c) t) (index.marks node c l)
        ∙ ap (λ (b : Bool). declared_in names ps node (nat_eq c) || b) (or_false (declares names node (nat_eq c) t))
        ∙ sym (list_any-append (λ (p : ℕ × Triple). declares names node (nat_eq c) p.1) ps ((n, t) ∷ []))
