-- Full relations.
use Rattle.std.proofs.Common.{◌≡◌, ℕ, inl, inr, Bool, true, false, true≢false, ◌&&◌, cond, Option, Some, None, List, [], ◌∷◌, filter, refl, sym, ap, subst, ◌∙◌}
use Rattle.std.specs.Prelude.{◌==◌, ⊤}
use Rattle.std.specs.Option.{option_map}
use Rattle.std.specs.List.{IsDistinct, AllByRecursion}
use Rattle.rdf_terms.specs.declared.terms.Term.{Term}
use Rattle.rdf_terms.specs.declared.terms.Triple.{Triple}
use Rattle.rdf_terms.specs.Terms.{same_term, same_terms}
use Rattle.rdf_terms.specs.Naming.{NameLists}
use Rattle.crm_properties.specs.declared.Prop.{Prop}
use Rattle.crm_properties.specs.PropertyNumbers.{is_typed_relation}
use Rattle.crm_type_check.specs.declared.own.OwnFaults.{OwnFaults}
use Rattle.crm_type_check.specs.declared.relation.Occurrence.{Occurrence}
use Rattle.crm_type_check.specs.declared.relation.Occurrence.TheVariants.{Absent, Once, Repeated}
use Rattle.crm_type_check.specs.declared.relation.Relation.{Relation}
use Rattle.crm_type_check.specs.Meaning.{passes, property_of}
use Rattle.crm_type_check.specs.Faults.{Declared, own_faults, is_sound}
use Rattle.crm_type_check.specs.Relations.{has_property, occurrence, relation_by, relation_with}
use Rattle.record_laws.specs.Renaming.{IsRenamed, renamed_relation}
use Rattle.record_laws.proofs.OneWay.{OneWay}
use Rattle.record_laws.proofs.Members.{In, goes, comes, same_terms-from}
use Rattle.record_laws.proofs.Owning.{property_same, subject_same, own_same}

filter_in : {X : Type 0} (P : X → Bool) (xs : List X) (x : X) → In x xs → P x ≡ true → In x (filter P xs)
filter_in P [] x h p = absurd h
filter_in {X} P (y ∷ ys) x h p = by (P y) refl h (λ i. filter_in P ys x i p)
  where
    by : (b : Bool) → P y ≡ b → In x (y ∷ ys) → (In x ys → In x (filter P ys)) → In x (cond b (y ∷ filter P ys) (filter P ys))
    by true e (inl q) rest = inl q
    by true e (inr q) rest = inr (rest q)
    by false e (inl q) rest = absurd (true≢false (sym p ∙ ap P q ∙ e))
    by false e (inr q) rest = rest q

in_filter : {X : Type 0} (P : X → Bool) (xs : List X) (x : X) → In x (filter P xs) → In x xs × (P x ≡ true)
in_filter P [] x h = absurd h
in_filter {X} P (y ∷ ys) x h = by (P y) refl h (in_filter P ys x)
  where
    by : (b : Bool) → P y ≡ b → In x (cond b (y ∷ filter P ys) (filter P ys)) → (In x (filter P ys) → In x ys × (P x ≡ true)) → In x (y ∷ ys) × (P x ≡ true)
    by true e (inl q) rest = (inl q, ap P q ∙ e)
    by true e (inr q) rest = let r = rest q in (inr r.0, r.1)
    by false e q rest = let r = rest q in (inr r.0, r.1)

all_in : {X : Type 0} (Q : X → Type 0) (xs : List X) → AllByRecursion Q xs → (x : X) → In x xs → Q x
all_in Q [] h x i = absurd i
all_in Q (y ∷ ys) h x (inl e) = subst Q (sym e) h.0
all_in Q (y ∷ ys) h x (inr i) = all_in Q ys h.1 x i

in_all : {X : Type 0} (Q : X → Type 0) (xs : List X) → ((x : X) → In x xs → Q x) → AllByRecursion Q xs
in_all Q [] h = tt
in_all Q (y ∷ ys) h = (h y (inl refl), in_all Q ys (λ x i. h x (inr i)))

filter_distinct : {X : Type 0} (e : X → X → Bool) (P : X → Bool) (xs : List X) → IsDistinct e xs → IsDistinct e (filter P xs)
unfolding IsDistinct
filter_distinct e P [] h = tt
filter_distinct {X} e P (y ∷ ys) h = by (P y) (filter_distinct e P ys h.1)
  where
    by : (b : Bool) → IsDistinct e (filter P ys) → IsDistinct e (cond b (y ∷ filter P ys) (filter P ys))
    by true rest = (in_all (λ x. e y x ≡ false) (filter P ys) (λ x i. all_in (λ x. e y x ≡ false) ys h.0 x (in_filter P ys x i).0), rest)
    by false rest = rest

-- what is asked of two that stand first
first_two : {X : Type 0} (e : X → X → Bool) (x y : X) (zs : List X) → IsDistinct e (x ∷ y ∷ zs) → e x y ≡ false
unfolding IsDistinct
first_two e x y zs h = h.0.0

-- the one that is there, renamed; or none, or several
abbrev pub AreAlike : (Term → Term) → Occurrence → Occurrence → Type 0
AreAlike m Absent Absent = ⊤
AreAlike m Absent (Once u) = ⊥
AreAlike m Absent Repeated = ⊥
AreAlike m (Once t) Absent = ⊥
AreAlike m (Once t) (Once u) = IsRenamed m t u
AreAlike m (Once t) Repeated = ⊥
AreAlike m Repeated Absent = ⊥
AreAlike m Repeated (Once u) = ⊥
AreAlike m Repeated Repeated = ⊤

-- two lists of distinct triples, of which each one's are the other's renamed
module _ (m : Term → Term) (apart : (t u : Term) → same_term (m t) (m u) ≡ same_term t u) where
  renamed_same : (t t' u u' : Triple) → IsRenamed m t u → IsRenamed m t' u' → same_terms u u' ≡ same_terms t t'
  renamed_same t t' u u' r r' = rw (r.s, r.p, r.o, r'.s, r'.p, r'.o, apart t.s t'.s, apart t.p t'.p, apart t.o t'.o) refl

  one_renamed : (t u u' : Triple) → IsRenamed m t u → IsRenamed m t u' → same_terms u u' ≡ true
  one_renamed t u u' r r' = same_terms-from u u' (r.s ∙ sym r'.s) (r.p ∙ sym r'.p) (r.o ∙ sym r'.o)

  both_of_one : (t t' u : Triple) → IsRenamed m t u → IsRenamed m t' u → same_terms t t' ≡ true
  both_of_one t t' u r r' = sym (renamed_same t t' u u r r') ∙ same_terms-from u u refl refl refl

  occurrence_same : (ts us : List Triple) → IsDistinct same_terms ts → IsDistinct same_terms us
      → ((t : Triple) → In t ts → (u : Triple) × In u us × IsRenamed m t u) → ((u : Triple) → In u us → (t : Triple) × In t ts × IsRenamed m t u)
      → AreAlike m (occurrence ts) (occurrence us)
  occurrence_same [] [] dt du go come = tt
  occurrence_same [] (u ∷ []) dt du go come = (come u (inl refl)).1
  occurrence_same [] (u ∷ v ∷ us) dt du go come = (come u (inl refl)).1
  occurrence_same (t ∷ []) [] dt du go come = (go t (inl refl)).1
  occurrence_same (t ∷ s ∷ ts) [] dt du go come = (go t (inl refl)).1
  occurrence_same (t ∷ []) (u ∷ []) dt du go come = let g = go t (inl refl) in by g.0 g.1 g.2
    where
      by : (x : Triple) → In x (u ∷ []) → IsRenamed m t x → IsRenamed m t u
      by x (inl e) r = subst (λ (y : Triple). IsRenamed m t y) e r
      by x (inr never) r = absurd never
  occurrence_same (t ∷ []) (u ∷ v ∷ us) dt du go come =
      let a = come u (inl refl) in
      let b = come v (inr (inl refl)) in
      let ra : IsRenamed m t u = one a.0 u a.1 a.2 in
      let rb : IsRenamed m t v = one b.0 v b.1 b.2 in
      true≢false (sym (one_renamed t u v ra rb) ∙ first_two same_terms u v us du)
    where
      one : (x y : Triple) → In x (t ∷ []) → IsRenamed m x y → IsRenamed m t y
      one x y (inl e) r = subst (λ (z : Triple). IsRenamed m z y) e r
      one x y (inr never) r = absurd never
  occurrence_same (t ∷ s ∷ ts) (u ∷ []) dt du go come =
      let a = go t (inl refl) in
      let b = go s (inr (inl refl)) in
      let ra : IsRenamed m t u = one t a.0 a.1 a.2 in
      let rb : IsRenamed m s u = one s b.0 b.1 b.2 in
      true≢false (sym (both_of_one t s u ra rb) ∙ first_two same_terms t s ts dt)
    where
      one : (x y : Triple) → In y (u ∷ []) → IsRenamed m x y → IsRenamed m x u
      one x y (inl e) r = subst (λ (z : Triple). IsRenamed m x z) e r
      one x y (inr never) r = absurd never
  occurrence_same (t ∷ s ∷ ts) (u ∷ v ∷ us) dt du go come = tt

module _ (names other : NameLists) (triples others : List Triple) (m : Term → Term) (same : OneWay names triples other others m) where
  has_property_same : (t u : Triple) (node : Term) (code : ℕ) → IsRenamed m t u → has_property other (m node) code u ≡ has_property names node code t
  has_property_same t u node code r =
      ap (λ (b : Bool). b && passes (λ p. p.code == code) (property_of other u.p)) (subject_same names other m same.renaming t u node r)
      ∙ ap (λ (o : Option Prop). same_term t.s node && passes (λ p. p.code == code) o) (property_same names other m same.renaming t.p u.p r.p)

  -- the triples of a node with a property
  pub part_same : (node : Term) (code : ℕ) → AreAlike m (occurrence (filter (has_property names node code) triples)) (occurrence (filter (has_property other (m node) code) others))
  part_same node code =
      occurrence_same m same.renaming.apart (filter P triples) (filter Q others) (filter_distinct same_terms P triples same.distinct) (filter_distinct same_terms Q others same.others_distinct)
      (λ t i. let h = in_filter P triples t i in let g = goes names other triples others m same t h.0 in (g.0, filter_in Q others g.0 g.1 (has_property_same t g.0 node code g.2 ∙ h.1), g.2))
      (λ u i. let h = in_filter Q others u i in let g = comes names other triples others m same u h.0 in (g.0, filter_in P triples g.0 g.1 (sym (has_property_same g.0 u node code g.2) ∙ h.1), g.2))
    where
      P : Triple → Bool
      P = has_property names node code

      Q : Triple → Bool
      Q = has_property other (m node) code

  module _ (d e : Declared) (declared : (node : Term) (test : ℕ → Bool) → e (m node) test ≡ d node test) where
    by_same : (f f' t t' : Triple) (o : Option Prop) → IsRenamed m f f' → IsRenamed m t t' → relation_by f' t' o ≡ option_map (renamed_relation m) (relation_by f t o)
    by_same f f' t t' None rf rt = refl
    by_same f f' t t' (Some p) rf rt = by (is_typed_relation p.code)
      where
        by : (b : Bool) → cond b (Some (record { from = f'.o; to = t'.o; kind = p.code })) None ≡ option_map (renamed_relation m) (cond b (Some (record { from = f.o; to = t.o; kind = p.code })) None)
        by true = rw (rf.o, rt.o) refl
        by false = refl

    when_same : (b c : Bool) (x : Option Relation) (y : Option Relation) → c ≡ b → y ≡ option_map (renamed_relation m) x → cond c y None ≡ option_map (renamed_relation m) (cond b x None)
    when_same true c x y p q = rw p q
    when_same false c x y p q = rw p refl

    -- a full relation becomes that of the renamed ends
    pub with_same : (f t k f' t' k' : Occurrence) → AreAlike m f f' → AreAlike m t t' → AreAlike m k k' → relation_with other e f' t' k' ≡ option_map (renamed_relation m) (relation_with names d f t k)
    with_same (Once f) (Once t) (Once k) (Once f') (Once t') (Once k') rf rt rk =
        when_same (is_sound (own_faults names d f) && is_sound (own_faults names d t)) (is_sound (own_faults other e f') && is_sound (own_faults other e t')) _ _
        (ap (λ (x : OwnFaults). is_sound x && is_sound (own_faults other e t')) (own_same names other m same.renaming d e declared f f' rf)
        ∙ ap (λ (x : OwnFaults). is_sound (own_faults names d f) && is_sound x) (own_same names other m same.renaming d e declared t t' rt))
        (ap (λ (o : Option Prop). relation_by f' t' o) (property_same names other m same.renaming k.o k'.o rk.o) ∙ by_same f f' t t' (property_of names k.o) rf rt)
    with_same Absent t k Absent t' k' rf rt rk = refl
    with_same Repeated t k Repeated t' k' rf rt rk = refl
    with_same (Once f) Absent k (Once f') Absent k' rf rt rk = refl
    with_same (Once f) Repeated k (Once f') Repeated k' rf rt rk = refl
    with_same (Once f) (Once t) Absent (Once f') (Once t') Absent rf rt rk = refl
    with_same (Once f) (Once t) Repeated (Once f') (Once t') Repeated rf rt rk = refl
    with_same Absent t k (Once f') t' k' rf rt rk = absurd rf
    with_same Absent t k Repeated t' k' rf rt rk = absurd rf
    with_same (Once f) t k Absent t' k' rf rt rk = absurd rf
    with_same (Once f) t k Repeated t' k' rf rt rk = absurd rf
    with_same Repeated t k Absent t' k' rf rt rk = absurd rf
    with_same Repeated t k (Once f') t' k' rf rt rk = absurd rf
    with_same (Once f) Absent k (Once f') (Once t') k' rf rt rk = absurd rt
    with_same (Once f) Absent k (Once f') Repeated k' rf rt rk = absurd rt
    with_same (Once f) (Once t) k (Once f') Absent k' rf rt rk = absurd rt
    with_same (Once f) (Once t) k (Once f') Repeated k' rf rt rk = absurd rt
    with_same (Once f) Repeated k (Once f') Absent k' rf rt rk = absurd rt
    with_same (Once f) Repeated k (Once f') (Once t') k' rf rt rk = absurd rt
    with_same (Once f) (Once t) Absent (Once f') (Once t') (Once k') rf rt rk = absurd rk
    with_same (Once f) (Once t) Absent (Once f') (Once t') Repeated rf rt rk = absurd rk
    with_same (Once f) (Once t) (Once k) (Once f') (Once t') Absent rf rt rk = absurd rk
    with_same (Once f) (Once t) (Once k) (Once f') (Once t') Repeated rf rt rk = absurd rk
    with_same (Once f) (Once t) Repeated (Once f') (Once t') Absent rf rt rk = absurd rk
    with_same (Once f) (Once t) Repeated (Once f') (Once t') (Once k') rf rt rk = absurd rk
