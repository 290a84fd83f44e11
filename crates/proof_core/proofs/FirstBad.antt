-- The nodes before the first bad one are those that the check counts.
use Rattle.std.proofs.Common.{arith, ◌≡◌, ◌≢◌, ◌<◌, ◌≤◌, ◌+◌, ◌-◌, ◌⊎◌, inl, inr, ℕ, zero, suc, Option, Some, None, List, [], ◌∷◌, ◌++◌, length, get_or, refl, ap, ◌∙◌, length-append}
use Rattle.std.proofs.lemmas.List.{get_or_append_left, get_or-append_right, map-append}
use Rattle.std.proofs.lemmas.Bool.{cases_lt}
use Rattle.proof_core.specs.declared.trees.Proof.{Proof}
use Rattle.proof_core.specs.declared.trees.Proof.TheVariants.{Leaf, One', Two'}
use Rattle.proof_core.specs.Rules.{Rules}
use Rattle.proof_core.specs.Proofs.{conclusion, conclusions, nodes, node_count, passed, good_nodes, IsFirstNone, IsFirstBad, gives_one, gives_two}

pub none_or_some : {F : Type 0} (o : Option F) → (o ≡ None) ⊎ ((f : F) × (o ≡ Some f))
none_or_some None = inl refl
none_or_some (Some f) = inr (f, refl)

pub some_is_not_none : {F : Type 0} (o : Option F) (f : F) → o ≡ Some f → o ≢ None
some_is_not_none None f e n = absurd (cc e)
some_is_not_none (Some g) f e n = absurd (cc n)

abbrev AllSome : {F : Type 0} → List (Option F) → Type 0
AllSome os = (i : ℕ) → i < length os → get_or os i None ≢ None

all_append : {F : Type 0} (xs ys : List (Option F)) → AllSome xs → AllSome ys → AllSome (xs ++ ys)
all_append xs ys f g i h = elim (cases_lt i (length xs)) [
  | inl lt ↦ rw (get_or_append_left xs ys None i lt) (f i lt)
  | inr ge ↦ rw (get_or-append_right xs ys (length xs) i None refl ge) (g (i - length xs) (omega (arith, length-append xs ys)))
]

all_one : {F : Type 0} (o : Option F) → o ≢ None → AllSome (o ∷ [])
all_one o some zero h = some
all_one o some (suc i) h = absurd (omega arith)

first_left : {F : Type 0} (xs ys : List (Option F)) (n : ℕ) → IsFirstNone xs n → IsFirstNone (xs ++ ys) n
first_left xs ys n s = record {
  within = omega (arith, length-append xs ys, s.within);
  bad = get_or_append_left xs ys None n s.within ∙ s.bad;
  first = λ i h. (let lt : i < length xs = omega (arith, s.within) in rw (get_or_append_left xs ys None i lt) (s.first i h));
}

first_right : {F : Type 0} (xs ys : List (Option F)) (n : ℕ) → AllSome xs → IsFirstNone ys n → IsFirstNone (xs ++ ys) (length xs + n)
first_right xs ys n all s = record {
  within = omega (arith, length-append xs ys, s.within);
  bad = (let ge : length xs ≤ length xs + n = omega arith in
      let back : length xs + n - length xs ≡ n = omega arith in
      get_or-append_right xs ys (length xs) (length xs + n) None refl ge ∙ rw back s.bad);
  first = λ i h. elim (cases_lt i (length xs)) [
    | inl lt ↦ rw (get_or_append_left xs ys None i lt) (all i lt)
    | inr ge ↦ rw (get_or-append_right xs ys (length xs) i None refl ge) (s.first (i - length xs) (omega arith))
  ];
}

first_here : {F : Type 0} (o : Option F) → o ≡ None → IsFirstNone (o ∷ []) 0
first_here o e = record {
  within = omega arith;
  bad = e;
  first = λ i h. absurd (omega arith);
}

conclusions-One : {L R J F : Type 0} (t : Rules L R J F) (r : R) (x : Proof L R J) (p : _) →
    conclusions t (One' r p x) ≡ conclusions t x ++ gives_one (t.one r) (conclusion t x) ∷ []
conclusions-One t r x p = map-append (conclusion t) (nodes x) (One' r p x ∷ [])

conclusions-Two : {L R J F : Type 0} (t : Rules L R J F) (j : J) (x y : Proof L R J) (p q : _) →
    conclusions t (Two' j p x q y) ≡ conclusions t x ++ conclusions t y ++ gives_two (t.two j) (conclusion t x) (conclusion t y) ∷ []
conclusions-Two t j x y p q =
    map-append (conclusion t) (nodes x ++ nodes y) (Two' j p x q y ∷ [])
    ∙ ap (λ os. os ++ gives_two (t.two j) (conclusion t x) (conclusion t y) ∷ []) (map-append (conclusion t) (nodes x) (nodes y))

pub length-conclusions : {L R J F : Type 0} (t : Rules L R J F) (x : Proof L R J) → length (conclusions t x) ≡ node_count x
length-conclusions t (Leaf l) = refl
length-conclusions t (One' r p x) =
    rw (conclusions-One t r x p, length-append (conclusions t x) (gives_one (t.one r) (conclusion t x) ∷ []), length-conclusions t x) refl
length-conclusions t (Two' j p x q y) =
    let h = gives_two (t.two j) (conclusion t x) (conclusion t y) in
    rw (conclusions-Two t j x y p q, length-append (conclusions t x ++ conclusions t y) (h ∷ []), length-append (conclusions t x) (conclusions t y), length-conclusions t x, length-conclusions t y) (omega arith)

one_some : {F : Type 0} (rule : F → Option F) (o : Option F) (h : F) → gives_one rule o ≡ Some h → (f : F) × (o ≡ Some f)
one_some rule None h e = absurd (cc e)
one_some rule (Some f) h e = (f, refl)

two_some : {F : Type 0} (rule : F → F → Option F) (o u : Option F) (h : F) → gives_two rule o u ≡ Some h →
    ((f : F) × (o ≡ Some f)) × ((g : F) × (u ≡ Some g))
two_some rule None u h e = absurd (cc e)
two_some rule (Some f) None h e = absurd (cc e)
two_some rule (Some f) (Some g) h e = ((f, refl), (g, refl))

all_some : {L R J F : Type 0} (t : Rules L R J F) (x : Proof L R J) (f : F) → conclusion t x ≡ Some f → AllSome (conclusions t x)
all_some t (Leaf l) f e = all_one (t.leaf l) (some_is_not_none (t.leaf l) f e)
all_some t (One' r p x) f e =
    let part = one_some (t.one r) (conclusion t x) f e in
    rw (conclusions-One t r x p)
    (all_append (conclusions t x) (gives_one (t.one r) (conclusion t x) ∷ [])
    (all_some t x part.0 part.1)
    (all_one (gives_one (t.one r) (conclusion t x)) (some_is_not_none _ f e)))
all_some t (Two' j p x q y) f e =
    let parts = two_some (t.two j) (conclusion t x) (conclusion t y) f e in
    let h = gives_two (t.two j) (conclusion t x) (conclusion t y) in
    rw (conclusions-Two t j x y p q)
    (all_append (conclusions t x ++ conclusions t y) (h ∷ [])
    (all_append (conclusions t x) (conclusions t y) (all_some t x parts.0.0 parts.0.1) (all_some t y parts.1.0 parts.1.1))
    (all_one h (some_is_not_none h f e)))

-- where the whole concludes, all nodes are good
pub all_good : {L R J F : Type 0} (t : Rules L R J F) (x : Proof L R J) (f : F) → conclusion t x ≡ Some f → good_nodes t x ≡ node_count x
all_good t (Leaf l) f e = rw e refl
all_good t (One' r p x) f e =
    let part = one_some (t.one r) (conclusion t x) f e in
    rw (e, all_good t x part.0 part.1) refl
all_good t (Two' j p x q y) f e =
    let parts = two_some (t.two j) (conclusion t x) (conclusion t y) f e in
    rw (e, parts.0.1, all_good t x parts.0.0 parts.0.1, all_good t y parts.1.0 parts.1.1) refl

pub first_bad : {L R J F : Type 0} (t : Rules L R J F) (x : Proof L R J) → conclusion t x ≡ None → IsFirstBad t x (good_nodes t x)
first_bad t (Leaf l) e = rw e (first_here None refl)
first_bad t (One' r p x) e = rw (conclusions-One t r x p) (elim (none_or_some (conclusion t x)) [
  | inl none ↦ (let n : good_nodes t (One' r p x) ≡ good_nodes t x = rw e (omega arith) in
      rw n (first_left (conclusions t x) (gives_one (t.one r) (conclusion t x) ∷ []) (good_nodes t x) (first_bad t x none)))
  | inr some ↦ (let n : good_nodes t (One' r p x) ≡ length (conclusions t x) + 0 = omega (arith, all_good t x some.0 some.1, length-conclusions t x, ap (λ o. passed o 1) e) in
      rw n (first_right (conclusions t x) (gives_one (t.one r) (conclusion t x) ∷ []) 0 (all_some t x some.0 some.1) (first_here _ e)))
])
first_bad t (Two' j p x q y) e =
    let h = gives_two (t.two j) (conclusion t x) (conclusion t y) in
    rw (conclusions-Two t j x y p q) (elim (none_or_some (conclusion t x)) [
      | inl none ↦ (let n : good_nodes t (Two' j p x q y) ≡ good_nodes t x =
          omega (arith, ap (λ o. passed o 1) e, ap (λ o. passed o (good_nodes t y)) none) in
          rw n (first_left (conclusions t x ++ conclusions t y) (h ∷ []) (good_nodes t x)
          (first_left (conclusions t x) (conclusions t y) (good_nodes t x) (first_bad t x none))))
      | inr some ↦ elim (none_or_some (conclusion t y)) [
        | inl none ↦ (let n : good_nodes t (Two' j p x q y) ≡ length (conclusions t x) + good_nodes t y =
            omega (arith, all_good t x some.0 some.1, length-conclusions t x, ap (λ o. passed o 1) e, ap (λ o. passed o (good_nodes t y)) some.1) in
            rw n (first_left (conclusions t x ++ conclusions t y) (h ∷ []) (length (conclusions t x) + good_nodes t y)
            (first_right (conclusions t x) (conclusions t y) (good_nodes t y) (all_some t x some.0 some.1) (first_bad t y none))))
        | inr also ↦ (let n : good_nodes t (Two' j p x q y) ≡ length (conclusions t x ++ conclusions t y) + 0 =
            omega (arith, all_good t x some.0 some.1, length-conclusions t x, all_good t y also.0 also.1, length-conclusions t y, ap (λ o. passed o 1) e, ap (λ o. passed o (good_nodes t y)) some.1, length-append (conclusions t x) (conclusions t y)) in
            rw n (first_right (conclusions t x ++ conclusions t y) (h ∷ []) 0
            (all_append (conclusions t x) (conclusions t y) (all_some t x some.0 some.1) (all_some t y also.0 also.1)) (first_here h e)))
      ]
    ])
