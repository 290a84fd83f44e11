-- The bytes of one character, forward from its number and back.
use Rattle.std.proofs.Common.{ℕ, List, [], ◌∷◌, ◌≡◌, ◌<◌, ◌≤◌, ◌+◌, ◌*◌, ◌-◌, ◌/◌, refl, ap, ap₂, sym, ◌∙◌, arith, inl, inr, subst}
use Rattle.std.proofs.lemmas.Bool.{cases_lt, cases_eq, cond-true, cond-false, lt-ltb, le-ltb, cond_both, and_parts, leb-true, le-leb, and_from}
use Rattle.std.proofs.lemmas.Bool.Decides.{nat_tests}
use Rattle.std.specs.Prelude.{true, nat_lt, nat_le, ◌&&◌, ◌⊎◌}
use lib.Utf8.{scalar, encode, scalar_cases, low_scalar, next}
use Rattle.rdf_chars.specs.Steps.{begun, bits, pushed, WantsOne, WantsTwo, Wants}
use Rattle.rdf_chars.specs.declared.utf8.Step.{Step}
use Rattle.rdf_chars.specs.declared.utf8.Step.TheVariants.{Idle, Last, Two, Three, Bad}
use Rattle.rdf_chars.specs.declared.utf8.Pushed.{Pushed}
use Rattle.rdf_chars.specs.declared.utf8.Pushed.TheVariants.{Inside, Whole}

-- the bytes that end the character c behind what was pushed
abbrev pub WantsMore : Pushed → List ℕ → ℕ → Type 0
WantsMore (Whole n) r c = (r ≡ []) × (c ≡ n)
WantsMore (Inside s) r c = Wants s r c

one : (c : ℕ) → c < 128 → encode c ≡ c ∷ []
unfolding encode
one c h = cond-true (nat_lt c 128) _ _ (lt-ltb c 128 h)

two : (c : ℕ) → 128 ≤ c → c < 2048 → encode c ≡ (192 + c / 64) ∷ next c ∷ []
unfolding encode
two c h k = cond-false (nat_lt c 128) _ _ (le-ltb c 128 h) ∙ cond-true (nat_lt c 2048) _ _ (lt-ltb c 2048 k)

three : (c : ℕ) → 2048 ≤ c → c < 65536 → encode c ≡ (224 + c / 4096) ∷ next (c / 64) ∷ next c ∷ []
unfolding encode
three c h k = cond-false (nat_lt c 128) _ _ (le-ltb c 128 (omega arith)) ∙ cond-false (nat_lt c 2048) _ _ (le-ltb c 2048 h) ∙ cond-true (nat_lt c 65536) _ _ (lt-ltb c 65536 k)

four : (c : ℕ) → 65536 ≤ c → encode c ≡ (240 + c / 262144) ∷ next (c / 4096) ∷ next (c / 64) ∷ next c ∷ []
unfolding encode
four c h = cond-false (nat_lt c 128) _ _ (le-ltb c 128 (omega arith)) ∙ cond-false (nat_lt c 2048) _ _ (le-ltb c 2048 (omega arith)) ∙ cond-false (nat_lt c 65536) _ _ (le-ltb c 65536 h)

high_scalar : (c : ℕ) → 57344 ≤ c → c < 1114112 → scalar c ≡ true
high_scalar c l u = cond-false (nat_lt c 55296) true (nat_le 57344 c && nat_lt c 1114112) (le-ltb c 55296 (omega arith)) ∙ and_from (nat_le 57344 c) (nat_lt c 1114112) (le-leb 57344 c l) (lt-ltb c 1114112 u)

is_one : (t : ℕ) → t < 128 → begun t ≡ Whole t
is_one t a = grind (arith, nat_tests)

is_bad : (t : ℕ) → 128 ≤ t → t < 194 → begun t ≡ Inside Bad
is_bad t a b = grind (arith, nat_tests)

is_last : (t : ℕ) → 194 ≤ t → t < 224 → begun t ≡ Inside (Last (t - 192))
is_last t a b = grind (arith, nat_tests)

is_two : (t : ℕ) → 224 < t → t < 240 → (t ≡ 237 → ⊥) → begun t ≡ Inside (Two (t - 224) 128 191)
is_two t a b c = grind (arith, nat_tests)

is_three : (t : ℕ) → 240 < t → t < 244 → begun t ≡ Inside (Three (t - 240) 128 191)
is_three t a b = grind (arith, nat_tests)

is_over : (t : ℕ) → 244 < t → begun t ≡ Inside Bad
is_over t a = grind (arith, nat_tests)

forward_two : (c : ℕ) → 128 ≤ c → c < 2048 → WantsMore (begun (192 + c / 64)) (next c ∷ []) c
forward_two c h k = subst (λ s. WantsMore s (next c ∷ []) c) (sym (is_last (192 + c / 64) (omega arith) (omega arith)))
    (next c, refl, omega arith, omega arith, omega arith)

forward_three : (c : ℕ) → 2048 ≤ c → c < 65536 → (c < 55296) ⊎ (57344 ≤ c) → WantsMore (begun (224 + c / 4096)) (next (c / 64) ∷ next c ∷ []) c
forward_three c h k s = elim (cases_eq (c / 4096) 0) [
  | inl e ↦ subst (λ x. WantsMore x (next (c / 64) ∷ next c ∷ []) c) (ap begun (let q : 224 ≡ 224 + c / 4096 = omega arith in q))
      (next (c / 64), next c ∷ [], refl, omega arith, omega arith, (next c, refl, omega arith, omega arith, omega arith))
  | inr n ↦ elim (cases_eq (c / 4096) 13) [
    | inl e ↦ subst (λ x. WantsMore x (next (c / 64) ∷ next c ∷ []) c) (ap begun (let q : 237 ≡ 224 + c / 4096 = omega arith in q))
        (next (c / 64), next c ∷ [], refl, omega arith, omega arith, (next c, refl, omega arith, omega arith, omega arith))
    | inr m ↦ subst (λ x. WantsMore x (next (c / 64) ∷ next c ∷ []) c) (sym (is_two (224 + c / 4096) (omega arith) (omega arith) (λ e. m (omega arith))))
        (next (c / 64), next c ∷ [], refl, omega arith, omega arith, (next c, refl, omega arith, omega arith, omega arith))
  ]
]

forward_four : (c : ℕ) → 65536 ≤ c → c < 1114112 → WantsMore (begun (240 + c / 262144)) (next (c / 4096) ∷ next (c / 64) ∷ next c ∷ []) c
forward_four c h k = elim (cases_eq (c / 262144) 0) [
  | inl e ↦ subst (λ x. WantsMore x (next (c / 4096) ∷ next (c / 64) ∷ next c ∷ []) c) (ap begun (let q : 240 ≡ 240 + c / 262144 = omega arith in q))
      (next (c / 4096), next (c / 64) ∷ next c ∷ [], refl, omega arith, omega arith, (next (c / 64), next c ∷ [], refl, omega arith, omega arith, (next c, refl, omega arith, omega arith, omega arith)))
  | inr n ↦ elim (cases_eq (c / 262144) 4) [
    | inl e ↦ subst (λ x. WantsMore x (next (c / 4096) ∷ next (c / 64) ∷ next c ∷ []) c) (ap begun (let q : 244 ≡ 240 + c / 262144 = omega arith in q))
        (next (c / 4096), next (c / 64) ∷ next c ∷ [], refl, omega arith, omega arith, (next (c / 64), next c ∷ [], refl, omega arith, omega arith, (next c, refl, omega arith, omega arith, omega arith)))
    | inr m ↦ subst (λ x. WantsMore x (next (c / 4096) ∷ next (c / 64) ∷ next c ∷ []) c) (sym (is_three (240 + c / 262144) (omega arith) (omega arith)))
        (next (c / 4096), next (c / 64) ∷ next c ∷ [], refl, omega arith, omega arith, (next (c / 64), next c ∷ [], refl, omega arith, omega arith, (next c, refl, omega arith, omega arith, omega arith)))
  ]
]

head_is : (a b : ℕ) (s t : List ℕ) → a ∷ s ≡ b ∷ t → a ≡ b
head_is a b s t e = cc

tail_is : (a b : ℕ) (s t : List ℕ) → a ∷ s ≡ b ∷ t → s ≡ t
tail_is a b s t e = cc

moved : (t a c : ℕ) (rest s : List ℕ) → a ∷ s ≡ t ∷ rest → WantsMore (begun a) s c → WantsMore (begun t) rest c
moved t a c rest s e w = subst (λ x. WantsMore (begun x) rest c) (head_is a t s rest e) (subst (λ x. WantsMore (begun a) x c) (tail_is a t s rest e) w)

pub first_leads : (t : ℕ) (rest : List ℕ) (c : ℕ) → scalar c ≡ true → encode c ≡ t ∷ rest → WantsMore (begun t) rest c
first_leads t rest c s e = elim (cases_lt c 128) [
  | inl a ↦ moved t c c rest [] (sym (one c a) ∙ e) (subst (λ x. WantsMore x [] c) (sym (is_one c a)) (refl, refl))
  | inr a ↦ elim (cases_lt c 2048) [
    | inl b ↦ moved t (192 + c / 64) c rest (next c ∷ []) (sym (two c a b) ∙ e) (forward_two c a b)
    | inr b ↦ elim (cases_lt c 65536) [
      | inl d ↦ moved t (224 + c / 4096) c rest (next (c / 64) ∷ next c ∷ []) (sym (three c b d) ∙ e)
          (forward_three c b d (elim (scalar_cases c s) [ inl x ↦ inl x | inr x ↦ inr x.0 ]))
      | inr d ↦ moved t (240 + c / 262144) c rest (next (c / 4096) ∷ next (c / 64) ∷ next c ∷ []) (sym (four c d) ∙ e)
          (forward_four c d (elim (scalar_cases c s) [ inl x ↦ omega (arith, x) | inr x ↦ x.1 ]))
    ]
  ]
]

-- what is shown of a character and its bytes
abbrev pub Shows : ℕ → List ℕ → Type 0
Shows c bytes = (scalar c ≡ true) × (encode c ≡ bytes)

back_one : (t : ℕ) (rest : List ℕ) (c : ℕ) → t < 128 → WantsMore (Whole t) rest c → Shows c (t ∷ rest)
back_one t rest c h w = subst (λ r. Shows c (t ∷ r)) (sym w.0) (subst (λ x. Shows x (t ∷ [])) (sym w.1) (low_scalar t (omega arith), one t h))

back_two : (t : ℕ) (rest : List ℕ) (c : ℕ) → 194 ≤ t → t < 224 → WantsOne (t - 192) rest c → Shows c (t ∷ rest)
back_two t rest c h k w =
    let b = w.0 in
    subst (λ r. Shows c (t ∷ r)) (sym w.1) (
      low_scalar c (omega (arith, w.2, w.3, w.4)),
      two c (omega (arith, w.2, w.3, w.4)) (omega (arith, w.2, w.3, w.4))
          ∙ ap₂ (λ x y. x ∷ y ∷ []) (let q : 192 + c / 64 ≡ t = omega (arith, w.2, w.3, w.4) in q) (let q : next c ≡ b = omega (arith, w.2, w.3, w.4) in q),
    )

-- three bytes, where they say neither a shorter character nor a surrogate
back_three : (n low high : ℕ) (rest : List ℕ) (c : ℕ) → n < 16 → 128 ≤ low → high ≤ 191 → WantsTwo n low high rest c → ((a b : ℕ) → low ≤ a → a ≤ high → 128 ≤ b → b ≤ 191
    → c ≡ (n * 64 + (a - 128)) * 64 + (b - 128) → (2048 ≤ c) × (scalar c ≡ true)) → Shows c ((224 + n) ∷ rest)
back_three n low high rest c small l h w good =
    let a = w.0 in
    let one = w.5 in
    let b = one.0 in
    let fine = good a b w.3 w.4 one.2 one.3 one.4 in
    let whole : rest ≡ a ∷ b ∷ [] = w.2 ∙ ap (λ r. a ∷ r) one.1 in
    subst (λ r. Shows c ((224 + n) ∷ r)) (sym whole) (
      fine.1,
      three c fine.0 (omega (arith, w.3, w.4, one.2, one.3, one.4))
          ∙ ap₂ (λ x y. x ∷ y) (let q : 224 + c / 4096 ≡ 224 + n = omega (arith, w.3, w.4, one.2, one.3, one.4) in q)
          (ap₂ (λ x y. x ∷ y ∷ []) (let q : next (c / 64) ≡ a = omega (arith, w.3, w.4, one.2, one.3, one.4) in q) (let q : next c ≡ b = omega (arith, w.3, w.4, one.2, one.3, one.4) in q)),
    )

back_four : (n low high : ℕ) (rest : List ℕ) (c : ℕ) → n < 8 → 128 ≤ low → high ≤ 191 → Wants (Three n low high) rest c → ((a : ℕ) → low ≤ a → a ≤ high → (16 ≤ n * 64 + (a - 128)) × (n * 64 + (a - 128) < 272))
    → Shows c ((240 + n) ∷ rest)
back_four n low high rest c small l h w good =
    let a = w.0 in
    let two = w.5 in
    let b = two.0 in
    let one = two.5 in
    let d = one.0 in
    let fine = good a w.3 w.4 in
    let whole : rest ≡ a ∷ b ∷ d ∷ [] = w.2 ∙ ap (λ r. a ∷ r) (two.2 ∙ ap (λ r. b ∷ r) one.1) in
    let facts : (65536 ≤ c) × (c < 1114112) = (omega (arith, w.3, w.4, two.3, two.4, one.2, one.3, one.4, fine.0, fine.1), omega (arith, w.3, w.4, two.3, two.4, one.2, one.3, one.4, fine.0, fine.1)) in
    subst (λ r. Shows c ((240 + n) ∷ r)) (sym whole) (
      high_scalar c (omega (arith, facts.0)) facts.1,
      four c facts.0
          ∙ ap₂ (λ x y. x ∷ y) (let q : 240 + c / 262144 ≡ 240 + n = omega (arith, w.3, w.4, two.3, two.4, one.2, one.3, one.4) in q)
          (ap₂ (λ x y. x ∷ y) (let q : next (c / 4096) ≡ a = omega (arith, w.3, w.4, two.3, two.4, one.2, one.3, one.4) in q)
          (ap₂ (λ x y. x ∷ y ∷ []) (let q : next (c / 64) ≡ b = omega (arith, w.3, w.4, two.3, two.4, one.2, one.3, one.4) in q) (let q : next c ≡ d = omega (arith, w.3, w.4, two.3, two.4, one.2, one.3, one.4) in q))),
    )

shown : (t : ℕ) (p : Pushed) (rest : List ℕ) (c : ℕ) → begun t ≡ p → WantsMore (begun t) rest c → WantsMore p rest c
shown t p rest c e w = subst (λ x. WantsMore x rest c) e w

pub first_back : (t : ℕ) (rest : List ℕ) (c : ℕ) → WantsMore (begun t) rest c → Shows c (t ∷ rest)
first_back t rest c w = elim (cases_lt t 128) [
  | inl a ↦ back_one t rest c a (shown t (Whole t) rest c (is_one t a) w)
  | inr a ↦ elim (cases_lt t 194) [
    | inl b ↦ absurd (shown t (Inside Bad) rest c (is_bad t a b) w)
    | inr b ↦ elim (cases_lt t 224) [
      | inl d ↦ back_two t rest c b d (shown t (Inside (Last (t - 192))) rest c (is_last t b d) w)
      | inr d ↦ elim (cases_lt t 240) [
        | inl e ↦ three_back e d
        | inr e ↦ elim (cases_lt t 245) [
          | inl f ↦ four_back e f
          | inr f ↦ absurd (shown t (Inside Bad) rest c (is_over t (omega (arith, f))) w)
        ]
      ]
    ]
  ]
]
  where
    three_back : t < 240 → 224 ≤ t → Shows c (t ∷ rest)
    three_back h k = elim (cases_eq t 224) [
      | inl e ↦ subst (λ x. Shows c (x ∷ rest)) (sym e) (back_three 0 160 191 rest c (omega arith) (omega arith) (omega arith) (subst (λ x. WantsMore (begun x) rest c) e w)
          (λ a b l m n o q. (omega (arith, l, m, n, o, q), low_scalar c (omega (arith, l, m, n, o, q)))))
      | inr n ↦ elim (cases_eq t 237) [
        | inl e ↦ subst (λ x. Shows c (x ∷ rest)) (sym e) (back_three 13 128 159 rest c (omega arith) (omega arith) (omega arith) (subst (λ x. WantsMore (begun x) rest c) e w)
            (λ a b l m n o q. (omega (arith, l, m, n, o, q), low_scalar c (omega (arith, l, m, n, o, q)))))
        | inr m ↦ subst (λ x. Shows c (x ∷ rest)) (let q : 224 + (t - 224) ≡ t = omega (arith, k) in q)
            (back_three (t - 224) 128 191 rest c (omega (arith, h)) (omega arith) (omega arith) (shown t (Inside (Two (t - 224) 128 191)) rest c (is_two t (grind (arith, k, n)) h m) w)
            (λ a b l u o v q. (
              omega (arith, l, u, o, v, q, n, k),
              elim (cases_lt t 237) [
                | inl x ↦ low_scalar c (omega (arith, l, u, o, v, q, x))
                | inr x ↦ high_scalar c (grind (arith, l, u, o, v, q, x, m)) (omega (arith, l, u, o, v, q, h))
              ],
            )))
      ]
    ]

    four_back : 240 ≤ t → t < 245 → Shows c (t ∷ rest)
    four_back h k = elim (cases_eq t 240) [
      | inl e ↦ subst (λ x. Shows c (x ∷ rest)) (sym e) (back_four 0 144 191 rest c (omega arith) (omega arith) (omega arith) (subst (λ x. WantsMore (begun x) rest c) e w)
          (λ a l m. (omega (arith, l, m), omega (arith, l, m))))
      | inr n ↦ elim (cases_eq t 244) [
        | inl e ↦ subst (λ x. Shows c (x ∷ rest)) (sym e) (back_four 4 128 143 rest c (omega arith) (omega arith) (omega arith) (subst (λ x. WantsMore (begun x) rest c) e w)
            (λ a l m. (omega (arith, l, m), omega (arith, l, m))))
        | inr m ↦ subst (λ x. Shows c (x ∷ rest)) (let q : 240 + (t - 240) ≡ t = omega (arith, h) in q)
            (back_four (t - 240) 128 191 rest c (omega (arith, k)) (omega arith) (omega arith)
            (shown t (Inside (Three (t - 240) 128 191)) rest c (is_three t (grind (arith, h, n)) (grind (arith, k, m))) w)
            (λ a l u. (grind (arith, l, u, h, n), grind (arith, l, u, k, m))))
      ]
    ]

-- one more byte of a character
pub next_leads : (s : Step) (b : ℕ) (rest : List ℕ) (c : ℕ) → Wants s (b ∷ rest) c → WantsMore (pushed s b) rest c
next_leads (Last n) b rest c w =
    let same = head_is b w.0 rest [] w.1 in
    let fits : (nat_le 128 b && nat_le b 191) ≡ true = and_from (nat_le 128 b) (nat_le b 191) (le-leb 128 b (omega (arith, same, w.2))) (le-leb b 191 (omega (arith, same, w.3))) in
    subst (λ x. WantsMore x rest c) (sym (cond-true (nat_le 128 b && nat_le b 191) (Whole (bits n b)) (Inside Bad) fits))
    (tail_is b w.0 rest [] w.1, w.4 ∙ ap (bits n) (sym same))
next_leads (Two n low high) b rest c w =
    let same = head_is b w.0 rest w.1 w.2 in
    let fits : (nat_le low b && nat_le b high) ≡ true = and_from (nat_le low b) (nat_le b high) (le-leb low b (omega (arith, same, w.3))) (le-leb b high (omega (arith, same, w.4))) in
    subst (λ x. WantsMore x rest c) (sym (cond-true (nat_le low b && nat_le b high) (Inside (Last (bits n b))) (Inside Bad) fits))
    (subst (λ x. WantsOne (bits n x) rest c) (sym same) (subst (λ x. WantsOne (bits n w.0) x c) (sym (tail_is b w.0 rest w.1 w.2)) w.5))
next_leads (Three n low high) b rest c w =
    let same = head_is b w.0 rest w.1 w.2 in
    let fits : (nat_le low b && nat_le b high) ≡ true = and_from (nat_le low b) (nat_le b high) (le-leb low b (omega (arith, same, w.3))) (le-leb b high (omega (arith, same, w.4))) in
    subst (λ x. WantsMore x rest c) (sym (cond-true (nat_le low b && nat_le b high) (Inside (Two (bits n b) 128 191)) (Inside Bad) fits))
    (subst (λ x. WantsTwo (bits n x) 128 191 rest c) (sym same) (subst (λ x. WantsTwo (bits n w.0) 128 191 x c) (sym (tail_is b w.0 rest w.1 w.2)) w.5))
next_leads Idle b rest c w = absurd w
next_leads Bad b rest c w = absurd w

pub next_back : (s : Step) (b : ℕ) (rest : List ℕ) (c : ℕ) → (s ≡ Idle → ⊥) → WantsMore (pushed s b) rest c → Wants s (b ∷ rest) c
next_back (Last n) b rest c live = cond_both (nat_le 128 b && nat_le b 191) (Whole (bits n b)) (Inside Bad) (λ x. WantsMore x rest c → WantsOne n (b ∷ rest) c)
    (λ e w. let both = and_parts (nat_le 128 b) (nat_le b 191) e in (b, ap (λ r. b ∷ r) w.0, leb-true 128 b both.0, leb-true b 191 both.1, w.1)) (λ e w. absurd w)
next_back (Two n low high) b rest c live = cond_both (nat_le low b && nat_le b high) (Inside (Last (bits n b))) (Inside Bad) (λ x. WantsMore x rest c → WantsTwo n low high (b ∷ rest) c)
    (λ e w. let both = and_parts (nat_le low b) (nat_le b high) e in (b, rest, refl, leb-true low b both.0, leb-true b high both.1, w)) (λ e w. absurd w)
next_back (Three n low high) b rest c live = cond_both (nat_le low b && nat_le b high) (Inside (Two (bits n b) 128 191)) (Inside Bad) (λ x. WantsMore x rest c → Wants (Three n low high) (b ∷ rest) c)
    (λ e w. let both = and_parts (nat_le low b) (nat_le b high) e in (b, rest, refl, leb-true low b both.0, leb-true b high both.1, w)) (λ e w. absurd w)
next_back Idle b rest c live = absurd (live refl)
next_back Bad b rest c live = λ w. w
