-- The first triple with which a limit is passed.
use Rattle.std.proofs.Common.{◌≡◌, ◌≤◌, ◌<◌, ℕ, Bool, true, false, inl, inr, List, [], ◌∷◌, ◌++◌, length, Option, Some, None, refl, sym, ap, subst, ◌∙◌, arith}
use Rattle.std.specs.Prelude.{nat_lt, if◌then◌else◌}
use Rattle.std.proofs.lemmas.Bool.{cond-true, cond-false}
use Rattle.std.proofs.lemmas.Bool.Decides.{nat_tests}
use Rattle.rdf_terms.specs.declared.terms.Code.{Code}
use Rattle.rdf_terms.specs.declared.terms.Code.TheVariants.{L4, L5}
use Rattle.rdf_terms.specs.declared.terms.Refusal.{Refusal}
use Rattle.rdf_terms.specs.declared.triples.Records.{Records}
use Rattle.rdf_terms.specs.Naming.{name_count}
use Rattle.joined_names.specs.Values.{ValueTriple, with_values, with_all}
use Rattle.archive_join.specs.Limits.{AreFew, IsFirstPast, IsPast, first_past}
use Rattle.archive_join.proofs.Growing.{all_grow, with_all_cons}

past : (n : ℕ) → 262144 < n → nat_lt 262144 n ≡ true
past n l = grind (arith, nat_tests)

not_past : (n : ℕ) → n ≤ 262144 → nat_lt 262144 n ≡ false
not_past n l = grind (arith, nat_tests)

module _ (r : Records) (x : ValueTriple) (xs : List ValueTriple) where
  abbrev by_triples : Option Refusal
  by_triples = if nat_lt 262144 (length (with_values r x).triples) then Some (record { code = L4; at = x.at }) else first_past (with_values r x) xs

  abbrev by_names : Option Refusal
  by_names = if nat_lt 262144 (name_count (with_values r x).names) then Some (record { code = L5; at = x.at }) else by_triples

  first_past_cons : first_past r (x ∷ xs) ≡ by_names
  unfolding first_past
  first_past_cons = refl

  names_past : 262144 < name_count (with_values r x).names → first_past r (x ∷ xs) ≡ Some (record { code = L5; at = x.at })
  names_past lt = first_past_cons ∙ cond-true (nat_lt 262144 (name_count (with_values r x).names)) (Some (record { code = L5; at = x.at })) by_triples (past _ lt)

  few_names : name_count (with_values r x).names ≤ 262144 → first_past r (x ∷ xs) ≡ by_triples
  few_names le = first_past_cons ∙ cond-false (nat_lt 262144 (name_count (with_values r x).names)) (Some (record { code = L5; at = x.at })) by_triples (not_past _ le)

  triples_past : name_count (with_values r x).names ≤ 262144 → 262144 < length (with_values r x).triples → first_past r (x ∷ xs) ≡ Some (record { code = L4; at = x.at })
  triples_past le lt = few_names le ∙ cond-true (nat_lt 262144 (length (with_values r x).triples)) (Some (record { code = L4; at = x.at })) (first_past (with_values r x) xs) (past _ lt)

  goes_on : AreFew (with_values r x) → first_past r (x ∷ xs) ≡ first_past (with_values r x) xs
  goes_on few =
      few_names few.names
      ∙ cond-false (nat_lt 262144 (length (with_values r x).triples)) (Some (record { code = L4; at = x.at })) (first_past (with_values r x) xs) (not_past _ few.triples)

  few_first : AreFew (with_all r (x ∷ xs)) → AreFew (with_values r x)
  few_first few =
      let rest : AreFew (with_all (with_values r x) xs) = subst AreFew (with_all_cons r x xs) few in
      let below = all_grow (with_values r x) xs in
      record { names = omega (arith, below.names, rest.names); triples = omega (arith, below.triples, rest.triples) }

refusal_is : (f : Refusal) (code : Code) (at : ℕ) → f.code ≡ code → f.at ≡ at → Some (record { code = code; at = at }) ≡ Some f
refusal_is f code at p q =
    ap (λ (c : Code). Some (record { code = c; at = at })) (sym p) ∙ ap (λ (n : ℕ). Some (record { code = f.code; at = n })) (sym q)

past_at : (r : Records) (done : List ValueTriple) (first : ValueTriple) (rest : List ValueTriple) (f : Refusal) → AreFew (with_all r done) →
    IsPast (with_values (with_all r done) first) f.code → f.at ≡ first.at → first_past r (done ++ first ∷ rest) ≡ Some f
unfolding with_all
past_at r [] first rest f few over at =
    elim over [
      | inl p ↦ names_past r first rest p.1 ∙ refusal_is f L5 first.at p.0 at
      | inr p ↦ triples_past r first rest p.1 p.2 ∙ refusal_is f L4 first.at p.0 at
    ]
past_at r (x ∷ xs) first rest f few over at = goes_on r x (xs ++ first ∷ rest) (few_first r x xs few) ∙ past_at (with_values r x) xs first rest f few over at

-- it is that of the refusal
pub past_first : (r : Records) (xs : List ValueTriple) (f : Refusal) → IsFirstPast r xs f → first_past r xs ≡ Some f
past_first r xs f h = ap (first_past r) h.all ∙ past_at r h.done h.first h.rest f h.few h.past h.at

-- within the limits there is none
pub past_never : (r : Records) (xs : List ValueTriple) → AreFew (with_all r xs) → first_past r xs ≡ None
unfolding with_all first_past
past_never r [] few = refl
past_never r (x ∷ xs) few = goes_on r x xs (few_first r x xs few) ∙ past_never (with_values r x) xs few
