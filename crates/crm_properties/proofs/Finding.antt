-- The row of a name: the one that its candidate is, or none.
use Rattle.std.proofs.Common.{◌≡◌, ℕ, List, [], ◌∷◌, Bool, true, false, cond, ◌&&◌, ◌<◌, ◌≤◌, length, nat_eq, bytes_eq, arith, refl, sym, ap, ap₂, subst, ◌∙◌, Some, None, Option, position}
use Rattle.std.proofs.lemmas.Bool.{both_ways, and_parts, eqb-true, false≢true}
use Rattle.std.proofs.lemmas.Slice.Eq.{bytes_eq-Decides}
use Rattle.crm_classes.proofs.Closed.{all_below, all_below-at}
use Rattle.crm_classes.proofs.Codes.{only_found, none_found}
use Rattle.crm_properties.specs.declared.Space.{Space}
use Rattle.crm_properties.specs.declared.Space.TheVariants.{Crm, Archaeo, Whole}
use Rattle.crm_properties.specs.declared.Prop.{Prop}
use Rattle.crm_properties.specs.Table.{Row, rows}
use Rattle.crm_properties.specs.Index.{low_numbers, middle_numbers, high_numbers, candidate_of}
use Rattle.crm_properties.specs.Names.{row_at, no_row, Name, name_of, same_space, is_row, is_text, is_inverse_row, prop_in, prop_of_text}

rows_count : length rows ≡ 44
unfolding rows
rows_count = refl

-- the code of the row leads to it, and that of its inverse too
leads_to : Space → Option (List ℕ) → ℕ → Bool
leads_to space None k = true
leads_to space (Some text) k = nat_eq (candidate_of space text) k

codes_computed : all_below 44 (λ k. nat_eq (candidate_of (row_at k).space (row_at k).text) k) ≡ true
unfolding rows low_numbers middle_numbers high_numbers
codes_computed = refl

inverses_computed : all_below 44 (λ k. leads_to (row_at k).space (row_at k).inverse k) ≡ true
unfolding rows low_numbers middle_numbers high_numbers leads_to
inverses_computed = refl

spaces_alike : (a b : Space) → same_space a b ≡ true → a ≡ b
spaces_alike Crm Crm h = refl
spaces_alike Archaeo Archaeo h = refl
spaces_alike Whole Whole h = refl
spaces_alike Crm Archaeo h = absurd (false≢true h)
spaces_alike Crm Whole h = absurd (false≢true h)
spaces_alike Archaeo Crm h = absurd (false≢true h)
spaces_alike Archaeo Whole h = absurd (false≢true h)
spaces_alike Whole Crm h = absurd (false≢true h)
spaces_alike Whole Archaeo h = absurd (false≢true h)

row_leads : (n : Name) (k : ℕ) → k < 44 → is_row n (row_at k) ≡ true → candidate_of n.space n.text ≡ k
row_leads n k l h =
    let parts = and_parts (same_space (row_at k).space n.space) (bytes_eq (row_at k).text n.text) h in
    let spaces = spaces_alike (row_at k).space n.space parts.0 in
    let texts = (bytes_eq-Decides (row_at k).text n.text).0 parts.1 in
    ap₂ candidate_of (sym spaces) (sym texts) ∙ eqb-true (candidate_of (row_at k).space (row_at k).text) k
    (all_below-at 44 (λ j. nat_eq (candidate_of (row_at j).space (row_at j).text) j) codes_computed k l)

text_leads : (space : Space) (code : Option (List ℕ)) (text : List ℕ) (k : ℕ) → leads_to space code k ≡ true → is_text code text ≡ true →
    candidate_of space text ≡ k
unfolding leads_to
text_leads space None text k leads h = absurd (false≢true h)
text_leads space (Some known) text k leads h =
    ap (candidate_of space) (sym ((bytes_eq-Decides known text).0 h)) ∙ eqb-true (candidate_of space known) k leads

inverse_leads : (n : Name) (k : ℕ) → k < 44 → is_inverse_row n (row_at k) ≡ true → candidate_of n.space n.text ≡ k
inverse_leads n k l h =
    let parts = and_parts (same_space (row_at k).space n.space) (is_text (row_at k).inverse n.text) h in
    ap (λ (s : Space). candidate_of s n.text) (sym (spaces_alike (row_at k).space n.space parts.0))
    ∙ text_leads (row_at k).space (row_at k).inverse n.text k
    (all_below-at 44 (λ j. leads_to (row_at j).space (row_at j).inverse j) inverses_computed k l) parts.1

-- a test that only the candidate k of the name can pass
found : (n : Name) (p : Row → Bool) → ((j : ℕ) → j < 44 → p (row_at j) ≡ true → candidate_of n.space n.text ≡ j) →
    (k : ℕ) → k ≡ candidate_of n.space n.text → k < 44 → p (row_at k) ≡ true → position p rows ≡ Some k
found n p leads k is l here =
    only_found p rows no_row k (omega (arith, rows_count)) here
    (λ j h same. sym (leads j (omega (arith, rows_count)) same) ∙ sym is)

missing : (n : Name) (p : Row → Bool) → ((j : ℕ) → j < 44 → p (row_at j) ≡ true → candidate_of n.space n.text ≡ j) →
    (k : ℕ) → k ≡ candidate_of n.space n.text → (k < 44 → p (row_at k) ≡ false) → position p rows ≡ None
missing n p leads k is never = none_found p rows no_row (λ j h same. clash j (omega (arith, rows_count)) same)
  where
    clash : (j : ℕ) → j < 44 → p (row_at j) ≡ true → ⊥
    clash j l same =
        let at : k ≡ j = is ∙ leads j l same in
        both_ways (p (row_at j)) (subst (λ (i : ℕ). p (row_at i) ≡ false) at (never (omega (arith, at)))) same

-- the property of a name
by_name : Name → Option Prop
by_name n = prop_in (position (is_row n) rows) (position (is_inverse_row n) rows)

named : Space → List ℕ → Name
named space text = record { space = space; text = text }

of_iri : (iri : List ℕ) (space : Space) (text : List ℕ) → space ≡ (name_of iri).space → text ≡ (name_of iri).text →
    prop_of_text iri ≡ by_name (named space text)
unfolding by_name named
of_iri iri space text spaces texts = sym (ap₂ (λ (s : Space) (t : List ℕ). by_name (named s t)) spaces texts)

pub prop_found : (iri : List ℕ) (space : Space) (text : List ℕ) (k : ℕ) → space ≡ (name_of iri).space → text ≡ (name_of iri).text →
    k ≡ candidate_of space text → k < 44 → (same_space (row_at k).space space && bytes_eq (row_at k).text text) ≡ true →
    prop_of_text iri ≡ Some (record { code = k; inverse = false })
unfolding by_name named
prop_found iri space text k spaces texts leads l here =
    of_iri iri space text spaces texts
    ∙ ap (λ (o : Option ℕ). prop_in o (position (is_inverse_row (named space text)) rows))
    (found (named space text) (is_row (named space text)) (row_leads (named space text)) k leads l here)

pub inverse_found : (iri : List ℕ) (space : Space) (text : List ℕ) (k : ℕ) → space ≡ (name_of iri).space → text ≡ (name_of iri).text →
    k ≡ candidate_of space text → k < 44 → (same_space (row_at k).space space && bytes_eq (row_at k).text text) ≡ false →
    (same_space (row_at k).space space && is_text (row_at k).inverse text) ≡ true →
    prop_of_text iri ≡ Some (record { code = k; inverse = true })
unfolding by_name named
inverse_found iri space text k spaces texts leads l neither here =
    of_iri iri space text spaces texts
    ∙ ap₂ prop_in (missing (named space text) (is_row (named space text)) (row_leads (named space text)) k leads (λ _. neither))
    (found (named space text) (is_inverse_row (named space text)) (inverse_leads (named space text)) k leads l here)

pub nothing_found : (iri : List ℕ) (space : Space) (text : List ℕ) (k : ℕ) → space ≡ (name_of iri).space → text ≡ (name_of iri).text →
    k ≡ candidate_of space text → (k < 44 → (same_space (row_at k).space space && bytes_eq (row_at k).text text) ≡ false) →
    (k < 44 → (same_space (row_at k).space space && is_text (row_at k).inverse text) ≡ false) →
    prop_of_text iri ≡ None
unfolding by_name named
nothing_found iri space text k spaces texts leads none neither =
    of_iri iri space text spaces texts
    ∙ ap₂ prop_in (missing (named space text) (is_row (named space text)) (row_leads (named space text)) k leads none)
    (missing (named space text) (is_inverse_row (named space text)) (inverse_leads (named space text)) k leads neither)
