-- What all rules keep: those of dates name no boundary of a range, the others name no date, and a property has at most four.
use Rattle.std.proofs.Common.{ℕ, zero, suc, ◌≡◌, ◌≤◌, ◌+◌, ◌&&◌, Bool, true, false, List, [], ◌∷◌, length, leb, refl, subst, arith}
use Rattle.std.specs.Prelude.{slice_index_or}
use Rattle.std.specs.List.{list_all}
use Rattle.std.proofs.lemmas.Bool.{and_parts, leb-true}
use Rattle.boundary_orders.specs.Statements.{is_dated}
use Rattle.boundary_orders.specs.Orders.{Spot, DomainStart, DomainEnd, RangeStart, RangeEnd, TheDate, Rule, rules, rules_of}

abbrev pub spot_fits : Bool → Spot → Bool
spot_fits dated DomainStart = true
spot_fits dated DomainEnd = true
spot_fits true RangeStart = false
spot_fits false RangeStart = true
spot_fits true RangeEnd = false
spot_fits false RangeEnd = true
spot_fits true TheDate = true
spot_fits false TheDate = false

abbrev pub rule_fits : Bool → Rule → Bool
rule_fits dated r = spot_fits dated r.low && spot_fits dated r.high

abbrev row_fits : ℕ → List Rule → Bool
row_fits code rs = list_all (rule_fits (is_dated code)) rs && leb (length rs) 4

-- the rows of the codes from one on
abbrev all_fit : ℕ → List (List Rule) → Bool
all_fit code [] = true
all_fit code (rs ∷ rows) = row_fits code rs && all_fit (suc code) rows

row_of : (n : ℕ) (rows : List (List Rule)) → all_fit n rows ≡ true → (k : ℕ) → row_fits (n + k) (slice_index_or rows k []) ≡ true
row_of n [] h k = refl
row_of n (rs ∷ rows) h zero =
    subst (λ (m : ℕ). row_fits m rs ≡ true) (let plus : n ≡ n + 0 = omega arith in plus) (and_parts (row_fits n rs) (all_fit (suc n) rows) h).0
row_of n (rs ∷ rows) h (suc k) =
    subst (λ (m : ℕ). row_fits m (slice_index_or rows k []) ≡ true) (let plus : suc n + k ≡ n + suc k = omega arith in plus)
    (row_of (suc n) rows (and_parts (row_fits n rs) (all_fit (suc n) rows) h).1 k)

table_fits : all_fit 0 rules ≡ true
unfolding rules
table_fits = refl

code_fits : (code : ℕ) → row_fits code (rules_of code) ≡ true
code_fits code = subst (λ (m : ℕ). row_fits m (rules_of code) ≡ true) (let plus : 0 + code ≡ code = omega arith in plus) (row_of 0 rules table_fits code)

pub rules_fit : (code : ℕ) → list_all (rule_fits (is_dated code)) (rules_of code) ≡ true
rules_fit code = (and_parts (list_all (rule_fits (is_dated code)) (rules_of code)) (leb (length (rules_of code)) 4) (code_fits code)).0

pub rules_few : (code : ℕ) → length (rules_of code) ≤ 4
rules_few code =
    leb-true (length (rules_of code)) 4 (and_parts (list_all (rule_fits (is_dated code)) (rules_of code)) (leb (length (rules_of code)) 4) (code_fits code)).1
