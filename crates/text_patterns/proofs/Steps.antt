-- A table whose tests pass is a machine.
use Rattle.std.proofs.Common.{ℕ, List, [], ◌∷◌, ◌++◌, ◌≡◌, ◌<◌, length, refl, ap, sym, ◌∙◌, subst, append-nil}
use Rattle.std.proofs.lemmas.Bool.{false≢true, and_parts, eqb-true, eq-eqb, ltb-true}
use Rattle.std.specs.Prelude.{true, false, cond, ◌||◌, nat_lt, Option, None, Some}
use Rattle.text_patterns.specs.Patterns.{Matches}
use Rattle.text_patterns.specs.Derivatives.{nullable, derivative, after, is_shut}
use Rattle.text_patterns.specs.Machines.{rest_after, IsMachine}
use Rattle.text_patterns.specs.Tables.{Table, rest_of, rest_of_option, machine, is_indexed, IsTable}
use Rattle.text_patterns.proofs.Derivatives.{derivative-gives, derivative-takes, nullable-gives, nullable-takes, after-gives, shut_ends}
use Rattle.text_patterns.proofs.Alike.{alike-to, alike-from, same-derivative, same-in-after}
use Rattle.text_patterns.proofs.Spans.{beq-true}

after_option : {State Kind Class : Type 0} (t : Table State Kind Class) (o : Option State) (k : Kind) → rest_after (machine t) o k ≡ rest_of_option t o k
after_option t None k = refl
after_option t (Some q) k = refl

same_derivative : {State Kind Class : Type 0} (t : Table State Kind Class) (right : IsTable t) (q : State) (c : ℕ) (k : Kind) → c < 0x110000
    → derivative (rest_of t q k) c ≡ derivative (rest_of t q k) (t.sample (t.class_at c))
same_derivative t right q c k h = same-derivative (rest_of t q k) c (t.sample (t.class_at c))
    (same-in-after (t.spelling k) (t.way q) c (t.sample (t.class_at c)) (right.sampled k c h))

table_to : {State Kind Class : Type 0} (t : Table State Kind Class) (right : IsTable t) (q : State) (c : ℕ) (k : Kind) (s : List ℕ) → c < 0x110000
    → Matches (rest_of t q k) (c ∷ s) → Matches (rest_after (machine t) (t.next q (t.class_at c)) k) s
table_to t right q c k s h m = subst (λ p. Matches p s) (sym (after_option t (t.next q (t.class_at c)) k))
    (alike-to (derivative (rest_of t q k) (t.sample (t.class_at c))) (rest_of_option t (t.next q (t.class_at c)) k) s (right.fitting q (t.class_at c) k)
    (subst (λ p. Matches p s) (same_derivative t right q c k h) (derivative-takes (rest_of t q k) c s m)))

table_from : {State Kind Class : Type 0} (t : Table State Kind Class) (right : IsTable t) (q : State) (c : ℕ) (k : Kind) (s : List ℕ) → c < 0x110000
    → Matches (rest_after (machine t) (t.next q (t.class_at c)) k) s → Matches (rest_of t q k) (c ∷ s)
table_from t right q c k s h m = derivative-gives (rest_of t q k) c s
    (subst (λ p. Matches p s) (sym (same_derivative t right q c k h))
    (alike-from (derivative (rest_of t q k) (t.sample (t.class_at c))) (rest_of_option t (t.next q (t.class_at c)) k) s (right.fitting q (t.class_at c) k)
    (subst (λ p. Matches p s) (after_option t (t.next q (t.class_at c)) k) m)))

table_ends : {State Kind Class : Type 0} (t : Table State Kind Class) (right : IsTable t) (q : State) (k : Kind) → t.accepts q ≡ Some k → Matches (rest_of t q k) []
table_ends t right q k e = nullable-gives (rest_of t q k)
    (beq-true (nullable (rest_of t q k)) (is_indexed t.index (t.accepts q) (t.index k)) (right.ending q k)
    ∙ ap (λ o. is_indexed t.index o (t.index k)) e ∙ eq-eqb (t.index k) (t.index k) refl)

indexed : {State Kind Class : Type 0} (t : Table State Kind Class) (right : IsTable t) (o : Option Kind) (k : Kind) → is_indexed t.index o (t.index k) ≡ true → o ≡ Some k
indexed t right None k e = absurd (false≢true e)
indexed t right (Some j) k e = ap (λ x. Some x) (right.apart j k (eqb-true (t.index j) (t.index k) e))

table_alone : {State Kind Class : Type 0} (t : Table State Kind Class) (right : IsTable t) (q : State) (k : Kind) → Matches (rest_of t q k) [] → t.accepts q ≡ Some k
table_alone t right q k m = indexed t right (t.accepts q) k
    (sym (beq-true (nullable (rest_of t q k)) (is_indexed t.index (t.accepts q) (t.index k)) (right.ending q k)) ∙ nullable-takes (rest_of t q k) m)

table_shut : {State Kind Class : Type 0} (t : Table State Kind Class) (right : IsTable t) (q : State) → t.is_final q ≡ true → (k : Kind) (s : List ℕ) → Matches (rest_of t q k) s → s ≡ []
table_shut t right q e k s m = shut_ends (rest_of t q k) s (subst (λ b. cond b (is_shut (rest_of t q k)) true ≡ true) e (right.shutting q k)) m

table_alive : {State Kind Class : Type 0} (t : Table State Kind Class) (right : IsTable t) (q : State) → Matches (rest_of t q (t.towards q)) (t.way_on q)
table_alive t right q =
    let both = and_parts (t.is_final q || nat_lt 0 (length (t.way_on q))) (nullable (after (rest_of t q (t.towards q)) (t.way_on q))) (right.going q) in
    subst (λ s. Matches (rest_of t q (t.towards q)) s) (append-nil (t.way_on q))
    (after-gives (rest_of t q (t.towards q)) (t.way_on q) [] (nullable-gives (after (rest_of t q (t.towards q)) (t.way_on q)) both.1))

table_goes : {State Kind Class : Type 0} (t : Table State Kind Class) (right : IsTable t) (q : State) → t.is_final q ≡ false → 0 < length (t.way_on q)
table_goes t right q e =
    let both = and_parts (t.is_final q || nat_lt 0 (length (t.way_on q))) (nullable (after (rest_of t q (t.towards q)) (t.way_on q))) (right.going q) in
    ltb-true 0 (length (t.way_on q)) (subst (λ b. (b || nat_lt 0 (length (t.way_on q))) ≡ true) e both.0)

pub table_machine : {State Kind Class : Type 0} (t : Table State Kind Class) → IsTable t → IsMachine (machine t)
table_machine t right = record {
  starts = λ k. ap (after (t.spelling k)) right.starts;
  step_to = table_to t right;
  step_from = table_from t right;
  ends = table_ends t right;
  ends_alone = table_alone t right;
  shut = table_shut t right;
  goes_on = λ q e. (t.towards q, t.way_on q, table_goes t right q e, table_alive t right q);
  alive = λ q. (t.towards q, t.way_on q, table_alive t right q);
}
