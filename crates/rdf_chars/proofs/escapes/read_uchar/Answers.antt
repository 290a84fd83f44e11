use Rattle.std.proofs.Common.{◌≡◌, ◌+◌, ap, ◌∙◌, inl, inr, subst, sym, drop, arith}
use Rattle.std.specs.Prelude.{None, Some, true}
use lib.Utf8.{scalar}
use Rattle.rdf_chars.specs.Escapes.{IsRead, IsUchar, hexadecimal}
use Rattle.rdf_chars.proofs.Fronts.{uchar_no_mark, uchar_short, uchar_no_number, uchar_no_scalar, uchar_some, rest_is, digits_at, item}
use Rattle.rdf_chars.proofs.escapes.read_uchar.Goals as goal

pub returns-in_err-count : goal.returns-in_err-count
returns-in_err-count c =
    let rest = rest_is c.args.chars.now c.in_ok-rest.rest.now c.args.from c.in_ok-rest.ensures.lookup.0.2 in
    subst (λ x. IsRead IsUchar (drop c.args.from c.args.chars.now) c.args.from x) (sym c.from_residual-in_err-count.ensures)
    (subst (λ x. IsRead IsUchar x c.args.from None) rest (uchar_no_mark c.in_ok-rest.rest.now c.args.from c.index-rest-1.result c.index-rest-1.is c.in_err-count.ensures))

pub returns-in_err-digits : goal.returns-in_err-digits
returns-in_err-digits c =
    let rest = rest_is c.args.chars.now c.in_ok-rest.rest.now c.args.from c.in_ok-rest.ensures.lookup.0.2 in
    subst (λ x. IsRead IsUchar (drop c.args.from c.args.chars.now) c.args.from x) (sym c.from_residual-in_err-digits.ensures)
    (subst (λ x. IsRead IsUchar x c.args.from None) rest (uchar_short c.in_ok-rest.rest.now c.args.from c.index-rest-1.result c.in_ok-count.count c.index-rest-1.is c.in_ok-count.ensures
    (elim c.in_err-digits.ensures.lookup.0 [ inl x ↦ absurd (omega (arith, x)) | inr x ↦ x ])))

pub returns-in_err-number : goal.returns-in_err-number
returns-in_err-number c =
    let rest = rest_is c.args.chars.now c.in_ok-rest.rest.now c.args.from c.in_ok-rest.ensures.lookup.0.2 in
    let digits = digits_at c.in_ok-rest.rest.now c.in_ok-digits.digits.now c.in_ok-count.count c.in_ok-digits.ensures.lookup.0.2 in
    subst (λ x. IsRead IsUchar (drop c.args.from c.args.chars.now) c.args.from x) (sym c.from_residual-in_err-number.ensures)
    (subst (λ x. IsRead IsUchar x c.args.from None) rest (uchar_no_number c.in_ok-rest.rest.now c.args.from c.index-rest-1.result c.in_ok-count.count c.index-rest-1.is c.in_ok-count.ensures
    (subst (λ x. None ≡ hexadecimal 0 x) digits c.in_err-number.ensures)))

pub returns-in_err-c : goal.returns-in_err-c
returns-in_err-c c =
    let rest = rest_is c.args.chars.now c.in_ok-rest.rest.now c.args.from c.in_ok-rest.ensures.lookup.0.2 in
    let digits = digits_at c.in_ok-rest.rest.now c.in_ok-digits.digits.now c.in_ok-count.count c.in_ok-digits.ensures.lookup.0.2 in
    subst (λ x. IsRead IsUchar (drop c.args.from c.args.chars.now) c.args.from x) (sym c.from_residual-in_err-c.ensures)
    (subst (λ x. IsRead IsUchar x c.args.from None) rest (uchar_no_scalar c.in_ok-rest.rest.now c.args.from c.index-rest-1.result c.in_ok-count.count c.in_ok-number.field-0
    c.index-rest-1.is c.in_ok-count.ensures (subst (λ x. Some c.in_ok-number.field-0 ≡ hexadecimal 0 x) digits c.in_ok-number.ensures) c.in_err-c.ensures.value))

pub returns : goal.returns
returns c =
    let rest = rest_is c.args.chars.now c.in_ok-rest.rest.now c.args.from c.in_ok-rest.ensures.lookup.0.2 in
    let digits = digits_at c.in_ok-rest.rest.now c.in_ok-digits.digits.now c.in_ok-count.count c.in_ok-digits.ensures.lookup.0.2 in
    let same = c.in_ok-c.ensures.value in
    subst (λ x. IsRead IsUchar x c.args.from (Some (c.in_ok-c.c, c.args.from + 2 + c.in_ok-count.count))) rest
    (uchar_some c.in_ok-rest.rest.now c.args.from c.index-rest-1.result c.in_ok-count.count c.in_ok-c.c c.in_ok-digits.ensures.lookup.0.1
    (item c.in_ok-rest.rest.now 0 c.index-rest-0.result (omega arith) c.index-rest-0.is ∙ c.if-rest-ne92.false)
    c.index-rest-1.is c.in_ok-count.ensures
    (subst (λ x. Some c.in_ok-c.c ≡ hexadecimal 0 x) digits (ap (λ x. Some x) same.1 ∙ c.in_ok-number.ensures))
    (subst (λ x. scalar x ≡ true) (sym same.1) same.0))
