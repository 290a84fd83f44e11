use mir.Syntax.{w128}
use mir.Val.{SFits, to_z, of_z}
use Rattle.std.proofs.Common.{◌≡◌, ℤ, List, [], true, sym, ap, ◌∙◌, refl, rules, append-nil}
use Rattle.std.proofs.lemmas.Int.{to_z-of_z}
use Rattle.std.proofs.lemmas.Result.{IfOk-weaker}
use Rattle.order_laws.specs.declared.Order.{Order}
use Rattle.order_core.specs.Sets.{Orders}
use Rattle.order_extension.specs.Extended.{extended}
use Rattle.dating_bounds.specs.Dated.{is_dated, dated}
use Rattle.dating_bounds.proofs.dates.with_date.Goals as goal

unextended : (set : Orders) → extended set [] ≡ set
unextended set = ap {B = Orders} (λ (l : List Order). record { extents = set.extents; dates = set.dates; list = l }) (append-nil set.list)

undated : (set : Orders) (t : ℤ) → is_dated set.dates t ≡ true → set ≡ dated set t
undated set t old = rw old refl

pub returns-then-is_date : goal.returns-then-is_date
returns-then-is_date c =
    let fit : SFits w128 c.args.t = search rules in
    let e : to_z w128 (of_z w128 c.args.t) ≡ c.args.t = to_z-of_z w128 c.args.t fit in
    let dates : c.as_slice-dates.result.now ≡ c.args.set.now.dates = c.as_slice-dates.ensures ∙ c.dates.ensures in
    let old : is_dated c.args.set.now.dates c.args.t ≡ true =
    ap (is_dated c.args.set.now.dates) (sym e) ∙ ap (λ (ts : List ℤ). is_dated ts (to_z w128 (of_z w128 c.args.t))) (sym dates) ∙ sym c.is_date.ensures ∙ c.if-is_date.true in
    IfOk-weaker c.with_orders.result (λ (s : Orders). s ≡ extended c.args.set.now c.new.result) (λ (s : Orders). s ≡ dated c.args.set.now c.args.t)
    (λ s is. is ∙ ap (extended c.args.set.now) c.new.ensures ∙ unextended c.args.set.now ∙ undated c.args.set.now c.args.t old) c.with_orders.ensures
