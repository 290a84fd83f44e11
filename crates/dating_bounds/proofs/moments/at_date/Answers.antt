use Rattle.std.proofs.Common.{◌≡◌, ◌∙◌, sym, subst, get_or, pos, true, false, refl}
use Rattle.std.proofs.lemmas.Result.{IfOk-weaker}
use Rattle.order_laws.specs.Closure.{reach_between}
use Rattle.dating_bounds.specs.declared.moments.During.{During}
use Rattle.dating_bounds.specs.declared.moments.During.TheVariants.{Surely, Never}
use Rattle.dating_bounds.specs.Moment.{IsDuring, is_surely, is_never, maybe_of, during_of}
use Rattle.dating_bounds.proofs.UnderWay.{during_is}
use Rattle.dating_bounds.proofs.moments.at_date.Goals as goal

pub returns-then-is_surely-clause-computed : goal.returns-then-is_surely-clause-computed
returns-then-is_surely-clause-computed c =
    let sure : is_surely (reach_between c.args.shares.now.list) c.args.date c.args.k ≡ true = sym c.is_surely.ensures ∙ c.if-is_surely.true in
    rw sure refl

pub returns-then-is_surely-clause-during : goal.returns-then-is_surely-clause-during
returns-then-is_surely-clause-during c =
    let sure : is_surely (reach_between c.args.shares.now.list) c.args.date c.args.k ≡ true = sym c.is_surely.ensures ∙ c.if-is_surely.true in
    let is : Surely ≡ during_of c.args.shares.now c.args.date c.args.k = rw sure refl in
    subst (IsDuring c.args.shares.now (get_or c.args.shares.now.dates c.args.date (pos 0)) c.args.k) (sym is)
    (during_is c.args.shares.now c.conditions.ensures.orders c.conditions.ensures.consistent c.args.date c.args.k c.requires.date c.requires.extent)

pub returns-then-is_never-clause-computed : goal.returns-then-is_never-clause-computed
returns-then-is_never-clause-computed c =
    let unsure : is_surely (reach_between c.args.shares.now.list) c.args.date c.args.k ≡ false = sym c.is_surely.ensures ∙ c.if-is_surely.false in
    let never : is_never (reach_between c.args.shares.now.list) c.args.date c.args.k ≡ true = sym c.is_never.ensures ∙ c.if-is_never.true in
    rw unsure (rw never refl)

pub returns-then-is_never-clause-during : goal.returns-then-is_never-clause-during
returns-then-is_never-clause-during c =
    let unsure : is_surely (reach_between c.args.shares.now.list) c.args.date c.args.k ≡ false = sym c.is_surely.ensures ∙ c.if-is_surely.false in
    let never : is_never (reach_between c.args.shares.now.list) c.args.date c.args.k ≡ true = sym c.is_never.ensures ∙ c.if-is_never.true in
    let is : Never ≡ during_of c.args.shares.now c.args.date c.args.k = rw unsure (rw never refl) in
    subst (IsDuring c.args.shares.now (get_or c.args.shares.now.dates c.args.date (pos 0)) c.args.k) (sym is)
    (during_is c.args.shares.now c.conditions.ensures.orders c.conditions.ensures.consistent c.args.date c.args.k c.requires.date c.requires.extent)

pub returns-clause-computed : goal.returns-clause-computed
returns-clause-computed c =
    let unsure : is_surely (reach_between c.args.shares.now.list) c.args.date c.args.k ≡ false = sym c.is_surely.ensures ∙ c.if-is_surely.false in
    let possible : is_never (reach_between c.args.shares.now.list) c.args.date c.args.k ≡ false = sym c.is_never.ensures ∙ c.if-is_never.false in
    let is : maybe_of c.args.shares.now c.args.date c.args.k ≡ during_of c.args.shares.now c.args.date c.args.k = rw unsure (rw possible refl) in
    IfOk-weaker c.maybe.result (λ (d : During). d ≡ maybe_of c.args.shares.now c.args.date c.args.k) (λ (d : During). d ≡ during_of c.args.shares.now c.args.date c.args.k)
    (λ d e. e ∙ is) c.maybe.ensures

pub returns-clause-during : goal.returns-clause-during
returns-clause-during c =
    let unsure : is_surely (reach_between c.args.shares.now.list) c.args.date c.args.k ≡ false = sym c.is_surely.ensures ∙ c.if-is_surely.false in
    let possible : is_never (reach_between c.args.shares.now.list) c.args.date c.args.k ≡ false = sym c.is_never.ensures ∙ c.if-is_never.false in
    let is : maybe_of c.args.shares.now c.args.date c.args.k ≡ during_of c.args.shares.now c.args.date c.args.k = rw unsure (rw possible refl) in
    IfOk-weaker c.maybe.result (λ (d : During). d ≡ maybe_of c.args.shares.now c.args.date c.args.k) (IsDuring c.args.shares.now (get_or c.args.shares.now.dates c.args.date (pos 0)) c.args.k)
    (λ d e. subst (IsDuring c.args.shares.now (get_or c.args.shares.now.dates c.args.date (pos 0)) c.args.k) (sym (e ∙ is))
    (during_is c.args.shares.now c.conditions.ensures.orders c.conditions.ensures.consistent c.args.date c.args.k c.requires.date c.requires.extent)) c.maybe.ensures
