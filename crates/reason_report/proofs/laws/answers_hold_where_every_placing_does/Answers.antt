use Rattle.std.proofs.Common.{length, ◌∙◌, sym}
use Rattle.std.proofs.lemmas.Bool.{true≢false}
use Rattle.order_laws.specs.Closure.{reach_between}
use Rattle.order_laws.proofs.Closure.{entry_follows, follows_entry}
use Rattle.order_laws.proofs.Placed.{always_follows, follows_always, delaying_satisfies}
use Rattle.order_core.specs.Primitives.{points_of}
use Rattle.reason_report.proofs.Broken.{breaks}
use Rattle.reason_report.proofs.Points.{left_within, right_within}
use Rattle.reason_report.proofs.Standing.{enough_has, answer_chain}
use Rattle.reason_report.proofs.laws.answers_hold_where_every_placing_does.Goals as goal

pub returns-clause-holds : goal.returns-clause-holds
returns-clause-holds c = λ set a p b conditions none in_a in_b.
    (let same = enough_has (points_of p a b).2 (reach_between set.list (points_of p a b).0 (points_of p a b).1) in (
      λ e. follows_always set.list set.extents set.dates (points_of p a b).0 (points_of p a b).1 (points_of p a b).2
          (entry_follows set.list (points_of p a b).0 (points_of p a b).1 (points_of p a b).2 (sym same ∙ e)),
      λ always. same ∙ follows_entry set.list (points_of p a b).0 (points_of p a b).1 (points_of p a b).2
          (always_follows set.list set.extents set.dates conditions none (points_of p a b).0 (points_of p a b).1
          (left_within p a b set.extents (length set.dates) in_a) (right_within p a b set.extents (length set.dates) in_b) (points_of p a b).2 always),
    ))

pub returns-clause-chain : goal.returns-clause-chain
returns-clause-chain c = λ set a p b apart e. answer_chain set.list a p b apart e

pub returns-clause-satisfied : goal.returns-clause-satisfied
returns-clause-satisfied c = λ set a p b conditions none in_a.
    delaying_satisfies set.list set.extents set.dates conditions none (points_of p a b).0 (left_within p a b set.extents (length set.dates) in_a)

pub returns-clause-broken : goal.returns-clause-broken
returns-clause-broken c = λ set a p b conditions none in_a in_b e.
    (let same = enough_has (points_of p a b).2 (reach_between set.list (points_of p a b).0 (points_of p a b).1) in
    breaks set.list set.extents set.dates conditions none (points_of p a b).0 (points_of p a b).1
    (left_within p a b set.extents (length set.dates) in_a) (right_within p a b set.extents (length set.dates) in_b) (points_of p a b).2
    (λ f. true≢false (sym (follows_entry set.list (points_of p a b).0 (points_of p a b).1 (points_of p a b).2 f) ∙ sym same ∙ e)))
