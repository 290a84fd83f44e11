use Rattle.std.proofs.Common.{◌≡◌, drop}
use Rattle.std.proofs.lemmas.Result.{err_from_is_err_and}
use Rattle.certificate_reader.specs.declared.heads.Kind.TheVariants.{Orders, SharedOrders, Classes, Matrix}
use Rattle.certificate_checker.specs.declared.verdicts.Verdict.{Verdict}
use Rattle.certificate_checker.specs.declared.verdicts.Verdict.TheVariants.{Classes as Classified, Matrix as Covered}
use Rattle.certificate_checker.specs.Verified.{IsVerified, AreClassesShown, IsMatrixShown}
use Rattle.certificate_checker.specs.Texts.{Body, LineOf, CertificateForm, IsAccepted, IsRefusedAs}
use Rattle.certificate_checker.proofs.Bodies.{if_ok, verified}
use Rattle.certificate_checker.proofs.Stops.{if_err, on_ok}
use Rattle.certificate_checker.proofs.Certificates.{head_refused, body_refused, body_accepted}
use Rattle.certificate_checker.proofs.verifying.verify.Goals as goal

pub returns-in_err-head-clause-refused : goal.returns-in_err-head-clause-refused
returns-in_err-head-clause-refused c =
    let p = err_from_is_err_and c.from_residual.result c.from_residual.ensures.1 in
    rw (p.1, p.2) (head_refused 64 c.args.text.now c.in_err-head.field-0.0 c.in_err-head.ensures.refused)

pub returns-in-Orders-clause-accepted : goal.returns-in-Orders-clause-accepted
returns-in-Orders-clause-accepted c =
    on_ok (IsAccepted (Body (LineOf Orders)) 64 c.args.text.now c.in_ok-head.head.to) (IsAccepted CertificateForm 64 c.args.text.now 0) c.judge_orders.result c.judge_orders.ensures.accepted
    (λ h. body_accepted Orders 64 c.args.text.now c.in_ok-head.head.to (rw c.in-Orders.is at c.in_ok-head.ensures.read) h)

pub returns-in-Orders-clause-refused : goal.returns-in-Orders-clause-refused
returns-in-Orders-clause-refused c =
    if_err (IsRefusedAs (Body (LineOf Orders)) 64 c.args.text.now c.in_ok-head.head.to) (IsRefusedAs CertificateForm 64 c.args.text.now 0) c.judge_orders.result c.judge_orders.ensures.refused
    (λ e h. body_refused Orders 64 c.args.text.now c.in_ok-head.head.to e (rw c.in-Orders.is at c.in_ok-head.ensures.read) h)

pub returns-in-SharedOrders-clause-accepted : goal.returns-in-SharedOrders-clause-accepted
returns-in-SharedOrders-clause-accepted c =
    on_ok (IsAccepted (Body (LineOf SharedOrders)) 64 c.args.text.now c.in_ok-head.head.to) (IsAccepted CertificateForm 64 c.args.text.now 0) c.judge_orders-in-SharedOrders.result c.judge_orders-in-SharedOrders.ensures.accepted
    (λ h. body_accepted SharedOrders 64 c.args.text.now c.in_ok-head.head.to (rw c.in-SharedOrders.is at c.in_ok-head.ensures.read) h)

pub returns-in-SharedOrders-clause-refused : goal.returns-in-SharedOrders-clause-refused
returns-in-SharedOrders-clause-refused c =
    if_err (IsRefusedAs (Body (LineOf SharedOrders)) 64 c.args.text.now c.in_ok-head.head.to) (IsRefusedAs CertificateForm 64 c.args.text.now 0) c.judge_orders-in-SharedOrders.result c.judge_orders-in-SharedOrders.ensures.refused
    (λ e h. body_refused SharedOrders 64 c.args.text.now c.in_ok-head.head.to e (rw c.in-SharedOrders.is at c.in_ok-head.ensures.read) h)

pub returns-in-Classes-clause-verified : goal.returns-in-Classes-clause-verified
returns-in-Classes-clause-verified c =
    if_ok c.judge_classes.result (λ (v : Verdict). (v ≡ Classified) × AreClassesShown c.args.types.now c.args.due.now (drop c.in_ok-head.head.to c.args.text.now))
    (IsVerified c.args.orders.now c.args.periods.now c.args.types.now c.args.due.now c.args.text.now)
    (rw (c.as_slice-in-Classes.ensures, c.as_slice-in-Classes-2.ensures) at c.judge_classes.ensures.shown)
    (λ v h. verified c.args.orders.now c.args.periods.now c.args.types.now c.args.due.now c.args.text.now c.in_ok-head.head.to Classes v (rw c.in-Classes.is at c.in_ok-head.ensures.read) h)

pub returns-in-Classes-clause-accepted : goal.returns-in-Classes-clause-accepted
returns-in-Classes-clause-accepted c =
    on_ok (IsAccepted (Body (LineOf Classes)) 64 c.args.text.now c.in_ok-head.head.to) (IsAccepted CertificateForm 64 c.args.text.now 0) c.judge_classes.result c.judge_classes.ensures.accepted
    (λ h. body_accepted Classes 64 c.args.text.now c.in_ok-head.head.to (rw c.in-Classes.is at c.in_ok-head.ensures.read) h)

pub returns-in-Classes-clause-refused : goal.returns-in-Classes-clause-refused
returns-in-Classes-clause-refused c =
    if_err (IsRefusedAs (Body (LineOf Classes)) 64 c.args.text.now c.in_ok-head.head.to) (IsRefusedAs CertificateForm 64 c.args.text.now 0) c.judge_classes.result c.judge_classes.ensures.refused
    (λ e h. body_refused Classes 64 c.args.text.now c.in_ok-head.head.to e (rw c.in-Classes.is at c.in_ok-head.ensures.read) h)

pub returns-in-Matrix-clause-verified : goal.returns-in-Matrix-clause-verified
returns-in-Matrix-clause-verified c =
    if_ok c.judge_matrix.result (λ (v : Verdict). (v ≡ Covered) × IsMatrixShown c.args.orders.now (drop c.in_ok-head.head.to c.args.text.now))
    (IsVerified c.args.orders.now c.args.periods.now c.args.types.now c.args.due.now c.args.text.now) c.judge_matrix.ensures.shown
    (λ v h. verified c.args.orders.now c.args.periods.now c.args.types.now c.args.due.now c.args.text.now c.in_ok-head.head.to Matrix v (rw c.in-Matrix.is at c.in_ok-head.ensures.read) h)

pub returns-in-Matrix-clause-accepted : goal.returns-in-Matrix-clause-accepted
returns-in-Matrix-clause-accepted c =
    on_ok (IsAccepted (Body (LineOf Matrix)) 64 c.args.text.now c.in_ok-head.head.to) (IsAccepted CertificateForm 64 c.args.text.now 0) c.judge_matrix.result c.judge_matrix.ensures.accepted
    (λ h. body_accepted Matrix 64 c.args.text.now c.in_ok-head.head.to (rw c.in-Matrix.is at c.in_ok-head.ensures.read) h)

pub returns-in-Matrix-clause-refused : goal.returns-in-Matrix-clause-refused
returns-in-Matrix-clause-refused c =
    if_err (IsRefusedAs (Body (LineOf Matrix)) 64 c.args.text.now c.in_ok-head.head.to) (IsRefusedAs CertificateForm 64 c.args.text.now 0) c.judge_matrix.result c.judge_matrix.ensures.refused
    (λ e h. body_refused Matrix 64 c.args.text.now c.in_ok-head.head.to e (rw c.in-Matrix.is at c.in_ok-head.ensures.read) h)
