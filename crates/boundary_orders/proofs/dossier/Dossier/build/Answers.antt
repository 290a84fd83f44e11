use Rattle.std.proofs.Common.{◌≡◌, ℕ, Bool, true, Result, Ok, Err, List, IfOk, IfErr, length, sym, ap, ap₂, subst, arith}
use Rattle.std.specs.List.{All}
use Rattle.rdf_terms.specs.declared.terms.Term.{Term}
use Rattle.rdf_terms.specs.Fitting.{is_among}
use Rattle.order_laws.specs.declared.Order.{Order}
use Rattle.boundary_orders.specs.declared.faults.BuildFault.{BuildFault}
use Rattle.boundary_orders.specs.declared.statements.Statement.{Statement}
use Rattle.boundary_orders.specs.Statements.{statements_of}
use Rattle.boundary_orders.specs.Extents.{extents_of}
use Rattle.boundary_orders.specs.Orders.{AreNumbered, dates_of}
use Rattle.boundary_orders.specs.Dossiers.{Findings, findings_in, findings_of, IsPassed, IsSourced}
use Rattle.boundary_orders.proofs.Within.{extents_cover}
use Rattle.boundary_orders.proofs.Counting.{extents_few, statements_few}
use Rattle.boundary_orders.proofs.Fitting.{extents_fit}
use Rattle.boundary_orders.proofs.Pointing.{all_sourced}
use Rattle.boundary_orders.proofs.dossier.Dossier.build.Goals as goal

then_ok : (r : Result Findings BuildFault) (P Q : Findings → Type 0) → ((d : Findings) → P d → Q d) → IfOk r P → IfOk r Q
then_ok (Ok d) P Q f h = f d h
then_ok (Err e) P Q f h = tt

pub arrange-requires-clause-numbered : goal.arrange-requires-clause-numbered
arrange-requires-clause-numbered c =
    let stated : c.in_ok-statements.statements ≡ statements_of c.args.names.now c.args.pool.now.pairs c.args.faults.now
    = c.in_ok-statements.ensures c.args.faults.now c.in_ok-index.ensures c.in_ok-faulty.ensures in
    let listed : c.in_ok-extents.extents.entries ≡ extents_of c.args.names.now c.args.pool.now.pairs c.args.faults.now
    = c.in_ok-extents.ensures c.args.faults.now c.in_ok-faulty.ensures stated in
    subst (λ (ss : List (ℕ × Statement)). All (λ (s : ℕ × Statement). AreNumbered c.in_ok-extents.extents.entries s.1) ss) (sym stated)
    (subst (λ (es : List (Term × Bool)). All (λ (s : ℕ × Statement). AreNumbered es s.1) (statements_of c.args.names.now c.args.pool.now.pairs c.args.faults.now))
    (sym listed) (extents_cover c.args.names.now c.args.pool.now.pairs c.args.faults.now))

pub arrange-requires-clause-few_extents : goal.arrange-requires-clause-few_extents
arrange-requires-clause-few_extents c =
    let stated : c.in_ok-statements.statements ≡ statements_of c.args.names.now c.args.pool.now.pairs c.args.faults.now
    = c.in_ok-statements.ensures c.args.faults.now c.in_ok-index.ensures c.in_ok-faulty.ensures in
    omega (
      arith,
      ap length (c.in_ok-extents.ensures c.args.faults.now c.in_ok-faulty.ensures stated),
      extents_few c.args.names.now c.args.pool.now.pairs c.args.faults.now,
      c.len-count.ensures.few,
    )

pub arrange-requires-clause-few_statements : goal.arrange-requires-clause-few_statements
arrange-requires-clause-few_statements c =
    omega (
      arith,
      ap length (c.in_ok-statements.ensures c.args.faults.now c.in_ok-index.ensures c.in_ok-faulty.ensures),
      statements_few c.args.names.now c.args.pool.now.pairs c.args.faults.now,
      c.len-count.ensures.few,
    )

pub returns-clause-ok : goal.returns-clause-ok
returns-clause-ok c =
    let stated : c.in_ok-statements.statements ≡ statements_of c.args.names.now c.args.pool.now.pairs c.args.faults.now
    = c.in_ok-statements.ensures c.args.faults.now c.in_ok-index.ensures c.in_ok-faulty.ensures in
    let listed : c.in_ok-extents.extents.entries ≡ extents_of c.args.names.now c.args.pool.now.pairs c.args.faults.now
    = c.in_ok-extents.ensures c.args.faults.now c.in_ok-faulty.ensures stated in
    subst (λ (f : Findings). IfOk c.arrange.result (λ d. d ≡ f))
    (ap₂ (λ (es : List (Term × Bool)) (ss : List (ℕ × Statement)). findings_in c.args.names.now es ss) listed stated) c.arrange.ensures.ok

pub returns-clause-err : goal.returns-clause-err
returns-clause-err c =
    let stated : c.in_ok-statements.statements ≡ statements_of c.args.names.now c.args.pool.now.pairs c.args.faults.now
    = c.in_ok-statements.ensures c.args.faults.now c.in_ok-index.ensures c.in_ok-faulty.ensures in
    let listed : c.in_ok-extents.extents.entries ≡ extents_of c.args.names.now c.args.pool.now.pairs c.args.faults.now
    = c.in_ok-extents.ensures c.args.faults.now c.in_ok-faulty.ensures stated in
    subst (λ (f : Findings). IfErr c.arrange.result (λ e. IsPassed f e))
    (ap₂ (λ (es : List (Term × Bool)) (ss : List (ℕ × Statement)). findings_in c.args.names.now es ss) listed stated) c.arrange.ensures.err

pub returns-clause-fits : goal.returns-clause-fits
returns-clause-fits c = λ fit.
    then_ok c.arrange.result (λ d. d ≡ findings_of c.args.names.now c.args.pool.now.pairs c.args.faults.now)
    (λ d. All (λ (e : Term × Bool). is_among c.args.names.now e.0 ≡ true) d.extents)
    (λ d same.
    subst (λ (es : List (Term × Bool)). All (λ (e : Term × Bool). is_among c.args.names.now e.0 ≡ true) es) (sym (ap (λ (f : Findings). f.extents) same))
    (extents_fit c.args.names.now c.args.pool.now.pairs c.args.faults.now fit))
    (returns-clause-ok c)

pub returns-clause-sources : goal.returns-clause-sources
returns-clause-sources c =
    then_ok c.arrange.result (λ d. d ≡ findings_of c.args.names.now c.args.pool.now.pairs c.args.faults.now)
    (λ d. All (λ (o : Order). IsSourced c.args.pool.now.pairs o.by) d.orders.list)
    (λ d same.
    subst (λ (os : List Order). All (λ (o : Order). IsSourced c.args.pool.now.pairs o.by) os) (sym (ap (λ (f : Findings). f.orders.list) same))
    (all_sourced c.args.names.now c.args.pool.now.pairs c.args.faults.now (extents_of c.args.names.now c.args.pool.now.pairs c.args.faults.now)
    (dates_of c.args.names.now (statements_of c.args.names.now c.args.pool.now.pairs c.args.faults.now))
    (length (extents_of c.args.names.now c.args.pool.now.pairs c.args.faults.now))
    (length (dates_of c.args.names.now (statements_of c.args.names.now c.args.pool.now.pairs c.args.faults.now)))))
    (returns-clause-ok c)
