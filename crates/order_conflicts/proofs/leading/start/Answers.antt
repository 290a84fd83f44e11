use Rattle.std.proofs.Common.{ℕ, Bool, [], false, replicate, ap, ◌∙◌, ◌+◌, ◌*◌, ◌≡◌, refl, arith}
use Rattle.chain_certificate.specs.Routes.{points_of}
use Rattle.order_conflicts.proofs.Searching.{empty_found}
use Rattle.order_conflicts.proofs.leading.start.Goals as goal

pub returns : goal.returns
returns c = λ t.
    let points : ℕ = points_of c.args.set.now in
    let count : 2 * c.extents.result + c.len.result ≡ points = omega (arith, c.extents.ensures, (rw c.dates.ensures at c.len.ensures)) in
    let seen : c.in_ok-seen.seen.items ≡ replicate points false =
    c.in_ok-seen.ensures.items_if_clones_equal (λ y e. e) ∙ ap (λ (n : ℕ). replicate {A = Bool} n false) count in
    record {
      found = c.in_ok-keep.ensures.found c.args.set.now t points c.args.from (empty_found c.args.set.now t points c.args.from _ seen c.new.ensures.items) ([], refl);
      start = c.in_ok-keep.ensures.seen;
      within = omega arith;
      taken = λ i h. absurd (omega arith);
    }
