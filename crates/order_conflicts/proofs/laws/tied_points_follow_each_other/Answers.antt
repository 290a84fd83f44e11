use Rattle.std.proofs.Common.{◌≡◌, true, false, Bool, refl, sym}
use Rattle.std.specs.Prelude.{◌&&◌}
use Rattle.std.proofs.lemmas.Bool.{true≢false}
use Rattle.order_laws.specs.Closure.{reach_between}
use Rattle.order_laws.specs.Tables.{is_known}
use Rattle.order_laws.proofs.Closure.{entry_follows, follows_entry}
use Rattle.order_conflicts.proofs.laws.tied_points_follow_each_other.Goals as goal

both : (a b : Bool) → (a && b) ≡ true → (a ≡ true) × (b ≡ true)
both true b e = (refl, e)
both false b e = absurd (true≢false (sym e))

pub returns : goal.returns
returns c = λ orders x y. (
  λ e.
      (let each = both (is_known (reach_between orders x y)) (is_known (reach_between orders y x)) e in
      (entry_follows orders x y false each.0, entry_follows orders y x false each.1)),
  λ f. rw (follows_entry orders x y false f.0, follows_entry orders y x false f.1) refl,
)
