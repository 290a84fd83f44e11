use Rattle.std.proofs.Common.{◌≤◌, ◌+◌, ◌-◌, length, sym, subst}
use Rattle.time_primitive.specs.declared.parts.Parts.{Parts}
use Rattle.std.specs.Prelude.{IfSome, pos, neg_ℤ, ◌≤ℤ◌}
use Rattle.time_primitive.proofs.Digits.{fraction_length, short_year}
use Rattle.time_primitive.proofs.parts.parts_in.Goals as goal

pub returns-clause-placed : goal.returns-clause-placed
returns-clause-placed c = record {
  decimals = subst (λ (p : Parts). p.decimals ≤ length c.args.text.now - (p.year_end + 16)) (sym c.assembled.ensures.value) (fraction_length c.args.form c.args.text.now);
  first_nonzero = c.assembled.ensures.first;
  offset = c.assembled.ensures.zone;
  year = subst (λ (p : Parts). IfSome p.year (λ y. (p.year_end ≤ 5) × (neg_ℤ (pos 9999) ≤ℤ y) × (y ≤ℤ pos 9999))) (sym c.assembled.ensures.value) (short_year c.args.text.now);
}
