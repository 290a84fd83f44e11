use Rattle.std.proofs.Common.{◌≡◌, ◌++◌, ℕ, List, ap, sym, ◌∙◌, append_assoc, subst, codes, OnOk}
use Rattle.order_certificates.specs.declared.sharing.Part.{Part}
use Rattle.order_certificates.specs.Sharing.{no_lets, chain_part, chain_lines}
use Rattle.order_certificates.specs.Cycles.{cycle_end, cycle_text}
use Rattle.order_certificates.proofs.cycles.append_cycle.Goals as goal

-- the three pieces of the text
whole : (cycle old headed lined : List ℕ) (proof : Part) → headed ≡ old ++ codes "crmtime 2 orders\n" → lined ≡ headed ++ chain_lines no_lets cycle
    → proof ≡ chain_part no_lets cycle → lined ++ cycle_end proof ≡ old ++ cycle_text cycle
unfolding cycle_text
whole cycle old headed lined proof h l p =
    let lines = chain_lines no_lets cycle in
    let end = cycle_end (chain_part no_lets cycle) in
    rw (p, l, h) (append_assoc (old ++ codes "crmtime 2 orders\n") lines end ∙ append_assoc old (codes "crmtime 2 orders\n") (lines ++ end))

pub returns : goal.returns
returns c =
    subst (λ (t : List ℕ). OnOk c.append_cycle_end.result (c.append_cycle_end.new.line.items ≡ t))
    (whole c.args.cycle.now c.args.line.now.items _ _ c.in_ok-proof.proof c.in_ok-extend_from_slice.ensures.items c.in_ok-proof.ensures.line c.in_ok-proof.ensures.part)
    c.append_cycle_end.ensures
