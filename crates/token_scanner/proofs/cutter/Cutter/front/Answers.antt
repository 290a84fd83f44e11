use Rattle.std.proofs.Common.{[], ◌≡◌, ◌<◌, ◌++◌, drop, length, arith, ap, sym, ◌∙◌, subst}
use Rattle.std.proofs.lemmas.List.{length-drop}
use Rattle.text_patterns.specs.Machines.{IsOpen}
use Rattle.token_scanner.specs.Fronts.{IsCut, ruled}
use Rattle.token_scanner.specs.Cutting.{IsNarrow}
use Rattle.token_scanner.specs.Items.{front_items, TokenFirst}
use Rattle.token_scanner.proofs.Widths.{length_width}
use Rattle.token_scanner.proofs.Lists.{drop_all}
use Rattle.token_scanner.proofs.Readings.{slice_is}
use Rattle.token_scanner.proofs.Leading.{open_start, ruled_cut, ruled_narrow}
use Rattle.token_scanner.proofs.Keeping.{token_first}
use Rattle.token_scanner.proofs.cutter.Cutter.front.Goals as goal

pub returns-then-self-len-clause-open : goal.returns-then-self-len-clause-open
returns-then-self-len-clause-open g c =
    let none : c.skip.new.self.chars ≡ [] = sym (ap (λ v. v.chars) c.self.view_is) ∙ drop_all c.self.inside.from c.self.inside.chars.items (omega (arith, c.if-self-len.true, c.len.ensures)) in
    subst (IsOpen g.S.Syntax.scanner.machine) (sym none) (open_start g.S.Syntax.scanner g.met.S.Syntax.is_scanner)

pub read-requires : goal.read-requires
read-requires g c = omega (arith, length_width c.skip.new.self.chars, c.skip.ensures.place, c.requires)

pub returns-clause-front : goal.returns-clause-front
returns-clause-front g c = λ more whole.
    let k = c.read.new.self in
    let same = c.in_ok-front.ensures.same in
    let long : length k.chars ≡ length (drop c.self.inside.from c.self.inside.chars.items) = ap (λ v. length v.chars) same ∙ sym (ap (λ v. length v.chars) c.self.view_is) in
    let some : 0 < length k.chars = omega (arith, long, length-drop c.self.inside.from c.self.inside.chars.items, c.self.invariant.0, c.if-self-len.false, c.len.ensures) in
    let ruled_is : c.ruled.result ≡ ruled g.S.Syntax.scanner c.in_ok-front.front k.chars =
    c.ruled.ensures ∙ ap (ruled g.S.Syntax.scanner c.in_ok-front.front) (slice_is c.deref.result.now c.self-2.inside.chars.items c.self-2.inside.from c.deref.ensures.value ∙ ap (λ v. v.chars) c.self-2.view_is) in
    token_first g.S.Syntax.scanner k more (subst (λ v. TokenFirst g.S.Syntax.scanner v.place v.chars) (sym same) c.skip.ensures.front) some
    ∙ ap (λ f. front_items g.S.Syntax.scanner f (k.chars ++ more) k.at) (c.in_ok-front.ensures.token more whole ∙ sym ruled_is)

pub returns-clause-cut : goal.returns-clause-cut
returns-clause-cut g c =
    let k = c.read.new.self in
    let ruled_is : c.ruled.result ≡ ruled g.S.Syntax.scanner c.in_ok-front.front k.chars =
    c.ruled.ensures ∙ ap (ruled g.S.Syntax.scanner c.in_ok-front.front) (slice_is c.deref.result.now c.self-2.inside.chars.items c.self-2.inside.from c.deref.ensures.value ∙ ap (λ v. v.chars) c.self-2.view_is) in
    subst (λ f. IsCut f (length k.chars)) (sym ruled_is) (ruled_cut g.S.Syntax.scanner g.met.S.Syntax.is_scanner c.in_ok-front.front k.chars (length k.chars) c.in_ok-front.ensures.cut)

pub returns-clause-least : goal.returns-clause-least
returns-clause-least g c =
    let k = c.read.new.self in
    let ruled_is : c.ruled.result ≡ ruled g.S.Syntax.scanner c.in_ok-front.front k.chars =
    c.ruled.ensures ∙ ap (ruled g.S.Syntax.scanner c.in_ok-front.front) (slice_is c.deref.result.now c.self-2.inside.chars.items c.self-2.inside.from c.deref.ensures.value ∙ ap (λ v. v.chars) c.self-2.view_is) in
    subst (λ f. IsNarrow f k.chars) (sym ruled_is) (ruled_narrow g.S.Syntax.scanner g.met.S.Syntax.is_scanner c.in_ok-front.front k.chars k.chars c.in_ok-front.ensures.least)
