use Rattle.std.proofs.Common.{ap, sym, ◌∙◌, ◌≡◌, ◌++◌, [], refl, inl, inr, subst}
use Rattle.std.specs.Prelude.{None, Ok, ◌≤◌}
use Rattle.rdf_terms.specs.declared.terms.Code.TheVariants.{G1, L2}
use Rattle.rdf_terms.specs.declared.terms.Refusal.{Refusal}
use Rattle.rdf_chars.specs.Steps.{ended}
use Rattle.text_patterns.specs.Machines.{IsOpen}
use Rattle.turtle_tokens.specs.Machine.{turtle}
use Rattle.token_scanner.specs.Widths.{width}
use Rattle.turtle_tokens.specs.Scanning.{front_items, items_of}
use Rattle.turtle_lexer.specs.Streams.{stream}
use Rattle.turtle_lexer.specs.Streams.Stream.{NoToken, Overlong}
use Rattle.turtle_lexer.specs.Lexing.{Lexing, Knows}
use Rattle.turtle_lexer.proofs.Saying.{refused_says, stop_ahead, none_stream, long_stream, token_ahead, same_ahead, end_ahead}
use Rattle.turtle_lexer.proofs.lexer.Lexer.settle.Goals as goal

pub returns-in-Some-Nothing-clause-says : goal.returns-in-Some-Nothing-clause-says
returns-in-Some-Nothing-clause-says c =
    let k = c.front.new.self in
    let r : Refusal = record { code = G1; at = c.at-at.result } in
    refused_says c.args.self.now c.refuse.new.self r c.refuse.result c.refuse.ensures.said (ap (λ v. v.refusal) c.refuse.ensures.refused) (ap (λ v. v.kept.chars) c.refuse.ensures.refused)
    c.requires.refusal c.requires.good
    (stop_ahead c.args.self.now r c.requires.refusal (λ chars whole. inl (
      refl,
      ap (λ v. stream (items_of v.kept chars)) (sym c.self.view_is)
          ∙ ap stream (sym (c.front.ensures.items chars) ∙ c.in-Some-Nothing.ensures.front chars (λ e. whole (sym (ap (λ v. v.finished) c.self.view_is) ∙ e)))
          ∙ ap (λ f. stream (front_items f (k.chars ++ chars) k.at)) c.in-Some-Nothing.field-0-is
          ∙ none_stream k.chars chars k.at c.in-Some-Nothing.ensures.some
          ∙ ap NoToken (sym c.at-at.ensures),
    )))

pub returns-in-Some-Long-clause-says : goal.returns-in-Some-Long-clause-says
returns-in-Some-Long-clause-says c =
    let k = c.front.new.self in
    let r : Refusal = record { code = L2; at = c.at-at-in-Some-Long.result } in
    refused_says c.args.self.now c.refuse-in-Some-Long.new.self r c.refuse-in-Some-Long.result c.refuse-in-Some-Long.ensures.said
    (ap (λ v. v.refusal) c.refuse-in-Some-Long.ensures.refused) (ap (λ v. v.kept.chars) c.refuse-in-Some-Long.ensures.refused)
    c.requires.refusal c.requires.good
    (stop_ahead c.args.self.now r c.requires.refusal (λ chars whole. inr (
      refl,
      ap (λ v. stream (items_of v.kept chars)) (sym c.self.view_is)
          ∙ ap stream (sym (c.front.ensures.items chars) ∙ c.in-Some-Long.ensures.front chars (λ e. whole (sym (ap (λ v. v.finished) c.self.view_is) ∙ e)))
          ∙ ap (λ f. stream (front_items f (k.chars ++ chars) k.at)) c.in-Some-Long.field-0-is
          ∙ long_stream k.chars chars k.at c.in-Some-Long.ensures.some
          ∙ ap Overlong (sym c.at-at-in-Some-Long.ensures),
    )))

pub returns-in_ok-token-in-Some-Token-clause-says : goal.returns-in_ok-token-in-Some-Token-clause-says
returns-in_ok-token-in-Some-Token-clause-says c =
    let k = c.front.new.self in
    let token = c.in_ok-token-in-Some-Token in
    let none : c.token.new.self.refusal ≡ None = ap (λ v. v.refusal) token.ensures.same ∙ ap (λ v. v.refusal) c.self.view_is ∙ c.requires.refusal in (
      c.requires.refusal,
      none,
      c.requires.good,
      token_ahead c.args.self.now c.token.new.self token.field-0 c.requires.refusal none (ap (λ v. v.fed) token.ensures.same ∙ ap (λ v. v.fed) c.self.view_is)
          (λ chars whole.
          ap (λ v. stream (items_of v.kept chars)) (sym c.self.view_is)
          ∙ ap stream (sym (c.front.ensures.items chars) ∙ c.in-Some-Token.ensures.front chars (λ e. whole (sym (ap (λ v. v.finished) c.self.view_is) ∙ e)))
          ∙ ap (λ f. stream (front_items f (k.chars ++ chars) k.at)) c.in-Some-Token.field-0-is
          ∙ token.ensures.token chars),
    )

pub returns-then-self-clause-says : goal.returns-then-self-clause-says
returns-then-self-clause-says c =
    let k = c.front.new.self in
    let finished = ap (λ v. v.finished) (sym c.self.view_is) ∙ c.if-self.true in
    let none = ap (λ v. v.refusal) c.self.view_is ∙ c.requires.refusal in
    let empty = c.in-None.ensures.none c.if-self.true in
    let known = subst (λ b. Knows b c.self.inside.finished c.self.inside.steps) (ap (λ v. v.bad) c.self.view_is ∙ c.requires.good) c.self.invariant.3 c.if-self.true in
    let m : Lexing = record { fed = c.self.inside.steps; kept = k; begun = c.self.inside.begun; bad = c.self.inside.bad; finished = c.self.inside.finished; refusal = c.self.inside.refusal; starved = c.self.inside.starved } in (
      c.requires.refusal,
      none,
      finished,
      empty,
      end_ahead c.args.self.now k c.requires.refusal (subst (λ v. ended v.fed ≡ Ok tt) c.self.view_is known) (c.in-None.ensures.items [] ∙ ap (λ v. items_of v.kept []) c.self.view_is) empty,
      end_ahead m k none known refl empty,
    )

pub returns-else-self-clause-says : goal.returns-else-self-clause-says
returns-else-self-clause-says c =
    let k = c.compact.new.self in
    let none = ap (λ v. v.refusal) c.self.view_is ∙ c.requires.refusal in
    let m : Lexing = record { fed = c.self.inside.steps; kept = k; begun = c.self.inside.begun; bad = c.self.inside.bad; finished = c.self.inside.finished; refusal = c.self.inside.refusal; starved = c.self.inside.starved } in (
      c.requires.refusal,
      none,
      c.requires.good,
      ap (λ v. v.finished) (sym c.self.view_is) ∙ c.if-self.false,
      subst (λ x. IsOpen turtle x.chars) (sym c.compact.ensures) c.in-None.ensures.open,
      subst (λ x. width x.chars ≤ 65536) (sym c.compact.ensures) c.in-None.ensures.narrow,
      same_ahead c.args.self.now m (ap (λ v. v.fed) c.self.view_is) (ap (λ v. v.refusal) c.self.view_is)
          (λ chars. ap (λ x. items_of x chars) c.compact.ensures ∙ c.in-None.ensures.items chars ∙ ap (λ v. items_of v.kept chars) c.self.view_is),
    )
