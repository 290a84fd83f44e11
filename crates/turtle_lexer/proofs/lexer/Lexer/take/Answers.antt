use Rattle.std.proofs.Common.{refl, ap, sym, ◌∙◌, ◌∷◌, ◌+◌, ◌≡◌, ◌++◌, [], arith, subst}
use Rattle.std.specs.Prelude.{Some, None, Ok, ◌<◌, ◌^◌}
use Rattle.turtle_lexer.specs.Lexing.{ahead, IsFed, HasRoom, stopped}
use Rattle.turtle_tokens.specs.Scanning.{items_of}
use Rattle.turtle_lexer.specs.Streams.{by_chars, stream}
use Rattle.rdf_chars.specs.Decoding.{decoded}
use Rattle.turtle_lexer.proofs.Feeding.{bad_ahead, fed_some, fed_none, knows_ok, knows_err, room_pushed, room_same, emptied_none, on_ok_by, on_err_by, begun_whole, begun_inside}
use Rattle.turtle_lexer.proofs.lexer.Lexer.take.Goals as goal

pub returns-in-Err-clause-ahead : goal.returns-in-Err-clause-ahead
returns-in-Err-clause-ahead c = λ more.
    subst (λ l. by_chars (decoded c.push.new.self more) (λ chars. stopped c.self.inside.refusal (stream (items_of c.self.inside.cutter chars))) ≡ ahead l (c.args.byte ∷ more)) c.self.view_is
    (bad_ahead c.self.inside.steps c.push.new.self c.args.byte c.in-Err.bad more (λ chars. stopped c.self.inside.refusal (stream (items_of c.self.inside.cutter chars)))
    (sym c.push.ensures.said ∙ c.in-Err.is) c.push.ensures.fed)

pub returns-then-is_some-clause-bytes : goal.returns-then-is_some-clause-bytes
returns-then-is_some-clause-bytes c = λ bytes f.
    let old = subst (λ l. IsFed l bytes) (sym c.self.view_is) f in (
      c.push.ensures.stands bytes old.0,
      fed_some c.self.inside.finished bytes c.args.byte c.in-Ok-Some.c c.self.inside.bad c.push.result (ap (λ l. l.finished) c.self.view_is ∙ c.requires.before) (c.in-Ok-Some.is ∙ ap Ok c.in-Ok-Some.field-0-is) (c.push.ensures.says bytes old.0) old.1,
      begun_whole c.self.inside.finished bytes c.args.byte c.in-Ok-Some.c 0 c.self.inside.bad c.push.result (ap (λ l. l.finished) c.self.view_is ∙ c.requires.before) (c.in-Ok-Some.is ∙ ap Ok c.in-Ok-Some.field-0-is) (c.push.ensures.says bytes old.0) old.1 refl,
    )

pub returns-else-is_err-clause-bytes : goal.returns-else-is_err-clause-bytes
returns-else-is_err-clause-bytes c = λ bytes f.
    let old = subst (λ l. IsFed l bytes) (sym c.self.view_is) f in (
      c.push.ensures.stands bytes old.0,
      fed_some c.self.inside.finished bytes c.args.byte c.in-Ok-Some.c c.self.inside.bad c.push.result (ap (λ l. l.finished) c.self.view_is ∙ c.requires.before) (c.in-Ok-Some.is ∙ ap Ok c.in-Ok-Some.field-0-is) (c.push.ensures.says bytes old.0) old.1,
      begun_whole c.self.inside.finished bytes c.args.byte c.in-Ok-Some.c 0 c.self.inside.bad c.push.result (ap (λ l. l.finished) c.self.view_is ∙ c.requires.before) (c.in-Ok-Some.is ∙ ap Ok c.in-Ok-Some.field-0-is) (c.push.ensures.says bytes old.0) old.1 refl,
    )

pub returns-in-Ok-None-clause-bytes : goal.returns-in-Ok-None-clause-bytes
returns-in-Ok-None-clause-bytes c = λ bytes f.
    let old = subst (λ l. IsFed l bytes) (sym c.self.view_is) f in (
      c.push.ensures.stands bytes old.0,
      fed_none c.self.inside.finished bytes c.args.byte c.self.inside.bad c.push.result (ap (λ l. l.finished) c.self.view_is ∙ c.requires.before) (c.in-Ok-None.is ∙ ap Ok c.in-Ok-None.field-0-is) (c.push.ensures.says bytes old.0) old.1,
      begun_inside bytes c.args.byte c.self.inside.begun c.min-self-inside.result c.self.inside.bad c.push.result (c.in-Ok-None.is ∙ ap Ok c.in-Ok-None.field-0-is) (c.push.ensures.says bytes old.0) old.2 c.min-self-inside.ensures,
    )

pub invariant_of-self-else-is_err : goal.invariant_of-self-else-is_err
invariant_of-self-else-is_err c =
    let kept = on_ok_by c.push-in-Ok-Some.result (c.push-in-Ok-Some.new.self ≡ record c.self.inside.cutter { chars = c.self.inside.cutter.chars ++ c.in-Ok-Some.c ∷ [] }) (sym c.is_err.ensures.value ∙ c.if-is_err.false) c.push-in-Ok-Some.ensures.ok in (
      room_pushed c.self.inside.cutter c.push-in-Ok-Some.new.self c.self.inside.steps c.push.new.self c.in-Ok-Some.c c.self.invariant.0 kept c.push.ensures.count
          (subst (λ l. l.fed.count + 1 < 2 ^ 32) (sym c.self.view_is) c.requires.room),
      emptied_none c.self.inside.refusal c.push-in-Ok-Some.new.self (sym c.is_some.ensures ∙ c.if-is_some.false),
      omega arith,
      knows_ok c.self.inside.bad c.self.inside.finished c.self.inside.steps c.push.new.self c.args.byte (Some c.in-Ok-Some.c) (ap (λ l. l.finished) c.self.view_is ∙ c.requires.before) (sym c.push.ensures.said ∙ c.in-Ok-Some.is ∙ ap Ok c.in-Ok-Some.field-0-is) c.push.ensures.fed c.self.invariant.3,
    )

pub invariant_of-self : goal.invariant_of-self
invariant_of-self c = (
  room_same c.self.inside.cutter c.self.inside.steps c.push.new.self c.self.invariant.0 c.push.ensures.count
      (subst (λ l. l.fed.count + 1 < 2 ^ 32) (sym c.self.view_is) c.requires.room),
  c.self.invariant.1,
  omega arith,
  knows_ok c.self.inside.bad c.self.inside.finished c.self.inside.steps c.push.new.self c.args.byte (Some c.in-Ok-Some.c) (ap (λ l. l.finished) c.self.view_is ∙ c.requires.before) (sym c.push.ensures.said ∙ c.in-Ok-Some.is ∙ ap Ok c.in-Ok-Some.field-0-is) c.push.ensures.fed c.self.invariant.3,
)

pub invariant_of-self-then-is_err : goal.invariant_of-self-then-is_err
invariant_of-self-then-is_err c = (
  room_same c.push-in-Ok-Some.new.self c.self.inside.steps c.push.new.self (subst (λ k. HasRoom k c.self.inside.steps) (sym (on_err_by c.push-in-Ok-Some.result (c.push-in-Ok-Some.new.self ≡ c.self.inside.cutter) (sym c.is_err.ensures.value ∙ c.if-is_err.true) c.push-in-Ok-Some.ensures.err)) c.self.invariant.0) c.push.ensures.count
      (subst (λ l. l.fed.count + 1 < 2 ^ 32) (sym c.self.view_is) c.requires.room),
  emptied_none c.self.inside.refusal c.push-in-Ok-Some.new.self (sym c.is_some.ensures ∙ c.if-is_some.false),
  omega arith,
  knows_ok c.self.inside.bad c.self.inside.finished c.self.inside.steps c.push.new.self c.args.byte (Some c.in-Ok-Some.c) (ap (λ l. l.finished) c.self.view_is ∙ c.requires.before) (sym c.push.ensures.said ∙ c.in-Ok-Some.is ∙ ap Ok c.in-Ok-Some.field-0-is) c.push.ensures.fed c.self.invariant.3,
)

pub invariant_of-self-in-Ok-None : goal.invariant_of-self-in-Ok-None
invariant_of-self-in-Ok-None c = (
  room_same c.self.inside.cutter c.self.inside.steps c.push.new.self c.self.invariant.0 c.push.ensures.count
      (subst (λ l. l.fed.count + 1 < 2 ^ 32) (sym c.self.view_is) c.requires.room),
  c.self.invariant.1,
  omega arith,
  knows_ok c.self.inside.bad c.self.inside.finished c.self.inside.steps c.push.new.self c.args.byte None (ap (λ l. l.finished) c.self.view_is ∙ c.requires.before) (sym c.push.ensures.said ∙ c.in-Ok-None.is ∙ ap Ok c.in-Ok-None.field-0-is) c.push.ensures.fed c.self.invariant.3,
)

pub invariant_of-self-in-Err : goal.invariant_of-self-in-Err
invariant_of-self-in-Err c = (
  room_same c.self.inside.cutter c.self.inside.steps c.push.new.self c.self.invariant.0 c.push.ensures.count
      (subst (λ l. l.fed.count + 1 < 2 ^ 32) (sym c.self.view_is) c.requires.room),
  c.self.invariant.1,
  omega arith,
  knows_err c.self.inside.finished c.self.inside.steps c.push.new.self c.args.byte c.in-Err.bad (sym c.push.ensures.said ∙ c.in-Err.is) c.push.ensures.fed,
)
