use Rattle.std.proofs.Common.{arith, refl, sym, ◌∙◌, true, false, true≢false}
use Rattle.std.proofs.lemmas.List.{length-map}
use Rattle.indexmap.proofs.CallerLemmas.{insert_entry-new}
use Rattle.rdf_terms.proofs.Held.{held_by_key, added_last, none_from_absent, same_key_eq}
use Rattle.rdf_terms.proofs.triples.Triples.add.Goals as goal

pub returns-then-contains_key-clause-added : goal.returns-then-contains_key-clause-added
returns-then-contains_key-clause-added c =
    rw (held_by_key c.args.t c.self.inside.places.entries c.args.self.now _ true c.self.view_is c.contains_key.ensures c.if-contains_key.true) refl

pub returns-then-contains_key-clause-held : goal.returns-then-contains_key-clause-held
returns-then-contains_key-clause-held c =
    rw (held_by_key c.args.t c.self.inside.places.entries c.args.self.now _ true c.self.view_is c.contains_key.ensures c.if-contains_key.true) refl

pub returns-then-len-ge-TRIPLE_LIMIT-clause-too_many :
    goal.returns-then-len-ge-TRIPLE_LIMIT-clause-too_many
returns-then-len-ge-TRIPLE_LIMIT-clause-too_many c = λ _.
    let absent = held_by_key c.args.t c.self.inside.places.entries c.args.self.now _ false c.self.view_is c.contains_key.ensures c.if-contains_key.false in
    (absent, rw (← c.self.view_is) (simp length-map (omega (arith, c.self.invariant, c.len.ensures.len))))

pub returns-clause-added : goal.returns-clause-added
returns-clause-added c =
    rw (held_by_key c.args.t c.self.inside.places.entries c.args.self.now _ false c.self.view_is c.contains_key.ensures c.if-contains_key.false) refl

pub returns-clause-held : goal.returns-clause-held
returns-clause-held c =
    let absent = held_by_key c.args.t c.self.inside.places.entries c.args.self.now _ false c.self.view_is c.contains_key.ensures c.if-contains_key.false in
    added_last c.args.t c.self.inside.places.entries c.insert.new.self.entries c.args.self.now c.self.view_is absent
    (c.in-Ok.ensures.entries ∙ insert_entry-new (same_key_eq) c.self.inside.places (c.args.t.s, c.args.t.p, c.args.t.o) c.args.t.at (none_from_absent _ (sym c.contains_key.ensures ∙ c.if-contains_key.false)))

pub returns-then-contains_key-clause-full : goal.returns-then-contains_key-clause-full
returns-then-contains_key-clause-full c = λ absent _.
    let held = held_by_key c.args.t c.self.inside.places.entries c.args.self.now _ true c.self.view_is c.contains_key.ensures c.if-contains_key.true in
    absurd (true≢false (sym held ∙ absent))
