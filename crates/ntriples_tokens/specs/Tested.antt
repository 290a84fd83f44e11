-- The tests of the table pass, so it is a machine.
use Rattle.std.proofs.Common.{ℕ, ◌≡◌, refl, ap, sym, ◌∙◌}
use Rattle.std.specs.Prelude.{Bool, true, cond, ◌==◌}
use Rattle.text_patterns.specs.Machines.{IsMachine}
use Rattle.text_patterns.specs.Tables.{IsTable, fits, ends_at, shuts_at, goes_at}
use Rattle.text_patterns.proofs.Spans.{all}
use Rattle.text_patterns.proofs.Steps.{table_machine}
use Rattle.ntriples_tokens.specs.Machine.{index, table, ntriples}
use Rattle.ntriples_tokens.specs.Lists.{classes, kinds, escapes, plain_states, in_both, each_class, each_kind, each_state}
use Rattle.ntriples_tokens.specs.Sampled.{sampled}
use Rattle.ntriples_tokens.specs.declared.kinds.Kind.{Kind}
use Rattle.ntriples_tokens.specs.declared.kinds.Kind.TheVariants as kind
use Rattle.ntriples_tokens.specs.declared.states.State.{State}

abbrev fits_at : State → Bool
fits_at q = all (λ c. all (fits table q c) kinds) classes

plain_fit : all fits_at plain_states ≡ true
plain_fit = refl

escapes_fit : all (in_both fits_at) escapes ≡ true
escapes_fit = refl

abbrev ends : State → Bool
ends q = all (ends_at table q) kinds

plain_end : all ends plain_states ≡ true
plain_end = refl

escapes_end : all (in_both ends) escapes ≡ true
escapes_end = refl

abbrev shuts : State → Bool
shuts q = all (shuts_at table q) kinds

plain_shut : all shuts plain_states ≡ true
plain_shut = refl

escapes_shut : all (in_both shuts) escapes ≡ true
escapes_shut = refl

plain_go : all (goes_at table) plain_states ≡ true
plain_go = refl

escapes_go : all (in_both (goes_at table)) escapes ≡ true
escapes_go = refl

abbrev kind_at : ℕ → Kind
kind_at n = cond (n == 0) kind.IriRef (cond (n == 1) kind.Blank (cond (n == 2) kind.Str (cond (n == 3) kind.AtWord (cond (n == 4) kind.Carets (cond (n == 5) kind.Dot kind.Eol)))))

kind_of : (k : Kind) → kind_at (index k) ≡ k
kind_of kind.IriRef = refl
kind_of kind.Blank = refl
kind_of kind.Str = refl
kind_of kind.AtWord = refl
kind_of kind.Carets = refl
kind_of kind.Dot = refl
kind_of kind.Eol = refl

pub ntriples_table : IsTable table
ntriples_table = record {
  starts = refl;
  sampled = sampled;
  fitting = λ q c k. each_kind (fits table q c) (each_class (λ x. all (fits table q x) kinds) (each_state fits_at plain_fit escapes_fit q) c) k;
  ending = λ q k. each_kind (ends_at table q) (each_state ends plain_end escapes_end q) k;
  shutting = λ q k. each_kind (shuts_at table q) (each_state shuts plain_shut escapes_shut q) k;
  going = λ q. each_state (goes_at table) plain_go escapes_go q;
  apart = λ j k e. sym (kind_of j) ∙ ap kind_at e ∙ kind_of k;
}

pub ntriples_machine : IsMachine ntriples
ntriples_machine = table_machine table ntriples_table
