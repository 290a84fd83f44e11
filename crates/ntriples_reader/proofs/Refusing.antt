-- Behind bytes that are no UTF-8 all bytes are none.
use Rattle.std.proofs.Common.{ℕ, List, ◌∷◌, ◌≡◌, ap, sym, ◌∙◌}
use Rattle.std.specs.Prelude.{Err}
use Rattle.rdf_chars.specs.declared.utf8.BadUtf8.{BadUtf8}
use Rattle.rdf_chars.specs.Steps.{Fed, fed, said}
use Rattle.rdf_chars.specs.Decoding.{decoded, by_said}
use Rattle.rdf_chars.proofs.Whole.{stays_bad}
use Rattle.rdf_reading.specs.Answers.{Answer}
use Rattle.ntriples_reader.specs.Feeding.{by_decoded}

pub bad_promised : (v : Fed) (b : ℕ) (e : BadUtf8) (more : List ℕ) (f : List ℕ → Answer) → said v b ≡ Err e → by_decoded (decoded (fed v b) more) f ≡ by_decoded (decoded v (b ∷ more)) f
bad_promised v b e more f h = ap (λ d. by_decoded d f) (stays_bad v b e more h) ∙ ap (λ r. by_decoded (by_said r (decoded (fed v b) more)) f) (sym h)
