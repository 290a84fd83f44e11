-- What is said of what stands at the front.
use Rattle.std.proofs.Common.{ℕ, List, [], ◌∷◌, ◌++◌, ◌≡◌, ◌<◌, ◌≤◌, ◌+◌, ◌⊎◌, length, take, refl, ap, sym, ◌∙◌, subst, arith}
use Rattle.std.proofs.lemmas.List.{take-append-le}
use Rattle.std.specs.Prelude.{Bool, true, false, cond, None, Some, Ok, Err}
use Rattle.rdf_chars.specs.Steps.{Fed, ended, is_idle}
use Rattle.rdf_chars.specs.Decoding.{Decoded, decoded, by_ended}
use Rattle.rdf_chars.specs.Decoding.Decoded.{Chars, BadAt}
use Rattle.rdf_terms.specs.declared.terms.Code.TheVariants.{U1, G1, L2}
use Rattle.rdf_terms.specs.declared.terms.Refusal.{Refusal}
use Rattle.turtle_tokens.specs.declared.kinds.TokenKind.{TokenKind}
use Rattle.token_scanner.specs.declared.front.Front.TheVariants.{Token as FrontToken, Nothing, Long}
use Rattle.token_scanner.specs.Widths.{width}
use Rattle.token_scanner.specs.Items.{Kept}
use Rattle.turtle_tokens.specs.Scanning.{items, items_of, front_items, behind}
use Rattle.turtle_lexer.specs.declared.token.Token.{Token}
use Rattle.turtle_lexer.specs.declared.token.Next.{Next}
use Rattle.turtle_lexer.specs.declared.token.Next.TheVariants as next
use Rattle.turtle_lexer.specs.Values.{value_text, prefix_width}
use Rattle.turtle_lexer.specs.Streams.{Stream, Ahead, by_chars, stream}
use Rattle.turtle_lexer.specs.Streams.Stream.{Ends, Given, NoToken, Overlong}
use Rattle.turtle_lexer.specs.Streams.Ahead.{NotUtf8}
use Rattle.turtle_lexer.proofs.Feeding.{same_chars}
use Rattle.turtle_lexer.specs.Lexing.{Lexing, ahead, stopped, given, Knows, IsStop, Says, Still, Unless, Whatever}

-- the token at the front
pub token_stream : (k : TokenKind) (n : ℕ) (chars more : List ℕ) (at : ℕ) → 0 < n → n ≤ length chars
    → stream (front_items (FrontToken k n) (chars ++ more) at) ≡ Given k (value_text k (take n chars)) (prefix_width k (take n chars)) at (at + width (take n chars)) (stream (behind n (chars ++ more) at))
token_stream k n [] more at some within = absurd (omega arith)
token_stream k n (c ∷ chars) more at some within =
    ap (λ x. Given k (value_text k x) (prefix_width k x) at (at + width x) (stream (behind n (c ∷ (chars ++ more)) at))) (take-append-le n (c ∷ chars) more within)

pub same_given : (k : TokenKind) (t u : List ℕ) (c d f g e h : ℕ) (s z : Stream) → t ≡ u → c ≡ d → f ≡ g → e ≡ h → s ≡ z → Given k t c f e s ≡ Given k u d g h z
same_given k t u c d f g e h s z a b i j l =
    ap (λ x. Given k x c f e s) a ∙ ap (λ x. Given k u x f e s) b ∙ ap (λ x. Given k u d x e s) i ∙ ap (λ x. Given k u d g x s) j ∙ ap (λ x. Given k u d g h x) l

bad_chars : (p : ℕ) (chars : List ℕ) → BadAt p ≡ Chars chars → ⊥
bad_chars p chars e = cc

no_chars : (chars : List ℕ) → Chars [] ≡ Chars chars → chars ≡ []
no_chars chars e = cc

ended_chars : (v : Fed) (b : Bool) (chars : List ℕ) → is_idle v.step ≡ b → by_ended (ended v) ≡ Chars chars → chars ≡ []
ended_chars v true chars i e = no_chars chars (sym (ap (λ b. by_ended (cond b (Ok tt) (Err (record { at = v.from })))) i) ∙ e)
ended_chars v false chars i e = absurd (bad_chars v.from chars (sym (ap (λ b. by_ended (cond b (Ok tt) (Err (record { at = v.from })))) i) ∙ e))

-- where no bytes come, no characters come
pub whole_chars : (v : Fed) (finished : Bool) (more chars : List ℕ) → (finished ≡ true → more ≡ []) → decoded v more ≡ Chars chars → finished ≡ true → chars ≡ []
whole_chars v finished more chars whole e f = ended_chars v (is_idle v.step) chars refl (sym (ap (decoded v) (whole f)) ∙ e)

by_decoded : (d : Decoded) (r : Refusal) (f : List ℕ → Stream) → ((chars : List ℕ) → d ≡ Chars chars → ((r.code ≡ G1) × (f chars ≡ NoToken r.at)) ⊎ ((r.code ≡ L2) × (f chars ≡ Overlong r.at))) → IsStop r (by_chars d f)
by_decoded (Chars chars) r f h = h chars refl
by_decoded (BadAt place) r f h = tt

pub stop_ahead : (l : Lexing) (r : Refusal) → l.refusal ≡ None
    → ((chars : List ℕ) → (l.finished ≡ true → chars ≡ []) → ((r.code ≡ G1) × (stream (items_of l.kept chars) ≡ NoToken r.at)) ⊎ ((r.code ≡ L2) × (stream (items_of l.kept chars) ≡ Overlong r.at)))
    → Whatever l.finished (λ more. IsStop r (ahead l more))
stop_ahead l r none h more whole = subst (λ o. IsStop r (by_chars (decoded l.fed more) (λ chars. stopped o (stream (items_of l.kept chars))))) (sym none)
    (by_decoded (decoded l.fed more) r (λ chars. stream (items_of l.kept chars)) (λ chars e. h chars (whole_chars l.fed l.finished more chars whole e)))

pub refused_says : (old new : Lexing) (r : Refusal) (n : Next) → n ≡ next.Refused r → new.refusal ≡ Some r → new.kept.chars ≡ [] → old.refusal ≡ None → old.bad ≡ None
    → Whatever old.finished (λ more. IsStop r (ahead old more)) → Says old new n
refused_says old new r n e said empty none good stop =
    let P : Type 0 = Whatever old.finished (λ more. IsStop r (ahead old more)) in
    let Q : ℕ → Type 0 = λ at. Whatever old.finished (λ more. ahead old more ≡ NotUtf8 at) in
    subst (Says old new) (sym e) (said, empty, subst (λ o. Still o r (Unless old.bad r P Q)) (sym none) (subst (λ o. Unless o r P Q) (sym good) stop))

pub none_stream : (chars more : List ℕ) (at : ℕ) → 0 < length chars → stream (front_items Nothing (chars ++ more) at) ≡ NoToken at
none_stream [] more at some = absurd (omega arith)
none_stream (c ∷ chars) more at some = refl

pub long_stream : (chars more : List ℕ) (at : ℕ) → 0 < length chars → stream (front_items Long (chars ++ more) at) ≡ Overlong at
long_stream [] more at some = absurd (omega arith)
long_stream (c ∷ chars) more at some = refl

pub same_ahead : (l m : Lexing) → m.fed ≡ l.fed → m.refusal ≡ l.refusal → ((chars : List ℕ) → items_of m.kept chars ≡ items_of l.kept chars) → (more : List ℕ) → ahead l more ≡ ahead m more
same_ahead l m f r e more = sym (
    ap (λ v. by_chars (decoded v more) (λ chars. stopped m.refusal (stream (items_of m.kept chars)))) f
    ∙ ap (λ o. by_chars (decoded l.fed more) (λ chars. stopped o (stream (items_of m.kept chars)))) r
    ∙ same_chars (decoded l.fed more) (λ chars. stopped l.refusal (stream (items_of m.kept chars))) (λ chars. stopped l.refusal (stream (items_of l.kept chars)))
    (λ chars. ap (λ x. stopped l.refusal (stream x)) (e chars)))

by_given : (d : Decoded) (t : Token) (f g : List ℕ → Stream) → ((chars : List ℕ) → d ≡ Chars chars → f chars ≡ Given t.kind t.text t.cut t.from t.to (g chars)) → by_chars d f ≡ given t (by_chars d g)
by_given (Chars chars) t f g h = ap (λ s. Ahead.Tokens s) (h chars refl)
by_given (BadAt place) t f g h = refl

pub token_ahead : (l m : Lexing) (t : Token) → l.refusal ≡ None → m.refusal ≡ None → m.fed ≡ l.fed
    → ((chars : List ℕ) → (l.finished ≡ true → chars ≡ []) → stream (items_of l.kept chars) ≡ Given t.kind t.text t.cut t.from t.to (stream (items_of m.kept chars)))
    → Whatever l.finished (λ more. ahead l more ≡ given t (ahead m more))
token_ahead l m t none still fed h more whole =
    ap (λ o. by_chars (decoded l.fed more) (λ chars. stopped o (stream (items_of l.kept chars)))) none
    ∙ by_given (decoded l.fed more) t (λ chars. stream (items_of l.kept chars)) (λ chars. stream (items_of m.kept chars)) (λ chars e. h chars (whole_chars l.fed l.finished more chars whole e))
    ∙ ap (λ v. given t (by_chars (decoded v more) (λ chars. stream (items_of m.kept chars)))) (sym fed)
    ∙ ap (λ o. given t (by_chars (decoded m.fed more) (λ chars. stopped o (stream (items_of m.kept chars))))) (sym still)

pub end_ahead : (l : Lexing) (k : Kept) → l.refusal ≡ None → ended l.fed ≡ Ok tt → items_of k [] ≡ items_of l.kept [] → k.chars ≡ [] → ahead l [] ≡ Ahead.Tokens (Ends k.at)
end_ahead l k none e same empty =
    ap (λ o. by_chars (by_ended (ended l.fed)) (λ chars. stopped o (stream (items_of l.kept chars)))) none
    ∙ ap (λ r. by_chars (by_ended r) (λ chars. stream (items_of l.kept chars))) e
    ∙ ap (λ x. Ahead.Tokens (stream x)) (sym same ∙ ap (λ x. items k.place 0 (x ++ []) k.at) empty)

pub bad_says : (old new : Lexing) (at : ℕ) (n : Next) → n ≡ next.Refused (record { code = U1; at = at }) → new.refusal ≡ Some (record { code = U1; at = at }) → new.kept.chars ≡ []
    → old.refusal ≡ None → old.bad ≡ Some at → Knows old.bad old.finished old.fed → Says old new n
bad_says old new at n e said empty none bad known =
    let r : Refusal = record { code = U1; at = at } in
    let P : Type 0 = Whatever old.finished (λ more. IsStop r (ahead old more)) in
    let Q : ℕ → Type 0 = λ at. Whatever old.finished (λ more. ahead old more ≡ NotUtf8 at) in
    let known_at = subst (λ b. Knows b old.finished old.fed) bad known in
    subst (Says old new) (sym e) (
      said,
      empty,
      subst (λ o. Still o r (Unless old.bad r P Q)) (sym none) (subst (λ o. Unless o r P Q) (sym bad)
          (refl, λ more whole. ap (λ d. by_chars d (λ chars. stopped old.refusal (stream (items_of old.kept chars)))) (known_at more whole))),
    )
