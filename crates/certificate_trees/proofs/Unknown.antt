-- How the first name that names nothing is noted.
use Rattle.std.proofs.Common.{◌≡◌, inl, inr, ℕ, Option, Some, None, refl, sym, ap, ◌∙◌}
use Rattle.certificate_trees.specs.LeafGrammar.{LeafKind}
use Rattle.certificate_trees.specs.Names.{or_else, IsSure}

pub or_else-None : (a : Option ℕ) → or_else a None ≡ a
or_else-None None = refl
or_else-None (Some a) = refl

pub or_else-assoc : (a b c : Option ℕ) → or_else (or_else a b) c ≡ or_else a (or_else b c)
or_else-assoc None b c = refl
or_else-assoc (Some a) b c = refl

-- nothing is noted
pub none_noted : (old new more : Option ℕ) → new ≡ old → more ≡ None → new ≡ or_else old more
none_noted old new more e none = e ∙ sym (or_else-None old) ∙ ap (λ z. or_else old z) (sym none)

-- what begins at another place
pub noted_at : (f : ℕ → Option ℕ) (old new : Option ℕ) (i m : ℕ) → new ≡ or_else old (f i) → i ≡ m → new ≡ or_else old (f m)
noted_at f old new i m e same = e ∙ ap (λ k. or_else old (f k)) same

-- one behind another
pub noted_both : (f g : ℕ → Option ℕ) (old mid new : Option ℕ) (i j m n : ℕ) → mid ≡ or_else old (f i) → new ≡ or_else mid (g j) → i ≡ m → j ≡ n →
    new ≡ or_else old (or_else (f m) (g n))
noted_both f g old mid new i j m n e h one two =
    h ∙ ap (λ z. or_else z (g j)) e ∙ or_else-assoc old (f i) (g j)
    ∙ ap (λ k. or_else old (or_else (f k) (g j))) one ∙ ap (λ k. or_else old (or_else (f m) (g k))) two

-- what is sure at the end was sure before
pub sure_before : (kind : LeafKind) (old new : Option ℕ) → (new ≡ None → old ≡ None) → IsSure kind new → IsSure kind old
sure_before kind old new sticky (inl f) = inl f
sure_before kind old new sticky (inr e) = inr (sticky e)
