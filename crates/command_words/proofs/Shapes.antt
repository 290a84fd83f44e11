-- Words in another number than that of a command.
use Rattle.std.proofs.Common.{◌≡◌, ℕ, ◌<◌, ◌≤◌, List, [], ◌∷◌, length, get_or, Option, None, true, refl, sym, ap, ◌∙◌, arith}
use Rattle.command_words.specs.declared.commands.CommandName.{CommandName}
use Rattle.command_words.specs.declared.commands.CommandName.TheVariants as name
use Rattle.std.specs.Prelude.{map}
use Rattle.std.proofs.lemmas.Bool.{cond-true}
use Rattle.order_core.specs.Primitives.{primitive_named}
use Rattle.command_words.specs.Words.{are_apart, based_form, command_named, explain, file_form, form, help_form, help_on, pair_form, plain_form, question_form}

-- fewer than two words have no base
pub short_based : (n : CommandName) (words : List (List ℕ)) → length words < 2 → plain_form n None words ≡ based_form n words
short_based n [] l = refl
short_based n (word ∷ []) l = refl
short_based n (word ∷ next ∷ words) l = absurd (let never : ⊥ = omega (arith, l) in never)

-- and ask no question
pub no_question : (base : Option (List ℕ)) (words : List (List ℕ)) → length words < 2 → None ≡ form name.Explain base words
no_question base [] l = refl
no_question base (file ∷ []) l = refl
no_question base (file ∷ a ∷ words) l = absurd (let never : ⊥ = omega (arith, l) in never)

-- a list of two
pub two_items : {X : Type 0} (xs : List X) (x y : X) → 2 ≤ length xs → length xs < 3 → x ≡ get_or xs 0 x → y ≡ get_or xs 1 y → xs ≡ x ∷ y ∷ []
two_items [] x y l h p q = absurd (let never : ⊥ = omega (arith, l) in never)
two_items (u ∷ []) x y l h p q = absurd (let never : ⊥ = omega (arith, l) in never)
two_items {X} (u ∷ v ∷ []) x y l h p q = ap (λ (z : X). z ∷ v ∷ []) (sym p) ∙ ap (λ (z : X). x ∷ z ∷ []) (sym q)
two_items (u ∷ v ∷ w ∷ ws) x y l h p q = absurd (let never : ⊥ = omega (arith, h) in never)

-- two words that ask a question
pub asked : {X : Type 0} (f : X → List ℕ) (xs : List X) (x y : X) (base : Option (List ℕ)) (file a : List ℕ) → xs ≡ x ∷ y ∷ [] → are_apart a (f y) ≡ true →
    explain base file a (primitive_named (f x)) (f y) ≡ question_form base file a (map f xs)
asked {X} f xs x y base file a e apart =
    sym (cond-true (are_apart a (f y)) (explain base file a (primitive_named (f x)) (f y)) None apart)
    ∙ ap (λ (l : List X). question_form base file a (map f l)) (sym e)

pub unasked : (base : Option (List ℕ)) (file a : List ℕ) (words : List (List ℕ)) → (length words ≡ 2 → ⊥) → None ≡ question_form base file a words
unasked base file a [] h = refl
unasked base file a (code ∷ []) h = refl
unasked base file a (code ∷ b ∷ []) h = absurd (h refl)
unasked base file a (code ∷ b ∷ more ∷ words) h = refl

-- and name no nodes to `allen`, which has a form with one word
pub no_pair : (base : Option (List ℕ)) (words : List (List ℕ)) → length words < 2 → file_form name.Allen base words ≡ form name.Allen base words
no_pair base [] l = refl
no_pair base (file ∷ []) l = refl
no_pair base (file ∷ a ∷ words) l = absurd (let never : ⊥ = omega (arith, l) in never)

pub unpaired : (base : Option (List ℕ)) (file a : List ℕ) (words : List (List ℕ)) → (length words ≡ 1 → ⊥) → None ≡ pair_form base file a words
unpaired base file a [] h = refl
unpaired base file a (b ∷ []) h = absurd (h refl)
unpaired base file a (b ∷ more ∷ words) h = refl

-- a report on no files
pub no_join : (base : Option (List ℕ)) (words : List (List ℕ)) → length words < 1 → None ≡ form name.Join base words
no_join base [] l = refl
no_join base (report ∷ files) l = absurd (let never : ⊥ = omega (arith, l) in never)

-- words in another number than two ask of no instant
pub no_instant : (base : Option (List ℕ)) (words : List (List ℕ)) → (length words ≡ 2 → ⊥) → None ≡ form name.When base words
no_instant base [] h = refl
no_instant base (file ∷ []) h = refl
no_instant base (file ∷ date ∷ []) h = absurd (h refl)
no_instant base (file ∷ date ∷ more ∷ words) h = refl

-- one word asks for help on a command
pub helped : {X : Type 0} (f : X → List ℕ) (xs : List X) (x : X) → 1 ≤ length xs → length xs < 2 → x ≡ get_or xs 0 x → help_on (command_named (f x)) ≡ help_form (map f xs)
helped f [] x l h p = absurd (let never : ⊥ = omega (arith, l) in never)
helped {X} f (u ∷ []) x l h p = ap (λ (z : X). help_on (command_named (f z))) p
helped f (u ∷ v ∷ xs) x l h p = absurd (let never : ⊥ = omega (arith, h) in never)
