-- A certificate is a first line and a body of its kind.
use Rattle.std.proofs.Common.{arith, ◌≡◌, inl, inr, ℕ, Some, None, List, ◌++◌, get_or, refl, sym, ap, subst, ◌∙◌, append_assoc}
use Rattle.std.specs.Prelude.{codes}
use Rattle.std.proofs.lemmas.List.{append_cancel_left}
use Rattle.certificate_trees.specs.declared.refusals.CertRefusal.{CertRefusal}
use Rattle.certificate_reader.specs.declared.heads.Kind.{Kind}
use Rattle.certificate_reader.specs.declared.heads.Kind.TheVariants.{Orders as PlainOrders, SharedOrders, Classes, Matrix}
use Rattle.certificate_trees.specs.Reads.{IsRead}
use Rattle.certificate_reader.specs.HeadTexts.{head_text}
use Rattle.certificate_trees.specs.Beginnings.{Begins, IsRefused, IsShallow, count}
use Rattle.certificate_reader.specs.LineGrammar.{HeadForm}
use Rattle.certificate_checker.specs.Texts.{Body, LineOf, CertificateForm, IsRefusedAs, IsAccepted}
use Rattle.certificate_trees.proofs.Shallow.{IsFlat, flat_word, flat_refused, few_shallow, shallow_on}
use Rattle.certificate_checker.proofs.Stops.{Leads, refused_lead, refused_behind, accepted_behind, end_body}
use Rattle.certificate_trees.proofs.Chains.{any_depth}

differ_at : (n : ℕ) (x y : ℕ) (s t : List ℕ) → s ≡ t → get_or s n 0 ≡ x → get_or t n 0 ≡ y → (x ≡ y → ⊥) → ⊥
differ_at n x y s t e f g other = other (sym f ∙ ap (λ z. get_or z n 0) e ∙ g)

heads_same : (j k : Kind) (b c : List ℕ) → head_text j ++ b ≡ head_text k ++ c → j ≡ k
heads_same PlainOrders PlainOrders b c e = refl
heads_same PlainOrders SharedOrders b c e = absurd (differ_at 8 49 50 _ _ e refl refl (λ h. omega (arith, h)))
heads_same PlainOrders Classes b c e = absurd (differ_at 10 111 99 _ _ e refl refl (λ h. omega (arith, h)))
heads_same PlainOrders Matrix b c e = absurd (differ_at 10 111 109 _ _ e refl refl (λ h. omega (arith, h)))
heads_same SharedOrders PlainOrders b c e = absurd (differ_at 8 50 49 _ _ e refl refl (λ h. omega (arith, h)))
heads_same SharedOrders SharedOrders b c e = refl
heads_same SharedOrders Classes b c e = absurd (differ_at 8 50 49 _ _ e refl refl (λ h. omega (arith, h)))
heads_same SharedOrders Matrix b c e = absurd (differ_at 8 50 49 _ _ e refl refl (λ h. omega (arith, h)))
heads_same Classes PlainOrders b c e = absurd (differ_at 10 99 111 _ _ e refl refl (λ h. omega (arith, h)))
heads_same Classes SharedOrders b c e = absurd (differ_at 8 49 50 _ _ e refl refl (λ h. omega (arith, h)))
heads_same Classes Classes b c e = refl
heads_same Classes Matrix b c e = absurd (differ_at 10 99 109 _ _ e refl refl (λ h. omega (arith, h)))
heads_same Matrix PlainOrders b c e = absurd (differ_at 10 109 111 _ _ e refl refl (λ h. omega (arith, h)))
heads_same Matrix SharedOrders b c e = absurd (differ_at 8 49 50 _ _ e refl refl (λ h. omega (arith, h)))
heads_same Matrix Classes b c e = absurd (differ_at 10 109 99 _ _ e refl refl (λ h. omega (arith, h)))
heads_same Matrix Matrix b c e = refl

of_head : (k : Kind) → HeadForm (head_text k)
of_head PlainOrders = inr (inr (inr refl))
of_head SharedOrders = inl refl
of_head Classes = inr (inl refl)
of_head Matrix = inr (inr (inl refl))

head_of : (p : List ℕ) → HeadForm p → (k : Kind) × (p ≡ head_text k)
head_of p (inl e) = (SharedOrders, e)
head_of p (inr (inl e)) = (Classes, e)
head_of p (inr (inr (inl e))) = (Matrix, e)
head_of p (inr (inr (inr e))) = (PlainOrders, e)

head_leads : Leads HeadForm CertificateForm
head_leads b t = (head_text t.0, (t.1.second, (of_head t.0, t.1.split ∙ ap (λ z. z ++ t.1.second) t.1.one)))

behind_head : (k : Kind) (s : List ℕ) → Body (LineOf k) s → CertificateForm (head_text k ++ s)
behind_head k s b = (k, record { first = head_text k; second = s; split = refl; one = refl; two = b })

begins_head : (s : List ℕ) → Begins HeadForm s → Begins CertificateForm s
begins_head s b =
    let h = head_of (s ++ b.0) b.1 in
    (b.0 ++ codes "end\n", subst CertificateForm (ap (λ z. z ++ codes "end\n") (sym h.1) ∙ append_assoc s b.0 (codes "end\n")) (behind_head h.0 (codes "end\n") (end_body (LineOf h.0))))

headless : (k : Kind) (s : List ℕ) → CertificateForm (head_text k ++ s) → Body (LineOf k) s
headless k s t =
    let e : head_text k ++ s ≡ head_text t.0 ++ t.1.second = t.1.split ∙ ap (λ z. z ++ t.1.second) t.1.one in
    let same : k ≡ t.0 = heads_same k t.0 s t.1.second e in
    let P : Kind → Type 0 = λ j. Body (LineOf j) t.1.second in
    let rest : s ≡ t.1.second = append_cancel_left (head_text k) s t.1.second (e ∙ ap (λ j. head_text j ++ t.1.second) (sym same)) in
    subst (Body (LineOf k)) (sym rest) (subst P (sym same) t.1.two)

head_closed : (k : Kind) → count 40 (head_text k) ≡ count 41 (head_text k)
head_closed PlainOrders = refl
head_closed SharedOrders = refl
head_closed Classes = refl
head_closed Matrix = refl

head_flat : IsFlat HeadForm
head_flat p (inl t) = flat_word (codes "crmtime 2 orders\n") refl p t
head_flat p (inr (inl t)) = flat_word (codes "crmtime 1 classes\n") refl p t
head_flat p (inr (inr (inl t))) = flat_word (codes "crmtime 1 matrix\n") refl p t
head_flat p (inr (inr (inr t))) = flat_word (codes "crmtime 1 orders\n") refl p t

pub head_refused : (depth : ℕ) (text : List ℕ) (e : CertRefusal) → IsRefused HeadForm None text 0 e → IsRefusedAs CertificateForm depth text 0 e
head_refused depth text e h =
    refused_lead HeadForm CertificateForm head_leads begins_head depth text 0 e (any_depth HeadForm (Some depth) text 0 e h) (flat_refused HeadForm head_flat depth text 0 e h)

head_joined : (depth : ℕ) (text : List ℕ) (to : ℕ) (k : Kind) → IsRead text 0 to (head_text k) → (b : ℕ) → IsShallow depth text to b → IsShallow depth text 0 b
head_joined depth text to k read b h =
    let none = head_flat (head_text k) (of_head k) in
    shallow_on depth text 0 to b (head_text k) read (omega (arith, none)) (few_shallow depth text 0 to (head_text k) read (omega (arith, none))) h

pub body_refused : (k : Kind) (depth : ℕ) (text : List ℕ) (to : ℕ) (e : CertRefusal) → IsRead text 0 to (head_text k) →
    IsRefusedAs (Body (LineOf k)) depth text to e → IsRefusedAs CertificateForm depth text 0 e
body_refused k depth text to e read h =
    refused_behind (Body (LineOf k)) CertificateForm depth text 0 to (head_text k) read (headless k) (behind_head k) (head_closed k) (head_joined depth text to k read) e h

pub body_accepted : (k : Kind) (depth : ℕ) (text : List ℕ) (to : ℕ) → IsRead text 0 to (head_text k) →
    IsAccepted (Body (LineOf k)) depth text to → IsAccepted CertificateForm depth text 0
body_accepted k depth text to read h =
    accepted_behind (Body (LineOf k)) CertificateForm depth text 0 to (head_text k) read (headless k) (behind_head k) (head_closed k) (head_joined depth text to k read) h
