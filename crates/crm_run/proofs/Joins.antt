-- Files that are read one behind another, and joined.
use Rattle.std.proofs.Common.{◌≡◌, ◌<◌, ◌≤◌, ◌+◌, zero, suc, ℕ, List, [], ◌∷◌, length, take, drop, take-suc, take_all, drop-cons, Option, Some, None, refl, sym, ap, subst, ◌∙◌, arith}
use Rattle.std.specs.Prelude.{IfSome}
use Rattle.std.specs.List.{All, cons_option}
use Rattle.std.specs.Option.{option_map}
use Rattle.std.proofs.Math.ListN.{drop_of_length-le}
use Rattle.std.proofs.lemmas.List.Elements.{All-head, All-nil, All-push, All-tail}
use Rattle.rdf_terms.specs.declared.terms.Refusal.{Refusal}
use Rattle.rdf_terms.specs.declared.triples.Records.{Records}
use Rattle.rdf_reading.specs.Answers.{Answer}
use Rattle.rdf_reading.specs.Answers.Answer.{Refuse, Read}
use Rattle.crm_outside.specs.Shelves.{Files}
use Rattle.report_base.specs.Reports.{Report}
use Rattle.record_reports.specs.RecordReports.{refusal_report}
use Rattle.crm_core.specs.Contents.{Contents}
use Rattle.archive_join.specs.Archives.{first_refusal, joined, joined_past, with_file, with_files}
use Rattle.archive_join.specs.Joining.{nothing, Joined as Whole}
use Rattle.crm_run.specs.declared.joining.Joining.{Joining}
use Rattle.crm_run.specs.declared.joining.Joining.TheVariants.{Joined, Refused}
use Rattle.crm_run.specs.Joins.{AreJoined, AreReadBefore, IsJoinedOf, IsJoinedWith, joining_report, name_at}
use Rattle.crm_run.specs.Outcomes.{IsRead}
use Rattle.crm_run.specs.Report.{answer_of, first_told, joined_report, part_fault, part_of, parts_fault, parts_of}

module _ (base : Option (List ℕ)) (files : Files) where
  abbrev IsReadName : List ℕ → Type 0
  IsReadName n = IsRead (answer_of files base n)

  read_part : (k : ℕ) (name : List ℕ) (a : Option Answer) → IsRead a → part_fault k name a ≡ None
  read_part k name None h = absurd h
  read_part k name (Some (Refuse code at)) h = absurd h
  read_part k name (Some (Read r)) h = refl

  -- files that are read have no fault
  pub no_fault : (i : ℕ) (names : List (List ℕ)) → All IsReadName names → parts_fault base files i names ≡ None
  no_fault i [] h = refl
  no_fault i (name ∷ names) h =
      ap (λ (o : Option Report). first_told o (parts_fault base files (i + 1) names)) (read_part i name (answer_of files base name) (All-head IsReadName name names h))
      ∙ no_fault (i + 1) names (All-tail IsReadName name names h)

  -- the first fault is that of the file behind those that are read
  pub fault_at : (i j k : ℕ) (names : List (List ℕ)) (r : Report) → j ≡ i + k → k < length names → All IsReadName (take k names) →
      part_fault j (name_at names k) (answer_of files base (name_at names k)) ≡ Some r → parts_fault base files i names ≡ Some r
  fault_at i j k [] r e lt read h = absurd (let never : ⊥ = omega (arith, lt) in never)
  fault_at i j zero (name ∷ names) r e lt read h =
      let same : j ≡ i = omega (arith, e) in
      ap (λ (o : Option Report). first_told o (parts_fault base files (i + 1) names)) (subst (λ (n : ℕ). part_fault n name (answer_of files base name) ≡ Some r) same h)
  fault_at i j (suc k) (name ∷ names) r e lt read h =
      ap (λ (o : Option Report). first_told o (parts_fault base files (i + 1) names))
      (read_part i name (answer_of files base name) (All-head IsReadName name (take k names) read))
      ∙ fault_at (i + 1) j k names r (omega (arith, e)) (omega (arith, lt)) (All-tail IsReadName name (take k names) read) h

  module _ (names : List (List ℕ)) where
    abbrev parts : List Contents
    parts = parts_of base files names

    abbrev left : ℕ → List Contents
    left k = parts_of base files (drop k names)

    -- what is joined of the first files goes on as all files do
    abbrev pub GoesOn : ℕ → Joining → Type 0
    GoesOn k (Joined j) = (joined_past nothing parts ≡ joined_past j (left k)) × (with_files nothing parts ≡ with_files j (left k))
    GoesOn k (Refused f) = joined_past nothing parts ≡ Some f

    -- these are read
    pub record IsJoinedTo (k : ℕ) (x : Joining) : Type 0 where
      pub read : AreReadBefore base files names k
      pub on : GoesOn k x

    begun : IsJoinedTo 0 (Joined nothing)
    begun = record { read = All-nil IsReadName; on = (refl, refl) }

    is_read : (a : Option Answer) (r : Records) → a ≡ Some (Read r) → IsRead a
    is_read a r e = subst IsRead (sym e) tt

    module _ (k : ℕ) (lt : k < length names) where
      next_read : AreReadBefore base files names k → IsReadName (name_at names k) → AreReadBefore base files names (k + 1)
      next_read before h =
          let one : k + 1 ≡ suc k = omega arith in
          subst (All IsReadName) (sym (ap (λ (n : ℕ). take n names) one ∙ take-suc names k [] lt)) (All-push IsReadName (take k names) (name_at names k) before h)

      next_left : (a : Contents) → part_of base files (name_at names k) ≡ Some a → left k ≡ a ∷ left (k + 1)
      next_left a e =
          let one : k + 1 ≡ suc k = omega arith in
          ap (parts_of base files) (drop-cons names k [] lt)
          ∙ ap (λ (o : Option Contents). cons_option o (left (suc k))) e
          ∙ ap (λ (n : ℕ). a ∷ left n) (sym one)

      next_on : (a : Contents) → left k ≡ a ∷ left (k + 1) → (x y : Joining) → GoesOn k x → IsJoinedWith x a y → GoesOn (k + 1) y
      next_on a e (Joined j) (Joined i) on h = (
        on.0
            ∙ ap (joined_past j) e
            ∙ ap (λ (o : Option Refusal). first_refusal o (joined_past (with_file j a) (left (k + 1)))) h.0
            ∙ ap (λ (w : Whole). joined_past w (left (k + 1))) (sym h.1),
        on.1 ∙ ap (with_files j) e ∙ ap (λ (w : Whole). with_files w (left (k + 1))) (sym h.1),
      )
      next_on a e (Joined j) (Refused f) on h =
          on.0 ∙ ap (joined_past j) e ∙ ap (λ (o : Option Refusal). first_refusal o (joined_past (with_file j a) (left (k + 1)))) h
      next_on a e (Refused f) (Joined j) on h = absurd h
      next_on a e (Refused f) (Refused g) on h = on ∙ ap (λ (r : Refusal). Some r) (sym h)

      next : (x y : Joining) → IsJoinedTo k x → IsJoinedOf base files (name_at names k) x y → IsJoinedTo (k + 1) y
      next x y before h = record {
        read = next_read before.read (is_read (answer_of files base (name_at names k)) h.part.records h.read);
        on = next_on h.part (next_left h.part h.is) x y before.on h.joined;
      }

    none_left : (k : ℕ) → length names ≤ k → left k ≡ []
    none_left k le = ap (parts_of base files) (drop_of_length-le names le)

    all_read : (k : ℕ) → length names ≤ k → AreReadBefore base files names k → parts_fault base files 0 names ≡ None
    all_read k le read = no_fault 0 names (subst (All IsReadName) (take_all k names le) read)

    done : (k : ℕ) → length names ≤ k → (x : Joining) → IsJoinedTo k x → AreJoined base files names x
    done k le (Joined j) h = (all_read k le h.read, h.on.0 ∙ ap (joined_past j) (none_left k le), sym (h.on.1 ∙ ap (with_files j) (none_left k le)))
    done k le (Refused f) h = (all_read k le h.read, h.on)

-- so it is with a shelf that tells its files
module _ (base : Option (List ℕ)) (o : Option Files) (names : List (List ℕ)) where
  abbrev pub AreJoinedTo : ℕ → Joining → Type 0
  AreJoinedTo k x = IfSome o (λ files. IsJoinedTo base files names k x)

  pub begun_of : AreJoinedTo 0 (Joined nothing)
  begun_of = by o
    where
      by : (p : Option Files) → IfSome p (λ files. IsJoinedTo base files names 0 (Joined nothing))
      by None = tt
      by (Some files) = begun base files names

  pub next_of : (k : ℕ) → k < length names → (x y : Joining) → AreJoinedTo k x → IfSome o (λ files. IsJoinedOf base files (name_at names k) x y) → AreJoinedTo (k + 1) y
  next_of k lt x y before h = by o before h
    where
      by : (p : Option Files) → IfSome p (λ files. IsJoinedTo base files names k x) → IfSome p (λ files. IsJoinedOf base files (name_at names k) x y) →
          IfSome p (λ files. IsJoinedTo base files names (k + 1) y)
      by None b h = tt
      by (Some files) b h = next base files names k lt x y b h

  pub done_of : (k : ℕ) → length names ≤ k → (x : Joining) → AreJoinedTo k x → IfSome o (λ files. AreJoined base files names x)
  done_of k le x h = by o h
    where
      by : (p : Option Files) → IfSome p (λ files. IsJoinedTo base files names k x) → IfSome p (λ files. AreJoined base files names x)
      by None h = tt
      by (Some files) h = done base files names k le x h

  pub before_of : (k : ℕ) (x : Joining) → AreJoinedTo k x → IfSome o (λ files. AreReadBefore base files names k)
  before_of k x h = by o h
    where
      by : (p : Option Files) → IfSome p (λ files. IsJoinedTo base files names k x) → IfSome p (λ files. AreReadBefore base files names k)
      by None h = tt
      by (Some files) h = h.read

-- what is said of files that are read
module _ (said : Records → Option Report) (base : Option (List ℕ)) (files : Files) (names : List (List ℕ)) where
  abbrev whole : Option Report
  whole = said (joined (parts_of base files names)).records

  pub within_limits_together : parts_fault base files 0 names ≡ None → joined_past nothing (parts_of base files names) ≡ None → joined_report said base files names ≡ whole
  within_limits_together none few =
      ap (λ (o : Option Report). first_told o (first_told (option_map refusal_report (joined_past nothing (parts_of base files names))) whole)) none
      ∙ ap (λ (o : Option Refusal). first_told (option_map refusal_report o) whole) few

  pub is_joined : (x : Joining) → AreJoined base files names x → joined_report said base files names ≡ joining_report said x
  is_joined (Joined j) h = within_limits_together h.0 h.1 ∙ ap (λ (w : Whole). said w.records) (sym h.2)
  is_joined (Refused f) h =
      ap (λ (o : Option Report). first_told o (first_told (option_map refusal_report (joined_past nothing (parts_of base files names))) whole)) h.0
      ∙ ap (λ (o : Option Refusal). first_told (option_map refusal_report o) whole) h.1

  -- and of one that is not, behind those that are
  pub not_joined : (k : ℕ) (r : Report) → k < length names → AreReadBefore base files names k →
      part_fault k (name_at names k) (answer_of files base (name_at names k)) ≡ Some r → joined_report said base files names ≡ Some r
  not_joined k r lt read h =
      ap (λ (o : Option Report). first_told o (first_told (option_map refusal_report (joined_past nothing (parts_of base files names))) whole))
      (fault_at base files 0 k k names r (omega arith) lt read h)
