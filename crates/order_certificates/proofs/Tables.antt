-- Tables of kept parts by nodes: they stay right as lines are added, and the parts on the way down from a kept one come in.
use Rattle.std.proofs.Common.{◌≡◌, ◌≢◌, refl, ℕ, zero, suc, ◌<◌, inl, inr, Option, Some, None, List, [], ◌∷◌, ◌++◌, length, get_or, set, replicate, sym, ap, subst, ◌∙◌, arith, append-nil, get_or-set_other, get_or-set_same, length-set}
use Rattle.std.specs.List.{fold}
use Rattle.std.proofs.lemmas.Bool.{cases_eq}
use Rattle.std.proofs.lemmas.Option.{none-some}
use Rattle.order_laws.specs.declared.Reach.{Reach}
use Rattle.order_laws.specs.declared.Reach.TheVariants.{None as Nothing, Le, Lt}
use Rattle.order_core.specs.Sets.{Orders}
use Rattle.chain_certificate.specs.declared.tree.Node.{Node}
use Rattle.chain_certificate.specs.Tree.{node_at, chain_of}
use Rattle.order_core.specs.declared.sides.Side.{Side}
use Rattle.order_analysis.specs.Reasons.{reach_at}
use Rattle.order_certificates.specs.declared.sharing.Part.{Part}
use Rattle.order_certificates.specs.declared.sharing.Part.TheVariants.{Order as OneOrder}
use Rattle.order_certificates.specs.declared.sharing.Step.{Step}
use Rattle.order_certificates.specs.Sharing.{LetSteps, Shared, with_step, new_line, kept_part, step_of, joined, shared, chain_part, chain_lets, chain_lines}
use Rattle.order_certificates.specs.OrderCertificates.{side_lets, side_lets_by, side_chain}
use Rattle.order_certificates.specs.Keeping.{IsKept, AreKept, IsWay, IsClimbed}
use Rattle.order_certificates.proofs.Kept.{kept_on, kept_longer, kept_some, shared_kept, shared_longer}
use Rattle.order_certificates.proofs.Shares.{step_shared}

none_size : (count : ℕ) → length (replicate {A = Option Part} count None) ≡ count
none_size zero = refl
none_size (suc count) = ap (λ (n : ℕ). suc n) (none_size count)

none_read : (count i : ℕ) → get_or (replicate {A = Option Part} count None) i None ≡ None
none_read zero i = refl
none_read (suc count) zero = refl
none_read (suc count) (suc i) = none_read count i

module _ (nodes : List Node) where
  kept_step : (lets : LetSteps) (parts : List (Option Part)) (s : Step) → AreKept lets nodes parts → AreKept (with_step lets s) nodes parts
  kept_step lets parts s h = record { size = h.size; kept = λ i p e. kept_on lets s (chain_of nodes i) p (h.kept i p e) }

  kept_fold : (parts : List (Option Part)) (s : Shared) (ns : List ℕ) → AreKept s.lets nodes parts → AreKept (fold joined s ns).lets nodes parts
  kept_fold parts s [] h = h
  kept_fold parts s (n ∷ ns) h = kept_fold parts (joined s n) ns (kept_step s.lets parts (step_of s.proof n) h)

  kept_chain : (parts : List (Option Part)) (lets : LetSteps) (ns : List ℕ) → AreKept lets nodes parts → AreKept (chain_lets lets ns) nodes parts
  kept_chain parts lets [] h = h
  kept_chain parts lets (n ∷ ns) h = kept_fold parts (record { lets = lets; proof = OneOrder n; text = [] }) ns h

  -- the lines of another side take nothing away
  pub kept_side : (parts : List (Option Part)) (set : Orders) (lets : LetSteps) (a b : ℕ) (side : Side) → AreKept lets nodes parts
      → AreKept (side_lets set lets a b side) nodes parts
  kept_side parts set lets a b side h = go (reach_at set.list a b side)
    where
      go : (r : Reach) → AreKept (side_lets_by set lets a b side r) nodes parts
      go Nothing = h
      go Le = kept_chain parts lets (side_chain set a b side) h
      go Lt = kept_chain parts lets (side_chain set a b side) h

  put : (lets : LetSteps) (parts : List (Option Part)) (n : ℕ) (p : Part) → n < length nodes → IsKept lets (chain_of nodes n) p → AreKept lets nodes parts
      → AreKept lets nodes (set parts n (Some p))
  put lets parts n p within here h = record { size = simp length-set h.size; kept = kept }
    where
      kept : (i : ℕ) (q : Part) → get_or (set parts n (Some p)) i None ≡ Some q → IsKept lets (chain_of nodes i) q
      kept i q e = elim (cases_eq i n) [
        | inl same ↦ (let P : ℕ → Type 0 = λ k. get_or (set parts n (Some p)) k None ≡ Some q in
            let lt : n < length parts = omega (arith, within, h.size) in
            let read : Some p ≡ Some q = rw get_or-set_same at (subst P same e) in
            let is : p ≡ q = cc in
            let Q : ℕ → Type 0 = λ k. IsKept lets (chain_of nodes k) q in
            subst Q (sym same) (subst (λ (r : Part). IsKept lets (chain_of nodes n) r) is here))
        | inr other ↦ (let ne : i ≢ n = other in h.kept i q (rw get_or-set_other at e))
      ]

  -- where nothing is kept
  pub fresh_kept : (lets : LetSteps) (parts : List (Option Part)) (count : ℕ) → parts ≡ replicate count None → count ≡ length nodes → AreKept lets nodes parts
  fresh_kept lets parts count e size = record {
    size = ap (λ (l : List (Option Part)). length l) e ∙ none_size count ∙ size;
    kept = λ i p h. absurd (none-some p (sym (ap (λ (l : List (Option Part)). get_or l i None) e ∙ none_read count i) ∙ h));
  }

  -- a chain of one order
  pub first_kept : (lets : LetSteps) (at before order : ℕ) → chain_of nodes at ≡ chain_of nodes before ++ order ∷ [] → before ≡ 0
      → IsKept lets (chain_of nodes at) (OneOrder order)
  first_kept lets at before order last none =
      let P : List ℕ → Type 0 = λ l. IsKept lets l (OneOrder order) in
      let e : chain_of nodes at ≡ order ∷ [] = last ∙ ap (λ (k : ℕ). chain_of nodes k ++ order ∷ []) none in
      subst P (sym e) refl

  pub way_more : (node : ℕ) (ns : List ℕ) (at : ℕ) → IsWay nodes node ns at → 0 < at → at < length nodes
      → IsWay nodes node (ns ++ at ∷ []) (node_at nodes at).parent
  way_more node [] at h some within = (sym h, some, within, refl)
  way_more node (n ∷ ns) at h some within = (h.0, h.1, h.2, way_more (node_at nodes n).parent ns at h.3 some within)

  pub way_less : (node : ℕ) (ns : List ℕ) (n at : ℕ) → IsWay nodes node (ns ++ n ∷ []) at
      → IsWay nodes node ns n × (0 < n) × (n < length nodes) × ((node_at nodes n).parent ≡ at)
  way_less node [] n at h = (sym h.0, h.1, h.2, h.3)
  way_less node (m ∷ ns) n at h =
      let rest = way_less (node_at nodes m).parent ns n at h.3 in ((h.0, h.1, h.2, rest.0), rest.1, rest.2, rest.3)

  -- one step up
  pub climbed_on : (node at before : ℕ) (ns longer : List ℕ) → (0 < at) × (at < length nodes) × IsWay nodes node ns at → 0 < (node_at nodes at).parent
      → before ≡ (node_at nodes at).parent → before < at → longer ≡ ns ++ at ∷ []
      → (0 < before) × (before < length nodes) × IsWay nodes node longer before
  climbed_on node at before ns longer h some is earlier e =
      let P : ℕ → Type 0 = λ k. IsWay nodes node longer k in
      let Q : List ℕ → Type 0 = λ l. IsWay nodes node l (node_at nodes at).parent in
      (omega (arith, some, is), omega (arith, earlier, h.1), subst P (sym is) (subst Q (sym e) (way_more node ns at h.2 h.0 h.1)))

  -- the way down from a kept part: what is shared so far is the chain of the node that is come to
  pub record IsDescent (first : LetSteps) (node : ℕ) (old passed : List ℕ) (part : Part) (parts : List (Option Part)) (lets : LetSteps) (line : List ℕ) : Type 0 where
    pub at : ℕ
    pub way : IsWay nodes node passed at
    pub here : IsKept lets (chain_of nodes at) part
    pub table : AreKept lets nodes parts
    pub part_is : part ≡ chain_part first (chain_of nodes at)
    pub lets_is : lets ≡ chain_lets first (chain_of nodes at)
    pub line_is : line ≡ old ++ chain_lines first (chain_of nodes at)

  pub descent_begins : (lets : LetSteps) (node : ℕ) (old passed : List ℕ) (front : Part) (parts read : List (Option Part)) → read ≡ parts
      → IsClimbed nodes read node front passed → AreKept lets nodes parts → IsDescent lets node old passed front parts lets old
  descent_begins lets node old passed front parts read e climbed table =
      let c : List ℕ = chain_of nodes climbed.at in
      let T : List (Option Part) → Type 0 = λ l. AreKept lets nodes l in
      let here : IsKept lets c front = climbed.kept lets (subst T (sym e) table) in
      let none = shared_kept lets c front here in
      record {
        at = climbed.at;
        way = climbed.way;
        here = here;
        table = table;
        part_is = sym (ap (λ (s : Shared). s.proof) none);
        lets_is = sym (ap (λ (s : Shared). s.lets) none);
        line_is = sym (ap (λ (s : Shared). old ++ s.text) none ∙ append-nil old);
      }

  pub descent_more : (first : LetSteps) (node : ℕ) (old ns : List ℕ) (n before order : ℕ) (part kept : Part) (parts : List (Option Part)) (lets next : LetSteps) (line longer : List ℕ)
      → (passed : List ℕ) → passed ≡ ns ++ n ∷ [] → IsDescent first node old passed part parts lets line → chain_of nodes n ≡ chain_of nodes before ++ order ∷ []
      → before ≡ (node_at nodes n).parent
      → kept ≡ kept_part lets (step_of part order) → next ≡ with_step lets (step_of part order) → longer ≡ line ++ new_line lets (step_of part order)
      → IsDescent first node old ns kept (set parts n (Some kept)) next longer
  descent_more first node old ns n before order part kept parts lets next line longer passed e d last is ek en el =
      let c : List ℕ = chain_of nodes d.at in
      let W : List ℕ → Type 0 = λ l. IsWay nodes node l d.at in
      let way = way_less node ns n d.at (subst W e d.way) in
      let grown : chain_of nodes n ≡ c ++ order ∷ [] = last ∙ ap (λ (k : ℕ). chain_of nodes k ++ order ∷ []) (is ∙ way.3) in
      let both : shared first (chain_of nodes n) ≡ joined (shared first c) order =
      ap (shared first) grown ∙ shared_longer first c order (kept_some lets c part d.here) in
      let facts = step_shared (shared first c) lets next part kept line longer old order (shared first (chain_of nodes n)) both d.part_is d.lets_is d.line_is ek en el in
      let P : LetSteps → Type 0 = λ l. IsKept l (chain_of nodes n) kept in
      let Q : Part → Type 0 = λ p. IsKept (with_step lets (step_of part order)) (chain_of nodes n) p in
      let R : List ℕ → Type 0 = λ l. IsKept (with_step lets (step_of part order)) l (kept_part lets (step_of part order)) in
      let here : IsKept next (chain_of nodes n) kept = subst P (sym en) (subst Q (sym ek) (subst R (sym grown) (kept_longer lets c part order d.here))) in
      let S : LetSteps → Type 0 = λ l. AreKept l nodes parts in
      record {
        at = n;
        way = way.0;
        here = here;
        table = put next parts n kept way.2 here (subst S (sym en) (kept_step lets parts (step_of part order) d.table));
        part_is = facts.0;
        lets_is = facts.1;
        line_is = facts.2;
      }

  -- the next node can be read
  pub descent_next : (first : LetSteps) (node : ℕ) (old ns : List ℕ) (n : ℕ) (part : Part) (parts : List (Option Part)) (lets : LetSteps) (line passed : List ℕ)
      → passed ≡ ns ++ n ∷ [] → IsDescent first node old passed part parts lets line → (0 < n) × (n < length nodes) × (n < length parts)
  descent_next first node old ns n part parts lets line passed e d =
      let W : List ℕ → Type 0 = λ l. IsWay nodes node l d.at in
      let way = way_less node ns n d.at (subst W e d.way) in
      (way.1, way.2, omega (arith, way.2, d.table.size))

  pub descent_ends : (first : LetSteps) (node : ℕ) (old : List ℕ) (part : Part) (parts : List (Option Part)) (lets : LetSteps) (line passed : List ℕ)
      → length passed ≡ 0 → IsDescent first node old passed part parts lets line
      → (part ≡ chain_part first (chain_of nodes node)) × (lets ≡ chain_lets first (chain_of nodes node)) × (line ≡ old ++ chain_lines first (chain_of nodes node))
  descent_ends first node old part parts lets line (n ∷ ns) none d = absurd (omega (arith, none))
  descent_ends first node old part parts lets line [] none d = (
    d.part_is ∙ ap (λ (k : ℕ). chain_part first (chain_of nodes k)) (sym d.way),
    d.lets_is ∙ ap (λ (k : ℕ). chain_lets first (chain_of nodes k)) (sym d.way),
    d.line_is ∙ ap (λ (k : ℕ). old ++ chain_lines first (chain_of nodes k)) (sym d.way),
  )

  -- the source itself has no chain
  pub nothing_shared : (lets : LetSteps) (node : ℕ) (line : List ℕ) → node ≡ 0
      → (OneOrder 0 ≡ chain_part lets (chain_of nodes node)) × (lets ≡ chain_lets lets (chain_of nodes node)) × (line ≡ line ++ chain_lines lets (chain_of nodes node))
  nothing_shared lets zero line none = (refl, refl, sym (append-nil line))
  nothing_shared lets (suc n) line none = absurd (omega (arith, none))
