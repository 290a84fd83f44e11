-- The `let` lines of chains: a front of a chain of two orders or more is proved once.
use Rattle.std.specs.Prelude.{ℕ, ◌+◌, ◌&&◌, Bool, false, nat_eq, List, [], ◌∷◌, ◌++◌, length, if◌then◌else◌, fold, codes}
use Rattle.std.specs.List.{list_any, position_or_len}
use Rattle.std.specs.Fmt.{decimal}
use Rattle.order_certificates.specs.declared.sharing.Part.{Part}
use Rattle.order_certificates.specs.declared.sharing.Part.TheVariants.{Order as OneOrder, Kept}
use Rattle.order_certificates.specs.declared.sharing.Step.{Step}

-- an order, or a line by its number
abbrev pub part_text : Part → List ℕ
part_text (OneOrder n) = codes "o" ++ decimal n
part_text (Kept n) = codes "l" ++ decimal n

abbrev pub same_part : Part → Part → Bool
same_part (OneOrder m) (OneOrder n) = nat_eq m n
same_part (Kept m) (Kept n) = nat_eq m n
same_part _ _ = false

abbrev pub same_step : Step → Step → Bool
same_step s t = same_part s.front t.front && nat_eq s.order t.order

-- the line that joins a front of a chain and the order behind it
unfoldable pub let_line : Step → List ℕ
let_line s = codes "let j(" ++ (part_text s.front ++ (codes ",o" ++ (decimal s.order ++ codes ")\n")))

-- the lines of the chains from the boundaries of one period, behind so many others; chains from other boundaries begin
-- with other orders, so no front of theirs is among these
pub record LetSteps : Type 0 where
  pub before : ℕ
  pub steps : List Step

abbrev pub no_lets : LetSteps
no_lets = record { before = 0; steps = [] }

abbrev pub is_kept : LetSteps → Step → Bool
is_kept lets s = list_any (same_step s) lets.steps

-- the lines with that of a step, which goes last where it is new
abbrev pub with_step : LetSteps → Step → LetSteps
with_step lets s = record { before = lets.before; steps = if is_kept lets s then lets.steps else lets.steps ++ s ∷ [] }

-- the line of a step, where it is new
abbrev pub new_line : LetSteps → Step → List ℕ
new_line lets s = if is_kept lets s then [] else let_line s

-- what the line of a step keeps
abbrev pub kept_part : LetSteps → Step → Part
kept_part lets s = Kept (lets.before + position_or_len (same_step s) lets.steps)

abbrev pub step_of : Part → ℕ → Step
step_of p n = record { front = p; order = n }

-- the lines, the proof of a front of a chain, and the text of the lines that are new
pub record Shared : Type 0 where
  pub lets : LetSteps
  pub proof : Part
  pub text : List ℕ

-- the front with one more order
abbrev pub joined : Shared → ℕ → Shared
joined s n = record {
  lets = with_step s.lets (step_of s.proof n);
  proof = kept_part s.lets (step_of s.proof n);
  text = s.text ++ new_line s.lets (step_of s.proof n);
}

abbrev pub shared_behind : LetSteps → Part → List ℕ → Shared
shared_behind lets p ns = fold joined (record { lets = lets; proof = p; text = [] }) ns

-- of a whole chain; that of one order has no line
abbrev pub shared : LetSteps → List ℕ → Shared
shared lets [] = record { lets = lets; proof = OneOrder 0; text = [] }
shared lets (n ∷ ns) = shared_behind lets (OneOrder n) ns

abbrev pub chain_part : LetSteps → List ℕ → Part
chain_part lets ns = (shared lets ns).proof

abbrev pub chain_lets : LetSteps → List ℕ → LetSteps
chain_lets lets ns = (shared lets ns).lets

abbrev pub chain_lines : LetSteps → List ℕ → List ℕ
chain_lines lets ns = (shared lets ns).text

-- behind all lines so far
abbrev pub turned : LetSteps → LetSteps
turned lets = record { before = lets.before + length lets.steps; steps = [] }
