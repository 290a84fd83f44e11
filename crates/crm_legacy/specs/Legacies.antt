-- The legacy properties, their codes, and what says the same in their place.
use Rattle.std.specs.Prelude.{ℕ, Bool, true, false, List, [], ◌∷◌, ◌++◌, Option, Some, None, if◌then◌else◌, cond, not, codes, bytes_eq}
use Rattle.crm_properties.specs.Names.{behind, code_in, crm_space}
use Rattle.order_core.specs.declared.primitives.Primitive.{Primitive}
use Rattle.order_core.specs.declared.primitives.Primitive.TheVariants.{P173, P174, P175, P176, P182, P183, P184, P185}
use Rattle.order_core.specs.Primitives.{code_of}
use Rattle.crm_legacy.specs.declared.legacy.Direction.{Direction}
use Rattle.crm_legacy.specs.declared.legacy.Legacy.{Legacy}
use Rattle.crm_legacy.specs.declared.legacy.LegacyProperty.{LegacyProperty}
use Rattle.crm_legacy.specs.declared.legacy.LegacyProperty.TheVariants.{P114, P115, P116, P117, P118, P119, P120}

abbrev pub forward : LegacyProperty → Legacy
forward p = record { property = p; inverse = false }

abbrev pub backward : LegacyProperty → Legacy
backward p = record { property = p; inverse = true }

-- the property of a code, and by a code with `i` its inverse
abbrev pub legacy_of_code : List ℕ → Option Legacy
legacy_of_code code =
    if bytes_eq code (codes "P114") then Some (forward P114) else
    if bytes_eq code (codes "P115") then Some (forward P115) else
    if bytes_eq code (codes "P116") then Some (forward P116) else
    if bytes_eq code (codes "P117") then Some (forward P117) else
    if bytes_eq code (codes "P118") then Some (forward P118) else
    if bytes_eq code (codes "P119") then Some (forward P119) else
    if bytes_eq code (codes "P120") then Some (forward P120) else
    if bytes_eq code (codes "P115i") then Some (backward P115) else
    if bytes_eq code (codes "P116i") then Some (backward P116) else
    if bytes_eq code (codes "P117i") then Some (backward P117) else
    if bytes_eq code (codes "P118i") then Some (backward P118) else
    if bytes_eq code (codes "P119i") then Some (backward P119) else
    if bytes_eq code (codes "P120i") then Some (backward P120) else None

abbrev pub legacy_by_name : Option (List ℕ) → Option Legacy
legacy_by_name None = None
legacy_by_name (Some name) = legacy_of_code (code_in name)

-- the legacy property that an IRI names: in the namespace of the CRM, by the rest up to its first `_`
abbrev pub legacy_of : List ℕ → Option Legacy
legacy_of iri = legacy_by_name (behind crm_space iri)

abbrev pub there : Primitive → Direction
there p = record { primitive = p; inverse = false }

abbrev pub back : Primitive → Direction
back p = record { primitive = p; inverse = true }

-- the primitives that say together what a property says
abbrev pub replacements : LegacyProperty → List Direction
replacements P114 = there P175 ∷ back P175 ∷ there P184 ∷ back P184 ∷ []
replacements P115 = back P176 ∷ there P184 ∷ back P184 ∷ []
replacements P116 = there P175 ∷ back P175 ∷ there P185 ∷ []
replacements P117 = back P176 ∷ there P185 ∷ []
replacements P118 = there P176 ∷ back P174 ∷ there P185 ∷ []
replacements P119 = there P182 ∷ back P173 ∷ []
replacements P120 = there P183 ∷ []

abbrev pub inverse_mark : Bool → List ℕ
inverse_mark inverse = if inverse then codes "i" else []

abbrev pub is_turned : Bool → Bool → Bool
is_turned turned inverse = cond turned (not inverse) inverse

-- the IRI of a primitive in one of its directions, turned round for an inverse
abbrev pub direction_iri : Bool → Direction → List ℕ
direction_iri turned d = crm_space ++ (code_of d.primitive ++ inverse_mark (is_turned turned d.inverse))
