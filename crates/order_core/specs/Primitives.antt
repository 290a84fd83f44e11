-- The eight primitives: the side, the strictness and the code of each.
use Rattle.std.specs.Prelude.{ℕ, Bool, true, false, List, Option, None, Some, if◌then◌else◌, codes, bytes_eq}
use Rattle.order_laws.specs.declared.Point.{Point}
use Rattle.order_core.specs.declared.primitives.Primitive.{Primitive}
use Rattle.order_core.specs.declared.primitives.Primitive.TheVariants.{P173, P174, P175, P176, P182, P183, P184, P185}
use Rattle.order_core.specs.declared.sides.Side.{Side}
use Rattle.order_core.specs.declared.sides.Side.TheVariants.{StartEnd, StartStart, EndStart, EndEnd}
use Rattle.order_core.specs.Sides.{left_point, right_point}

-- the side whose boundaries a primitive compares, and whether it compares them by `<`
abbrev pub side_of : Primitive → Side
side_of P173 = StartEnd
side_of P174 = StartEnd
side_of P175 = StartStart
side_of P176 = StartStart
side_of P182 = EndStart
side_of P183 = EndStart
side_of P184 = EndEnd
side_of P185 = EndEnd

abbrev pub strict_of : Primitive → Bool
strict_of P173 = false
strict_of P174 = true
strict_of P175 = false
strict_of P176 = true
strict_of P182 = false
strict_of P183 = true
strict_of P184 = false
strict_of P185 = true

-- the primitive of a side and a strictness
abbrev pub primitive_of : Side → Bool → Primitive
primitive_of StartEnd strict = if strict then P174 else P173
primitive_of StartStart strict = if strict then P176 else P175
primitive_of EndStart strict = if strict then P183 else P182
primitive_of EndEnd strict = if strict then P185 else P184

-- the left point, the right point, and whether the primitive is strict
abbrev pub points_of : Primitive → ℕ → ℕ → Point × Point × Bool
points_of p a b = (left_point (side_of p) a, right_point (side_of p) b, strict_of p)

abbrev pub code_of : Primitive → List ℕ
code_of P173 = codes "P173"
code_of P174 = codes "P174"
code_of P175 = codes "P175"
code_of P176 = codes "P176"
code_of P182 = codes "P182"
code_of P183 = codes "P183"
code_of P184 = codes "P184"
code_of P185 = codes "P185"

-- the primitive of a code
abbrev pub primitive_named : List ℕ → Option Primitive
primitive_named code =
    if bytes_eq code (codes "P173") then Some P173 else
    if bytes_eq code (codes "P174") then Some P174 else
    if bytes_eq code (codes "P175") then Some P175 else
    if bytes_eq code (codes "P176") then Some P176 else
    if bytes_eq code (codes "P182") then Some P182 else
    if bytes_eq code (codes "P183") then Some P183 else
    if bytes_eq code (codes "P184") then Some P184 else
    if bytes_eq code (codes "P185") then Some P185 else None
