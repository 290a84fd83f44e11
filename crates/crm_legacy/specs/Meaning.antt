-- What legacy properties say of two extents.
use Rattle.std.specs.Prelude.{ℕ, ℤ, Bool, true, false, List, map}
use Rattle.order_laws.specs.declared.Order.{Order}
use Rattle.order_core.specs.declared.primitives.Primitive.{Primitive}
use Rattle.order_core.specs.Primitives.{points_of}
use Rattle.crm_allen.specs.declared.relations.Allen.{Allen}
use Rattle.crm_allen.specs.declared.relations.Allen.TheVariants.{Before, Meets, Overlaps, Starts, Equal, During, Finishes}
use Rattle.crm_allen.specs.Relations.{assumed, relation_orders}
use Rattle.crm_legacy.specs.declared.legacy.Direction.{Direction}
use Rattle.crm_legacy.specs.declared.legacy.LegacyProperty.{LegacyProperty}
use Rattle.crm_legacy.specs.declared.legacy.LegacyProperty.TheVariants.{P114, P115, P116, P117, P118, P119, P120}
use Rattle.crm_legacy.specs.Legacies.{is_turned, replacements}

-- the relation of a property: this project's reading
abbrev pub relation_of : LegacyProperty → Allen
relation_of P114 = Equal
relation_of P115 = Finishes
relation_of P116 = Starts
relation_of P117 = During
relation_of P118 = Overlaps
relation_of P119 = Meets
relation_of P120 = Before

-- the order that a primitive is
abbrev pub primitive_order : Primitive → ℕ → ℕ → Order
primitive_order p a b = assumed (points_of p a b).0 (points_of p a b).1 (points_of p a b).2

-- from a to b, or from b to a where it is turned
abbrev pub order_by : Bool → Primitive → ℕ → ℕ → Order
order_by false p a b = primitive_order p a b
order_by true p a b = primitive_order p b a

-- the orders of what replaces a property, or its inverse, between a and b
abbrev pub replaced_orders : LegacyProperty → Bool → ℕ → ℕ → List Order
replaced_orders property inverse a b = map (λ d. order_by (is_turned inverse d.inverse) d.primitive a b) (replacements property)

-- the orders of the property's relation; by an inverse b has it to a
abbrev pub legacy_orders : LegacyProperty → Bool → ℕ → ℕ → List Order
legacy_orders property false a b = relation_orders (relation_of property) a b
legacy_orders property true a b = relation_orders (relation_of property) b a
