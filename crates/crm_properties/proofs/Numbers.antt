-- The names for numbers of classes and of properties are those of the tables.
use Rattle.std.proofs.Common.{◌≡◌, ◌&&◌, true, codes, bytes_eq, refl}
use Rattle.crm_classes.specs.Table.{rows as class_rows}
use Rattle.crm_classes.specs.Classes.{code_text}
use Rattle.crm_properties.specs.ClassNumbers.{e1, e2, e52, e53, e77, e92, e4, e5, e7, e63, e64, e66, e67, e69, e39, e74, e18, e21, e55, e41}
use Rattle.crm_properties.specs.PropertyNumbers.{p4, p160, p86, p82a, p81a, p81b, p82b, ap13_before, ap13_after, ap13_same, ap7, relation_from, relation_to, relation_type}
use Rattle.crm_properties.specs.Table.{rows}
use Rattle.crm_properties.specs.Names.{row_at}

classes_named :
    (bytes_eq (code_text e1) (codes "E1") &&
    bytes_eq (code_text e2) (codes "E2") &&
    bytes_eq (code_text e52) (codes "E52") &&
    bytes_eq (code_text e53) (codes "E53") &&
    bytes_eq (code_text e77) (codes "E77") &&
    bytes_eq (code_text e92) (codes "E92") &&
    bytes_eq (code_text e4) (codes "E4") &&
    bytes_eq (code_text e5) (codes "E5") &&
    bytes_eq (code_text e7) (codes "E7") &&
    bytes_eq (code_text e63) (codes "E63") &&
    bytes_eq (code_text e64) (codes "E64") &&
    bytes_eq (code_text e66) (codes "E66") &&
    bytes_eq (code_text e67) (codes "E67") &&
    bytes_eq (code_text e69) (codes "E69") &&
    bytes_eq (code_text e39) (codes "E39") &&
    bytes_eq (code_text e74) (codes "E74") &&
    bytes_eq (code_text e18) (codes "E18") &&
    bytes_eq (code_text e21) (codes "E21") &&
    bytes_eq (code_text e55) (codes "E55") &&
    bytes_eq (code_text e41) (codes "E41")) ≡ true
unfolding class_rows
classes_named = refl

properties_named :
    (bytes_eq (row_at p4).text (codes "P4") &&
    bytes_eq (row_at p160).text (codes "P160") &&
    bytes_eq (row_at p86).text (codes "P86") &&
    bytes_eq (row_at p82a).text (codes "P82a") &&
    bytes_eq (row_at p81a).text (codes "P81a") &&
    bytes_eq (row_at p81b).text (codes "P81b") &&
    bytes_eq (row_at p82b).text (codes "P82b") &&
    bytes_eq (row_at ap13_before).text (codes "urn:crmtime:AP13-before") &&
    bytes_eq (row_at ap13_after).text (codes "urn:crmtime:AP13-after") &&
    bytes_eq (row_at ap13_same).text (codes "urn:crmtime:AP13-same") &&
    bytes_eq (row_at ap7).text (codes "AP7") &&
    bytes_eq (row_at relation_from).text (codes "urn:crmtime:relation-from") &&
    bytes_eq (row_at relation_to).text (codes "urn:crmtime:relation-to") &&
    bytes_eq (row_at relation_type).text (codes "urn:crmtime:relation-type")) ≡ true
unfolding rows
properties_named = refl
