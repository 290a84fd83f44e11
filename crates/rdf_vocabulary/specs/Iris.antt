-- The IRIs of RDF and of the datatypes of XML Schema.
use Rattle.std.specs.Prelude.{ℕ, List, codes}

unfoldable pub rdf_type : List ℕ
rdf_type = codes "http://www.w3.org/1999/02/22-rdf-syntax-ns#type"

unfoldable pub rdf_first : List ℕ
rdf_first = codes "http://www.w3.org/1999/02/22-rdf-syntax-ns#first"

unfoldable pub rdf_rest : List ℕ
rdf_rest = codes "http://www.w3.org/1999/02/22-rdf-syntax-ns#rest"

unfoldable pub rdf_nil : List ℕ
rdf_nil = codes "http://www.w3.org/1999/02/22-rdf-syntax-ns#nil"

unfoldable pub rdf_lang_string : List ℕ
rdf_lang_string = codes "http://www.w3.org/1999/02/22-rdf-syntax-ns#langString"

unfoldable pub xsd_string : List ℕ
xsd_string = codes "http://www.w3.org/2001/XMLSchema#string"

unfoldable pub xsd_boolean : List ℕ
xsd_boolean = codes "http://www.w3.org/2001/XMLSchema#boolean"

unfoldable pub xsd_integer : List ℕ
xsd_integer = codes "http://www.w3.org/2001/XMLSchema#integer"

unfoldable pub xsd_decimal : List ℕ
xsd_decimal = codes "http://www.w3.org/2001/XMLSchema#decimal"

unfoldable pub xsd_double : List ℕ
xsd_double = codes "http://www.w3.org/2001/XMLSchema#double"

unfoldable pub xsd_g_year : List ℕ
xsd_g_year = codes "http://www.w3.org/2001/XMLSchema#gYear"

unfoldable pub xsd_g_year_month : List ℕ
xsd_g_year_month = codes "http://www.w3.org/2001/XMLSchema#gYearMonth"

unfoldable pub xsd_date : List ℕ
xsd_date = codes "http://www.w3.org/2001/XMLSchema#date"

unfoldable pub xsd_date_time : List ℕ
xsd_date_time = codes "http://www.w3.org/2001/XMLSchema#dateTime"
