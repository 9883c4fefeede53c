-- The workload of the command `demo`: a query over an auction with so many items, its schema, and its document.
use Rattle.std.specs.Prelude.{ℕ, ◌+◌, ◌*◌, ◌%◌, not, ◌&&◌, ◌==◌, nat_le, List, [], ◌∷◌, ◌++◌, Option, None, Some, codes, decimal, if◌then◌else◌}
use Rattle.std.specs.List.{flat_map, range_with_len}
use Rattle.std.specs.Str.{all_ascii_digits}
use Rattle.gx_demo.specs.declared.workload.TheConstants.{WORKLOAD_ITEMS}
use Rattle.std.specs.Str.Parse.{digits_value}

-- ---- how many items there are

-- the number of a word of digits without a leading zero
abbrev pub number_of_digits : List ℕ → Option ℕ
number_of_digits [] = None
number_of_digits (first ∷ digits) =
    if not (first == 48) && all_ascii_digits (first ∷ digits) then Some (digits_value 10 (first ∷ digits)) else None

abbrev pub at_most : (greatest : ℕ) → Option ℕ → Option ℕ
at_most greatest None = None
at_most greatest (Some n) = if nat_le n greatest then Some n else None

-- the number of items that a word asks for, where it is not too great
abbrev pub items_asked : List ℕ → Option ℕ
items_asked word = at_most WORKLOAD_ITEMS (number_of_digits word)

-- ---- the document

abbrev pub seller_element : ℕ → List ℕ
seller_element seller = codes "<seller id=\"" ++ decimal seller ++ codes "\"/>"

abbrev pub bid_element : (amount : ℕ) → List ℕ
bid_element amount = codes "<bid amount=\"" ++ decimal amount ++ codes "\"/>"

-- so many bids on an item, which are more than ten times its number by 1, 2 and so on
abbrev pub bids : (item count : ℕ) → List ℕ
bids item count = flat_map (λ bid. bid_element (10 * item + bid)) (range_with_len 1 count)

-- an item of one of ten sellers, with up to three bids
abbrev pub item_element : ℕ → List ℕ
item_element item = codes "<item id=\"" ++ decimal item ++ codes "\" seller=\"" ++ decimal (item % 10) ++ codes "\">" ++ bids item (item % 4) ++ codes "</item>"

-- ten sellers, numbered from 0, and so many items, numbered from 1
abbrev pub sellers : List ℕ
sellers = flat_map seller_element (range_with_len 0 10)

abbrev pub items : (count : ℕ) → List ℕ
items count = flat_map item_element (range_with_len 1 count)

abbrev pub auction : (count : ℕ) → List ℕ
auction count = codes "<site>" ++ sellers ++ items count ++ codes "</site>"

-- ---- the files

abbrev pub query_text : List ℕ
query_text = codes "import schema \"\" at \"site.xsd\"; declare variable $d as document-node(schema-element(site)) external; concat(\"items=\", string(count($d/site/item)), \" bids=\", string(count($d//bid)), \" total=\", string(sum($d//bid/@amount)), \" joined=\", string(count(for $i in $d/site/item for $s in $d/site/seller where $i/@seller = $s/@id return $s)))"

abbrev pub schema_text : List ℕ
schema_text = codes "<xs:schema xmlns:xs=\"http://www.w3.org/2001/XMLSchema\"><xs:element name=\"site\"><xs:complexType><xs:sequence><xs:element name=\"seller\" minOccurs=\"0\" maxOccurs=\"unbounded\"><xs:complexType><xs:attribute name=\"id\" type=\"xs:integer\" use=\"required\"/></xs:complexType></xs:element><xs:element name=\"item\" minOccurs=\"0\" maxOccurs=\"unbounded\"><xs:complexType><xs:sequence><xs:element name=\"bid\" minOccurs=\"0\" maxOccurs=\"unbounded\"><xs:complexType><xs:attribute name=\"amount\" type=\"xs:integer\" use=\"required\"/></xs:complexType></xs:element></xs:sequence><xs:attribute name=\"id\" type=\"xs:integer\" use=\"required\"/><xs:attribute name=\"seller\" type=\"xs:integer\" use=\"required\"/></xs:complexType></xs:element></xs:sequence></xs:complexType></xs:element></xs:schema>"

-- the file of the query, and the word that binds its external variable
abbrev pub workload_query : List ℕ
workload_query = codes "demo.xq"

abbrev pub workload_binding : List ℕ
workload_binding = codes "d=site.xml"

abbrev pub workload_files : (items : ℕ) → List (List ℕ × List ℕ)
workload_files count = (workload_query, query_text) ∷ (codes "site.xsd", schema_text) ∷ (codes "site.xml", auction count) ∷ []
