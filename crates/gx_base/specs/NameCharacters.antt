-- The characters that texts and names are made of.
use Rattle.std.specs.Prelude.{ℕ, Bool, ◌&&◌, ◌||◌, ◌==◌, nat_le}

-- the character lies between two, which count as well
abbrev pub lies_between : ℕ → ℕ → ℕ → Bool
lies_between low high c = nat_le low c && nat_le c high

-- the first character of an NCName (XML 1.0, section 2.3; Namespaces in XML 1.0, section 3)
unfoldable pub is_ncname_start : ℕ → Bool
is_ncname_start c =
    lies_between 97 122 c || (lies_between 65 90 c || (c == 95 || (lies_between 192 214 c || (lies_between 216 246 c || (lies_between 248 767 c || (lies_between 880 893 c || (lies_between 895 8191 c
    || (lies_between 8204 8205 c || (lies_between 8304 8591 c || (lies_between 11264 12271 c || (lies_between 12289 55295 c || (lies_between 63744 64975 c || (lies_between 65008 65533 c || lies_between 65536 983039 c)))))))))))))

-- another character of an NCName
unfoldable pub is_ncname_character : ℕ → Bool
is_ncname_character c = is_ncname_start c || (lies_between 48 57 c || (c == 45 || (c == 46 || (c == 183 || (lies_between 768 879 c || lies_between 8255 8256 c)))))

-- a Char (XML 1.0, section 2.2)
unfoldable pub is_xml_character : ℕ → Bool
is_xml_character c = lies_between 32 55295 c || (c == 9 || (c == 10 || (c == 13 || (lies_between 57344 65533 c || lies_between 65536 1114111 c))))
