-- How characters are written (Serialization, section 5.1.3).
use Rattle.std.specs.Prelude.{ℕ, ◌+◌, ◌/◌, ◌%◌, List, [], ◌∷◌, ◌++◌, Bool, ◌&&◌, ◌||◌, ◌==◌, nat_le, nat_lt, if◌then◌else◌, codes}

-- a hexadecimal digit, in upper case
abbrev pub digit : ℕ → ℕ
digit n = if nat_lt n 10 then 48 + n else 55 + n

-- a number below 256 in hexadecimal, without a zero in front
abbrev pub hexadecimal : ℕ → List ℕ
hexadecimal n = if nat_lt n 16 then digit n ∷ [] else digit (n / 16) ∷ digit (n % 16) ∷ []

-- a reference to a character below 256
abbrev pub reference : ℕ → List ℕ
reference c = codes "&#x" ++ hexadecimal c ++ codes ";"

-- the characters that are written as references everywhere, but for U+2028: carriage return, and U+007F to U+009F
abbrev pub is_control : ℕ → Bool
is_control c = (c == 13) || (nat_le 127 c && nat_le c 159)

-- a character of a text
abbrev pub escaped_in_text : ℕ → List ℕ
escaped_in_text c =
    if c == 38 then codes "&amp;"
    else if c == 60 then codes "&lt;"
    else if c == 62 then codes "&gt;"
    else if c == 8232 then codes "&#x2028;"
    else if is_control c then reference c
    else c ∷ []

-- a character of an attribute's value
abbrev pub escaped_in_value : ℕ → List ℕ
escaped_in_value c =
    if c == 34 then codes "&quot;"
    else if (c == 9) || (c == 10) then reference c
    else escaped_in_text c

-- all characters of a text
abbrev pub text_escaped : List ℕ → List ℕ
text_escaped [] = []
text_escaped (c ∷ cs) = escaped_in_text c ++ text_escaped cs

-- all characters of an attribute's value
abbrev pub value_escaped : List ℕ → List ℕ
value_escaped [] = []
value_escaped (c ∷ cs) = escaped_in_value c ++ value_escaped cs
