-- Printed names and tests are read as they were written.
use Rattle.std.proofs.Common.{◌≡◌, ◌≢◌, ℕ, Bool, true, false, List, [], ◌∷◌, ◌++◌, refl, sym, ap, subst, ◌∙◌, Option, None, Some, option_map, append_assoc, if◌then◌else◌}
use Rattle.std.specs.Prelude.{codes}
use Rattle.std.specs.Cmp.{unsigned_Decides}
use Rattle.std.specs.Cmp.Lexicographic.{pointwise_decides}
use Rattle.gx_base.specs.Text.{same_text}
use Rattle.gx_base.specs.declared.name.Name.{Name}
use Rattle.gx_base.specs.declared.type_name.Builtin.{Builtin}
use Rattle.gx_base.specs.declared.type_name.Builtin.TheVariants.{AnyType, Untyped, AnySimple, AnyAtomic, UntypedAtomic, Str, NormalizedStr, Token, Boolean, Decimal, Integer, NonPositive, Negative, Long, Int, Short, Byte, NonNegative, UnsignedLong, UnsignedInt, UnsignedShort, UnsignedByte, Positive}
use Rattle.gx_base.specs.declared.type_name.TypeName.{TypeName}
use Rattle.gx_base.specs.declared.type_name.TypeName.TheVariants as names
use Rattle.gx_types.specs.SchemaSet.{SchemaSet}
use Rattle.gx_grammar.specs.Derivation.{of_token, of_empty, of_both, of_keyed, of_left, of_right, of_rule, of_made}
use Rattle.gx_grammar.specs.Grammar.{token, rule}
use Rattle.gx_grammar.specs.Gaps.{gap_ends, gap_white, ends_gap}
use Rattle.gx_grammar.specs.Value.{nothing, characters, pair}
use Rattle.gx_typetext.specs.declared.written.Space.{Space}
use Rattle.gx_typetext.specs.declared.written.Space.TheVariants as space
use Rattle.gx_typetext.specs.declared.written.WrittenName.{WrittenName}
use Rattle.gx_typetext.specs.declared.written.WrittenTest.{WrittenTest}
use Rattle.gx_typetext.specs.declared.written.Inside.TheVariants as inside
use Rattle.gx_typetext.specs.BuiltinName.{local_name}
use Rattle.gx_typetext.specs.Grammar.{braced as braced_phrase, prefixed, unprefixed, name, tested_name, behind_comma, tested}
use Rattle.gx_typetext.specs.ItemText.{test_text}
use Rattle.gx_grammar.specs.Tokens.{all_pass}
use Rattle.gx_base.specs.NameCharacters.{is_ncname_start, is_ncname_character}
use Rattle.gx_typetext.specs.Letters.{is_uri_character}
use Rattle.gx_typetext.specs.NameText.{word, braced, schema_namespace, space_text, name_text, type_name_text}
use Rattle.gx_typetext.specs.Nodes.{Made, written_name_made, maybe_name_made, inside_made}
use Rattle.gx_typetext.specs.ReadBack.{is_ncname, CanBeWritten, IsWritten, IsKnownKind, IsKnownTest}
use Rattle.gx_typetext.specs.Tokens.{symbol}
use Rattle.std.proofs.lemmas.Str.{chars-IsAscii}
use Rattle.gx_typetext.proofs.WordTests.{all_low, ascii}
use Rattle.gx_typetext.proofs.PrintedTokens.{D, IsGap, IsPlain, Begins, gap_read, symbol_read, symbol_gap, local_read, uri_read, begins_no_gap, name_begins}

-- the characters of a word are its bytes
pub word_is : (bs : List ℕ) → all_low bs ≡ true → word bs ≡ bs
word_is bs e = chars-IsAscii bs (ascii bs e)

-- a name as it is written

abbrev pub space_by : (nowhere schema : Bool) → List ℕ → Space
space_by nowhere schema uri = if nowhere then space.Nowhere else (if schema then space.Schema else space.Uri uri)

abbrev pub text_by : (nowhere schema : Bool) → List ℕ → List ℕ
text_by nowhere schema uri = if nowhere then [] else (if schema then word (codes "xs:") else braced uri)

abbrev pub written : Name → WrittenName
written n = record { space = space_by (same_text n.uri []) (same_text n.uri schema_namespace) n.uri; local = n.local }

pub not_empty : (uri : List ℕ) → same_text uri [] ≡ false → uri ≢ []
not_empty uri e f = let k = (pointwise_decides unsigned_Decides uri []).1 f in absurd (cc)

pub after_braces : (uri l y : List ℕ) → (braced uri ++ l) ++ y ≡ 123 ∷ (uri ++ 125 ∷ (l ++ y))
after_braces uri l y = rw (word_is (codes "{") refl, word_is (codes "}") refl)
    (ap (λ x. 123 ∷ x) (ap (λ x. x ++ y) (append_assoc uri (125 ∷ []) l) ∙ append_assoc uri (125 ∷ l) y))

pub prefixed_read : (l y z : List ℕ) → is_ncname l ≡ true → IsPlain y → IsGap y z → D prefixed (written_name_made (record { space = space.Schema; local = l })) (120 ∷ 115 ∷ 58 ∷ (l ++ y)) z
unfolding prefixed
prefixed_read l y z h p g = of_made (of_both (symbol_read (codes "xs:") (l ++ y)) (of_both (local_read l y h p) (gap_read y z g)))

pub braced_read : (uri l y z : List ℕ) → uri ≢ [] → all_pass is_uri_character uri ≡ true → is_ncname l ≡ true → IsPlain y → IsGap y z
    → D braced_phrase (written_name_made (record { space = space.Uri uri; local = l })) (123 ∷ (uri ++ 125 ∷ (l ++ y))) z
unfolding braced_phrase
braced_read uri l y z n u h p g =
    of_made (of_both (symbol_read (codes "{") (uri ++ 125 ∷ (l ++ y))) (of_both (uri_read uri (l ++ y) n u)
    (of_both (symbol_read (codes "}") (l ++ y)) (of_both (local_read l y h p) (gap_read y z g)))))

read_by : (nowhere schema : Bool) (n : Name) → CanBeWritten n → same_text n.uri [] ≡ nowhere → (y z : List ℕ) → IsPlain y → IsGap y z
    → D name (written_name_made (record { space = space_by nowhere schema n.uri; local = n.local })) ((text_by nowhere schema n.uri ++ n.local) ++ y) z
unfolding name unprefixed
read_by true schema n w e y z p g = of_right (of_right (of_made (of_both (local_read n.local y w.local p) (gap_read y z g))))
read_by false true n w e y z p g = rw (word_is (codes "xs:") refl) (of_right (of_left (prefixed_read n.local y z w.local p g)))
read_by false false n w e y z p g =
    subst (λ x. D name (written_name_made (record { space = space.Uri n.uri; local = n.local })) x z) (sym (after_braces n.uri n.local y))
    (of_left (braced_read n.uri n.local y z (not_empty n.uri e) w.uri w.local p g))

pub name_read : (n : Name) → CanBeWritten n → (y z : List ℕ) → IsPlain y → IsGap y z → D name (written_name_made (written n)) (name_text n ++ y) z
name_read n w y z p g = read_by (same_text n.uri []) (same_text n.uri schema_namespace) n w refl y z p g

begins_by : (nowhere schema : Bool) (n : Name) → CanBeWritten n → (y : List ℕ) → Begins ((text_by nowhere schema n.uri ++ n.local) ++ y)
begins_by true schema n w y = name_begins n.local y w.local
begins_by false true n w y = rw (word_is (codes "xs:") refl) (record { gap = refl; colon = refl })
begins_by false false n w y = subst Begins (sym (after_braces n.uri n.local y)) (record { gap = begins_no_gap 123 (n.uri ++ 125 ∷ (n.local ++ y)) refl refl; colon = refl })

pub name_text_begins : (n : Name) → CanBeWritten n → (y : List ℕ) → Begins (name_text n ++ y)
name_text_begins n w y = begins_by (same_text n.uri []) (same_text n.uri schema_namespace) n w y

-- the name of a type

abbrev pub written_kind : TypeName → WrittenName
written_kind (names.Builtin b) = record { space = space.Schema; local = word (local_name b) }
written_kind (names.Named n) = written n
written_kind (names.Anonymous k) = record { space = space.Nowhere; local = [] }

pub plain_local : (b : Builtin) → (all_low (local_name b) ≡ true) × (is_ncname (local_name b) ≡ true)
unfolding is_ncname_start is_ncname_character
plain_local AnyType = (refl, refl)
plain_local Untyped = (refl, refl)
plain_local AnySimple = (refl, refl)
plain_local AnyAtomic = (refl, refl)
plain_local UntypedAtomic = (refl, refl)
plain_local Str = (refl, refl)
plain_local NormalizedStr = (refl, refl)
plain_local Token = (refl, refl)
plain_local Boolean = (refl, refl)
plain_local Decimal = (refl, refl)
plain_local Integer = (refl, refl)
plain_local NonPositive = (refl, refl)
plain_local Negative = (refl, refl)
plain_local Long = (refl, refl)
plain_local Int = (refl, refl)
plain_local Short = (refl, refl)
plain_local Byte = (refl, refl)
plain_local NonNegative = (refl, refl)
plain_local UnsignedLong = (refl, refl)
plain_local UnsignedInt = (refl, refl)
plain_local UnsignedShort = (refl, refl)
plain_local UnsignedByte = (refl, refl)
plain_local Positive = (refl, refl)

pub builtin_is_name : (b : Builtin) → is_ncname (word (local_name b)) ≡ true
builtin_is_name b = let p = plain_local b in ap is_ncname (word_is (local_name b) p.0) ∙ p.1

pub kind_read : (s : SchemaSet) (t : TypeName) → IsKnownKind s t → (y z : List ℕ) → IsPlain y → IsGap y z → D name (written_name_made (written_kind t)) (type_name_text t ++ y) z
unfolding name
kind_read s (names.Builtin b) k y z p g =
    rw (word_is (codes "xs:") refl) (of_right (of_left (prefixed_read (word (local_name b)) y z (builtin_is_name b) p g)))
kind_read s (names.Named n) k y z p g = name_read n k.written y z p g
kind_read s (names.Anonymous number) k y z p g = absurd k

pub kind_text_begins : (s : SchemaSet) (t : TypeName) → IsKnownKind s t → (y : List ℕ) → Begins (type_name_text t ++ y)
kind_text_begins s (names.Builtin b) k y = rw (word_is (codes "xs:") refl) (record { gap = refl; colon = refl })
kind_text_begins s (names.Named n) k y = name_text_begins n k.written y
kind_text_begins s (names.Anonymous number) k y = absurd k

-- what stands in the parentheses of a test

closed : (y : List ℕ) → IsPlain (41 ∷ y)
unfolding is_ncname_start is_ncname_character
closed y = record { ended = refl; colon = refl }

comma_plain : (y : List ℕ) → IsPlain (44 ∷ y)
unfolding is_ncname_start is_ncname_character
comma_plain y = record { ended = refl; colon = refl }

pub no_gap : (c : ℕ) (x : List ℕ) → Rattle.gx_base.specs.WhiteSpace.is_white_space c ≡ false → Rattle.std.proofs.Common.◌==◌ c 40 ≡ false → IsGap (c ∷ x) (c ∷ x)
no_gap c x w o = gap_ends (begins_no_gap c x w o)

abbrev pub written_test : Option Name → TypeName → (has_any_type : Bool) → WrittenTest
written_test name kind any = record { name = option_map written name; kind = if any then None else Some (written_kind kind) }

-- a name, `*`, and a comma with a type's name
some_name : (n : Name) → CanBeWritten n → (c : ℕ) (x : List ℕ) → IsPlain (c ∷ x) → IsGap (c ∷ x) (c ∷ x) → D tested_name (maybe_name_made (Some (written n))) (name_text n ++ c ∷ x) (c ∷ x)
unfolding tested_name
some_name n w c x p g = of_right (of_made (name_read n w (c ∷ x) (c ∷ x) p g))

any_name : (x : List ℕ) → D tested_name (maybe_name_made None) (42 ∷ 44 ∷ x) (44 ∷ x)
unfolding tested_name
any_name x = of_left (of_made (symbol_gap (codes "*") (44 ∷ x) (44 ∷ x) (no_gap 44 x refl refl)))

no_kind : (x : List ℕ) → D behind_comma (maybe_name_made None) x x
unfolding behind_comma
no_kind x = of_right (of_made of_empty)

some_kind : (s : SchemaSet) (kind : TypeName) → IsKnownKind s kind → (y : List ℕ) → D behind_comma (maybe_name_made (Some (written_kind kind))) (44 ∷ 32 ∷ (type_name_text kind ++ 41 ∷ y)) (41 ∷ y)
unfolding behind_comma
some_kind s kind k y =
    let b = kind_text_begins s kind k (41 ∷ y) in
    of_left (of_made (of_both (symbol_gap (codes ",") (32 ∷ (type_name_text kind ++ 41 ∷ y)) (type_name_text kind ++ 41 ∷ y) (gap_white refl (gap_ends b.gap)))
    (kind_read s kind k (41 ∷ y) (41 ∷ y) (closed y) (no_gap 41 y refl refl))))

-- a name and a type between the parentheses
between : (a b : Option WrittenName) (x w y z : List ℕ) → ends_gap x ≡ true → D tested_name (maybe_name_made a) x w → D behind_comma (maybe_name_made b) w (41 ∷ y) → IsGap y z
    → D tested (inside_made (inside.Test (record { name = a; kind = b }))) (40 ∷ x) z
unfolding tested
between a b x w y z e d f g =
    of_made (of_both (symbol_gap (codes "(") x x (gap_ends e)) (of_right (of_both (of_both d f) (symbol_gap (codes ")") y z g))))

pub test_read : (s : SchemaSet) (n : Option Name) (kind : TypeName) (any : Bool) → IsKnownTest s n kind → (y z : List ℕ) → IsGap y z
    → D tested (inside_made (inside.Test (written_test n kind any))) (40 ∷ (test_text n kind any ++ 41 ∷ y)) z
unfolding tested
test_read s None kind true k y z g = of_made (of_both (symbol_gap (codes "(") (41 ∷ y) (41 ∷ y) (no_gap 41 y refl refl)) (of_left (symbol_gap (codes ")") y z g)))
test_read s (Some n) kind true k y z g =
    let b = name_text_begins n k.0 (41 ∷ y) in
    between (Some (written n)) None (name_text n ++ 41 ∷ y) (41 ∷ y) y z b.gap (some_name n k.0 41 y (closed y) (no_gap 41 y refl refl)) (no_kind (41 ∷ y)) g
test_read s None kind false k y z g =
    let x = type_name_text kind ++ 41 ∷ y in
    rw (word_is (codes "*, ") refl)
    (between None (Some (written_kind kind)) (42 ∷ 44 ∷ 32 ∷ x) (44 ∷ 32 ∷ x) y z refl (any_name (32 ∷ x)) (some_kind s kind k.1 y) g)
test_read s (Some n) kind false k y z g =
    let x = 44 ∷ 32 ∷ (type_name_text kind ++ 41 ∷ y) in
    let b = name_text_begins n k.0 x in
    let same : test_text (Some n) kind false ++ 41 ∷ y ≡ name_text n ++ x = rw (word_is (codes ", ") refl) (simp append_assoc) in
    subst (λ t. D tested (inside_made (inside.Test (written_test (Some n) kind false))) (40 ∷ t) z) (sym same)
    (between (Some (written n)) (Some (written_kind kind)) (name_text n ++ x) x y z b.gap (some_name n k.0 44 (32 ∷ (type_name_text kind ++ 41 ∷ y)) (comma_plain (32 ∷ (type_name_text kind ++ 41 ∷ y))) (no_gap 44 (32 ∷ (type_name_text kind ++ 41 ∷ y)) refl refl)) (some_kind s kind k.1 y) g)
