-- Code points and characters.
use Rattle.std.proofs.Common.{◌≡◌, ℕ, ◌++◌, List, [], ◌∷◌, Option, None, Some, refl, sym, ap, append_assoc, ℤ}
use Rattle.std.specs.Prelude.{option_map, Result, Ok, Err, string_bytes, encode_utf8_all}
use Rattle.std.specs.declared.string.String.{String}
use Rattle.std.specs.Str.{chars}
use Rattle.std.proofs.lemmas.Str.{chars_from_encodes, IsUtf8-string_bytes}
use Rattle.gx_base.specs.declared.code.Code.{Code}
use Rattle.gx_base.specs.declared.code.Code.TheVariants.{FOCH0001}
use Rattle.gx_facets.specs.declared.Atomic.{Atomic}
use Rattle.gx_funcs.specs.Texts.{Text}
use Rattle.gx_funcs.specs.Strings.{character_with_code, character_behind, text_of_codepoints}
use Rattle.gx_funcs.specs.Values.{integer_of_value, integer_behind, integers_of_values}

-- ---- integers among values

-- what there is, with what further values give
abbrev pub integers_ahead : List ℤ → List Atomic → Option (List ℤ)
integers_ahead found values = option_map (λ (is : List ℤ). found ++ is) (integers_of_values values)

pub integers_from : (values : List Atomic) → integers_ahead [] values ≡ integers_of_values values
integers_from values = by (integers_of_values values)
  where
    by : (o : Option (List ℤ)) → option_map (λ (is : List ℤ). [] ++ is) o ≡ o
    by None = refl
    by (Some is) = refl

pub one_integer_more : (found : List ℤ) (a : Atomic) (i : ℤ) (values : List Atomic) → integer_of_value a.value ≡ Some i → integers_ahead (found ++ i ∷ []) values ≡ integers_ahead found (a ∷ values)
one_integer_more found a i values e = rw e (by (integers_of_values values))
  where
    by : (o : Option (List ℤ)) → option_map (λ (is : List ℤ). (found ++ i ∷ []) ++ is) o ≡ option_map (λ (is : List ℤ). found ++ is) (integer_behind (Some i) o)
    by None = refl
    by (Some is) = ap (λ (l : List ℤ). Some l) (append_assoc found (i ∷ []) is)

pub integer_missing : (found : List ℤ) (a : Atomic) (values : List Atomic) → integer_of_value a.value ≡ None → integers_ahead found (a ∷ values) ≡ None
integer_missing found a values e = rw e refl

-- ---- characters from code points

abbrev pub text_ahead : Text → Result Text Code → Result Text Code
text_ahead done (Ok t) = Ok (done ++ t)
text_ahead done (Err code) = Err code

pub text_from : (r : Result Text Code) → text_ahead [] r ≡ r
text_from (Ok t) = refl
text_from (Err code) = refl

pub one_character_more : (done : Text) (i : ℤ) (c : ℕ) (codepoints : List ℤ) → character_with_code i ≡ Some c
    → text_ahead (done ++ c ∷ []) (text_of_codepoints codepoints) ≡ text_ahead done (text_of_codepoints (i ∷ codepoints))
one_character_more done i c codepoints e = rw e (by (text_of_codepoints codepoints))
  where
    by : (r : Result Text Code) → text_ahead (done ++ c ∷ []) r ≡ text_ahead done (character_behind (Some c) r)
    by (Ok t) = ap (λ (u : Text). Ok u) (append_assoc done (c ∷ []) t)
    by (Err code) = refl

pub no_character : (done : Text) (i : ℤ) (codepoints : List ℤ) → character_with_code i ≡ None → text_ahead done (text_of_codepoints (i ∷ codepoints)) ≡ Err FOCH0001
no_character done i codepoints e = rw e refl

-- ---- normal forms

pub characters_spelled : {A : Type 0} (s : String A) (cs : List ℕ) → string_bytes s ≡ encode_utf8_all cs → chars (string_bytes s) ≡ cs
characters_spelled s cs e = sym (chars_from_encodes cs (string_bytes s) (IsUtf8-string_bytes s) (sym e))
