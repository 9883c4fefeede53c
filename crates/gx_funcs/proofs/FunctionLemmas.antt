-- Functions by their names, and their parameters.
use Rattle.std.proofs.Common.{◌≡◌, ℕ, zero, suc, ◌≤◌, ◌<◌, Bool, true, false, ◌&&◌, List, [], ◌∷◌, length, replicate, Option, None, Some, refl, ◌∙◌, subst, arith, if◌then◌else◌}
use Rattle.std.specs.Prelude.{bytes_eq, encode_utf8_all, codes, nat_le, ◌==◌, slice_get}
use Rattle.std.specs.Char.{encode_utf8}
use Rattle.std.proofs.lemmas.List.{length-replicate}
use Rattle.std.proofs.lemmas.Bool.{and_from, eq-eqb, le-leb}
use Rattle.gx_funcs.specs.declared.function.Function.{Function}
use Rattle.gx_funcs.specs.declared.function.Function.TheVariants as functions
use Rattle.gx_funcs.specs.declared.function.Parameter.{Parameter}
use Rattle.gx_funcs.specs.declared.text_function.TextFunction.TheVariants as texts
use Rattle.gx_funcs.specs.declared.value_function.ValueFunction.TheVariants as values
use Rattle.gx_funcs.specs.declared.item_function.ItemFunction.TheVariants as items
use Rattle.gx_funcs.specs.Function.{all_functions, function_name, arity_of, is_of_name, first_named, function_named, concat_named, found_or, value_at_most, IsInTable}
use Rattle.gx_funcs.specs.Laws.{FunctionsAreFoundByName}

-- ---- parameters

pub concat_arity : (count : ℕ) (p : Parameter) → length (replicate count p) ≡ count
concat_arity count p = length-replicate count p

pub parameter_there : (count index : ℕ) (p : Parameter) → index < count → slice_get (replicate count p) index ≡ Some p
parameter_there zero index p h = absurd (omega arith)
parameter_there (suc count) zero p h = refl
parameter_there (suc count) (suc index) p h = parameter_there count index p (omega arith)

pub no_parameter_there : (count index : ℕ) (p : Parameter) → count ≤ index → slice_get (replicate count p) index ≡ None
no_parameter_there zero index p h = refl
no_parameter_there (suc count) zero p h = absurd (omega arith)
no_parameter_there (suc count) (suc index) p h = no_parameter_there count index p (omega arith)

-- ---- names

-- what is found has the name
first_is_of_name : (fs : List Function) (local : List ℕ) (arity : ℕ) (function : Function) → first_named fs local arity ≡ Some function → is_of_name local arity function ≡ true
first_is_of_name [] local arity function e = absurd (cc)
first_is_of_name (f ∷ fs) local arity function e =
    elim (is_of_name local arity f) as (λ (b : Bool). is_of_name local arity f ≡ b → (if b then Some f else first_named fs local arity) ≡ Some function → is_of_name local arity function ≡ true) [
      | true ↦ λ same h. let k : f ≡ function = cc in subst (λ (g : Function). is_of_name local arity g ≡ true) k same
      | false ↦ λ same h. first_is_of_name fs local arity function h
    ] refl e

concat_is_of_name : (local : List ℕ) (arity : ℕ) (function : Function) → concat_named local arity ≡ Some function → is_of_name local arity function ≡ true
concat_is_of_name local arity function e =
    elim (bytes_eq (encode_utf8_all local) (codes "concat")) as (λ (b : Bool). bytes_eq (encode_utf8_all local) (codes "concat") ≡ b
    → (if b && nat_le 2 arity then Some (functions.OfTexts (texts.Concat arity)) else None) ≡ Some function → is_of_name local arity function ≡ true) [
      | true ↦ λ same h. by same (nat_le 2 arity) h
      | false ↦ λ same h. absurd (cc)
    ] refl e
  where
    by : bytes_eq (encode_utf8_all local) (codes "concat") ≡ true → (b : Bool) → (if b then Some (functions.OfTexts (texts.Concat arity)) else None) ≡ Some function → is_of_name local arity function ≡ true
    by same true h =
        let k : functions.OfTexts (texts.Concat arity) ≡ function = cc in
        subst (λ (f : Function). is_of_name local arity f ≡ true) k
        (and_from (bytes_eq (encode_utf8_all local) (codes "concat")) (arity_of (functions.OfTexts (texts.Concat arity)) == arity) same (eq-eqb (length (replicate arity value_at_most)) arity (concat_arity arity value_at_most)))
    by same false h = absurd (cc)

found_by_name : (function : Function) → IsInTable function → function_named (function_name function) (arity_of function) ≡ Some function
unfolding function_named encode_utf8
found_by_name (functions.OfTexts (texts.Concat count)) h = rw (concat_arity count value_at_most, le-leb 2 count h) refl
found_by_name (functions.OfTexts texts.StringLength) h = refl
found_by_name (functions.OfTexts texts.StringJoin) h = refl
found_by_name (functions.OfTexts texts.NormalizeSpace) h = refl
found_by_name (functions.OfTexts texts.Translate) h = refl
found_by_name (functions.OfTexts texts.Contains) h = refl
found_by_name (functions.OfTexts texts.StartsWith) h = refl
found_by_name (functions.OfTexts texts.EndsWith) h = refl
found_by_name (functions.OfTexts texts.SubstringBefore) h = refl
found_by_name (functions.OfTexts texts.SubstringAfter) h = refl
found_by_name (functions.OfValues values.Sum) h = refl
found_by_name (functions.OfValues values.Average) h = refl
found_by_name (functions.OfValues values.Min) h = refl
found_by_name (functions.OfValues values.Max) h = refl
found_by_name (functions.OfValues values.Abs) h = refl
found_by_name (functions.OfValues values.Floor) h = refl
found_by_name (functions.OfValues values.Ceiling) h = refl
found_by_name (functions.OfValues values.Round) h = refl
found_by_name (functions.OfValues values.SubstringFrom) h = refl
found_by_name (functions.OfValues values.Substring) h = refl
found_by_name (functions.OfValues values.Compare) h = refl
found_by_name (functions.OfValues values.Normalize) h = refl
found_by_name (functions.OfValues values.NormalizeTo) h = refl
found_by_name (functions.OfValues values.CodepointsToString) h = refl
found_by_name (functions.OfValues values.StringToCodepoints) h = refl
found_by_name (functions.OfValues values.DistinctValues) h = refl
found_by_name (functions.OfValues values.IndexOf) h = refl
found_by_name (functions.OfItems items.Name) h = refl
found_by_name (functions.OfItems items.LocalName) h = refl
found_by_name (functions.OfItems items.Root) h = refl
found_by_name (functions.OfItems items.Reverse) h = refl
found_by_name (functions.OfItems items.SubsequenceFrom) h = refl
found_by_name (functions.OfItems items.Subsequence) h = refl
found_by_name (functions.OfItems items.Remove) h = refl
found_by_name (functions.OfItems items.InsertBefore) h = refl
found_by_name (functions.OfItems items.ZeroOrOne) h = refl
found_by_name (functions.OfItems items.OneOrMore) h = refl
found_by_name (functions.OfItems items.ExactlyOne) h = refl
found_by_name (functions.OfItems items.DeepEqual) h = refl
found_by_name (functions.OfItems items.Error) h = refl
found_by_name functions.True h = refl
found_by_name functions.False h = refl
found_by_name functions.Boolean h = refl
found_by_name functions.Not h = refl
found_by_name functions.Count h = refl
found_by_name functions.Empty h = refl
found_by_name functions.Exists h = refl
found_by_name functions.Data h = refl
found_by_name functions.String h = refl
found_by_name functions.Position h = refl
found_by_name functions.Last h = refl

named_so : (local : List ℕ) (arity : ℕ) (function : Function) → function_named local arity ≡ Some function → is_of_name local arity function ≡ true
unfolding function_named
named_so local arity function e =
    by (first_named all_functions local arity) refl e
  where
    by : (found : Option Function) → first_named all_functions local arity ≡ found → found_or found (concat_named local arity) ≡ Some function → is_of_name local arity function ≡ true
    by (Some f) same h = first_is_of_name all_functions local arity function (same ∙ h)
    by None same h = concat_is_of_name local arity function h

pub functions_found : FunctionsAreFoundByName
functions_found = record { found = found_by_name; named = named_so }
