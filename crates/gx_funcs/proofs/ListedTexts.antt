-- Texts one behind another, and characters in the place of others.
use Rattle.std.proofs.Common.{◌≡◌, ℕ, Bool, true, false, cond, List, [], ◌∷◌, ◌++◌, Option, None, Some, refl, sym, ◌∙◌, ap, append_assoc, nat_eq, if◌then◌else◌}
use Rattle.std.specs.Prelude.{option_map, is_some, ◌==◌}
use Rattle.std.proofs.lemmas.List.{append-nil}
use Rattle.gx_funcs.specs.Texts.{Text, text_or_empty, both_texts, concatenated, joined}

-- ---- one behind another

-- what there is, with what further arguments give
abbrev pub concatenated_behind : Text → List (List Text) → Option Text
concatenated_behind whole arguments = option_map (λ (t : Text). whole ++ t) (concatenated arguments)

pub concatenated_from : (arguments : List (List Text)) → concatenated_behind [] arguments ≡ concatenated arguments
concatenated_from arguments = by (concatenated arguments)
  where
    by : (o : Option Text) → option_map (λ (t : Text). [] ++ t) o ≡ o
    by None = refl
    by (Some t) = refl

pub one_argument_more : (whole t : Text) (argument : List Text) (arguments : List (List Text)) → text_or_empty argument ≡ Some t
    → concatenated_behind (whole ++ t) arguments ≡ concatenated_behind whole (argument ∷ arguments)
one_argument_more whole t argument arguments e = rw e (by (concatenated arguments))
  where
    by : (o : Option Text) → option_map (λ (u : Text). (whole ++ t) ++ u) o ≡ option_map (λ (u : Text). whole ++ u) (option_map (λ (both : Text × Text). both.0 ++ both.1) (both_texts (Some t) o))
    by None = refl
    by (Some u) = ap (λ (v : Text). Some v) (append_assoc whole t u)

pub no_argument_more : (whole : Text) (argument : List Text) (arguments : List (List Text)) → text_or_empty argument ≡ None → concatenated_behind whole (argument ∷ arguments) ≡ None
no_argument_more whole argument arguments e = rw e refl

-- ---- with a separator between

abbrev pub joined_behind : (separator : Text) → List Text → Text
joined_behind separator [] = []
joined_behind separator (t ∷ ts) = separator ++ (t ++ joined_behind separator ts)

pub joined_from : (separator t : Text) (ts : List Text) → joined separator (t ∷ ts) ≡ t ++ joined_behind separator ts
joined_from separator t [] = sym (append-nil t)
joined_from separator t (u ∷ ts) = append_assoc t separator (joined separator (u ∷ ts)) ∙ ap (λ (v : Text). t ++ (separator ++ v)) (joined_from separator u ts)

pub one_text_more : (whole separator t : Text) (ts : List Text) → ((whole ++ separator) ++ t) ++ joined_behind separator ts ≡ whole ++ joined_behind separator (t ∷ ts)
one_text_more whole separator t ts = append_assoc (whole ++ separator) t (joined_behind separator ts) ∙ append_assoc whole separator (t ++ joined_behind separator ts)

-- ---- in the place of others

abbrev pub found_or : Option (Option ℕ) → Option (Option ℕ) → Option (Option ℕ)
found_or None other = other
found_or (Some found) other = Some found

pub known_character : (before rest : Option (Option ℕ)) (c q : ℕ) (first : Option ℕ) → (nat_eq c q ≡ true → is_some before ≡ true)
    → found_or before rest ≡ found_or before (if c == q then Some first else rest)
known_character None rest c q first known =
    elim (nat_eq c q) as (λ (b : Bool). (b ≡ true → false ≡ true) → rest ≡ (if b then Some first else rest)) [
      | true ↦ λ k. absurd (cc (k refl))
      | false ↦ λ k. refl
    ] known
known_character (Some found) rest c q first known = refl

pub new_character : (before now rest : Option (Option ℕ)) (c q : ℕ) (first : Option ℕ) → (nat_eq c q ≡ true → before ≡ None) → now ≡ cond (nat_eq c q) (Some first) before
    → found_or now rest ≡ found_or before (if c == q then Some first else rest)
new_character before now rest c q first fresh e = ap (λ (o : Option (Option ℕ)). found_or o rest) e ∙ by (nat_eq c q) fresh
  where
    by : (b : Bool) → (b ≡ true → before ≡ None) → found_or (cond b (Some first) before) rest ≡ found_or before (if b then Some first else rest)
    by true k = sym (ap (λ (o : Option (Option ℕ)). found_or o (Some first)) (k refl))
    by false k = refl
