-- White space and comments between tokens.
use Rattle.gx_base.specs.WhiteSpace.{is_white_space}
use Rattle.std.specs.Prelude.{ℕ, zero, suc, List, [], ◌∷◌, ◌≡◌, ◌==◌, ◌||◌, ◌&&◌, not, Bool, true, if◌then◌else◌, length, Option, Some, None}

-- two characters that begin a comment, and two that end one
abbrev pub begins_comment : ℕ → ℕ → Bool
begins_comment c e = (c == 40) && (e == 58)

abbrev pub ends_comment : ℕ → ℕ → Bool
ends_comment c e = (c == 58) && (e == 41)

-- neither white space nor a comment stands at the front
abbrev pub ends_gap : List ℕ → Bool
ends_gap [] = true
ends_gap (c ∷ []) = not (is_white_space c)
ends_gap (c ∷ e ∷ x) = not (is_white_space c) && not (begins_comment c e)

-- behind the character, no comment begins or ends with it
abbrev pub goes_on_inside : ℕ → List ℕ → Bool
goes_on_inside c [] = true
goes_on_inside c (e ∷ x) = not (begins_comment c e) && not (ends_comment c e)

-- From x, within `depth` open comments, white space and nested comments go as far as they can, and leave y.
-- The characters of a comment pass the test.
pub data Gap (allowed : ℕ → Bool) : ℕ → List ℕ → List ℕ → Type 0 where
  gap_ends : {y : List ℕ} → ends_gap y ≡ true → Gap allowed 0 y y
  gap_white : {c : ℕ} {x y : List ℕ} → is_white_space c ≡ true → Gap allowed 0 x y → Gap allowed 0 (c ∷ x) y
  comment_begins : {depth : ℕ} {x y : List ℕ} → Gap allowed (suc depth) x y → Gap allowed depth (40 ∷ 58 ∷ x) y
  comment_ends : {depth : ℕ} {x y : List ℕ} → Gap allowed depth x y → Gap allowed (suc depth) (58 ∷ 41 ∷ x) y
  comment_goes_on : {depth c : ℕ} {x y : List ℕ} → goes_on_inside c x ≡ true → allowed c ≡ true → Gap allowed (suc depth) x y → Gap allowed (suc depth) (c ∷ x) y

-- The text is the beginning of white space and comments, the first of them within `depth` open comments.
-- A comment that isn't closed opens to the end of the text, and a `(` alone may begin a comment.
pub data OpensGap (allowed : ℕ → Bool) : ℕ → List ℕ → Type 0 where
  opens_end : {depth : ℕ} → OpensGap allowed depth []
  opens_paren : OpensGap allowed 0 (40 ∷ [])
  opens_white : {c : ℕ} {x : List ℕ} → is_white_space c ≡ true → OpensGap allowed 0 x → OpensGap allowed 0 (c ∷ x)
  opens_begin : {depth : ℕ} {x : List ℕ} → OpensGap allowed (suc depth) x → OpensGap allowed depth (40 ∷ 58 ∷ x)
  opens_close : {depth : ℕ} {x : List ℕ} → OpensGap allowed depth x → OpensGap allowed (suc depth) (58 ∷ 41 ∷ x)
  opens_on : {depth c : ℕ} {x : List ℕ} → goes_on_inside c x ≡ true → allowed c ≡ true → OpensGap allowed (suc depth) x → OpensGap allowed (suc depth) (c ∷ x)

-- what is left behind the gap, unless a comment is not closed
abbrev pub behind_gap : (ℕ → Bool) → ℕ → List ℕ → Option (List ℕ)
behind_gap allowed zero [] = Some []
behind_gap allowed (suc depth) [] = None
behind_gap allowed zero (c ∷ []) = if is_white_space c then (Some []) else (Some (c ∷ []))
behind_gap allowed (suc depth) (c ∷ []) = None
behind_gap allowed zero (c ∷ e ∷ x) =
    if is_white_space c then (behind_gap allowed zero (e ∷ x))
    else (if begins_comment c e then (behind_gap allowed 1 x) else (Some (c ∷ e ∷ x)))
behind_gap allowed (suc depth) (c ∷ e ∷ x) =
    if begins_comment c e then (behind_gap allowed (suc (suc depth)) x)
    else (if ends_comment c e then (behind_gap allowed depth x) else (if allowed c then (behind_gap allowed (suc depth) (e ∷ x)) else None))

-- what is left behind the longest opening of a gap
abbrev pub seen_gap : (ℕ → Bool) → ℕ → List ℕ → ℕ
seen_gap allowed depth [] = 0
seen_gap allowed zero (c ∷ []) = if is_white_space c || (c == 40) then 0 else 1
seen_gap allowed (suc depth) (c ∷ []) = if allowed c then 0 else 1
seen_gap allowed zero (c ∷ e ∷ x) =
    if is_white_space c then (seen_gap allowed zero (e ∷ x))
    else (if begins_comment c e then (seen_gap allowed 1 x) else (if c == 40 then (length (e ∷ x)) else (length (c ∷ e ∷ x))))
seen_gap allowed (suc depth) (c ∷ e ∷ x) =
    if begins_comment c e then (seen_gap allowed (suc (suc depth)) x)
    else (if ends_comment c e then (seen_gap allowed depth x) else (if allowed c then (seen_gap allowed (suc depth) (e ∷ x)) else (length (c ∷ e ∷ x))))

-- White space and comments as a token, which may be empty.
pub record IsGap {V : Type 0} (allowed : ℕ → Bool) (value v : V) (x y : List ℕ) : Type 0 where
  pub same : v ≡ value
  pub gap : Gap allowed 0 x y

abbrev pub with_value : {V : Type 0} → V → Option (List ℕ) → Option (V × List ℕ)
with_value v None = None
with_value v (Some y) = Some (v, y)

abbrev pub scan_gap : {V : Type 0} → (ℕ → Bool) → V → List ℕ → Option (V × List ℕ)
scan_gap allowed v x = with_value v (behind_gap allowed 0 x)
