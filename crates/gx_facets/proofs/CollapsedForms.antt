-- Collapsed texts, and their bytes.
use Rattle.std.proofs.Common.{◌≡◌, ℕ, Bool, true, false, cond, List, [], ◌∷◌, refl, ap, sym, subst, ◌∙◌}
use Rattle.std.specs.Bool.{one_answer}
use Rattle.std.specs.Cmp.{first_so, second_so}
use Rattle.std.specs.Cmp.Derive.{both_true}
use Rattle.std.specs.Cmp.Lexicographic.{bytes_decides}
use Rattle.std.specs.Str.{chars, IsUtf8, all_scalars, encode_utf8_all}
use Rattle.std.proofs.Math.Utf8.{scalar}
use Rattle.std.proofs.lemmas.Str.{encodes-chars, chars-encodes}
use Rattle.gx_base.specs.Text.{same_text}
use Rattle.gx_base.specs.WhiteSpace.{is_white_space}
use Rattle.gx_facets.specs.WhiteSpace.{collapsed}
use Rattle.gx_facets.proofs.Collapsing.{collapsed_behind, in_one_pass}
use Rattle.gx_facets.proofs.Words.{by_test, one_pass}

-- ---- the characters that stay are characters

scalars_behind : (gap : Bool) (cs : List ℕ) → all_scalars cs ≡ true → all_scalars (collapsed_behind gap cs) ≡ true
scalars_behind gap [] h = refl
scalars_behind gap (c ∷ cs) h =
    let first = first_so (scalar c) (all_scalars cs) h in
    let others = second_so (scalar c) (all_scalars cs) h in
    let stays = both_true first (scalars_behind false cs others) in
    by_test (λ b. all_scalars (cond b (collapsed_behind true cs) (cond gap (32 ∷ c ∷ collapsed_behind false cs) (c ∷ collapsed_behind false cs))) ≡ true) (is_white_space c)
    (scalars_behind true cs others)
    (by_test (λ g. all_scalars (cond g (32 ∷ c ∷ collapsed_behind false cs) (c ∷ collapsed_behind false cs)) ≡ true) gap stays stays)

scalars_in_one_pass : (cs : List ℕ) → all_scalars cs ≡ true → all_scalars (in_one_pass cs) ≡ true
scalars_in_one_pass [] h = refl
scalars_in_one_pass (c ∷ cs) h =
    let first = first_so (scalar c) (all_scalars cs) h in
    let others = second_so (scalar c) (all_scalars cs) h in
    by_test (λ b. all_scalars (cond b (in_one_pass cs) (c ∷ collapsed_behind false cs)) ≡ true) (is_white_space c)
    (scalars_in_one_pass cs others)
    (both_true first (scalars_behind false cs others))

pub scalars_collapsed : (cs : List ℕ) → all_scalars cs ≡ true → all_scalars (collapsed cs) ≡ true
scalars_collapsed cs h = subst (λ ds. all_scalars ds ≡ true) (one_pass cs) (scalars_in_one_pass cs h)

-- ---- a text is a word exactly where its bytes are

same_bytes : (cs word : List ℕ) → all_scalars cs ≡ true → IsUtf8 word → same_text cs (chars word) ≡ same_text (encode_utf8_all cs) word
same_bytes cs word scalars utf8 =
    let by_chars = bytes_decides cs (chars word) in
    let by_bytes = bytes_decides (encode_utf8_all cs) word in
    let back = λ (e : encode_utf8_all cs ≡ word). sym (chars-encodes cs scalars) ∙ ap chars e in
    one_answer {P = cs ≡ chars word} _ _ by_chars (λ h. back (by_bytes.0 h), λ e. by_bytes.1 (ap encode_utf8_all e ∙ encodes-chars word utf8))

pub same_forms : (cs bytes word : List ℕ) → all_scalars cs ≡ true → bytes ≡ encode_utf8_all cs → IsUtf8 word
    → same_text (collapsed (chars bytes)) (chars word) ≡ same_text (encode_utf8_all (collapsed cs)) word
same_forms cs bytes word scalars e utf8 =
    let same : chars bytes ≡ cs = ap chars e ∙ chars-encodes cs scalars in
    ap (λ ds. same_text (collapsed ds) (chars word)) same ∙ same_bytes (collapsed cs) word (scalars_collapsed cs scalars) utf8
