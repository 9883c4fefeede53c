-- Texts without carriage returns, and values without other white space than spaces.
use Rattle.std.proofs.Common.{◌≡◌, ℕ, ◌<◌, Bool, true, false, List, [], ◌∷◌, ◌++◌, refl, sym, ap, ◌∙◌, subst, arith}
use Rattle.std.specs.Prelude.{◌==◌, ◌||◌, if◌then◌else◌, encode_utf8_all}
use Rattle.std.specs.List.{list_any}
use Rattle.std.specs.Str.{chars, IsUtf8}
use Rattle.std.proofs.Math.Utf8.{encode}
use Rattle.std.proofs.lemmas.Bool.Decides.{nat_tests}
use Rattle.std.proofs.lemmas.List.Folds.{list_any-append}
use Rattle.std.proofs.lemmas.Str.{encode_ascii, encodes-chars}
use Rattle.gx_xml.specs.Runs.{normalised, character_kept, text_normalised, value_normalised}

neither : (a b : Bool) → (a || b) ≡ false → (a ≡ false) × (b ≡ false)
neither true b e = (cc, cc)
neither false b e = (refl, e)

-- a character of ASCII that no byte is
none_here : (k c : ℕ) (b : Bool) → k < 128 → (c == k) ≡ b → list_any (λ d. d == k) (encode c) ≡ false → (c == k) ≡ false
none_here k c false l e h = e
none_here k c true l e h =
    let at : c ≡ k = grind (arith, nat_tests) in
    let spelled : encode c ≡ c ∷ [] = encode_ascii c (omega (arith, at)) in
    let found : list_any (λ d. d == k) (encode c) ≡ true = ap (list_any (λ d. d == k)) spelled ∙ ap (λ b. b || false) e in
    cc

no_return : (x : List ℕ) → list_any (λ d. d == 13) (encode_utf8_all x) ≡ false → text_normalised x ≡ x
no_return [] h = refl
no_return (c ∷ x) h =
    let both = neither _ _ (sym (list_any-append (λ d. d == 13) (encode c) (encode_utf8_all x)) ∙ h) in
    let here = none_here 13 c (c == 13) (omega arith) refl both.0 in
    ap (λ b. if b then (10 ∷ normalised false true x) else (c ∷ normalised false false x)) here ∙ ap (λ t. c ∷ t) (no_return x both.1)

pub normal_without_return : (text bytes : List ℕ) → IsUtf8 text → bytes ≡ text → list_any (λ d. d == 13) bytes ≡ false → text_normalised (chars text) ≡ chars text
normal_without_return text bytes u e h = no_return (chars text) (ap (list_any (λ d. d == 13)) (encodes-chars text u ∙ sym e) ∙ h)

-- no byte is this one
abbrev lacks : ℕ → List ℕ → Type 0
lacks k bytes = list_any (λ d. d == k) bytes ≡ false

parted : (k c : ℕ) (x : List ℕ) → lacks k (encode_utf8_all (c ∷ x)) → lacks k (encode c) × lacks k (encode_utf8_all x)
parted k c x h = neither _ _ (sym (list_any-append (λ d. d == k) (encode c) (encode_utf8_all x)) ∙ h)

kept_here : (c : ℕ) → (c == 9) ≡ false → (c == 10) ≡ false → character_kept true c ≡ c
kept_here c t l = ap (λ b. if b || (c == 10) then 32 else c) t ∙ ap (λ b. if b then 32 else c) l

no_space : (x : List ℕ) → lacks 9 (encode_utf8_all x) → lacks 10 (encode_utf8_all x) → lacks 13 (encode_utf8_all x) → value_normalised x ≡ x
no_space [] t l r = refl
no_space (c ∷ x) t l r =
    let tabs = parted 9 c x t in
    let feeds = parted 10 c x l in
    let returns = parted 13 c x r in
    let kept = kept_here c (none_here 9 c (c == 9) (omega arith) refl tabs.0) (none_here 10 c (c == 10) (omega arith) refl feeds.0) in
    ap (λ b. if b then (character_kept true 10 ∷ normalised true true x) else (character_kept true c ∷ normalised true false x)) (none_here 13 c (c == 13) (omega arith) refl returns.0)
    ∙ ap (λ d. d ∷ normalised true false x) kept ∙ ap (λ y. c ∷ y) (no_space x tabs.1 feeds.1 returns.1)

pub normal_without_space : (text bytes : List ℕ) → IsUtf8 text → bytes ≡ text → list_any (λ d. d == 9) bytes ≡ false → list_any (λ d. d == 10) bytes ≡ false → list_any (λ d. d == 13) bytes ≡ false
    → value_normalised (chars text) ≡ chars text
normal_without_space text bytes u e t l r =
    let same = encodes-chars text u ∙ sym e in
    no_space (chars text) (ap (list_any (λ d. d == 9)) same ∙ t) (ap (list_any (λ d. d == 10)) same ∙ l) (ap (list_any (λ d. d == 13)) same ∙ r)
