-- Steps over white space and comments.
use Rattle.std.proofs.Common.{◌≡◌, ℕ, zero, suc, ◌+◌, ◌-◌, ◌<◌, true, false, List, [], ◌∷◌, length, refl, sym, ap, subst, ◌∙◌, arith}
use Rattle.gx_base.specs.WhiteSpace.{is_white_space}
use Rattle.gx_grammar.specs.Gaps.{begins_comment, ends_comment}
use Rattle.gx_base.specs.NameCharacters.{is_xml_character}
use Rattle.gx_gaps.specs.GapSteps.{GoesOn, Stops}

pub white_step : (c : ℕ) (rest x : List ℕ) → is_white_space c ≡ true → rest ≡ c ∷ x → GoesOn 0 rest 0 x
white_step c rest [] w e = record { behind = rw (e, w) refl; seen = rw (e, w) refl; shorter = omega (arith, ap length e); bounded = omega (arith, ap length e) }
white_step c rest (d ∷ x) w e = record { behind = rw (e, w) refl; seen = rw (e, w) refl; shorter = omega (arith, ap length e); bounded = omega (arith, ap length e) }

pub first_comment : (c d : ℕ) (rest tail x : List ℕ) → is_white_space c ≡ false → begins_comment c d ≡ true → rest ≡ c ∷ tail → tail ≡ d ∷ x → GoesOn 0 rest 1 x
first_comment c d rest tail x w b e f = record { behind = rw (e, f, w, b) refl; seen = rw (e, f, w, b) refl; shorter = omega (arith, ap length e, ap length f); bounded = omega (arith, ap length e, ap length f) }

pub stops_end : (rest : List ℕ) → rest ≡ [] → Stops 0 rest
stops_end rest e = rw e (refl, refl)

pub stops_last : (c : ℕ) (rest tail : List ℕ) → is_white_space c ≡ false → rest ≡ c ∷ tail → tail ≡ [] → Stops 0 rest
stops_last c rest tail w e f = rw (e, f, w) (refl, refl)

pub stops_before : (c d : ℕ) (rest tail x : List ℕ) → is_white_space c ≡ false → begins_comment c d ≡ false → rest ≡ c ∷ tail → tail ≡ d ∷ x → Stops 0 rest
stops_before c d rest tail x w b e f = rw (e, f, w, b) (refl, refl)

pub comment_in_comment : (c d depth more : ℕ) (rest tail x : List ℕ) → 0 < depth → more ≡ depth + 1 → begins_comment c d ≡ true → rest ≡ c ∷ tail → tail ≡ d ∷ x → GoesOn depth rest more x
comment_in_comment c d zero more rest tail x o t b e f = absurd (omega arith)
comment_in_comment c d (suc n) more rest tail x o t b e f =
    let t' : more ≡ suc (suc n) = omega arith in
    record { behind = rw (e, f, t', b) refl; seen = rw (e, f, t', b) refl; shorter = omega (arith, ap length e, ap length f); bounded = omega (arith, ap length e, ap length f) }

pub comment_closes : (c d depth more : ℕ) (rest tail x : List ℕ) → 0 < depth → more ≡ depth - 1 → begins_comment c d ≡ false → ends_comment c d ≡ true → rest ≡ c ∷ tail → tail ≡ d ∷ x → GoesOn depth rest more x
comment_closes c d zero more rest tail x o t b k e f = absurd (omega arith)
comment_closes c d (suc n) more rest tail x o t b k e f =
    let t' : more ≡ n = omega arith in
    record { behind = rw (e, f, t', b, k) refl; seen = rw (e, f, t', b, k) refl; shorter = omega (arith, ap length e, ap length f); bounded = omega (arith, ap length e, ap length f) }

pub within_comment : (c d depth : ℕ) (rest tail x : List ℕ) → 0 < depth → begins_comment c d ≡ false → ends_comment c d ≡ false → is_xml_character c ≡ true → rest ≡ c ∷ tail → tail ≡ d ∷ x → GoesOn depth rest depth tail
within_comment c d zero rest tail x o b k q e f = absurd (omega arith)
within_comment c d (suc n) rest tail x o b k q e f =
    let whole : rest ≡ c ∷ d ∷ x = e ∙ ap (λ q. c ∷ q) f in
    subst (λ q. GoesOn (suc n) rest (suc n) q) (sym f)
    (record { behind = rw (whole, b, k, q) refl; seen = rw (whole, b, k, q) refl; shorter = omega (arith, ap length whole); bounded = omega (arith, ap length whole) })

pub last_in_comment : (c depth : ℕ) (rest tail : List ℕ) → 0 < depth → is_xml_character c ≡ true → rest ≡ c ∷ tail → tail ≡ [] → GoesOn depth rest depth tail
last_in_comment c zero rest tail o q e f = absurd (omega arith)
last_in_comment c (suc n) rest tail o q e f =
    let whole : rest ≡ c ∷ [] = e ∙ ap (λ q. c ∷ q) f in
    subst (λ q. GoesOn (suc n) rest (suc n) q) (sym f)
    (record { behind = rw whole refl; seen = rw (whole, q) refl; shorter = omega (arith, ap length whole); bounded = omega (arith, ap length whole) })

pub ends_inside : (depth : ℕ) (rest : List ℕ) → 0 < depth → rest ≡ [] → Stops depth rest
ends_inside zero rest o e = absurd (omega arith)
ends_inside (suc n) rest o e = rw e (refl, refl)

pub last_foreign : (c depth : ℕ) (rest tail : List ℕ) → 0 < depth → is_xml_character c ≡ false → rest ≡ c ∷ tail → tail ≡ [] → Stops depth rest
last_foreign c zero rest tail o q e f = absurd (omega arith)
last_foreign c (suc n) rest tail o q e f = rw (e, f, q) (refl, refl)

pub foreign : (c d depth : ℕ) (rest tail x : List ℕ) → 0 < depth → begins_comment c d ≡ false → ends_comment c d ≡ false → is_xml_character c ≡ false → rest ≡ c ∷ tail → tail ≡ d ∷ x → Stops depth rest
foreign c d zero rest tail x o b k q e f = absurd (omega arith)
foreign c d (suc n) rest tail x o b k q e f = rw (e, f, b, k, q) (refl, refl)
