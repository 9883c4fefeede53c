-- Places as they are printed.
use Rattle.std.proofs.Common.{◌≡◌, ℕ, zero, suc, ◌+◌, ◌-◌, ◌*◌, ◌/◌, ◌%◌, ◌^◌, ◌<◌, List, [], ◌∷◌, ◌++◌, arith, append_assoc, add-one}
use Rattle.std.proofs.lemmas.Bool.Decides.{nat_tests}
use Rattle.std.proofs.lemmas.Nat.{pow-add}
use Rattle.std.proofs.Math.Nat.{one-le-pow, mod-lt, div-lt_iff_lt-mul}
use Rattle.gx_num.specs.Printed.{places_text}

pub places_text_step : (k rest : ℕ) → 0 < rest → places_text (suc k) rest ≡ (48 + rest / 10 ^ k) ∷ places_text k (rest % 10 ^ k)
unfolding places_text
places_text_step k rest h = grind (arith, nat_tests)

-- one place more, of the weight w
pub place_pushed : (old new whole : List ℕ) (n k w rest : ℕ) → n ≡ k + 1 → w ≡ 10 ^ k → 0 < rest → new ≡ old ++ (48 + rest / w) ∷ [] → old ++ places_text n rest ≡ whole
    → new ++ places_text k (rest % w) ≡ whole
place_pushed old new whole n k w rest e weight h pushed before =
    let more : places_text n rest ≡ (48 + rest / w) ∷ places_text k (rest % w) = rw (e, add-one, weight) (places_text_step k rest h) in
    rw (pushed, append_assoc) (rw more at before)

pub below_place : (n k w rest : ℕ) → n ≡ k + 1 → w ≡ 10 ^ k → rest < 10 ^ n → rest / w < 10
below_place n k w rest e weight h =
    let power : 10 ^ n ≡ w * 10 = rw (e, weight) (pow-add 10 k 1) in
    let below : rest < 10 * w = omega arith in
    let positive : 0 < w = omega arith in
    (div-lt_iff_lt-mul positive).1 below

pub some_place : (n rest : ℕ) → 0 < rest → rest < 10 ^ n → n ≡ n - 1 + 1
some_place zero rest h below = absurd (omega arith)
some_place (suc n) rest h below = omega arith

pub rest_below_place : (k w rest : ℕ) → w ≡ 10 ^ k → rest % w < 10 ^ k
rest_below_place k w rest weight =
    let positive : 0 < w = rw weight (one-le-pow k 10 (omega arith)) in
    rw (← weight) (mod-lt rest positive)
