-- Numbers of which some are left out, one by one.
use Rattle.std.proofs.Common.{◌≡◌, ℕ, zero, suc, ◌+◌, ◌-◌, ◌<◌, ◌≤◌, Bool, true, false, ltb, List, [], ◌∷◌, refl, sym, ap, ◌∙◌, arith, if◌then◌else◌}
use Rattle.std.proofs.lemmas.Bool.{ltb-true, ltb-false, lt-ltb, le-ltb}
use Rattle.gx_nodes.specs.Hops.{hops_within, hops}

stopped : (left_out : ℕ → ℕ) (k n end : ℕ) → end ≤ n → hops_within k left_out n end ≡ []
stopped left_out zero n end h = refl
stopped left_out (suc k) n end h = ap (λ (b : Bool). if b then n ∷ hops_within k left_out (suc (n + left_out n)) end else []) (le-ltb n end h)

gone_on : (left_out : ℕ → ℕ) (k n end : ℕ) → n < end → hops_within (suc k) left_out n end ≡ n ∷ hops_within k left_out (suc (n + left_out n)) end
gone_on left_out k n end h = ap (λ (b : Bool). if b then n ∷ hops_within k left_out (suc (n + left_out n)) end else []) (lt-ltb n end h)

same_turns : (left_out : ℕ → ℕ) (j k n end : ℕ) → end ≤ n + j → end ≤ n + k → hops_within j left_out n end ≡ hops_within k left_out n end
same_turns left_out zero k n end h g = sym (stopped left_out k n end (omega (arith, h)))
same_turns left_out (suc j) zero n end h g = stopped left_out (suc j) n end (omega (arith, g))
same_turns left_out (suc j) (suc k) n end h g =
    by_test (ltb n end) refl (same_turns left_out j k (suc (n + left_out n)) end (omega (arith, h)) (omega (arith, g)))
  where
    by_test : (b : Bool) → ltb n end ≡ b → hops_within j left_out (suc (n + left_out n)) end ≡ hops_within k left_out (suc (n + left_out n)) end
        → hops_within (suc j) left_out n end ≡ hops_within (suc k) left_out n end
    by_test true e rest = gone_on left_out j n end (ltb-true n end e) ∙ ap (λ (ns : List ℕ). n ∷ ns) rest ∙ sym (gone_on left_out k n end (ltb-true n end e))
    by_test false e rest = stopped left_out (suc j) n end (ltb-false n end e) ∙ sym (stopped left_out (suc k) n end (ltb-false n end e))

pub hops_end : (left_out : ℕ → ℕ) (n end : ℕ) → end ≤ n → hops left_out n end ≡ []
hops_end left_out n end h = stopped left_out (end - n) n end h

pub hops_more : (left_out : ℕ → ℕ) (n end : ℕ) → n < end → hops left_out n end ≡ n ∷ hops left_out (suc (n + left_out n)) end
hops_more left_out n end h =
    let turns : end - n ≡ suc (end - suc n) = omega (arith, h) in
    let m : ℕ = suc (n + left_out n) in
    ap (λ (k : ℕ). hops_within k left_out n end) turns
    ∙ gone_on left_out (end - suc n) n end h
    ∙ ap (λ (ns : List ℕ). n ∷ ns) (same_turns left_out (end - suc n) (end - m) m end (omega (arith, h)) (omega arith))
