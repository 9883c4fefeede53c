-- The first pair that does not compare false decides.
use Rattle.std.proofs.Common.{◌≡◌, ◌≢◌, true, false, List, [], ◌∷◌, ◌++◌, Some, None, Ok, Err, refl, ap, sym, ◌∙◌}
use Rattle.std.specs.Prelude.{map, All}
use Rattle.std.proofs.lemmas.List.Elements.{All-nil, All-cons, All-head, All-tail}
use Rattle.gx_facets.specs.declared.Atomic.{Atomic}
use Rattle.gx_atomic.specs.declared.comparison.Op.{Op}
use Rattle.gx_atomic.specs.Comparison.{Decision, is_decisive, first_decision, pair_decision, pairs_of}
use Rattle.gx_atomic.specs.Laws.{IsFirstToDecide, FirstPairDecides}
use Rattle.gx_atomic.proofs.Decisions.{by_answer, first_decision-cons, decides, decides_nothing}

pub is_false : (d : Decision) → is_decisive d ≡ false → d ≡ Some (Ok false)
is_false (Some (Ok true)) e = absurd (cc)
is_false (Some (Ok false)) e = refl
is_false (Some (Err error)) e = absurd (cc)
is_false None e = absurd (cc)

pub is_not_false : (d : Decision) → d ≢ Some (Ok false) → is_decisive d ≡ true
is_not_false (Some (Ok true)) n = refl
is_not_false (Some (Ok false)) n = absurd (n refl)
is_not_false (Some (Err error)) n = refl
is_not_false None n = refl

module _ (op : Op) where
  abbrev decision_of : List (Atomic × Atomic) → Decision
  decision_of pairs = first_decision (map (pair_decision op) pairs)

  abbrev IsFalse : Atomic × Atomic → Type 0
  IsFalse pair = pair_decision op pair ≡ Some (Ok false)

  at_once : (pair : Atomic × Atomic) (pairs : List (Atomic × Atomic)) → is_decisive (pair_decision op pair) ≡ true → decision_of (pair ∷ pairs) ≡ pair_decision op pair
  at_once pair pairs yes' = first_decision-cons (pair_decision op pair) (map (pair_decision op) pairs) ∙ decides (pair_decision op pair) _ yes'

  later : (pair : Atomic × Atomic) (pairs : List (Atomic × Atomic)) → is_decisive (pair_decision op pair) ≡ false → decision_of (pair ∷ pairs) ≡ decision_of pairs
  later pair pairs no' = first_decision-cons (pair_decision op pair) (map (pair_decision op) pairs) ∙ decides_nothing (pair_decision op pair) _ no'

  found : (pairs : List (Atomic × Atomic)) (d : Decision) → d ≢ Some (Ok false) → decision_of pairs ≡ d → IsFirstToDecide op pairs d
  found [] d n e = absurd (n (sym e))
  found (pair ∷ pairs) d n e =
      by_answer (is_decisive (pair_decision op pair))
      (λ yes'. record { earlier = []; deciding = pair; later = pairs; standing = refl; all_false = All-nil IsFalse; decides = sym (at_once pair pairs yes') ∙ e })
      (λ no'. let rest = found pairs d n (sym (later pair pairs no') ∙ e) in record {
        earlier = pair ∷ rest.earlier;
        deciding = rest.deciding;
        later = rest.later;
        standing = ap (λ ps. pair ∷ ps) rest.standing;
        all_false = All-cons IsFalse pair rest.earlier (is_false _ no') rest.all_false;
        decides = rest.decides;
      })

  past : (before pairs : List (Atomic × Atomic)) → All IsFalse before → decision_of (before ++ pairs) ≡ decision_of pairs
  past [] pairs all = refl
  past (pair ∷ before) pairs all =
      later pair (before ++ pairs) (ap is_decisive (All-head IsFalse pair before all)) ∙ past before pairs (All-tail IsFalse pair before all)

  finds : (pairs : List (Atomic × Atomic)) (d : Decision) → d ≢ Some (Ok false) → IsFirstToDecide op pairs d → decision_of pairs ≡ d
  finds pairs d n f =
      let yes' : is_decisive (pair_decision op f.deciding) ≡ true = ap is_decisive f.decides ∙ is_not_false d n in
      ap decision_of f.standing ∙ past f.earlier (f.deciding ∷ f.later) f.all_false ∙ at_once f.deciding f.later yes' ∙ f.decides

  all_false : (pairs : List (Atomic × Atomic)) → decision_of pairs ≡ Some (Ok false) → All IsFalse pairs
  all_false [] e = All-nil IsFalse
  all_false (pair ∷ pairs) e =
      by_answer (is_decisive (pair_decision op pair))
      (λ yes'. let none : is_decisive (Some (Ok false)) ≡ true = ap is_decisive (sym e ∙ at_once pair pairs yes') ∙ yes' in absurd (cc))
      (λ no'. All-cons IsFalse pair pairs (is_false _ no') (all_false pairs (sym (later pair pairs no') ∙ e)))

  none_decides : (pairs : List (Atomic × Atomic)) → All IsFalse pairs → decision_of pairs ≡ Some (Ok false)
  none_decides [] all = refl
  none_decides (pair ∷ pairs) all = later pair pairs (ap is_decisive (All-head IsFalse pair pairs all)) ∙ none_decides pairs (All-tail IsFalse pair pairs all)

pub first_pair_decides : FirstPairDecides
first_pair_decides = record {
  by_first_pair = λ op a b d n. (found op (pairs_of a b) d n, finds op (pairs_of a b) d n);
  by_no_pair = λ op a b. (all_false op (pairs_of a b), none_decides op (pairs_of a b));
}
