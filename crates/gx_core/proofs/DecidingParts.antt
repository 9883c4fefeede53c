-- Parts that come to the same in each evaluation that an operator asks for may stand for one another.
use Rattle.std.proofs.Common.{◌≡◌, ℕ, zero, suc, ◌+◌, Bool, true, false, List, [], ◌∷◌, ◌++◌, map, drop}
use Rattle.std.proofs.Common.{length, Option, Some, None, refl, sym, ◌∙◌, ap, arith, if◌then◌else◌}
use Rattle.std.specs.Prelude.{slice_get}
use Rattle.std.proofs.lemmas.List.{length-drop}
use Rattle.std.specs.List.{AllByRecursion}
use Rattle.gx_facets.specs.declared.Atomic.{Atomic}
use Rattle.gx_types.specs.SchemaSet.{SchemaSet}
use Rattle.gx_sorting.specs.declared.keys.KeyOrder.{KeyOrder}
use Rattle.gx_model.specs.Forest.{Forest}
use Rattle.gx_model.specs.Item.{Item, Items}
use Rattle.gx_core.specs.declared.cases.TypeCase.{TypeCase}
use Rattle.gx_core.specs.declared.expression.Binder.{Binder}
use Rattle.gx_core.specs.declared.operator.ClauseKind.{ClauseKind}
use Rattle.gx_core.specs.declared.operator.ClauseKind.TheVariants as clauses
use Rattle.gx_core.specs.declared.operator.Operator.{Operator}
use Rattle.gx_core.specs.declared.operator.Operator.TheVariants as operators
use Rattle.gx_core.specs.Bindings.{position_bound}
use Rattle.gx_core.specs.Instances.{is_instance}
use Rattle.gx_core.specs.Outcome.{Outcome, gives, raises, wrong, after, given}
use Rattle.gx_core.specs.Comparing.{truth_value, condition_of}
use Rattle.gx_core.specs.Denotations.{Bindings, Denotation, item_bound}
use Rattle.gx_core.specs.Blocks.{Tuple, key_of, tuple_keys, tuples_of_each, tuples_if, tuples_of, in_key_order, returned, block_returned}
use Rattle.gx_core.specs.Meaning.{Context, acts, all_of, for_each, decides, any_decides, branch, switched, denoted}
use Rattle.gx_core.specs.Evaluations.{PartEvaluation, evaluation_of_part, evaluations_after, evaluations_given, operand_evaluations}
use Rattle.gx_core.specs.Evaluations.{turn_evaluations, search_evaluations, chosen_part, branch_evaluations, key_evaluations}
use Rattle.gx_core.specs.Evaluations.{evaluations_of_each, tuple_evaluations, return_evaluations, block_return_evaluations, evaluations}
use Rattle.gx_core.specs.Laws.{AgreeAt, PartsDecide}

-- ---- what is the same behind an outcome

-- two outcomes are the same, and so are the evaluations that are asked for on the way
abbrev Same : {R : Type 0} → (one other : Outcome R) (asked others : List PartEvaluation) → Type 0
Same one other asked others = (one ≡ other) × (asked ≡ others)

same_after : {R S : Type 0} (Holds : PartEvaluation → Type 0) (one other : Outcome R) (next following : R → Forest → Outcome S)
    (asked others : R → Forest → List PartEvaluation) → one ≡ other
    → AllByRecursion Holds (evaluations_after one asked)
    → ((result : R) (left : Forest) → AllByRecursion Holds (asked result left)
    → Same (next result left) (following result left) (asked result left) (others result left))
    → Same (after one next) (after other following) (evaluations_after one asked) (evaluations_after other others)
same_after {R = R} {S = S} Holds one other next following asked others e all h =
    let p = behind one all in (p.0 ∙ ap (λ o. after o following) e, p.1 ∙ ap (λ o. evaluations_after o others) e)
  where
    behind : (o : Outcome R) → AllByRecursion Holds (evaluations_after o asked)
        → Same (after o next) (after o following) (evaluations_after o asked) (evaluations_after o others)
    behind (gives result left) k = h result left k
    behind (raises code) k = (refl, refl)
    behind wrong k = (refl, refl)

same_given : {R S : Type 0} (Holds : PartEvaluation → Type 0) (found : Option R) (next following : R → Outcome S) (asked others : R
    → List PartEvaluation)
    → AllByRecursion Holds (evaluations_given found asked)
    → ((x : R) → AllByRecursion Holds (asked x) → Same (next x) (following x) (asked x) (others x))
    → Same (given found next) (given found following) (evaluations_given found asked) (evaluations_given found others)
same_given Holds None next following asked others all h = (refl, refl)
same_given Holds (Some x) next following asked others all h = h x all

-- the same part asked for first
same_first : {R : Type 0} (first : PartEvaluation) (one other : Outcome R) (asked others : List PartEvaluation)
    → Same one other asked others → Same one other (first ∷ asked) (first ∷ others)
same_first first one other asked others h = (h.0, ap (λ more. first ∷ more) h.1)

-- ---- operands

-- what a part with this number comes to
abbrev AgreesAs : (parts others : List Denotation) → (part : ℕ) → (one other : Denotation) → Type 0
AgreesAs parts others part one other =
    (bindings : Bindings) (forest : Forest) → AgreeAt parts others (evaluation_of_part part bindings forest)
    → one bindings forest ≡ other bindings forest

found_there : (parts others : List Denotation) (part : ℕ) (one other : Denotation) → slice_get parts part ≡ Some one
    → slice_get others part ≡ Some other → AgreesAs parts others part one other
found_there parts others part one other e f bindings forest h = cc

next_place : (parts ds : List Denotation) (d : Denotation) (part : ℕ) → ((k : ℕ) → slice_get parts (part + k) ≡ slice_get (d ∷ ds) k)
    → (k : ℕ) → slice_get parts (suc part + k) ≡ slice_get ds k
next_place parts ds d part h k = let e : suc part + k ≡ part + suc k = omega arith in ap (λ (n : ℕ). slice_get parts n) e ∙ h (suc k)

this_place : (parts ds : List Denotation) (d : Denotation) (part : ℕ) → ((k : ℕ) → slice_get parts (part + k) ≡ slice_get (d ∷ ds) k)
    → slice_get parts part ≡ Some d
this_place parts ds d part h = let e : part ≡ part + 0 = omega arith in ap (λ (n : ℕ). slice_get parts n) e ∙ h 0

same_operands : (parts others : List Denotation) (part : ℕ) (ds es : List Denotation) (bindings : Bindings) (forest : Forest)
    → length ds ≡ length es
    → ((k : ℕ) → slice_get parts (part + k) ≡ slice_get ds k) → ((k : ℕ) → slice_get others (part + k) ≡ slice_get es k)
    → AllByRecursion (AgreeAt parts others) (operand_evaluations part ds bindings forest)
    → Same (all_of ds bindings forest) (all_of es bindings forest) (operand_evaluations part ds bindings forest)
    (operand_evaluations part es bindings forest)
same_operands parts others part [] [] bindings forest n here there all = (refl, refl)
same_operands parts others part [] (e ∷ es) bindings forest n here there all = absurd (cc)
same_operands parts others part (d ∷ ds) [] bindings forest n here there all = absurd (cc)
same_operands parts others part (d ∷ ds) (e ∷ es) bindings forest n here there all =
    same_first (evaluation_of_part part bindings forest) (all_of (d ∷ ds) bindings forest) (all_of (e ∷ es) bindings forest)
    (evaluations_after (d bindings forest) (λ value left. operand_evaluations (suc part) ds bindings left))
    (evaluations_after (e bindings forest) (λ value left. operand_evaluations (suc part) es bindings left))
    (same_after (AgreeAt parts others) (d bindings forest) (e bindings forest)
    (λ value left. after (all_of ds bindings left) (λ values last. gives (value ∷ values) last))
    (λ value left. after (all_of es bindings left) (λ values last. gives (value ∷ values) last))
    (λ value left. operand_evaluations (suc part) ds bindings left) (λ value left. operand_evaluations (suc part) es bindings left)
    (found_there parts others part d e (this_place parts ds d part here) (this_place others es e part there) bindings forest all.0) all.1
    (λ value left more. let p = same_operands parts others (suc part) ds es bindings left
    (let m : length ds ≡ length es = omega (arith, n) in m) (next_place parts ds d part here) (next_place others es e part there) more in
    (ap (λ o. after o (λ values last. gives (value ∷ values) last)) p.0, p.1)))

-- ---- loops

same_turns : (parts others : List Denotation) (part : ℕ) (bound : ℕ → Item → Bindings) (one other : Denotation)
    → AgreesAs parts others part one other
    → (number : ℕ) (done : Items) (xs : Items) (forest : Forest)
    → AllByRecursion (AgreeAt parts others) (turn_evaluations part bound one number xs forest)
    → Same (for_each (λ n x now. one (bound n x) now) number done xs forest)
    (for_each (λ n x now. other (bound n x) now) number done xs forest)
    (turn_evaluations part bound one number xs forest) (turn_evaluations part bound other number xs forest)
same_turns parts others part bound one other agree number done [] forest all = (refl, refl)
same_turns parts others part bound one other agree number done (x ∷ xs) forest all =
    same_first (evaluation_of_part part (bound number x) forest) (for_each (λ n y now. one (bound n y) now) number done (x ∷ xs) forest)
    (for_each (λ n y now. other (bound n y) now) number done (x ∷ xs) forest)
    (evaluations_after (one (bound number x) forest) (λ more left. turn_evaluations part bound one (suc number) xs left))
    (evaluations_after (other (bound number x) forest) (λ more left. turn_evaluations part bound other (suc number) xs left))
    (same_after (AgreeAt parts others) (one (bound number x) forest) (other (bound number x) forest)
    (λ more left. for_each (λ n y now. one (bound n y) now) (suc number) (done ++ more) xs left)
    (λ more left. for_each (λ n y now. other (bound n y) now) (suc number) (done ++ more) xs left)
    (λ more left. turn_evaluations part bound one (suc number) xs left)
    (λ more left. turn_evaluations part bound other (suc number) xs left)
    (agree (bound number x) forest all.0) all.1
    (λ more left k. same_turns parts others part bound one other agree (suc number) (done ++ more) xs left k))

same_search : (parts others : List Denotation) (part : ℕ) (decisive : Bool) (bound : Item → Bindings) (one other : Denotation)
    → AgreesAs parts others part one other
    → (xs : Items) (forest : Forest) → AllByRecursion (AgreeAt parts others) (search_evaluations part decisive bound one xs forest)
    → Same (any_decides decisive (λ x now. one (bound x) now) xs forest) (any_decides decisive (λ x now. other (bound x) now) xs forest)
    (search_evaluations part decisive bound one xs forest) (search_evaluations part decisive bound other xs forest)
same_search parts others part decisive bound one other agree [] forest all = (refl, refl)
same_search parts others part decisive bound one other agree (x ∷ xs) forest all =
    let tested =
    λ (test : Denotation) (left : Forest) (truth : Bool). if decides decisive truth then gives (truth_value decisive) left
    else any_decides decisive (λ y now. test (bound y) now) xs left in
    let asked =
    λ (test : Denotation) (left : Forest) (truth : Bool). if decides decisive truth then []
    else search_evaluations part decisive bound test xs left in
    let step : (left : Forest) (ends : Bool)
    → AllByRecursion (AgreeAt parts others) (if ends then [] else search_evaluations part decisive bound one xs left)
    → Same (if ends then gives (truth_value decisive) left else any_decides decisive (λ y now. one (bound y) now) xs left)
    (if ends then gives (truth_value decisive) left else any_decides decisive (λ y now. other (bound y) now) xs left)
    (if ends then [] else search_evaluations part decisive bound one xs left)
    (if ends then [] else search_evaluations part decisive bound other xs left) =
    λ left ends. elim ends as (λ (b : Bool). AllByRecursion (AgreeAt parts others)
    (if b then [] else search_evaluations part decisive bound one xs left)
    → Same (if b then gives (truth_value decisive) left else any_decides decisive (λ y now. one (bound y) now) xs left)
    (if b then gives (truth_value decisive) left else any_decides decisive (λ y now. other (bound y) now) xs left)
    (if b then [] else search_evaluations part decisive bound one xs left)
    (if b then [] else search_evaluations part decisive bound other xs left)) [
      | true ↦ λ k. (refl, refl)
      | false ↦ λ k. same_search parts others part decisive bound one other agree xs left k
    ] in
    same_first (evaluation_of_part part (bound x) forest) (any_decides decisive (λ y now. one (bound y) now) (x ∷ xs) forest)
    (any_decides decisive (λ y now. other (bound y) now) (x ∷ xs) forest)
    (evaluations_after (one (bound x) forest) (λ ys left. evaluations_given (condition_of ys) (asked one left)))
    (evaluations_after (other (bound x) forest) (λ ys left. evaluations_given (condition_of ys) (asked other left)))
    (same_after (AgreeAt parts others) (one (bound x) forest) (other (bound x) forest)
    (λ ys left. given (condition_of ys) (tested one left)) (λ ys left. given (condition_of ys) (tested other left))
    (λ ys left. evaluations_given (condition_of ys) (asked one left)) (λ ys left. evaluations_given (condition_of ys) (asked other left))
    (agree (bound x) forest all.0) all.1
    (λ ys left k. same_given (AgreeAt parts others) (condition_of ys) (tested one left) (tested other left) (asked one left)
    (asked other left) k (λ truth m. step left (decides decisive truth) m)))

-- ---- operators

-- what an operator is over these parts, and what it asks for
abbrev Decides : Context → Operator → (parts others : List Denotation) → Bindings → Forest → Type 0
Decides context operator parts others bindings forest =
    AllByRecursion (AgreeAt parts others) (evaluations context operator parts bindings forest)
    → Same (denoted context operator parts bindings forest) (denoted context operator others bindings forest)
    (evaluations context operator parts bindings forest) (evaluations context operator others bindings forest)

-- a strict operator: its operands, and then what is made of their values
abbrev DecidesStrictly : Context → Operator → (parts others : List Denotation) → Bindings → Forest → Type 0
DecidesStrictly context operator parts others bindings forest =
    AllByRecursion (AgreeAt parts others) (operand_evaluations 0 parts bindings forest)
    → Same (after (all_of parts bindings forest) (acts context operator)) (after (all_of others bindings forest) (acts context operator))
    (operand_evaluations 0 parts bindings forest) (operand_evaluations 0 others bindings forest)

strictly : (context : Context) (operator : Operator) (parts others : List Denotation) (bindings : Bindings) (forest : Forest)
    → length parts ≡ length others → DecidesStrictly context operator parts others bindings forest
strictly context operator parts others bindings forest n all =
    let p =
    same_operands parts others 0 parts others bindings forest n
    (λ k. let e : 0 + k ≡ k = omega arith in ap (λ (m : ℕ). slice_get parts m) e)
    (λ k. let e : 0 + k ≡ k = omega arith in ap (λ (m : ℕ). slice_get others m) e) all in
    (ap (λ o. after o (acts context operator)) p.0, p.1)

-- behind a first part that both have
behind_first : (parts others : List Denotation) (one other : Denotation) (bindings : Bindings) (forest : Forest) (next following : Items
    → Forest → Outcome Items) (asked more : Items → Forest → List PartEvaluation)
    → AgreesAs parts others 0 one other
    → AllByRecursion (AgreeAt parts others) (evaluation_of_part 0 bindings forest ∷ evaluations_after (one bindings forest) asked)
    → ((xs : Items) (left : Forest) → AllByRecursion (AgreeAt parts others) (asked xs left)
    → Same (next xs left) (following xs left) (asked xs left) (more xs left))
    → Same (after (one bindings forest) next) (after (other bindings forest) following)
    (evaluation_of_part 0 bindings forest ∷ evaluations_after (one bindings forest) asked)
    (evaluation_of_part 0 bindings forest ∷ evaluations_after (other bindings forest) more)
behind_first parts others one other bindings forest next following asked more agree all h =
    same_first (evaluation_of_part 0 bindings forest) (after (one bindings forest) next) (after (other bindings forest) following)
    (evaluations_after (one bindings forest) asked) (evaluations_after (other bindings forest) more)
    (same_after (AgreeAt parts others) (one bindings forest) (other bindings forest) next following asked more
    (agree bindings forest all.0) all.1 h)

-- what holds of lists as long as one another: of two parts, and of other numbers
by_two : (Fact : (parts others : List Denotation) → Type 0) → Fact [] [] → ((a c : Denotation) → Fact (a ∷ []) (c ∷ []))
    → ((a b c d : Denotation) → Fact (a ∷ b ∷ []) (c ∷ d ∷ []))
    → ((a b x c d y : Denotation) (parts others : List Denotation) → length parts ≡ length others
    → Fact (a ∷ b ∷ x ∷ parts) (c ∷ d ∷ y ∷ others)) → (parts others : List Denotation) → length parts ≡ length others → Fact parts others
by_two Fact none one two more [] [] n = none
by_two Fact none one two more [] (c ∷ others) n = absurd (cc)
by_two Fact none one two more (a ∷ parts) [] n = absurd (cc)
by_two Fact none one two more (a ∷ []) (c ∷ []) n = one a c
by_two Fact none one two more (a ∷ []) (c ∷ d ∷ others) n = absurd (omega (arith, n))
by_two Fact none one two more (a ∷ b ∷ parts) (c ∷ []) n = absurd (omega (arith, n))
by_two Fact none one two more (a ∷ b ∷ []) (c ∷ d ∷ []) n = two a b c d
by_two Fact none one two more (a ∷ b ∷ []) (c ∷ d ∷ y ∷ others) n = absurd (omega (arith, n))
by_two Fact none one two more (a ∷ b ∷ x ∷ parts) (c ∷ d ∷ []) n = absurd (omega (arith, n))
by_two Fact none one two more (a ∷ b ∷ x ∷ parts) (c ∷ d ∷ y ∷ others) n = more a b x c d y parts others (omega (arith, n))

-- likewise of three
by_three : (Fact : (parts others : List Denotation) → Type 0) → Fact [] [] → ((a c : Denotation) → Fact (a ∷ []) (c ∷ []))
    → ((a b c d : Denotation) → Fact (a ∷ b ∷ []) (c ∷ d ∷ []))
    → ((a b x c d y : Denotation) → Fact (a ∷ b ∷ x ∷ []) (c ∷ d ∷ y ∷ []))
    → ((a b x z c d y w : Denotation) (parts others : List Denotation) → length parts ≡ length others
    → Fact (a ∷ b ∷ x ∷ z ∷ parts) (c ∷ d ∷ y ∷ w ∷ others)) → (parts others : List Denotation) → length parts ≡ length others
    → Fact parts others
by_three Fact none one two three more parts others n =
    by_two Fact none one two (λ a b x c d y ps os m. behind a b x c d y ps os m) parts others n
  where
    behind : (a b x c d y : Denotation) (ps os : List Denotation) → length ps ≡ length os → Fact (a ∷ b ∷ x ∷ ps) (c ∷ d ∷ y ∷ os)
    behind a b x c d y [] [] m = three a b x c d y
    behind a b x c d y [] (w ∷ os) m = absurd (cc)
    behind a b x c d y (z ∷ ps) [] m = absurd (cc)
    behind a b x c d y (z ∷ ps) (w ∷ os) m = more a b x z c d y w ps os (omega (arith, m))

for_decides : (context : Context) (binder : Binder) (position : ℕ) (a b c d : Denotation) (bindings : Bindings) (forest : Forest)
    → Decides context (operators.For binder position) (a ∷ b ∷ []) (c ∷ d ∷ []) bindings forest
for_decides context binder position a b c d bindings forest all =
    let bound : ℕ → Item → Bindings = λ number x. item_bound binder.variable position number x ++ bindings in
    behind_first (a ∷ b ∷ []) (c ∷ d ∷ []) a c bindings forest (λ xs left. for_each (λ number x now. b (bound number x) now) 1 [] xs left)
    (λ xs left. for_each (λ number x now. d (bound number x) now) 1 [] xs left)
    (λ xs left. turn_evaluations 1 bound b 1 xs left) (λ xs left. turn_evaluations 1 bound d 1 xs left)
    (found_there (a ∷ b ∷ []) (c ∷ d ∷ []) 0 a c refl refl) all
    (λ xs left k. same_turns (a ∷ b ∷ []) (c ∷ d ∷ []) 1 bound b d (found_there (a ∷ b ∷ []) (c ∷ d ∷ []) 1 b d refl refl) 1 [] xs left k)

search_decides : (decisive : Bool) (variable : ℕ) (a b c d : Denotation) (bindings : Bindings) (forest : Forest)
    → AllByRecursion (AgreeAt (a ∷ b ∷ []) (c ∷ d ∷ []))
    (evaluation_of_part 0 bindings forest ∷ evaluations_after (a bindings forest)
    (λ xs left. search_evaluations 1 decisive (λ x. (variable, x ∷ []) ∷ bindings) b xs left))
    → Same (after (a bindings forest) (λ xs left. any_decides decisive (λ x now. b ((variable, x ∷ []) ∷ bindings) now) xs left))
    (after (c bindings forest) (λ xs left. any_decides decisive (λ x now. d ((variable, x ∷ []) ∷ bindings) now) xs left))
    (evaluation_of_part 0 bindings forest ∷ evaluations_after (a bindings forest)
    (λ xs left. search_evaluations 1 decisive (λ x. (variable, x ∷ []) ∷ bindings) b xs left))
    (evaluation_of_part 0 bindings forest ∷ evaluations_after (c bindings forest)
    (λ xs left. search_evaluations 1 decisive (λ x. (variable, x ∷ []) ∷ bindings) d xs left))
search_decides decisive variable a b c d bindings forest all =
    let bound : Item → Bindings = λ x. (variable, x ∷ []) ∷ bindings in
    behind_first (a ∷ b ∷ []) (c ∷ d ∷ []) a c bindings forest (λ xs left. any_decides decisive (λ x now. b (bound x) now) xs left)
    (λ xs left. any_decides decisive (λ x now. d (bound x) now) xs left)
    (λ xs left. search_evaluations 1 decisive bound b xs left) (λ xs left. search_evaluations 1 decisive bound d xs left)
    (found_there (a ∷ b ∷ []) (c ∷ d ∷ []) 0 a c refl refl) all
    (λ xs left k. same_search (a ∷ b ∷ []) (c ∷ d ∷ []) 1 decisive bound b d
    (found_there (a ∷ b ∷ []) (c ∷ d ∷ []) 1 b d refl refl) xs left k)

let_decides : (context : Context) (binder : Binder) (a b c d : Denotation) (bindings : Bindings) (forest : Forest)
    → Decides context (operators.Let binder) (a ∷ b ∷ []) (c ∷ d ∷ []) bindings forest
let_decides context binder a b c d bindings forest all =
    behind_first (a ∷ b ∷ []) (c ∷ d ∷ []) a c bindings forest (λ xs left. b ((binder.variable, xs) ∷ bindings) left)
    (λ xs left. d ((binder.variable, xs) ∷ bindings) left)
    (λ xs left. evaluation_of_part 1 ((binder.variable, xs) ∷ bindings) left ∷ [])
    (λ xs left. evaluation_of_part 1 ((binder.variable, xs) ∷ bindings) left ∷ [])
    (found_there (a ∷ b ∷ []) (c ∷ d ∷ []) 0 a c refl refl) all
    (λ xs left k. (found_there (a ∷ b ∷ []) (c ∷ d ∷ []) 1 b d refl refl ((binder.variable, xs) ∷ bindings) left k.0, refl))

if_decides : (context : Context) (a b x c d y : Denotation) (bindings : Bindings) (forest : Forest)
    → Decides context operators.If (a ∷ b ∷ x ∷ []) (c ∷ d ∷ y ∷ []) bindings forest
if_decides context a b x c d y bindings forest all =
    behind_first parts others a c bindings forest
    (λ xs left. given (condition_of xs) (λ truth. branch truth b x bindings left))
    (λ xs left. given (condition_of xs) (λ truth. branch truth d y bindings left))
    (λ xs left. evaluations_given (condition_of xs) (λ truth. evaluation_of_part (chosen_part truth) bindings left ∷ []))
    (λ xs left. evaluations_given (condition_of xs) (λ truth. evaluation_of_part (chosen_part truth) bindings left ∷ []))
    (found_there parts others 0 a c refl refl) all
    (λ xs left k. same_given (AgreeAt parts others) (condition_of xs) (λ truth. branch truth b x bindings left)
    (λ truth. branch truth d y bindings left)
    (λ truth. evaluation_of_part (chosen_part truth) bindings left ∷ [])
    (λ truth. evaluation_of_part (chosen_part truth) bindings left ∷ []) k (λ truth m. (chosen left truth m.0, refl)))
  where
    parts : List Denotation
    parts = a ∷ b ∷ x ∷ []

    others : List Denotation
    others = c ∷ d ∷ y ∷ []

    chosen : (left : Forest) (truth : Bool) → AgreeAt parts others (evaluation_of_part (chosen_part truth) bindings left)
        → branch truth b x bindings left ≡ branch truth d y bindings left
    chosen left true m = found_there parts others 1 b d refl refl bindings left m
    chosen left false m = found_there parts others 2 x y refl refl bindings left m

same_branches : (schemas : SchemaSet) (parts others : List Denotation) (cases : List TypeCase) (default part : ℕ) (ds es : List Denotation)
    (xs : Items) (bindings : Bindings) (forest : Forest) → length ds ≡ length es
    → ((k : ℕ) → slice_get parts (part + k) ≡ slice_get ds k) → ((k : ℕ) → slice_get others (part + k) ≡ slice_get es k)
    → AllByRecursion (AgreeAt parts others) (branch_evaluations schemas cases default part ds xs bindings forest)
    → Same (switched schemas cases default ds xs bindings forest) (switched schemas cases default es xs bindings forest)
    (branch_evaluations schemas cases default part ds xs bindings forest)
    (branch_evaluations schemas cases default part es xs bindings forest)
same_branches schemas parts others [] default part [] [] xs bindings forest n here there all = (refl, refl)
same_branches schemas parts others [] default part [] (e ∷ es) xs bindings forest n here there all = absurd (cc)
same_branches schemas parts others [] default part (d ∷ ds) [] xs bindings forest n here there all = absurd (cc)
same_branches schemas parts others [] default part (d ∷ []) (e ∷ []) xs bindings forest n here there all = (
  found_there parts others part d e (this_place parts [] d part here) (this_place others [] e part there)
      (position_bound default xs ++ bindings) forest all.0,
  refl,
)
same_branches schemas parts others [] default part (d ∷ []) (e ∷ f ∷ es) xs bindings forest n here there all = absurd (omega (arith, n))
same_branches schemas parts others [] default part (d ∷ c ∷ ds) (e ∷ []) xs bindings forest n here there all = absurd (omega (arith, n))
same_branches schemas parts others [] default part (d ∷ c ∷ ds) (e ∷ f ∷ es) xs bindings forest n here there all = (refl, refl)
same_branches schemas parts others (case ∷ cases) default part [] [] xs bindings forest n here there all = (refl, refl)
same_branches schemas parts others (case ∷ cases) default part [] (e ∷ es) xs bindings forest n here there all = absurd (cc)
same_branches schemas parts others (case ∷ cases) default part (d ∷ ds) [] xs bindings forest n here there all = absurd (cc)
same_branches schemas parts others (case ∷ cases) default part (d ∷ ds) (e ∷ es) xs bindings forest n here there all =
    let bound : Bindings = position_bound case.variable xs ++ bindings in
    elim (is_instance schemas forest case.kind xs) as
    (λ (b : Bool). AllByRecursion (AgreeAt parts others)
    (if b then evaluation_of_part part bound forest ∷ [] else branch_evaluations schemas cases default (suc part) ds xs bindings forest)
    → Same (if b then d bound forest else switched schemas cases default ds xs bindings forest)
    (if b then e bound forest else switched schemas cases default es xs bindings forest)
    (if b then evaluation_of_part part bound forest ∷ [] else branch_evaluations schemas cases default (suc part) ds xs bindings forest)
    (if b then evaluation_of_part part bound forest ∷ [] else branch_evaluations schemas cases default (suc part) es xs bindings forest)) [
      | true ↦ λ k. (
        found_there parts others part d e (this_place parts ds d part here)
            (this_place others es e part there) bound forest k.0,
        refl,
      )
      | false ↦ λ k. same_branches schemas parts others cases default (suc part) ds es xs bindings forest
          (let m : length ds ≡ length es = omega (arith, n) in m) (next_place parts ds d part here) (next_place others es e part there) k
    ] all

switch_decides : (context : Context) (cases : List TypeCase) (default : ℕ) (a c : Denotation) (ds es : List Denotation)
    (bindings : Bindings) (forest : Forest) → length ds ≡ length es
    → Decides context (operators.Switch cases default) (a ∷ ds) (c ∷ es) bindings forest
switch_decides context cases default a c ds es bindings forest n all =
    behind_first (a ∷ ds) (c ∷ es) a c bindings forest (λ xs left. switched context.schemas cases default ds xs bindings left)
    (λ xs left. switched context.schemas cases default es xs bindings left)
    (λ xs left. branch_evaluations context.schemas cases default 1 ds xs bindings left)
    (λ xs left. branch_evaluations context.schemas cases default 1 es xs bindings left) (found_there (a ∷ ds) (c ∷ es) 0 a c refl refl) all
    (λ xs left k. same_branches context.schemas (a ∷ ds) (c ∷ es) cases default 1 ds es xs bindings left n (behind_head a ds)
    (behind_head c es) k)
  where
    behind_head : (d : Denotation) (rest : List Denotation) (k : ℕ) → slice_get (d ∷ rest) (1 + k) ≡ slice_get rest k
    behind_head d rest k = let e : 1 + k ≡ suc k = omega arith in ap (λ (m : ℕ). slice_get (d ∷ rest) m) e

-- ---- blocks

all_in_front : (Holds : PartEvaluation → Type 0) (a b : List PartEvaluation) → AllByRecursion Holds (a ++ b) → AllByRecursion Holds a
all_in_front Holds [] b h = tt
all_in_front Holds (x ∷ a) b h = (h.0, all_in_front Holds a b h.1)

all_behind : (Holds : PartEvaluation → Type 0) (a b : List PartEvaluation) → AllByRecursion Holds (a ++ b) → AllByRecursion Holds b
all_behind Holds [] b h = h
all_behind Holds (x ∷ a) b h = all_behind Holds a b h.1

-- what follows an outcome whose own evaluations stand in front
same_behind : {R S : Type 0} (Holds : PartEvaluation → Type 0) (one other : Outcome R) (first second : List PartEvaluation)
    (next following : R → Forest → Outcome S) (asked others : R → Forest → List PartEvaluation)
    → (AllByRecursion Holds first → Same one other first second) → AllByRecursion Holds (first ++ evaluations_after one asked)
    → ((result : R) (left : Forest) → AllByRecursion Holds (asked result left)
    → Same (next result left) (following result left) (asked result left) (others result left))
    → Same (after one next) (after other following) (first ++ evaluations_after one asked) (second ++ evaluations_after other others)
same_behind Holds one other first second next following asked others own all h =
    let p = own (all_in_front Holds first (evaluations_after one asked) all) in
    let q = same_after Holds one other next following asked others p.0 (all_behind Holds first (evaluations_after one asked) all) h in
    (q.0, λ i. p.1 i ++ q.1 i)

same_keys : (parts others : List Denotation) (orders : List KeyOrder) (part : ℕ) (ds es : List Denotation) (bindings : Bindings)
    (forest : Forest) → length ds ≡ length es
    → ((k : ℕ) → slice_get parts (part + k) ≡ slice_get ds k) → ((k : ℕ) → slice_get others (part + k) ≡ slice_get es k)
    → AllByRecursion (AgreeAt parts others) (key_evaluations orders part ds bindings forest)
    → Same (tuple_keys orders ds bindings forest) (tuple_keys orders es bindings forest) (key_evaluations orders part ds bindings forest)
    (key_evaluations orders part es bindings forest)
same_keys parts others [] part ds es bindings forest n here there all = (refl, refl)
same_keys parts others (order ∷ orders) part [] [] bindings forest n here there all = (refl, refl)
same_keys parts others (order ∷ orders) part [] (e ∷ es) bindings forest n here there all = absurd (cc)
same_keys parts others (order ∷ orders) part (d ∷ ds) [] bindings forest n here there all = absurd (cc)
same_keys parts others (order ∷ orders) part (d ∷ ds) (e ∷ es) bindings forest n here there all =
    let found =
    λ (ps : List Denotation) (left : Forest) (key : Option Atomic). after (tuple_keys orders ps bindings left)
    (λ keys last. gives (key ∷ keys) last) in
    let asked = λ (ps : List Denotation) (left : Forest) (key : Option Atomic). key_evaluations orders (suc part) ps bindings left in
    same_first (evaluation_of_part part bindings forest) (tuple_keys (order ∷ orders) (d ∷ ds) bindings forest)
    (tuple_keys (order ∷ orders) (e ∷ es) bindings forest)
    (evaluations_after (d bindings forest) (λ xs left. evaluations_given (key_of xs) (asked ds left)))
    (evaluations_after (e bindings forest) (λ xs left. evaluations_given (key_of xs) (asked es left)))
    (same_after (AgreeAt parts others) (d bindings forest) (e bindings forest) (λ xs left. given (key_of xs) (found ds left))
    (λ xs left. given (key_of xs) (found es left))
    (λ xs left. evaluations_given (key_of xs) (asked ds left)) (λ xs left. evaluations_given (key_of xs) (asked es left))
    (found_there parts others part d e (this_place parts ds d part here) (this_place others es e part there) bindings forest all.0) all.1
    (λ xs left k. same_given (AgreeAt parts others) (key_of xs) (found ds left) (found es left) (asked ds left) (asked es left) k
    (λ key m. let p = same_keys parts others orders (suc part) ds es bindings left (let l : length ds ≡ length es = omega (arith, n) in l)
    (next_place parts ds d part here) (next_place others es e part there) m in
    (ap (λ o. after o (λ keys last. gives (key ∷ keys) last)) p.0, p.1))))

same_each : (Holds : PartEvaluation → Type 0) (found other : ℕ → Item → Forest → Outcome (List Tuple)) (asked others : ℕ → Item → Forest
    → List PartEvaluation)
    → ((number : ℕ) (x : Item) (now : Forest) → AllByRecursion Holds (asked number x now)
    → Same (found number x now) (other number x now) (asked number x now) (others number x now))
    → (number : ℕ) (xs : Items) (forest : Forest) → AllByRecursion Holds (evaluations_of_each found asked number xs forest)
    → Same (tuples_of_each found number xs forest) (tuples_of_each other number xs forest)
    (evaluations_of_each found asked number xs forest) (evaluations_of_each other others number xs forest)
same_each Holds found other asked others h number [] forest all = (refl, refl)
same_each Holds found other asked others h number (x ∷ xs) forest all =
    same_behind Holds (found number x forest) (other number x forest) (asked number x forest) (others number x forest)
    (λ tuples left. after (tuples_of_each found (suc number) xs left) (λ more last. gives (tuples ++ more) last))
    (λ tuples left. after (tuples_of_each other (suc number) xs left) (λ more last. gives (tuples ++ more) last))
    (λ tuples left. evaluations_of_each found asked (suc number) xs left)
    (λ tuples left. evaluations_of_each other others (suc number) xs left) (h number x forest) all
    (λ tuples left k. let p = same_each Holds found other asked others h (suc number) xs left k in
    (ap (λ o. after o (λ more last. gives (tuples ++ more) last)) p.0, p.1))

same_tuples : (parts others : List Denotation) (kinds : List ClauseKind) (orders : List KeyOrder) (part : ℕ) (ds es : List Denotation)
    (bound outer : Bindings) (forest : Forest) → length ds ≡ length es
    → ((k : ℕ) → slice_get parts (part + k) ≡ slice_get ds k) → ((k : ℕ) → slice_get others (part + k) ≡ slice_get es k)
    → AllByRecursion (AgreeAt parts others) (tuple_evaluations kinds orders part ds bound outer forest)
    → Same (tuples_of kinds orders ds bound outer forest) (tuples_of kinds orders es bound outer forest)
    (tuple_evaluations kinds orders part ds bound outer forest) (tuple_evaluations kinds orders part es bound outer forest)
same_tuples parts others [] orders part ds es bound outer forest n here there all =
    let p = same_keys parts others orders part ds es (bound ++ outer) forest n here there all in
    (ap (λ o. after o (λ keys left. gives (record { keys = keys; bound = bound } ∷ []) left)) p.0, p.1)
same_tuples parts others (kind ∷ kinds) orders part [] [] bound outer forest n here there all = (refl, refl)
same_tuples parts others (kind ∷ kinds) orders part [] (e ∷ es) bound outer forest n here there all = absurd (cc)
same_tuples parts others (kind ∷ kinds) orders part (d ∷ ds) [] bound outer forest n here there all = absurd (cc)
same_tuples parts others (clauses.For binder position ∷ kinds) orders part (d ∷ ds) (e ∷ es) bound outer forest n here there all =
    let found =
    λ (ps : List Denotation) (number : ℕ) (x : Item) (now : Forest). tuples_of kinds orders ps
    (item_bound binder.variable position number x ++ bound) outer now in
    let asked =
    λ (ps : List Denotation) (number : ℕ) (x : Item) (now : Forest). tuple_evaluations kinds orders (suc part) ps
    (item_bound binder.variable position number x ++ bound) outer now in
    let m : length ds ≡ length es = omega (arith, n) in
    same_first (evaluation_of_part part (bound ++ outer) forest)
    (tuples_of (clauses.For binder position ∷ kinds) orders (d ∷ ds) bound outer forest)
    (tuples_of (clauses.For binder position ∷ kinds) orders (e ∷ es) bound outer forest)
    (evaluations_after (d (bound ++ outer) forest) (λ xs left. evaluations_of_each (found ds) (asked ds) 1 xs left))
    (evaluations_after (e (bound ++ outer) forest) (λ xs left. evaluations_of_each (found es) (asked es) 1 xs left))
    (same_after (AgreeAt parts others) (d (bound ++ outer) forest) (e (bound ++ outer) forest)
    (λ xs left. tuples_of_each (found ds) 1 xs left) (λ xs left. tuples_of_each (found es) 1 xs left)
    (λ xs left. evaluations_of_each (found ds) (asked ds) 1 xs left) (λ xs left. evaluations_of_each (found es) (asked es) 1 xs left)
    (found_there parts others part d e (this_place parts ds d part here) (this_place others es e part there) (bound ++ outer) forest all.0)
    all.1
    (λ xs left k. same_each (AgreeAt parts others) (found ds) (found es) (asked ds) (asked es)
    (λ number x now l. same_tuples parts others kinds orders (suc part) ds es
    (item_bound binder.variable position number x ++ bound) outer now m (next_place parts ds d part here)
    (next_place others es e part there) l)
    1 xs left k))
same_tuples parts others (clauses.Let binder ∷ kinds) orders part (d ∷ ds) (e ∷ es) bound outer forest n here there all =
    let m : length ds ≡ length es = omega (arith, n) in
    same_first (evaluation_of_part part (bound ++ outer) forest) (tuples_of (clauses.Let binder ∷ kinds) orders (d ∷ ds) bound outer forest)
    (tuples_of (clauses.Let binder ∷ kinds) orders (e ∷ es) bound outer forest)
    (evaluations_after (d (bound ++ outer) forest)
    (λ xs left. tuple_evaluations kinds orders (suc part) ds ((binder.variable, xs) ∷ bound) outer left))
    (evaluations_after (e (bound ++ outer) forest)
    (λ xs left. tuple_evaluations kinds orders (suc part) es ((binder.variable, xs) ∷ bound) outer left))
    (same_after (AgreeAt parts others) (d (bound ++ outer) forest) (e (bound ++ outer) forest)
    (λ xs left. tuples_of kinds orders ds ((binder.variable, xs) ∷ bound) outer left)
    (λ xs left. tuples_of kinds orders es ((binder.variable, xs) ∷ bound) outer left)
    (λ xs left. tuple_evaluations kinds orders (suc part) ds ((binder.variable, xs) ∷ bound) outer left)
    (λ xs left. tuple_evaluations kinds orders (suc part) es ((binder.variable, xs) ∷ bound) outer left)
    (found_there parts others part d e (this_place parts ds d part here) (this_place others es e part there) (bound ++ outer) forest all.0)
    all.1
    (λ xs left k. same_tuples parts others kinds orders (suc part) ds es ((binder.variable, xs) ∷ bound) outer left m
    (next_place parts ds d part here) (next_place others es e part there) k))
same_tuples parts others (clauses.Where ∷ kinds) orders part (d ∷ ds) (e ∷ es) bound outer forest n here there all =
    let m : length ds ≡ length es = omega (arith, n) in
    let found =
    λ (ps : List Denotation) (left : Forest) (truth : Bool). tuples_if truth (λ now. tuples_of kinds orders ps bound outer now) left in
    let asked =
    λ (ps : List Denotation) (left : Forest) (truth : Bool). if truth then tuple_evaluations kinds orders (suc part) ps bound outer left
    else [] in
    let step : (left : Forest) (truth : Bool) → AllByRecursion (AgreeAt parts others) (asked ds left truth)
    → Same (found ds left truth) (found es left truth) (asked ds left truth) (asked es left truth) =
    λ left truth. elim truth as (λ (b : Bool). AllByRecursion (AgreeAt parts others) (asked ds left b)
    → Same (found ds left b) (found es left b) (asked ds left b) (asked es left b)) [
      | true ↦ λ k. same_tuples parts others kinds orders (suc part) ds es bound outer left m (next_place parts ds d part here)
          (next_place others es e part there) k
      | false ↦ λ k. (refl, refl)
    ] in
    same_first (evaluation_of_part part (bound ++ outer) forest) (tuples_of (clauses.Where ∷ kinds) orders (d ∷ ds) bound outer forest)
    (tuples_of (clauses.Where ∷ kinds) orders (e ∷ es) bound outer forest)
    (evaluations_after (d (bound ++ outer) forest) (λ xs left. evaluations_given (condition_of xs) (asked ds left)))
    (evaluations_after (e (bound ++ outer) forest) (λ xs left. evaluations_given (condition_of xs) (asked es left)))
    (same_after (AgreeAt parts others) (d (bound ++ outer) forest) (e (bound ++ outer) forest)
    (λ xs left. given (condition_of xs) (found ds left)) (λ xs left. given (condition_of xs) (found es left))
    (λ xs left. evaluations_given (condition_of xs) (asked ds left)) (λ xs left. evaluations_given (condition_of xs) (asked es left))
    (found_there parts others part d e (this_place parts ds d part here) (this_place others es e part there) (bound ++ outer) forest all.0)
    all.1
    (λ xs left k. same_given (AgreeAt parts others) (condition_of xs) (found ds left) (found es left) (asked ds left) (asked es left) k
    (λ truth l. step left truth l)))

same_returns : (parts others : List Denotation) (part : ℕ) (one other : Denotation) → AgreesAs parts others part one other
    → (outer : Bindings) (done : Items) (tuples : List Bindings) (forest : Forest)
    → AllByRecursion (AgreeAt parts others) (return_evaluations part one outer tuples forest)
    → Same (returned one outer done tuples forest) (returned other outer done tuples forest)
    (return_evaluations part one outer tuples forest) (return_evaluations part other outer tuples forest)
same_returns parts others part one other agree outer done [] forest all = (refl, refl)
same_returns parts others part one other agree outer done (bound ∷ tuples) forest all =
    same_first (evaluation_of_part part (bound ++ outer) forest) (returned one outer done (bound ∷ tuples) forest)
    (returned other outer done (bound ∷ tuples) forest)
    (evaluations_after (one (bound ++ outer) forest) (λ more left. return_evaluations part one outer tuples left))
    (evaluations_after (other (bound ++ outer) forest) (λ more left. return_evaluations part other outer tuples left))
    (same_after (AgreeAt parts others) (one (bound ++ outer) forest) (other (bound ++ outer) forest)
    (λ more left. returned one outer (done ++ more) tuples left) (λ more left. returned other outer (done ++ more) tuples left)
    (λ more left. return_evaluations part one outer tuples left) (λ more left. return_evaluations part other outer tuples left)
    (agree (bound ++ outer) forest all.0) all.1
    (λ more left k. same_returns parts others part one other agree outer (done ++ more) tuples left k))

found_behind : (n : ℕ) (ds : List Denotation) (k : ℕ) → slice_get (drop n ds) k ≡ slice_get ds (n + k)
found_behind zero ds k = let e : k ≡ 0 + k = omega arith in ap (λ (m : ℕ). slice_get ds m) e
found_behind (suc n) [] k = refl
found_behind (suc n) (d ∷ ds) k = let e : suc (n + k) ≡ suc n + k =
    omega arith in found_behind n ds k ∙ ap (λ (m : ℕ). slice_get (d ∷ ds) m) e

as_many_behind : (n : ℕ) (ds es : List Denotation) → length ds ≡ length es → length (drop n ds) ≡ length (drop n es)
as_many_behind n ds es h = simp (length-drop, h)

same_returned : (parts others : List Denotation) (orders : List KeyOrder) (part : ℕ) (ds es : List Denotation) (bindings : Bindings)
    (tuples : List Tuple) (forest : Forest) → length ds ≡ length es
    → ((k : ℕ) → slice_get parts (part + k) ≡ slice_get ds k) → ((k : ℕ) → slice_get others (part + k) ≡ slice_get es k)
    → AllByRecursion (AgreeAt parts others) (block_return_evaluations orders part ds bindings tuples forest)
    → Same (block_returned orders ds bindings tuples forest) (block_returned orders es bindings tuples forest)
    (block_return_evaluations orders part ds bindings tuples forest) (block_return_evaluations orders part es bindings tuples forest)
same_returned parts others orders part ds es bindings tuples forest n here there = by_two
    (λ ps os. ((k : ℕ) → slice_get parts (part + k) ≡ slice_get ps k) → ((k : ℕ) → slice_get others (part + k) ≡ slice_get os k)
    → AllByRecursion (AgreeAt parts others) (block_return_evaluations orders part ps bindings tuples forest)
    → Same (block_returned orders ps bindings tuples forest) (block_returned orders os bindings tuples forest)
    (block_return_evaluations orders part ps bindings tuples forest) (block_return_evaluations orders part os bindings tuples forest))
    (λ h k m. (refl, refl))
    (λ a c h k m. same_returns parts others part a c
    (found_there parts others part a c (this_place parts [] a part h) (this_place others [] c part k)) bindings []
    (map (λ t. t.bound) (in_key_order orders tuples)) forest m)
    (λ a b c d h k m. (refl, refl)) (λ a b x c d y ps os l h k m. (refl, refl)) ds es n here there

block_decides : (context : Context) (kinds : List ClauseKind) (orders : List KeyOrder) (parts others : List Denotation)
    (bindings : Bindings) (forest : Forest) → length parts ≡ length others
    → Decides context (operators.Block kinds orders) parts others bindings forest
block_decides context kinds orders parts others bindings forest n all =
    same_behind (AgreeAt parts others) (tuples_of kinds orders parts [] bindings forest) (tuples_of kinds orders others [] bindings forest)
    (tuple_evaluations kinds orders 0 parts [] bindings forest) (tuple_evaluations kinds orders 0 others [] bindings forest)
    (block_returned orders (returns parts) bindings) (block_returned orders (returns others) bindings)
    (block_return_evaluations orders place (returns parts) bindings) (block_return_evaluations orders place (returns others) bindings)
    (λ k. same_tuples parts others kinds orders 0 parts others [] bindings forest n (at_start parts) (at_start others) k) all
    (λ tuples left k. same_returned parts others orders place (returns parts) (returns others) bindings tuples left
    (as_many_behind (length orders) (drop (length kinds) parts) (drop (length kinds) others) (as_many_behind (length kinds) parts others n))
    (at_returns parts) (at_returns others) k)
  where
    place : ℕ
    place = length kinds + length orders

    returns : List Denotation → List Denotation
    returns ds = drop (length orders) (drop (length kinds) ds)

    at_start : (ds : List Denotation) (k : ℕ) → slice_get ds (0 + k) ≡ slice_get ds k
    at_start ds k = let e : 0 + k ≡ k = omega arith in ap (λ (m : ℕ). slice_get ds m) e

    at_returns : (ds : List Denotation) (k : ℕ) → slice_get ds (place + k) ≡ slice_get (returns ds) k
    at_returns ds k =
        let e : place + k ≡ length kinds + (length orders + k) = omega arith in
        ap (λ (m : ℕ). slice_get ds m) e ∙ sym (found_behind (length kinds) ds (length orders + k))
        ∙ sym (found_behind (length orders) (drop (length kinds) ds) k)

abbrev Decided : Context → Operator → Bindings → Forest → (parts others : List Denotation) → Type 0
Decided context operator bindings forest parts others = length parts ≡ length others → Decides context operator parts others bindings forest

pub parts_decide : PartsDecide
parts_decide context (operators.Var number) [] [] bindings forest n all = (refl, refl)
parts_decide context (operators.Var number) [] (c ∷ others) bindings forest n all = absurd (cc)
parts_decide context (operators.Var number) (a ∷ parts) [] bindings forest n all = absurd (cc)
parts_decide context (operators.Var number) (a ∷ parts) (c ∷ others) bindings forest n all =
    strictly context (operators.Var number) (a ∷ parts) (c ∷ others) bindings forest n all
parts_decide context (operators.Step axis asks number) [] [] bindings forest n all = (refl, refl)
parts_decide context (operators.Step axis asks number) [] (c ∷ others) bindings forest n all = absurd (cc)
parts_decide context (operators.Step axis asks number) (a ∷ parts) [] bindings forest n all = absurd (cc)
parts_decide context (operators.Step axis asks number) (a ∷ parts) (c ∷ others) bindings forest n all =
    strictly context (operators.Step axis asks number) (a ∷ parts) (c ∷ others) bindings forest n all
parts_decide context (operators.For binder position) parts others bindings forest n all =
    by_two (Decided context (operators.For binder position) bindings forest) (λ m k. (refl, refl)) (λ a c m k. (refl, refl))
    (λ a b c d m. for_decides context binder position a b c d bindings forest)
    (λ a b x c d y ps os l m k. (refl, refl)) parts others n n all
parts_decide context (operators.SomeIn binder) parts others bindings forest n all =
    by_two (Decided context (operators.SomeIn binder) bindings forest) (λ m k. (refl, refl)) (λ a c m k. (refl, refl))
    (λ a b c d m. search_decides true binder.variable a b c d bindings forest)
    (λ a b x c d y ps os l m k. (refl, refl)) parts others n n all
parts_decide context (operators.EveryIn binder) parts others bindings forest n all =
    by_two (Decided context (operators.EveryIn binder) bindings forest) (λ m k. (refl, refl)) (λ a c m k. (refl, refl))
    (λ a b c d m. search_decides false binder.variable a b c d bindings forest)
    (λ a b x c d y ps os l m k. (refl, refl)) parts others n n all
parts_decide context (operators.Let binder) parts others bindings forest n all =
    by_two (Decided context (operators.Let binder) bindings forest) (λ m k. (refl, refl)) (λ a c m k. (refl, refl))
    (λ a b c d m. let_decides context binder a b c d bindings forest)
    (λ a b x c d y ps os l m k. (refl, refl)) parts others n n all
parts_decide context (operators.Switch cases default) [] [] bindings forest n all = (refl, refl)
parts_decide context (operators.Switch cases default) [] (c ∷ others) bindings forest n all = absurd (cc)
parts_decide context (operators.Switch cases default) (a ∷ parts) [] bindings forest n all = absurd (cc)
parts_decide context (operators.Switch cases default) (a ∷ parts) (c ∷ others) bindings forest n all =
    switch_decides context cases default a c parts others bindings forest (let m : length parts ≡ length others = omega (arith, n) in m) all
parts_decide context (operators.Block kinds orders) parts others bindings forest n all =
    block_decides context kinds orders parts others bindings forest n all
parts_decide context operators.If parts others bindings forest n all =
    by_three (Decided context operators.If bindings forest) (λ m k. (refl, refl)) (λ a c m k. (refl, refl)) (λ a b c d m k. (refl, refl))
    (λ a b x c d y m. if_decides context a b x c d y bindings forest)
    (λ a b x z c d y w ps os l m k. (refl, refl)) parts others n n all
parts_decide context operator parts others bindings forest n all = strictly context operator parts others bindings forest n all
