-- Blocks keep their types.
use Rattle.std.proofs.Common.{◌≡◌, ◌≤◌, ◌<◌, ◌+◌, ◌*◌, ℕ, zero, suc, min, Bool, true, false, ◌||◌, inl, inr, Option, None, Some, List, [], ◌∷◌, ◌++◌, length, map, drop, refl, sym, ◌∙◌, ap, subst, append_assoc, if◌then◌else◌, arith}
use Rattle.std.specs.List.{AllByRecursion}
use Rattle.std.proofs.lemmas.Bool.{and_parts}
use Rattle.std.proofs.lemmas.List.{append-nil, length-append, length-map}
use Rattle.std.proofs.Math.Nat.{zero-mul, mul-zero, mul-one, suc-mul, mul-le-mul_right}
use Rattle.gx_base.specs.declared.code.Code.{Code}
use Rattle.gx_facets.specs.declared.Atomic.{Atomic}
use Rattle.gx_sorting.specs.declared.keys.KeyOrder.{KeyOrder}
use Rattle.gx_sorting.specs.KeyComparison.{keys_precede}
use Rattle.gx_sorting.proofs.PublicLaws.{each_sorted, sorting_is_stable}
use Rattle.gx_types.specs.SchemaSet.{SchemaSet}
use Rattle.gx_types.specs.Occurs.{Occurs}
use Rattle.gx_types.specs.Occurrence.{occurrence_of, occurs}
use Rattle.gx_types.specs.SequenceType.{SequenceType}
use Rattle.gx_types.specs.Prime.{prime_of}
use Rattle.gx_types.specs.TypeRules.{times_of}
use Rattle.gx_types.specs.Laws.{Allows}
use Rattle.gx_model.specs.Forest.{Forest}
use Rattle.gx_model.specs.Honest.{IsHonest}
use Rattle.gx_model.specs.Item.{Item, atom, Items}
use Rattle.gx_model.specs.Belongs.{Belongs}
use Rattle.gx_model.specs.Growth.{Extends}
use Rattle.gx_model.proofs.PublicLaws.{growth_is_an_order, values_stay}
use Rattle.gx_core.specs.declared.operator.ClauseKind.{ClauseKind}
use Rattle.gx_core.specs.declared.operator.ClauseKind.TheVariants.{For, Let, Where}
use Rattle.gx_core.specs.declared.operator.Operator.{Operator}
use Rattle.gx_core.specs.declared.operator.Operator.TheVariants as operators
use Rattle.gx_core.specs.Bindings.{Types, clause_types_bound, block_types_bound, types_bound}
use Rattle.gx_core.specs.Blocks.{Tuple, key_of, tuple_keys, tuples_of_each, tuples_if, tuples_of, in_key_order, returned, block_returned}
use Rattle.gx_core.specs.Comparing.{condition_of}
use Rattle.gx_core.specs.Expression.{Parts, no_parts, a_part, each_of, annotation_of}
use Rattle.gx_core.specs.Outcome.{Outcome, gives, raises, wrong, after, given}
use Rattle.gx_core.specs.Meaning.{CallOutcomes, Bindings, Denotation, item_bound, meaning, meanings}
use Rattle.gx_core.specs.declared.signature.FunctionSignature.{FunctionSignature}
use Rattle.gx_core.specs.Soundness.{TypedExpression, Setting, calling_setting, context_of, IsOfType, KeepsFact, Keeps, Fits, CallsKeepTypes, Situation, KeepsItsType}
use Rattle.gx_core.proofs.KeptFacts.{fact_after, fact_at_once, binding_fits, bindings_fit_still, calls_keep_still, later}
use Rattle.gx_static.specs.declared.comparison.Family.{Family}
use Rattle.gx_static.specs.declared.comparison.Family.TheVariants as families
use Rattle.gx_static.specs.Rule.{Ruling, has_type, has_none, is_of_family, are_of_family, are_of_one_family, is_at_most_one, allows_clause, allows_key, product, tuples_occur, returned_rule, clauses_rule}
use Rattle.gx_static.specs.Laws.{PartsKeepTypes, BlockKeepsType}
use Rattle.gx_static.proofs.ItemLemmas.{EachItem, Meets, each_so, items_meet, belongs_within}
use Rattle.gx_static.proofs.Families.{either_true, family_met}
use Rattle.gx_static.proofs.Singles.{few_items}
use Rattle.gx_static.proofs.Conditionals.{one_condition}
use Rattle.gx_static.proofs.Loops.{EachBelongs, each_still, items_belong, item_fits, Made, copies, one_more_made, copies_joined, joined_belongs_times, fact_so}
use Rattle.gx_static.proofs.Keeping.{ruled}

-- a test that was passed, and what follows it
passed : (test : Bool) (next : Ruling) (code : Code) (part : Option ℕ) (t : SequenceType) → (if test then next else has_none code part) ≡ has_type t → (test ≡ true) × (next ≡ has_type t)
passed true next code part t e = (refl, e)
passed false next code part t e = absurd (cc)

-- ---- keys

record IsSomeAtom (x : Item) : Type 0 where
  value : Atomic
  is : x ≡ atom value

key_there : (xs : Items) → length xs ≤ 1 → EachItem IsSomeAtom xs → (key : Option Atomic) × (key_of xs ≡ Some key)
key_there [] few h = (None, refl)
key_there (x ∷ []) few h = (Some h.0.value, subst (λ (y : Item). key_of (y ∷ []) ≡ Some (Some h.0.value)) (sym h.0.is) refl)
key_there (x ∷ y ∷ xs) few h = absurd (omega (arith, few))

family_key : (s : SchemaSet) (forest : Forest) (family : Family) (t : SequenceType) (xs : Items) → length xs ≤ 1 → are_of_family s t t family ≡ true → Belongs s forest xs t → (key : Option Atomic) × (key_of xs ≡ Some key)
family_key s forest family t xs few e b =
    key_there xs few
    (each_so (Meets s forest (is_of_family s family)) IsSomeAtom xs (λ x m. let a = family_met s forest family x m in record { value = a.value; is = a.is })
    (items_meet s forest (is_of_family s family) xs t (and_parts _ _ e).0 b))

key_found : (s : SchemaSet) (forest : Forest) (t : SequenceType) (xs : Items) → allows_key s t ≡ true → Belongs s forest xs t → (key : Option Atomic) × (key_of xs ≡ Some key)
key_found s forest t xs e b =
    let p = and_parts (is_at_most_one t) (are_of_one_family s t t) e in
    let few = few_items s forest t xs p.0 b in
    elim (either_true (are_of_family s t t families.Number || are_of_family s t t families.Text) (are_of_family s t t families.Truth) p.1) as (λ _. (key : Option Atomic) × (key_of xs ≡ Some key)) [
      | inl h ↦ elim (either_true (are_of_family s t t families.Number) (are_of_family s t t families.Text) h) as (λ _. (key : Option Atomic) × (key_of xs ≡ Some key)) [
        | inl k ↦ family_key s forest families.Number t xs few k b
        | inr k ↦ family_key s forest families.Text t xs few k b
      ]
      | inr h ↦ family_key s forest families.Truth t xs few h b
    ]

-- ---- what is bound for parts

-- what an operator binds for the parts behind so many, of which these clauses are left, over what is bound so far
abbrev pub Binds : Operator → (before : List SequenceType) → List ClauseKind → Types → Type 0
Binds operator before kinds bound = (more : List SequenceType) → types_bound operator (before ++ more) ≡ block_types_bound kinds more bound

pub binds_behind : (operator : Operator) (before : List SequenceType) (kind : ClauseKind) (kinds : List ClauseKind) (bound : Types) (t : SequenceType) → Binds operator before (kind ∷ kinds) bound
    → Binds operator (before ++ t ∷ []) kinds (clause_types_bound kind t ++ bound)
binds_behind operator before kind kinds bound t b more = ap (types_bound operator) (append_assoc before (t ∷ []) more) ∙ b (t ∷ more)

pub binds_further : (operator : Operator) (before : List SequenceType) (bound : Types) (t : SequenceType) → Binds operator before [] bound → Binds operator (before ++ t ∷ []) [] bound
binds_further operator before bound t b more = ap (types_bound operator) (append_assoc before (t ∷ []) more) ∙ b (t ∷ more)

none_more : (kinds : List ClauseKind) (bound : Types) → block_types_bound kinds [] bound ≡ bound
none_more [] bound = refl
none_more (kind ∷ kinds) bound = refl

pub binds_here : (operator : Operator) (before : List SequenceType) (kinds : List ClauseKind) (bound : Types) → Binds operator before kinds bound → types_bound operator before ≡ bound
binds_here operator before kinds bound b = ap (types_bound operator) (sym (append-nil before)) ∙ b [] ∙ none_more kinds bound

-- a part keeps its type under what is bound for it
part_keeps : (s : SchemaSet) (known : List FunctionSignature) (calls : CallOutcomes) (operator : Operator) (before : List SequenceType) (kinds : List ClauseKind) (bound types : Types) (part : TypedExpression) → Binds operator before kinds bound
    → KeepsItsType (calling_setting s known calls) part (types_bound operator before ++ types) → KeepsItsType (calling_setting s known calls) part (bound ++ types)
part_keeps s known calls operator before kinds bound types part b h = subst (λ (ts : Types). KeepsItsType (calling_setting s known calls) part (ts ++ types)) (binds_here operator before kinds bound b) h

-- ---- the keys of a tuple

abbrev AnyKeys : Forest → List (Option Atomic) → Type 0
AnyKeys forest keys = Unit {0}

keys_keep : (s : SchemaSet) (known : List FunctionSignature) (calls : CallOutcomes) (operator : Operator) (orders : List KeyOrder) (tuples : Occurs) (t : SequenceType) (parts : Parts SequenceType) (before : List SequenceType) (bound types : Types)
    → returned_rule (allows_key s) orders tuples (each_of annotation_of parts) ≡ has_type t → PartsKeepTypes s known calls operator before parts types → Binds operator before [] bound
    → (situation : Situation (calling_setting s known calls) (bound ++ types))
    → KeepsFact (calling_setting s known calls) situation.forest AnyKeys (tuple_keys orders (meanings (context_of (calling_setting s known calls)) parts) situation.bindings situation.forest)
keys_keep s known calls operator [] tuples t parts before bound types e h b situation = fact_at_once (calling_setting s known calls) situation.forest AnyKeys [] situation.honest tt
keys_keep s known calls operator (order ∷ orders) tuples t no_parts before bound types e h b situation = absurd (cc)
keys_keep s known calls operator (order ∷ orders) tuples t (a_part part parts) before bound types e h b situation =
    let setting : Setting = calling_setting s known calls in
    let k = context_of setting in
    let u : SequenceType = annotation_of part in
    let q = passed (allows_key s u) (returned_rule (allows_key s) orders tuples (each_of annotation_of parts)) _ None t e in
    let others : Forest → Outcome (List (Option Atomic)) = λ left. tuple_keys orders (meanings k parts) situation.bindings left in
    fact_after setting situation.forest (IsOfType s u) AnyKeys (meaning k part situation.bindings situation.forest) (λ xs left. given (key_of xs) (λ key. after (others left) (λ keys last. gives (key ∷ keys) last)))
    (part_keeps s known calls operator before [] bound types part b h.0 situation)
    (λ xs now grown honest belongs.
    let key = key_found s now u xs q.0 belongs in
    subst (λ (found : Option (Option Atomic)). KeepsFact setting now AnyKeys (given found (λ key. after (others now) (λ keys last. gives (key ∷ keys) last)))) (sym key.1)
    (fact_after setting now AnyKeys AnyKeys (others now) (λ keys last. gives (key.0 ∷ keys) last)
    (keys_keep s known calls operator orders tuples t parts (before ++ u ∷ []) bound types q.1 h.1 (binds_further operator before bound u b) (later setting (bound ++ types) situation now grown honest))
    (λ keys last more still any. fact_at_once setting last AnyKeys (key.0 ∷ keys) still tt)))

-- ---- tuples

-- what is bound in each tuple fits
abbrev AllFit : SchemaSet → Forest → Types → (outer : Bindings) → List Tuple → Type 0
AllFit s forest types outer tuples = AllByRecursion (λ (t : Tuple). Fits s forest types (t.bound ++ outer)) tuples

all_still : (setting : Setting) (types : Types) (outer : Bindings) (tuples : List Tuple) (before now : Forest) → Extends before now → AllFit setting.schemas before types outer tuples → AllFit setting.schemas now types outer tuples
all_still setting types outer [] before now e h = tt
all_still setting types outer (t ∷ tuples) before now e h = (bindings_fit_still setting types (t.bound ++ outer) before now e h.0, all_still setting types outer tuples before now e h.1)

all_joined : (s : SchemaSet) (forest : Forest) (types : Types) (outer : Bindings) (tuples others : List Tuple) → AllFit s forest types outer tuples → AllFit s forest types outer others → AllFit s forest types outer (tuples ++ others)
all_joined s forest types outer [] others h k = k
all_joined s forest types outer (t ∷ tuples) others h k = (h.0, all_joined s forest types outer tuples others h.1 k)

-- tuples whose bindings fit, as many as an occurrence allows
record Found (s : SchemaSet) (types : Types) (outer : Bindings) (o : Occurs) (forest : Forest) (tuples : List Tuple) : Type 0 where
  fit : AllFit s forest types outer tuples
  count : Allows o (length tuples)

-- so many times as many as an occurrence allows
record FoundTimes (s : SchemaSet) (types : Types) (outer : Bindings) (o : Occurs) (n : ℕ) (forest : Forest) (tuples : List Tuple) : Type 0 where
  fit : AllFit s forest types outer tuples
  least : n * o.least ≤ length tuples
  greatest : o.greatest < 2 → length tuples ≤ n * o.greatest
  none : n ≡ 0 → length tuples ≡ 0

-- the turns of a loop find tuples, in each forest that has grown from the first
abbrev TurnFinds : Setting → (first : Forest) → Types → Bindings → Occurs → SequenceType → (ℕ → Item → Forest → Outcome (List Tuple)) → Type 0
TurnFinds setting first types outer o p next =
    (number : ℕ) (x : Item) (now : Forest) → Extends first now → IsHonest setting.schemas now → Belongs setting.schemas now (x ∷ []) p → KeepsFact setting now (Found setting.schemas types outer o) (next number x now)

more_found : (o : Occurs) (n m k : ℕ) → Allows o m → n * o.least ≤ k → suc n * o.least ≤ m + k
more_found o n m k h l = omega (arith, suc-mul n o.least, h.least, l)

no_more_found : (o : Occurs) (n m k : ℕ) → Allows o m → (o.greatest < 2 → k ≤ n * o.greatest) → o.greatest < 2 → m + k ≤ suc n * o.greatest
no_more_found o n m k h g few = omega (arith, suc-mul n o.greatest, h.greatest few, g few)

turns_find : (setting : Setting) (first : Forest) (types : Types) (outer : Bindings) (o : Occurs) (p : SequenceType) (next : ℕ → Item → Forest → Outcome (List Tuple)) → TurnFinds setting first types outer o p next
    → (xs : Items) (number : ℕ) (forest : Forest) → Extends first forest → IsHonest setting.schemas forest → EachBelongs setting.schemas forest p xs
    → KeepsFact setting forest (FoundTimes setting.schemas types outer o (length xs)) (tuples_of_each next number xs forest)
turns_find setting first types outer o p next turn [] number forest grown honest all =
    fact_at_once setting forest (FoundTimes setting.schemas types outer o 0) [] honest
    (record { fit = tt; least = omega (arith, zero-mul o.least); greatest = λ few. omega arith; none = λ e. refl })
turns_find setting first types outer o p next turn (x ∷ xs) number forest grown honest all =
    fact_after setting forest (Found setting.schemas types outer o) (FoundTimes setting.schemas types outer o (suc (length xs))) (next number x forest)
    (λ found left. after (tuples_of_each next (suc number) xs left) (λ others last. gives (found ++ others) last)) (turn number x forest grown honest all.0)
    (λ found now e still f.
    fact_after setting now (FoundTimes setting.schemas types outer o (length xs)) (FoundTimes setting.schemas types outer o (suc (length xs))) (tuples_of_each next (suc number) xs now) (λ others last. gives (found ++ others) last)
    (turns_find setting first types outer o p next turn xs (suc number) now (growth_is_an_order.transitive first forest now grown e) still (each_still setting.schemas forest now p xs e all.1))
    (λ others last d hon g.
    let both : length (found ++ others) ≡ length found + length others = length-append found others in
    fact_at_once setting last (FoundTimes setting.schemas types outer o (suc (length xs))) (found ++ others) hon (record {
      fit = all_joined setting.schemas last types outer found others (all_still setting types outer found now last d f.fit) g.fit;
      least = omega (arith, both, more_found o (length xs) (length found) (length others) f.count g.least);
      greatest = λ few. omega (arith, both, no_more_found o (length xs) (length found) (length others) f.count g.greatest few);
      none = λ e. absurd (cc);
    })))

-- how many all turns find together
few_products : (a b n found : ℕ) → (a < 2 → n ≤ a) → (b < 2 → found ≤ n * b) → (n ≡ 0 → found ≡ 0) → min 2 (a * b) < 2 → found ≤ min 2 (a * b)
few_products zero b n found h k none few = let e : n ≡ 0 = omega (arith, h (omega arith)) in omega (arith, none e)
few_products (suc a) zero n found h k none few = omega (arith, k (omega arith), mul-zero n)
few_products (suc a) (suc zero) n found h k none few =
    let e : suc a * 1 ≡ suc a = mul-one (suc a) in
    omega (arith, e, mul-one n, k (omega arith), h (omega (arith, e, few)), few)
few_products (suc a) (suc (suc b)) n found h k none few =
    let e : suc a * suc (suc b) ≡ a * suc (suc b) + suc (suc b) = suc-mul a (suc (suc b)) in
    absurd (omega (arith, e, few))

products_allow : (s : SchemaSet) (types : Types) (outer : Bindings) (o p : Occurs) (n : ℕ) (forest : Forest) (tuples : List Tuple) → Allows o n → FoundTimes s types outer p n forest tuples → Found s types outer (product o p) forest tuples
products_allow s types outer o p n forest tuples h f = record {
  fit = f.fit;
  count = record {
    least = omega (arith, mul-le-mul_right p.least h.least, f.least);
    greatest = few_products o.greatest p.greatest n (length tuples) h.greatest f.greatest f.none;
  };
}

-- what holds of each result holds of the outcome
tuples_so : (setting : Setting) (before : Forest) (P Q : Forest → List Tuple → Type 0) (o : Outcome (List Tuple)) → ((now : Forest) (ts : List Tuple) → P now ts → Q now ts) → KeepsFact setting before P o → KeepsFact setting before Q o
tuples_so setting before P Q (gives ts now) h k = record { grown = k.grown; honest = k.honest; fact = h now ts k.fact }
tuples_so setting before P Q (raises code) h k = tt
tuples_so setting before P Q wrong h k = absurd k

tuples_keep : (s : SchemaSet) (known : List FunctionSignature) (calls : CallOutcomes) (operator : Operator) (kinds : List ClauseKind) (orders : List KeyOrder) (tuples : Occurs) (t : SequenceType) (number : ℕ) (parts : Parts SequenceType) (before : List SequenceType) (here types : Types)
    (bound outer : Bindings) (forest : Forest)
    → clauses_rule (allows_clause s) kinds number (returned_rule (allows_key s) orders tuples) (each_of annotation_of parts) ≡ has_type t → PartsKeepTypes s known calls operator before parts types → Binds operator before kinds here
    → IsHonest s forest → Fits s forest (here ++ types) (bound ++ outer) → CallsKeepTypes (calling_setting s known calls) forest
    → KeepsFact (calling_setting s known calls) forest (Found s (block_types_bound kinds (each_of annotation_of parts) here ++ types) outer (tuples_occur kinds (each_of annotation_of parts)))
    (tuples_of kinds orders (meanings (context_of (calling_setting s known calls)) parts) bound outer forest)
tuples_keep s known calls operator [] orders tuples t number parts before here types bound outer forest e h b honest fits calls_keep =
    let setting : Setting = calling_setting s known calls in
    let tuple : List (Option Atomic) → Tuple = λ keys. record { keys = keys; bound = bound } in
    let Result : Forest → List Tuple → Type 0 = Found s (here ++ types) outer (occurs 1 1) in
    fact_after setting forest AnyKeys Result (tuple_keys orders (meanings (context_of setting) parts) (bound ++ outer) forest) (λ keys left. gives (tuple keys ∷ []) left)
    (keys_keep s known calls operator orders tuples t parts before here types e h b (record { bindings = bound ++ outer; forest = forest; honest = honest; fits = fits; calls_keep = calls_keep }))
    (λ keys now grown still any. fact_at_once setting now Result (tuple keys ∷ []) still
    (record { fit = (bindings_fit_still setting (here ++ types) (bound ++ outer) forest now grown fits, tt); count = record { least = omega arith; greatest = λ few. omega arith } }))
tuples_keep s known calls operator (kind ∷ kinds) orders tuples t number no_parts before here types bound outer forest e h b honest fits calls_keep = absurd (cc)
tuples_keep s known calls operator (For binder position ∷ kinds) orders tuples t number (a_part part parts) before here types bound outer forest e h b honest fits calls_keep =
    let setting : Setting = calling_setting s known calls in
    let k = context_of setting in
    let u : SequenceType = annotation_of part in
    let ts : List SequenceType = each_of annotation_of parts in
    let inner : Types = clause_types_bound (For binder position) u ++ here in
    let full : Types = block_types_bound kinds ts inner ++ types in
    let o : Occurs = tuples_occur kinds ts in
    let q = passed (allows_clause s (For binder position) u) (clauses_rule (allows_clause s) kinds (number + 1) (returned_rule (allows_key s) orders tuples) ts) _ (Some number) t e in
    let turn : ℕ → Item → Forest → Outcome (List Tuple) = λ n x now. tuples_of kinds orders (meanings k parts) (item_bound binder.variable position n x ++ bound) outer now in
    fact_after setting forest (IsOfType s u) (Found s full outer (product (occurrence_of u) o)) (meaning k part (bound ++ outer) forest) (λ xs left. tuples_of_each turn 1 xs left)
    (part_keeps s known calls operator before (For binder position ∷ kinds) here types part b h.0 (record { bindings = bound ++ outer; forest = forest; honest = honest; fits = fits; calls_keep = calls_keep }))
    (λ xs now grown still belongs.
    tuples_so setting now (FoundTimes s full outer o (length xs)) (Found s full outer (product (occurrence_of u) o)) (tuples_of_each turn 1 xs now)
    (λ last found f. products_allow s full outer (occurrence_of u) o (length xs) last found (belongs_within s now u xs belongs) f)
    (turns_find setting now full outer o (prime_of u) turn
    (λ n x last more hon one.
    let joined : Fits s last ((clause_types_bound (For binder position) u) ++ (here ++ types)) (item_bound binder.variable position n x ++ (bound ++ outer)) =
    item_fits setting binder position n (prime_of u) x (here ++ types) (bound ++ outer) last
    (bindings_fit_still setting (here ++ types) (bound ++ outer) forest last (growth_is_an_order.transitive forest now last grown more) fits) one in
    tuples_keep s known calls operator kinds orders tuples t (number + 1) parts (before ++ u ∷ []) inner types (item_bound binder.variable position n x ++ bound) outer last q.1 h.1
    (binds_behind operator before (For binder position) kinds here u b) hon
    (subst (λ (bs : Bindings). Fits s last (inner ++ types) bs) (sym (append_assoc (item_bound binder.variable position n x) bound outer))
    (subst (λ (ts : Types). Fits s last ts (item_bound binder.variable position n x ++ (bound ++ outer))) (sym (append_assoc (clause_types_bound (For binder position) u) here types)) joined))
    (calls_keep_still setting forest last (growth_is_an_order.transitive forest now last grown more) calls_keep))
    xs 1 now (growth_is_an_order.reflexive now) still (items_belong s now u xs belongs)))
tuples_keep s known calls operator (Let binder ∷ kinds) orders tuples t number (a_part part parts) before here types bound outer forest e h b honest fits calls_keep =
    let setting : Setting = calling_setting s known calls in
    let k = context_of setting in
    let u : SequenceType = annotation_of part in
    let ts : List SequenceType = each_of annotation_of parts in
    let inner : Types = (binder.variable, u) ∷ here in
    let Result : Forest → List Tuple → Type 0 = Found s (block_types_bound kinds ts inner ++ types) outer (tuples_occur kinds ts) in
    let q = passed (allows_clause s (Let binder) u) (clauses_rule (allows_clause s) kinds (number + 1) (returned_rule (allows_key s) orders tuples) ts) _ (Some number) t e in
    fact_after setting forest (IsOfType s u) Result (meaning k part (bound ++ outer) forest) (λ xs left. tuples_of kinds orders (meanings k parts) ((binder.variable, xs) ∷ bound) outer left)
    (part_keeps s known calls operator before (Let binder ∷ kinds) here types part b h.0 (record { bindings = bound ++ outer; forest = forest; honest = honest; fits = fits; calls_keep = calls_keep }))
    (λ xs now grown still belongs.
    tuples_keep s known calls operator kinds orders tuples t (number + 1) parts (before ++ u ∷ []) inner types ((binder.variable, xs) ∷ bound) outer now q.1 h.1 (binds_behind operator before (Let binder) kinds here u b) still
    (binding_fits setting binder u xs (here ++ types) (bound ++ outer) now (bindings_fit_still setting (here ++ types) (bound ++ outer) forest now grown fits) belongs)
    (calls_keep_still setting forest now grown calls_keep))
tuples_keep s known calls operator (Where ∷ kinds) orders tuples t number (a_part part parts) before here types bound outer forest e h b honest fits calls_keep =
    let setting : Setting = calling_setting s known calls in
    let k = context_of setting in
    let u : SequenceType = annotation_of part in
    let ts : List SequenceType = each_of annotation_of parts in
    let full : Types = block_types_bound kinds ts here ++ types in
    let o : Occurs = tuples_occur kinds ts in
    let fewer : Occurs = occurs 0 o.greatest in
    let q = passed (allows_clause s Where u) (clauses_rule (allows_clause s) kinds (number + 1) (returned_rule (allows_key s) orders tuples) ts) _ (Some number) t e in
    let rest : Forest → Outcome (List Tuple) = λ now. tuples_of kinds orders (meanings k parts) bound outer now in
    let chosen : (truth : Bool) (now : Forest) → Extends forest now → IsHonest s now → KeepsFact setting now (Found s full outer fewer) (tuples_if truth rest now) = λ truth now grown still.
    elim truth as (λ (b : Bool). KeepsFact setting now (Found s full outer fewer) (tuples_if b rest now)) [
      | true ↦ tuples_so setting now (Found s full outer o) (Found s full outer fewer) (rest now)
          (λ last found f. record { fit = f.fit; count = record { least = omega arith; greatest = f.count.greatest } })
          (tuples_keep s known calls operator kinds orders tuples t (number + 1) parts (before ++ u ∷ []) here types bound outer now q.1 h.1 (binds_behind operator before Where kinds here u b) still
          (bindings_fit_still setting (here ++ types) (bound ++ outer) forest now grown fits) (calls_keep_still setting forest now grown calls_keep))
      | false ↦ fact_at_once setting now (Found s full outer fewer) [] still (record { fit = tt; count = record { least = omega arith; greatest = λ few. omega arith } })
    ] in
    fact_after setting forest (IsOfType s u) (Found s full outer fewer) (meaning k part (bound ++ outer) forest) (λ xs left. given (condition_of xs) (λ truth. tuples_if truth rest left))
    (part_keeps s known calls operator before (Where ∷ kinds) here types part b h.0 (record { bindings = bound ++ outer; forest = forest; honest = honest; fits = fits; calls_keep = calls_keep }))
    (λ xs now grown still belongs.
    let truth = one_condition s now u xs q.0 belongs in
    subst (λ (found : Option Bool). KeepsFact setting now (Found s full outer fewer) (given found (λ truth. tuples_if truth rest now))) (sym truth.1) (chosen truth.0 now grown still))

-- ---- what is returned

-- the last part, behind the clauses and the keys
record IsReturned (s : SchemaSet) (known : List FunctionSignature) (calls : CallOutcomes) (types : Types) (returns : List Denotation) (tuples : Occurs) (t : SequenceType) : Type 0 where
  body : TypedExpression
  there : returns ≡ meaning (context_of (calling_setting s known calls)) body ∷ []
  keeps : KeepsItsType (calling_setting s known calls) body types
  type : t ≡ times_of (annotation_of body) tuples

returned_behind_keys : (s : SchemaSet) (known : List FunctionSignature) (calls : CallOutcomes) (operator : Operator) (orders : List KeyOrder) (tuples : Occurs) (t : SequenceType) (parts : Parts SequenceType) (before : List SequenceType) (here types : Types)
    → returned_rule (allows_key s) orders tuples (each_of annotation_of parts) ≡ has_type t → PartsKeepTypes s known calls operator before parts types → Binds operator before [] here
    → IsReturned s known calls (here ++ types) (drop (length orders) (meanings (context_of (calling_setting s known calls)) parts)) tuples t
returned_behind_keys s known calls operator [] tuples t no_parts before here types e h b = absurd (cc)
returned_behind_keys s known calls operator [] tuples t (a_part body no_parts) before here types e h b =
    record { body = body; there = refl; keeps = part_keeps s known calls operator before [] here types body b h.0; type = sym (ruled (times_of (annotation_of body) tuples) t e) }
returned_behind_keys s known calls operator [] tuples t (a_part body (a_part other parts)) before here types e h b = absurd (cc)
returned_behind_keys s known calls operator (order ∷ orders) tuples t no_parts before here types e h b = absurd (cc)
returned_behind_keys s known calls operator (order ∷ orders) tuples t (a_part part parts) before here types e h b =
    let u : SequenceType = annotation_of part in
    let q = passed (allows_key s u) (returned_rule (allows_key s) orders tuples (each_of annotation_of parts)) _ None t e in
    returned_behind_keys s known calls operator orders tuples t parts (before ++ u ∷ []) here types q.1 h.1 (binds_further operator before here u b)

returned_behind : (s : SchemaSet) (known : List FunctionSignature) (calls : CallOutcomes) (operator : Operator) (kinds : List ClauseKind) (orders : List KeyOrder) (tuples : Occurs) (t : SequenceType) (number : ℕ) (parts : Parts SequenceType) (before : List SequenceType) (here types : Types)
    → clauses_rule (allows_clause s) kinds number (returned_rule (allows_key s) orders tuples) (each_of annotation_of parts) ≡ has_type t → PartsKeepTypes s known calls operator before parts types → Binds operator before kinds here
    → IsReturned s known calls (block_types_bound kinds (each_of annotation_of parts) here ++ types) (drop (length orders) (drop (length kinds) (meanings (context_of (calling_setting s known calls)) parts))) tuples t
returned_behind s known calls operator [] orders tuples t number parts before here types e h b = returned_behind_keys s known calls operator orders tuples t parts before here types e h b
returned_behind s known calls operator (kind ∷ kinds) orders tuples t number no_parts before here types e h b = absurd (cc)
returned_behind s known calls operator (kind ∷ kinds) orders tuples t number (a_part part parts) before here types e h b =
    let u : SequenceType = annotation_of part in
    let q = passed (allows_clause s kind u) (clauses_rule (allows_clause s) kinds (number + 1) (returned_rule (allows_key s) orders tuples) (each_of annotation_of parts)) _ (Some number) t e in
    returned_behind s known calls operator kinds orders tuples t (number + 1) parts (before ++ u ∷ []) (clause_types_bound kind u ++ here) types q.1 h.1 (binds_behind operator before kind kinds here u b)

-- the bindings of tuples, without their keys
abbrev RowsFit : SchemaSet → Forest → Types → (outer : Bindings) → List Bindings → Type 0
RowsFit s forest types outer rows = AllByRecursion (λ (bound : Bindings). Fits s forest types (bound ++ outer)) rows

rows_still : (setting : Setting) (types : Types) (outer : Bindings) (rows : List Bindings) (before now : Forest) → Extends before now → RowsFit setting.schemas before types outer rows → RowsFit setting.schemas now types outer rows
rows_still setting types outer [] before now e h = tt
rows_still setting types outer (bound ∷ rows) before now e h = (bindings_fit_still setting types (bound ++ outer) before now e h.0, rows_still setting types outer rows before now e h.1)

rows_of_fitting : (s : SchemaSet) (forest : Forest) (types : Types) (outer : Bindings) (tuples : List Tuple) → AllFit s forest types outer tuples → RowsFit s forest types outer (map (λ t. t.bound) tuples)
rows_of_fitting s forest types outer [] h = tt
rows_of_fitting s forest types outer (t ∷ tuples) h = (h.0, rows_of_fitting s forest types outer tuples h.1)

returns_keep : (setting : Setting) (types : Types) (outer : Bindings) (u : SequenceType) (body : Denotation) → ((situation : Situation setting types) → Keeps setting situation.forest u (body situation.bindings situation.forest))
    → (rows : List Bindings) (n m : ℕ) (done : Items) (forest : Forest) → m ≡ n + length rows → IsHonest setting.schemas forest → RowsFit setting.schemas forest types outer rows
    → CallsKeepTypes setting forest → Made setting.schemas u n forest done
    → KeepsFact setting forest (Made setting.schemas u m) (returned body outer done rows forest)
returns_keep setting types outer u body keeps [] n m done forest e honest fit calls_keep made =
    let same : n ≡ m = omega (arith, e) in
    fact_at_once setting forest (Made setting.schemas u m) done honest (subst (λ (k : ℕ). Made setting.schemas u k forest done) same made)
returns_keep setting types outer u body keeps (bound ∷ rows) n m done forest e honest fit calls_keep made =
    fact_after setting forest (IsOfType setting.schemas u) (Made setting.schemas u m) (body (bound ++ outer) forest) (λ more left. returned body outer (done ++ more) rows left)
    (keeps (record { bindings = bound ++ outer; forest = forest; honest = honest; fits = fit.0; calls_keep = calls_keep }))
    (λ more now grown still b. returns_keep setting types outer u body keeps rows (suc n) m (done ++ more) now (omega (arith, e)) still (rows_still setting types outer rows forest now grown fit.1) (calls_keep_still setting forest now grown calls_keep)
    (one_more_made setting.schemas now u n done more (values_stay setting.schemas forest now done (copies n u) grown made) b))

sorted_returns_keep : (s : SchemaSet) (known : List FunctionSignature) (calls : CallOutcomes) (types : Types) (outer : Bindings) (orders : List KeyOrder) (returns : List Denotation) (o : Occurs) (t : SequenceType) (tuples : List Tuple) (forest : Forest)
    → IsReturned s known calls types returns o t → IsHonest s forest → CallsKeepTypes (calling_setting s known calls) forest → Found s types outer o forest tuples → Keeps (calling_setting s known calls) forest t (block_returned orders returns outer tuples forest)
sorted_returns_keep s known calls types outer orders returns o t tuples forest r honest calls_keep f =
    let setting : Setting = calling_setting s known calls in
    let body : Denotation = meaning (context_of setting) r.body in
    let u : SequenceType = annotation_of r.body in
    let precedes : Tuple → Tuple → Bool = λ a b. keys_precede orders a.keys b.keys in
    let ordered : List Tuple = in_key_order orders tuples in
    let rows : List Bindings = map (λ t. t.bound) ordered in
    let count : length rows ≡ length tuples = length-map ordered (λ t. t.bound) ∙ (sorting_is_stable Tuple).count precedes tuples in
    let none : Made s u 0 forest [] = record { seen = []; shaped = tt; taken = refl } in
    let fit : RowsFit s forest types outer rows = rows_of_fitting s forest types outer ordered (each_sorted precedes (λ (t : Tuple). Fits s forest types (t.bound ++ outer)) tuples f.fit) in
    subst (λ (v : SequenceType). Keeps setting forest v (block_returned orders returns outer tuples forest)) (sym r.type)
    (subst (λ (ds : List Denotation). Keeps setting forest (times_of u o) (block_returned orders ds outer tuples forest)) (sym r.there)
    (fact_so setting forest (Made s u (length rows)) (IsOfType s (times_of u o)) (returned body outer [] rows forest)
    (λ now ys made. joined_belongs_times s now u o (length rows) ys made.seen (subst (λ (n : ℕ). Allows o n) (sym count) f.count) made.shaped (copies_joined s u (length rows) made.seen made.taken))
    (returns_keep setting types outer u body r.keeps rows 0 (length rows) [] forest (omega arith) honest fit calls_keep none)))

pub block_keeps : BlockKeepsType
block_keeps s clauses keys known calls parts types place outer t e known_call h situation =
    let setting : Setting = calling_setting s known calls in
    let k = context_of setting in
    let operator : Operator = operators.Block clauses keys in
    let ts : List SequenceType = each_of annotation_of parts in
    let o : Occurs = tuples_occur clauses ts in
    let full : Types = block_types_bound clauses ts [] ++ types in
    let returns : List Denotation = drop (length keys) (drop (length clauses) (meanings k parts)) in
    let r : IsReturned s known calls full returns o t = returned_behind s known calls operator clauses keys o t 0 parts [] [] types e h (λ more. refl) in
    fact_after setting situation.forest (Found s full situation.bindings o) (IsOfType s t) (tuples_of clauses keys (meanings k parts) [] situation.bindings situation.forest) (block_returned keys returns situation.bindings)
    (tuples_keep s known calls operator clauses keys o t 0 parts [] [] types [] situation.bindings situation.forest e h (λ more. refl) situation.honest situation.fits situation.calls_keep)
    (λ tuples now grown honest f. sorted_returns_keep s known calls full situation.bindings keys returns o t tuples now r honest (calls_keep_still setting situation.forest now grown situation.calls_keep) f)
