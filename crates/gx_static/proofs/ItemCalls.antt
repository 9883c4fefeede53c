-- What functions over items answer is of the type of their rule.
use Rattle.std.proofs.Common.{◌≡◌, ◌≤◌, ◌<◌, ℕ, suc, ℤ, ◌+◌, Bool, true, false, ◌&&◌, List, [], ◌∷◌, ◌++◌, length, reverse, max, Option, None, Some, refl, sym, ap, subst, arith, if◌then◌else◌}
use Rattle.std.specs.Prelude.{pos, ◌+ℤ◌, int_le}
use Rattle.std.proofs.lemmas.Bool.{and_parts}
use Rattle.std.proofs.lemmas.List.{length-append, length-reverse}
use Rattle.gx_base.specs.declared.name.Name.{Name}
use Rattle.gx_base.specs.declared.type_name.Builtin.TheVariants.{Boolean, Integer, Decimal, Str}
use Rattle.gx_base.specs.declared.type_name.TypeName.TheVariants as names
use Rattle.gx_num.specs.declared.Number.{Number}
use Rattle.gx_types.specs.SchemaSet.{SchemaSet}
use Rattle.gx_types.specs.SchemaInvariant.{IsSchemaSet}
use Rattle.gx_types.specs.SequenceType.{SequenceType, never}
use Rattle.gx_types.specs.Occurrence.{occurrence_of, occurs}
use Rattle.gx_types.specs.Prime.{prime_of}
use Rattle.gx_types.specs.TypeRules.{sequence_of}
use Rattle.gx_types.specs.Laws.{Allows}
use Rattle.gx_include.specs.Decision.{is_included}
use Rattle.gx_funcs.specs.declared.function.Parameter.{Parameter}
use Rattle.gx_funcs.specs.declared.item_function.ItemFunction.{ItemFunction}
use Rattle.gx_funcs.specs.declared.item_function.ItemFunction.TheVariants as functions
use Rattle.gx_funcs.specs.Function.{conversion_of, item_parameters_of, node_at_most, any_items, one_number, one_integer, string_atom}
use Rattle.gx_funcs.specs.Positions.{nearest_whole, stands_within, within_positions, is_position, all_but, with_before, from_position, so_many_from, without_position, inserted_before}
use Rattle.gx_model.specs.Forest.{Forest}
use Rattle.gx_model.specs.Growth.{Extends}
use Rattle.gx_model.specs.Honest.{IsHonest}
use Rattle.gx_model.specs.Item.{Item, node, Items}
use Rattle.gx_model.specs.Belongs.{Belongs}
use Rattle.gx_model.specs.Roots.{root_of}
use Rattle.gx_model.proofs.PublicLaws.{growth_is_an_order, values_stay}
use Rattle.gx_core.specs.Arguments.{argument_by, arguments_by}
use Rattle.gx_core.specs.DeepEqual.{are_deep_equal}
use Rattle.gx_core.specs.ItemCalling.{lexical_name, name_of_items, roots_of_items, number_of_items, integer_of_items, at_most_one_item, at_least_one_item, only_item, string_item, item_answer, item_called}
use Rattle.gx_core.specs.Outcome.{Outcome, gives, after, given}
use Rattle.gx_core.specs.Soundness.{typed_setting, AreOfTypes, IsOfType, Keeps, KeepsFact}
use Rattle.gx_core.proofs.KeptFacts.{fact_after, fact_at_once}
use Rattle.gx_steptype.specs.StepType.{node_type}
use Rattle.gx_static.specs.Rule.{atomic, is_all_in, is_at_most_one, is_at_least_one, as_optional, as_often, some_of_type, at_least_one_of, one_of_type, takes_argument, seen_argument, type_ruled, item_answer_type, item_call_type, optional_node}
use Rattle.gx_static.proofs.Arithmetic.{item_is_number}
use Rattle.gx_static.proofs.Comparisons.{truth_keeps}
use Rattle.gx_static.proofs.ItemLemmas.{IsAtomIn, items_are_in, belongs_within, the_item, one_item}
use Rattle.gx_static.proofs.Keeping.{joined_belongs}
use Rattle.gx_static.proofs.Loops.{EachBelongs, items_belong}
use Rattle.gx_static.proofs.Picking.{ArePicked, one_belongs, each_turned, picked_belongs}
use Rattle.gx_static.proofs.Ranges.{integer_of}
use Rattle.gx_static.proofs.Roots.{FewNodes, no_node, one_node, few_nodes, name_there, root_belongs, roots_there}
use Rattle.gx_static.proofs.Singles.{nothing_belongs, one_atom_belongs}
use Rattle.gx_static.proofs.TextCalls.{AreTaken}
use Rattle.gx_static.proofs.ValueArguments.{argument_keeps}
use Rattle.gx_static.proofs.ValueCalls.{each_belongs_times, one_allowed}

items_keep : (s : SchemaSet) (forest : Forest) (t : SequenceType) (xs : Items) → IsHonest s forest → Belongs s forest xs t → Keeps (typed_setting s) forest t (gives xs forest)
items_keep s forest t xs honest b = fact_at_once (typed_setting s) forest (IsOfType s t) xs honest b

given_keeps : {A : Type 0} (s : SchemaSet) (forest : Forest) (t : SequenceType) (o : Option A) (found : A) (next : A → Outcome Items) → o ≡ Some found → Keeps (typed_setting s) forest t (next found)
    → Keeps (typed_setting s) forest t (given o next)
given_keeps s forest t o found next e h = subst (λ o. Keeps (typed_setting s) forest t (given o next)) (sym e) h

-- ---- items at positions

-- items of a type, and no more than there were
record AreSome (s : SchemaSet) (forest : Forest) (t : SequenceType) (xs ys : Items) : Type 0 where
  each : EachBelongs s forest t ys
  fewer : length ys ≤ length xs

first_too : (s : SchemaSet) (forest : Forest) (t : SequenceType) (x : Item) (xs ys : Items) → Belongs s forest (x ∷ []) t → AreSome s forest t xs ys → AreSome s forest t (x ∷ xs) (x ∷ ys)
first_too s forest t x xs ys b k = record { each = (b, k.each); fewer = omega (arith, k.fewer) }

without_first : (s : SchemaSet) (forest : Forest) (t : SequenceType) (x : Item) (xs ys : Items) → AreSome s forest t xs ys → AreSome s forest t (x ∷ xs) ys
without_first s forest t x xs ys k = record { each = k.each; fewer = omega (arith, k.fewer) }

some_within : (s : SchemaSet) (forest : Forest) (t : SequenceType) (least : ℤ) (limit : Option ℤ) (position : ℤ) (xs : Items) → EachBelongs s forest t xs → AreSome s forest t xs (within_positions least limit position xs)
some_within s forest t least limit position [] h = record { each = tt; fewer = omega arith }
some_within s forest t least limit position (x ∷ xs) h =
    let rest = some_within s forest t least limit (position +ℤ pos 1) xs h.1 in
    elim (stands_within least limit position) as (λ (within : Bool). AreSome s forest t (x ∷ xs)
    (if within then x ∷ within_positions least limit (position +ℤ pos 1) xs else within_positions least limit (position +ℤ pos 1) xs)) [
      | true ↦ first_too s forest t x xs (within_positions least limit (position +ℤ pos 1) xs) h.0 rest
      | false ↦ without_first s forest t x xs (within_positions least limit (position +ℤ pos 1) xs) rest
    ]

all_are_some : (s : SchemaSet) (forest : Forest) (t : SequenceType) (xs : Items) → EachBelongs s forest t xs → AreSome s forest t xs xs
all_are_some s forest t xs h = record { each = h; fewer = omega arith }

some_but : (s : SchemaSet) (forest : Forest) (t : SequenceType) (removed position : ℤ) (xs : Items) → EachBelongs s forest t xs → AreSome s forest t xs (all_but removed position xs)
some_but s forest t removed position [] h = record { each = tt; fewer = omega arith }
some_but s forest t removed position (x ∷ xs) h =
    let rest = some_but s forest t removed (position +ℤ pos 1) xs h.1 in
    elim (is_position removed position) as (λ (here : Bool). AreSome s forest t (x ∷ xs) (if here then xs else x ∷ all_but removed (position +ℤ pos 1) xs)) [
      | true ↦ without_first s forest t x xs xs (all_are_some s forest t xs h.1)
      | false ↦ first_too s forest t x xs (all_but removed (position +ℤ pos 1) xs) h.0 rest
    ]

some_belong : (s : SchemaSet) (forest : Forest) (u : SequenceType) (xs ys : Items) → Belongs s forest xs u → AreSome s forest (prime_of u) xs ys → Belongs s forest ys (some_of_type u)
some_belong s forest u xs ys b k =
    let w = belongs_within s forest u xs b in
    each_belongs_times s forest (prime_of u) (occurs 0 (occurrence_of u).greatest) ys k.each
    (record { least = omega arith; greatest = λ g. omega (arith, w.greatest g, k.fewer) })

-- some items before others
each_front : (s : SchemaSet) (forest : Forest) (t : SequenceType) (xs ys : Items) → EachBelongs s forest t (xs ++ ys) → EachBelongs s forest t xs
each_front s forest t [] ys h = tt
each_front s forest t (x ∷ xs) ys h = (h.0, each_front s forest t xs ys h.1)

each_rest : (s : SchemaSet) (forest : Forest) (t : SequenceType) (xs ys : Items) → EachBelongs s forest t (xs ++ ys) → EachBelongs s forest t ys
each_rest s forest t [] ys h = h
each_rest s forest t (x ∷ xs) ys h = each_rest s forest t xs ys h.1

each_both : (s : SchemaSet) (forest : Forest) (t : SequenceType) (xs ys : Items) → EachBelongs s forest t xs → EachBelongs s forest t ys → EachBelongs s forest t (xs ++ ys)
each_both s forest t [] ys h k = k
each_both s forest t (x ∷ xs) ys h k = (h.0, each_both s forest t xs ys h.1 k)

-- items of a type, as many as there are of two lists
record AreBoth (s : SchemaSet) (forest : Forest) (t : SequenceType) (xs ys zs : Items) : Type 0 where
  each : EachBelongs s forest t zs
  count : length zs ≡ length xs + length ys

both_before : (s : SchemaSet) (forest : Forest) (t : SequenceType) (next position : ℤ) (others xs : Items) → EachBelongs s forest t others → EachBelongs s forest t xs
    → AreBoth s forest t xs others (with_before next position others xs)
both_before s forest t next position others [] h k = record { each = h; count = omega arith }
both_before s forest t next position others (x ∷ xs) h k =
    let rest = both_before s forest t next (position +ℤ pos 1) others xs h k.1 in
    elim (int_le next position) as (λ (here : Bool). AreBoth s forest t (x ∷ xs) others (if here then others ++ x ∷ xs else x ∷ with_before next (position +ℤ pos 1) others xs)) [
      | true ↦ record { each = each_both s forest t others (x ∷ xs) h k; count = omega (arith, length-append others (x ∷ xs)) }
      | false ↦ record { each = (k.0, rest.each); count = omega (arith, rest.count) }
    ]

inserted_belong : (s : SchemaSet) (forest : Forest) (u v : SequenceType) (position : ℤ) (xs ys : Items) → Belongs s forest xs u → Belongs s forest ys v
    → Belongs s forest (inserted_before position ys xs) (as_often (sequence_of u v))
inserted_belong s forest u v position xs ys b c =
    let t : SequenceType = sequence_of u v in
    let whole = joined_belongs s forest u v xs ys b c in
    let each = items_belong s forest t (xs ++ ys) whole in
    let all = both_before s forest (prime_of t) position (pos 1) ys xs (each_rest s forest (prime_of t) xs ys each) (each_front s forest (prime_of t) xs ys each) in
    let w = belongs_within s forest t (xs ++ ys) whole in
    let count = length-append xs ys in
    each_belongs_times s forest (prime_of t) (occurrence_of t) (inserted_before position ys xs) all.each
    (record { least = omega (arith, w.least, all.count, count); greatest = λ g. omega (arith, w.greatest g, all.count, count) })

reversed_belong : (s : SchemaSet) (forest : Forest) (u : SequenceType) (xs : Items) → Belongs s forest xs u → Belongs s forest (reverse xs) (as_often u)
reversed_belong s forest u xs b =
    let w = belongs_within s forest u xs b in
    let count = length-reverse xs in
    each_belongs_times s forest (prime_of u) (occurrence_of u) (reverse xs) (each_turned s forest (prime_of u) xs [] (items_belong s forest u xs b) tt)
    (record { least = omega (arith, w.least, count); greatest = λ g. omega (arith, w.greatest g, count) })

-- ---- how many items there are

at_most_one_keeps : (s : SchemaSet) (forest : Forest) (u : SequenceType) (xs : Items) → IsHonest s forest → Belongs s forest xs u → Keeps (typed_setting s) forest (one_of_type true u) (at_most_one_item xs forest)
at_most_one_keeps s forest u [] honest b =
    items_keep s forest (one_of_type true u) [] honest (picked_belongs s forest u true [] [] (belongs_within s forest u [] b) (record { each = tt; one = omega arith; fewer = omega arith }) (λ _ h. h))
at_most_one_keeps s forest u (x ∷ []) honest b =
    items_keep s forest (one_of_type true u) (x ∷ []) honest
    (picked_belongs s forest u true (x ∷ []) (x ∷ []) (belongs_within s forest u (x ∷ []) b) (record { each = items_belong s forest u (x ∷ []) b; one = omega arith; fewer = omega arith }) (λ _ h. h))
at_most_one_keeps s forest u (x ∷ y ∷ xs) honest b = tt

at_least_one_keeps : (s : SchemaSet) (forest : Forest) (u : SequenceType) (xs : Items) → IsHonest s forest → Belongs s forest xs u → Keeps (typed_setting s) forest (at_least_one_of u) (at_least_one_item xs forest)
at_least_one_keeps s forest u [] honest b = tt
at_least_one_keeps s forest u (x ∷ xs) honest b =
    let w = belongs_within s forest u (x ∷ xs) b in
    let greatest : ℕ = (occurrence_of u).greatest in
    items_keep s forest (at_least_one_of u) (x ∷ xs) honest
    (each_belongs_times s forest (prime_of u) (occurs 1 (max 1 greatest)) (x ∷ xs) (items_belong s forest u (x ∷ xs) b)
    (record { least = omega arith; greatest = λ g. let small : greatest < 2 = omega (arith, g) in omega (arith, w.greatest small) }))

only_one_keeps : (s : SchemaSet) (forest : Forest) (u : SequenceType) (xs : Items) → IsHonest s forest → Belongs s forest xs u → Keeps (typed_setting s) forest (prime_of u) (only_item xs forest)
only_one_keeps s forest u [] honest b = tt
only_one_keeps s forest u (x ∷ []) honest b = items_keep s forest (prime_of u) (x ∷ []) honest (items_belong s forest u (x ∷ []) b).0
only_one_keeps s forest u (x ∷ y ∷ xs) honest b = tt

-- ---- names and roots

name_keeps : (s : SchemaSet) → IsSchemaSet s → (made : Name → List ℕ) (forest : Forest) (u : SequenceType) (xs : Items) → IsHonest s forest → is_included s u optional_node ≡ true → Belongs s forest xs u
    → Keeps (typed_setting s) forest (atomic Str) (given (name_of_items made forest xs) (λ t. gives (string_item t) forest))
name_keeps s is made forest u xs honest e b =
    let t = name_there made forest xs (few_nodes s is forest xs u honest e b) in
    given_keeps s forest (atomic Str) (name_of_items made forest xs) t.0 (λ t. gives (string_item t) forest) t.1
    (items_keep s forest (atomic Str) (string_item t.0) honest (one_atom_belongs s forest (names.Builtin Str) (string_atom t.0) (0, refl) (0, refl)))

root_keeps : (s : SchemaSet) → IsSchemaSet s → (forest : Forest) (u : SequenceType) (xs : Items) → IsHonest s forest → is_included s u optional_node ≡ true → Belongs s forest xs u
    → Keeps (typed_setting s) forest (as_optional u node_type) (given (roots_of_items forest xs) (λ roots. gives roots forest))
root_keeps s is forest u xs honest e b = by_nodes xs (few_nodes s is forest xs u honest e b) (belongs_within s forest u xs b)
  where
    by_nodes : (ys : Items) → FewNodes forest ys → Allows (occurrence_of u) (length ys) → Keeps (typed_setting s) forest (as_optional u node_type) (given (roots_of_items forest ys) (λ roots. gives roots forest))
    by_nodes ys no_node w =
        items_keep s forest (as_optional u node_type) [] honest
        (nothing_belongs s forest node_type (occurs (occurrence_of u).least 1) (record { least = w.least; greatest = λ g. omega arith }))
    by_nodes ys (one_node place t f) w =
        given_keeps s forest (as_optional u node_type) (roots_of_items forest (node place ∷ [])) (node (root_of place) ∷ []) (λ roots. gives roots forest) (roots_there forest place t f)
        (items_keep s forest (as_optional u node_type) (node (root_of place) ∷ []) honest
        (one_belongs s forest node_type (occurs (occurrence_of u).least 1) (node (root_of place)) (one_allowed u) (root_belongs s is forest place t honest f)))

-- ---- one number

number_there : (s : SchemaSet) (forest : Forest) (v : SequenceType) (ys : Items) → (is_at_least_one v && is_at_most_one v && is_all_in s Decimal v) ≡ true → Belongs s forest ys v → (n : Number) × (number_of_items ys ≡ Some n)
number_there s forest v ys e b =
    let both = and_parts (is_at_least_one v && is_at_most_one v) (is_all_in s Decimal v) e in
    let one = and_parts (is_at_least_one v) (is_at_most_one v) both.0 in
    let x = one_item s forest v ys one.0 one.1 b in
    subst (λ (zs : Items). (n : Number) × (number_of_items zs ≡ Some n)) (sym x.1) (item_is_number s x.0 (the_item (IsAtomIn s Decimal) ys x.0 x.1 (items_are_in s forest Decimal ys v both.1 b)))

integer_there : (s : SchemaSet) (forest : Forest) (v : SequenceType) (ys : Items) → (is_at_least_one v && is_at_most_one v && is_all_in s Integer v) ≡ true → Belongs s forest ys v → (i : ℤ) × (integer_of_items ys ≡ Some i)
integer_there s forest v ys e b =
    let both = and_parts (is_at_least_one v && is_at_most_one v) (is_all_in s Integer v) e in
    let one = and_parts (is_at_least_one v) (is_at_most_one v) both.0 in
    let x = one_item s forest v ys one.0 one.1 b in
    subst (λ (zs : Items). (i : ℤ) × (integer_of_items zs ≡ Some i)) (sym x.1) (integer_of s x.0 (the_item (IsAtomIn s Integer) ys x.0 x.1 (items_are_in s forest Integer ys v both.1 b)))

-- ---- arguments

-- each argument is of the type that its parameter sees
abbrev AreGiven : (s : SchemaSet) (ps : List Parameter) (arguments : List SequenceType) → AreTaken s ps arguments → Forest → List Items → Type 0
AreGiven s [] [] taken forest [] = Unit {0}
AreGiven s (p ∷ ps) (a ∷ arguments) taken forest (xs ∷ others) = Belongs s forest xs taken.0.seen × AreGiven s ps arguments taken.1 forest others
AreGiven s _ _ taken forest _ = ⊥

arguments_keep : (s : SchemaSet) → IsSchemaSet s → (ps : List Parameter) (arguments : List SequenceType) (taken : AreTaken s ps arguments) (xss : List Items) (before forest : Forest) → Extends before forest
    → IsHonest s forest → AreOfTypes s arguments before xss → KeepsFact (typed_setting s) forest (AreGiven s ps arguments taken) (arguments_by s ps xss forest)
arguments_keep s is [] [] taken [] before forest grown honest b = fact_at_once (typed_setting s) forest (AreGiven s [] [] taken) [] honest tt
arguments_keep s is [] [] taken (xs ∷ xss) before forest grown honest b = absurd b
arguments_keep s is [] (a ∷ arguments) taken xss before forest grown honest b = absurd taken
arguments_keep s is (p ∷ ps) [] taken xss before forest grown honest b = absurd taken
arguments_keep s is (p ∷ ps) (a ∷ arguments) taken [] before forest grown honest b = absurd b
arguments_keep s is (p ∷ ps) (a ∷ arguments) taken (xs ∷ xss) before forest grown honest b =
    let u : SequenceType = taken.0.seen in
    fact_after (typed_setting s) forest (IsOfType s u) (AreGiven s (p ∷ ps) (a ∷ arguments) taken) (argument_by (conversion_of p.takes) s xs forest)
    (λ ys left. after (arguments_by s ps xss left) (λ others last. gives (ys ∷ others) last))
    (argument_keeps s is (conversion_of p.takes) a u forest xs honest taken.0.as_seen (values_stay s before forest xs a grown b.0))
    (λ ys left more still one. fact_after (typed_setting s) left (AreGiven s ps arguments taken.1) (AreGiven s (p ∷ ps) (a ∷ arguments) taken) (arguments_by s ps xss left) (λ others last. gives (ys ∷ others) last)
    (arguments_keep s is ps arguments taken.1 xss before left (growth_is_an_order.transitive before forest left grown more) still b.1)
    (λ others last further again rest. fact_at_once (typed_setting s) last (AreGiven s (p ∷ ps) (a ∷ arguments) taken) (ys ∷ others) again (values_stay s left last ys u further one, rest)))

-- what a function answers of arguments that its parameters take
abbrev AnswerKeeps : SchemaSet → Forest → ItemFunction → List Parameter → List SequenceType → List Items → Type 0
AnswerKeeps s forest function ps arguments lists = Keeps (typed_setting s) forest (item_call_type s function ps arguments) (item_answer function lists forest)

of_one : (s : SchemaSet) (function : ItemFunction) (p : Parameter) (arguments : List SequenceType) (taken : AreTaken s (p ∷ []) arguments) (forest : Forest) (lists : List Items)
    → ((u : SequenceType) (xs : Items) → takes_argument s p.takes u ≡ true → Belongs s forest xs u → Keeps (typed_setting s) forest (item_answer_type function u never) (item_answer function (xs ∷ []) forest))
    → AreGiven s (p ∷ []) arguments taken forest lists → AnswerKeeps s forest function (p ∷ []) arguments lists
of_one s function p [] taken forest lists answer h = absurd taken
of_one s function p (a ∷ b ∷ arguments) taken forest lists answer h = absurd taken.1
of_one s function p (a ∷ []) taken forest [] answer h = absurd h
of_one s function p (a ∷ []) taken forest (xs ∷ ys ∷ lists) answer h = absurd h.1
of_one s function p (a ∷ []) taken forest (xs ∷ []) answer h =
    subst (λ (u : SequenceType). Keeps (typed_setting s) forest (item_answer_type function u never) (item_answer function (xs ∷ []) forest)) (sym (ap type_ruled taken.0.as_seen))
    (answer taken.0.seen xs taken.0.taken h.0)

of_two : (s : SchemaSet) (function : ItemFunction) (p q : Parameter) (arguments : List SequenceType) (taken : AreTaken s (p ∷ q ∷ []) arguments) (forest : Forest) (lists : List Items)
    → ((u v : SequenceType) (xs ys : Items) → takes_argument s p.takes u ≡ true → takes_argument s q.takes v ≡ true → Belongs s forest xs u → Belongs s forest ys v
    → Keeps (typed_setting s) forest (item_answer_type function u never) (item_answer function (xs ∷ ys ∷ []) forest))
    → AreGiven s (p ∷ q ∷ []) arguments taken forest lists → AnswerKeeps s forest function (p ∷ q ∷ []) arguments lists
of_two s function p q [] taken forest lists answer h = absurd taken
of_two s function p q (a ∷ []) taken forest lists answer h = absurd taken.1
of_two s function p q (a ∷ b ∷ c ∷ arguments) taken forest lists answer h = absurd taken.1.1
of_two s function p q (a ∷ b ∷ []) taken forest [] answer h = absurd h
of_two s function p q (a ∷ b ∷ []) taken forest (xs ∷ []) answer h = absurd h.1
of_two s function p q (a ∷ b ∷ []) taken forest (xs ∷ ys ∷ zs ∷ lists) answer h = absurd h.1.1
of_two s function p q (a ∷ b ∷ []) taken forest (xs ∷ ys ∷ []) answer h =
    subst (λ (u : SequenceType). Keeps (typed_setting s) forest (item_answer_type function u never) (item_answer function (xs ∷ ys ∷ []) forest)) (sym (ap type_ruled taken.0.as_seen))
    (answer taken.0.seen taken.1.0.seen xs ys taken.0.taken taken.1.0.taken h.0 h.1.0)

of_three : (s : SchemaSet) (function : ItemFunction) (p q r : Parameter) (arguments : List SequenceType) (taken : AreTaken s (p ∷ q ∷ r ∷ []) arguments) (forest : Forest) (lists : List Items)
    → ((u v w : SequenceType) (xs ys zs : Items) → takes_argument s p.takes u ≡ true → takes_argument s q.takes v ≡ true → takes_argument s r.takes w ≡ true
    → Belongs s forest xs u → Belongs s forest ys v → Belongs s forest zs w → Keeps (typed_setting s) forest (item_answer_type function u w) (item_answer function (xs ∷ ys ∷ zs ∷ []) forest))
    → AreGiven s (p ∷ q ∷ r ∷ []) arguments taken forest lists → AnswerKeeps s forest function (p ∷ q ∷ r ∷ []) arguments lists
of_three s function p q r [] taken forest lists answer h = absurd taken
of_three s function p q r (a ∷ []) taken forest lists answer h = absurd taken.1
of_three s function p q r (a ∷ b ∷ []) taken forest lists answer h = absurd taken.1.1
of_three s function p q r (a ∷ b ∷ c ∷ d ∷ arguments) taken forest lists answer h = absurd taken.1.1.1
of_three s function p q r (a ∷ b ∷ c ∷ []) taken forest [] answer h = absurd h
of_three s function p q r (a ∷ b ∷ c ∷ []) taken forest (xs ∷ []) answer h = absurd h.1
of_three s function p q r (a ∷ b ∷ c ∷ []) taken forest (xs ∷ ys ∷ []) answer h = absurd h.1.1
of_three s function p q r (a ∷ b ∷ c ∷ []) taken forest (xs ∷ ys ∷ zs ∷ others ∷ lists) answer h = absurd h.1.1.1
of_three s function p q r (a ∷ b ∷ c ∷ []) taken forest (xs ∷ ys ∷ zs ∷ []) answer h =
    subst (λ (u : SequenceType). Keeps (typed_setting s) forest (item_answer_type function u (type_ruled (seen_argument s r.takes c))) (item_answer function (xs ∷ ys ∷ zs ∷ []) forest))
    (sym (ap type_ruled taken.0.as_seen))
    (subst (λ (w : SequenceType). Keeps (typed_setting s) forest (item_answer_type function taken.0.seen w) (item_answer function (xs ∷ ys ∷ zs ∷ []) forest)) (sym (ap type_ruled taken.1.1.0.as_seen))
    (answer taken.0.seen taken.1.0.seen taken.1.1.0.seen xs ys zs taken.0.taken taken.1.0.taken taken.1.1.0.taken h.0 h.1.0 h.1.1.0))

-- ---- each function

answer_keeps : (s : SchemaSet) → IsSchemaSet s → (function : ItemFunction) (arguments : List SequenceType) (taken : AreTaken s (item_parameters_of function) arguments) (forest : Forest) (lists : List Items) → IsHonest s forest
    → AreGiven s (item_parameters_of function) arguments taken forest lists → AnswerKeeps s forest function (item_parameters_of function) arguments lists
answer_keeps s is functions.Name arguments taken forest lists honest h =
    of_one s functions.Name node_at_most arguments taken forest lists (λ u xs e b. name_keeps s is lexical_name forest u xs honest e b) h
answer_keeps s is functions.LocalName arguments taken forest lists honest h =
    of_one s functions.LocalName node_at_most arguments taken forest lists (λ u xs e b. name_keeps s is (λ name. name.local) forest u xs honest e b) h
answer_keeps s is functions.Root arguments taken forest lists honest h =
    of_one s functions.Root node_at_most arguments taken forest lists (λ u xs e b. root_keeps s is forest u xs honest e b) h
answer_keeps s is functions.Reverse arguments taken forest lists honest h =
    of_one s functions.Reverse any_items arguments taken forest lists (λ u xs e b. items_keep s forest (as_often u) (reverse xs) honest (reversed_belong s forest u xs b)) h
answer_keeps s is functions.SubsequenceFrom arguments taken forest lists honest h =
    of_two s functions.SubsequenceFrom any_items one_number arguments taken forest lists
    (λ u v xs ys e f b c. let n = number_there s forest v ys f c in
    given_keeps s forest (some_of_type u) (number_of_items ys) n.0 (λ start. gives (from_position start xs) forest) n.1
    (items_keep s forest (some_of_type u) (from_position n.0 xs) honest (some_belong s forest u xs (from_position n.0 xs) b (some_within s forest (prime_of u) (nearest_whole n.0) None (pos 1) xs (items_belong s forest u xs b))))) h
answer_keeps s is functions.Subsequence arguments taken forest lists honest h =
    of_three s functions.Subsequence any_items one_number one_number arguments taken forest lists
    (λ u v w xs ys zs e f g b c d. let start = number_there s forest v ys f c in let count = number_there s forest w zs g d in
    given_keeps s forest (some_of_type u) (number_of_items ys) start.0 (λ start. given (number_of_items zs) (λ count. gives (so_many_from start count xs) forest)) start.1
    (given_keeps s forest (some_of_type u) (number_of_items zs) count.0 (λ count. gives (so_many_from start.0 count xs) forest) count.1
    (items_keep s forest (some_of_type u) (so_many_from start.0 count.0 xs) honest
    (some_belong s forest u xs (so_many_from start.0 count.0 xs) b (some_within s forest (prime_of u) (nearest_whole start.0) (Some (nearest_whole start.0 +ℤ nearest_whole count.0)) (pos 1) xs (items_belong s forest u xs b)))))) h
answer_keeps s is functions.Remove arguments taken forest lists honest h =
    of_two s functions.Remove any_items one_integer arguments taken forest lists
    (λ u v xs ys e f b c. let i = integer_there s forest v ys f c in
    given_keeps s forest (some_of_type u) (integer_of_items ys) i.0 (λ position. gives (without_position position xs) forest) i.1
    (items_keep s forest (some_of_type u) (without_position i.0 xs) honest (some_belong s forest u xs (without_position i.0 xs) b (some_but s forest (prime_of u) i.0 (pos 1) xs (items_belong s forest u xs b))))) h
answer_keeps s is functions.InsertBefore arguments taken forest lists honest h =
    of_three s functions.InsertBefore any_items one_integer any_items arguments taken forest lists
    (λ u v w xs ys zs e f g b c d. let i = integer_there s forest v ys f c in
    given_keeps s forest (as_often (sequence_of u w)) (integer_of_items ys) i.0 (λ position. gives (inserted_before position zs xs) forest) i.1
    (items_keep s forest (as_often (sequence_of u w)) (inserted_before i.0 zs xs) honest (inserted_belong s forest u w i.0 xs zs b d))) h
answer_keeps s is functions.ZeroOrOne arguments taken forest lists honest h =
    of_one s functions.ZeroOrOne any_items arguments taken forest lists (λ u xs e b. at_most_one_keeps s forest u xs honest b) h
answer_keeps s is functions.OneOrMore arguments taken forest lists honest h =
    of_one s functions.OneOrMore any_items arguments taken forest lists (λ u xs e b. at_least_one_keeps s forest u xs honest b) h
answer_keeps s is functions.ExactlyOne arguments taken forest lists honest h =
    of_one s functions.ExactlyOne any_items arguments taken forest lists (λ u xs e b. only_one_keeps s forest u xs honest b) h
answer_keeps s is functions.DeepEqual arguments taken forest lists honest h =
    of_two s functions.DeepEqual any_items any_items arguments taken forest lists (λ u v xs ys e f b c. truth_keeps s forest (are_deep_equal forest xs ys) honest) h
answer_keeps s is functions.Error [] taken forest [] honest h = tt
answer_keeps s is functions.Error [] taken forest (xs ∷ lists) honest h = absurd h
answer_keeps s is functions.Error (a ∷ arguments) taken forest lists honest h = absurd taken

-- ---- the law

pub item_call_keeps : (s : SchemaSet) → IsSchemaSet s → (forest : Forest) (function : ItemFunction) (arguments : List SequenceType) (taken : AreTaken s (item_parameters_of function) arguments) (xss : List Items) → IsHonest s forest
    → AreOfTypes s arguments forest xss → Keeps (typed_setting s) forest (item_call_type s function (item_parameters_of function) arguments) (item_called s function xss forest)
item_call_keeps s is forest function arguments taken xss honest b =
    let ps : List Parameter = item_parameters_of function in
    let t : SequenceType = item_call_type s function ps arguments in
    fact_after (typed_setting s) forest (AreGiven s ps arguments taken) (IsOfType s t) (arguments_by s ps xss forest) (λ lists left. item_answer function lists left)
    (arguments_keep s is ps arguments taken xss forest forest (growth_is_an_order.reflexive forest) honest b)
    (λ lists left grown still seen. answer_keeps s is function arguments taken left lists still seen)
