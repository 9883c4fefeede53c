-- Combinations of sequences of nodes keep their types.
use Rattle.std.proofs.Common.{◌≡◌, Bool, true, false, ◌&&◌, ◌||◌, not, List, [], ◌∷◌, ◌++◌, map, filter, cond, length, refl, sym, ◌∙◌, ap, subst, arith, if◌then◌else◌}
use Rattle.std.specs.List.{list_all, list_any}
use Rattle.std.proofs.lemmas.Bool.{and_parts}
use Rattle.gx_types.specs.SchemaSet.{SchemaSet}
use Rattle.gx_types.specs.Occurrence.{occurrence_of, occurs}
use Rattle.gx_types.specs.SequenceType.{SequenceType}
use Rattle.gx_types.specs.Prime.{prime_of}
use Rattle.gx_types.specs.TypeRules.{sequence_of, times_of}
use Rattle.gx_types.specs.Takes.{all_joined}
use Rattle.gx_model.specs.Forest.{Forest, PlainNode}
use Rattle.gx_model.specs.Item.{atom, node, Items}
use Rattle.gx_model.specs.Belongs.{Belongs}
use Rattle.gx_model.specs.DocumentOrder.{nodes_from, same_node, in_document_order}
use Rattle.gx_include.specs.Decision.{is_included}
use Rattle.gx_core.specs.declared.expression.BinaryClass.TheVariants as classes
use Rattle.gx_core.specs.declared.expression.NodeCombination.{NodeCombination}
use Rattle.gx_core.specs.declared.expression.NodeCombination.TheVariants as combinations
use Rattle.gx_core.specs.Outcome.{gives, wrong}
use Rattle.gx_core.specs.Paths.{is_node, places_of}
use Rattle.gx_core.specs.CombiningNodes.{combined}
use Rattle.gx_core.specs.Soundness.{typed_setting, Keeps}
use Rattle.gx_static.specs.Rule.{nodes_type, set_type}
use Rattle.gx_static.specs.Laws.{NodeSetKeepsType}
use Rattle.gx_static.proofs.ItemLemmas.{EachItem, IsNode, belongs_within}
use Rattle.gx_static.proofs.Keeping.{type_so, pair_keeps, value_keeps, joined_belongs}
use Rattle.gx_static.proofs.Loops.{items_belong, joined_belongs_times}
use Rattle.gx_static.proofs.Orders.{count, fewer_pass, ordered_count, among_belongs, kept_lists, in_order_belongs}
use Rattle.gx_static.proofs.Paths.{nodes_in_type, all_are_nodes}

-- ---- nodes of both operands

each_joined : (xs ys : Items) → EachItem IsNode xs → EachItem IsNode ys → EachItem IsNode (xs ++ ys)
each_joined [] ys h k = k
each_joined (x ∷ xs) ys h k = (h.0, each_joined xs ys h.1 k)

places_joined : (xs ys : Items) → places_of (xs ++ ys) ≡ places_of xs ++ places_of ys
places_joined [] ys = refl
places_joined (node place ∷ xs) ys = ap (λ (places : List PlainNode). place ∷ places) (places_joined xs ys)
places_joined (atom a ∷ xs) ys = places_joined xs ys

both_belong : (s : SchemaSet) (forest : Forest) (t u : SequenceType) (xs ys : Items) → EachItem IsNode xs → EachItem IsNode ys → Belongs s forest xs t → Belongs s forest ys u
    → Belongs s forest (map node (in_document_order forest (places_of xs ++ places_of ys))) (times_of (prime_of (sequence_of t u)) (occurrence_of (sequence_of t u)))
both_belong s forest t u xs ys h k b c =
    subst (λ (places : List PlainNode). Belongs s forest (map node (in_document_order forest places)) (times_of (prime_of (sequence_of t u)) (occurrence_of (sequence_of t u)))) (places_joined xs ys)
    (in_order_belongs s forest (sequence_of t u) (xs ++ ys) (each_joined xs ys h k) (joined_belongs s forest t u xs ys b c))

-- ---- nodes of one operand

-- what is among those that pass is among all
among_if : (n p : PlainNode) (test : PlainNode → Bool) (places : List PlainNode) (b : Bool) → (list_any (same_node n) (filter test places) ≡ true → list_any (same_node n) places ≡ true)
    → list_any (same_node n) (cond b (p ∷ filter test places) (filter test places)) ≡ true → (same_node n p || list_any (same_node n) places) ≡ true
among_if n p test places true h e = same_or (same_node n p) e
  where
    same_or : (c : Bool) → (c || list_any (same_node n) (filter test places)) ≡ true → (c || list_any (same_node n) places) ≡ true
    same_or true f = refl
    same_or false f = h f
among_if n p test places false h e = or_else (same_node n p)
  where
    or_else : (c : Bool) → (c || list_any (same_node n) places) ≡ true
    or_else true = refl
    or_else false = h e

among_all : (n : PlainNode) (test : PlainNode → Bool) (places : List PlainNode) → list_any (same_node n) (filter test places) ≡ true → list_any (same_node n) places ≡ true
among_all n test [] e = e
among_all n test (p ∷ places) e = among_if n p test places (test p) (among_all n test places) e

some_belong : (s : SchemaSet) (forest : Forest) (t : SequenceType) (xs : Items) (test : PlainNode → Bool) → EachItem IsNode xs → Belongs s forest xs t
    → Belongs s forest (map node (in_document_order forest (filter test (places_of xs)))) (times_of (prime_of t) (occurs 0 (occurrence_of t).greatest))
some_belong s forest t xs test nodes b =
    let places : List PlainNode = filter test (places_of xs) in
    let r = kept_lists s forest (prime_of t) (λ n. list_any (same_node n) places) (λ n e. among_belongs s forest (prime_of t) n xs (items_belong s forest t xs b) (among_all n test (places_of xs) e)) (nodes_from 0 forest) in
    let all = ordered_count s forest t xs b.seen nodes b.shaped (belongs_within s forest t xs b) in
    let fewer = fewer_pass (λ n. list_any (same_node n) places) (λ n. list_any (same_node n) (places_of xs)) (λ n e. among_all n test (places_of xs) e) (nodes_from 0 forest) in
    joined_belongs_times s forest (prime_of t) (occurs 0 (occurrence_of t).greatest) (length (in_document_order forest places)) (map node (in_document_order forest places)) (all_joined r.parts)
    (record { least = omega arith; greatest = λ g. omega (arith, all.greatest g, fewer) }) r.shaped (record { parts = r.parts; joined = refl; each = r.each; count = r.counted })

-- ---- the law

combined_belong : (s : SchemaSet) (forest : Forest) (op : NodeCombination) (t u : SequenceType) (xs ys : Items) → EachItem IsNode xs → EachItem IsNode ys → Belongs s forest xs t → Belongs s forest ys u
    → Belongs s forest (map node (in_document_order forest (combined op (places_of xs) (places_of ys)))) (set_type op t u)
combined_belong s forest combinations.Union t u xs ys h k b c = both_belong s forest t u xs ys h k b c
combined_belong s forest combinations.Intersect t u xs ys h k b c = some_belong s forest t xs (λ n. list_any (same_node n) (places_of ys)) h b
combined_belong s forest combinations.Except t u xs ys h k b c = some_belong s forest t xs (λ n. not (list_any (same_node n) (places_of ys))) h b

both_are_nodes : (xs ys : Items) → EachItem IsNode xs → EachItem IsNode ys → (list_all is_node xs && list_all is_node ys) ≡ true
both_are_nodes xs ys h k = ap (λ (b : Bool). b && list_all is_node ys) (all_are_nodes xs h) ∙ all_are_nodes ys k

pub node_set_keeps : NodeSetKeepsType
node_set_keeps op s operator g class = pair_keeps s operator (classes.Combination op) class (λ a b t forest xs ys e honest h k.
    let r = type_so (is_included s a nodes_type && is_included s b nodes_type) (set_type op a b) t e in
    let both = and_parts (is_included s a nodes_type) (is_included s b nodes_type) r.0 in
    let p = nodes_in_type s forest xs a g honest both.0 h in
    let q = nodes_in_type s forest ys b g honest both.1 k in
    let found : Items = map node (in_document_order forest (combined op (places_of xs) (places_of ys))) in
    subst (λ (c : Bool). Keeps (typed_setting s) forest t (if c then gives found forest else wrong)) (sym (both_are_nodes xs ys p q))
    (value_keeps s (set_type op a b) t forest found r.1 honest (combined_belong s forest op a b xs ys p q h k)))
