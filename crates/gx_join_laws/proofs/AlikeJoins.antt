-- What an expression comes to with hash joins looks at no variable that it does not name.
use Rattle.std.proofs.Common.{◌≡◌, inr, ℕ, zero, true, Option, None, Some, List, [], ◌∷◌, ◌++◌, refl, slice_get}
use Rattle.std.proofs.lemmas.Bool.{or_left, or_right}
use Rattle.gx_atomic.specs.declared.join_key.JoinKey.{JoinKey}
use Rattle.gx_model.specs.Forest.{Forest}
use Rattle.gx_model.specs.Item.{Item, Items}
use Rattle.gx_core.specs.declared.expression.BinaryOp.TheVariants as binary
use Rattle.gx_core.specs.declared.operator.Operator.{Operator}
use Rattle.gx_core.specs.declared.operator.Operator.TheVariants as operators
use Rattle.gx_core.specs.Expression.{At, Parts, no_parts, a_part}
use Rattle.gx_core.specs.FreeVariables.{names_variable}
use Rattle.gx_core.specs.Outcome.{Outcome, after, given}
use Rattle.gx_core.specs.Meaning.{Context, Bindings, Denotation, denoted}
use Rattle.gx_join_table.specs.Joining.{rows_with_a_key}
use Rattle.gx_plan.specs.declared.plan.Carried.{Carried}
use Rattle.gx_plan.specs.declared.plan.Role.{Role}
use Rattle.gx_plan.specs.declared.plan.Role.TheVariants as roles
use Rattle.gx_plan.specs.Plan.{PlanExpression}
use Rattle.gx_plan.specs.TypeErrors.{IsSameUnlessWrong}
use Rattle.gx_plan.proofs.UnlessWrong.{unless_after}
use Rattle.gx_rules.specs.Guards.{is_named_in, is_named_in_parts}
use Rattle.gx_joins.specs.HashJoin.{JoinParts, keys_of_items, table_of, for_rows, for_pairs, left_key_at, right_key_at, result_at, joined_with, joined_over, hash_join}
use Rattle.gx_joins.specs.JoinedMeaning.{if_join, as_joined, joined_meaning, joined_meanings, outer_loop, inner_loop, pairs_tested, keys_compared}
use Rattle.gx_join_laws.proofs.AlikeOperators.{unless_given, IsAlike, AreAlike, IsBoundAlike, alike_behind, operator_alike}

-- ---- hash joins

abbrev AreSame : (one other : Item → Forest → Outcome Items) → Type 0
AreSame one other = (x : Item) (now : Forest) → IsSameUnlessWrong (one x now) (other x now)

table_same : (key other : Item → Forest → Outcome Items) → AreSame key other → (table : List (List JoinKey)) (ys : Items) (forest : Forest)
    → IsSameUnlessWrong (table_of key table ys forest) (table_of other table ys forest)
table_same key other h table [] forest = inr refl
table_same key other h table (y ∷ ys) forest =
    unless_after (key y forest) (other y forest) (λ found left. given (keys_of_items found) (λ keys. table_of key (table ++ keys ∷ []) ys left))
    (λ found left. given (keys_of_items found) (λ keys. table_of other (table ++ keys ∷ []) ys left)) (h y forest)
    (λ found left. unless_given (keys_of_items found) (λ keys. table_of key (table ++ keys ∷ []) ys left) (λ keys. table_of other (table ++ keys ∷ []) ys left)
    (λ keys. table_same key other h (table ++ keys ∷ []) ys left))

rows_same : (result other : Item → Forest → Outcome Items) → AreSame result other → (right done : Items) (rows : List ℕ) (forest : Forest)
    → IsSameUnlessWrong (for_rows result right done rows forest) (for_rows other right done rows forest)
rows_same result other h right done [] forest = inr refl
rows_same result other h right done (row ∷ rows) forest =
    unless_given (slice_get right row) (λ y. after (result y forest) (λ more left. for_rows result right (done ++ more) rows left))
    (λ y. after (other y forest) (λ more left. for_rows other right (done ++ more) rows left))
    (λ y. unless_after (result y forest) (other y forest) (λ more left. for_rows result right (done ++ more) rows left)
    (λ more left. for_rows other right (done ++ more) rows left) (h y forest) (λ more left. rows_same result other h right (done ++ more) rows left))

pairs_same : (key other : Item → Forest → Outcome Items) (result last : Item → Item → Forest → Outcome Items) → AreSame key other
    → ((x : Item) → AreSame (result x) (last x)) → (table : List (List JoinKey)) (right done xs : Items) (forest : Forest)
    → IsSameUnlessWrong (for_pairs key result table right done xs forest) (for_pairs other last table right done xs forest)
pairs_same key other result last h k table right done [] forest = inr refl
pairs_same key other result last h k table right done (x ∷ xs) forest =
    unless_after (key x forest) (other x forest)
    (λ found now. given (keys_of_items found) (λ keys. after (for_rows (result x) right done (rows_with_a_key keys table) now)
    (λ values left. for_pairs key result table right values xs left)))
    (λ found now. given (keys_of_items found) (λ keys. after (for_rows (last x) right done (rows_with_a_key keys table) now)
    (λ values left. for_pairs other last table right values xs left))) (h x forest)
    (λ found now. unless_given (keys_of_items found)
    (λ keys. after (for_rows (result x) right done (rows_with_a_key keys table) now) (λ values left. for_pairs key result table right values xs left))
    (λ keys. after (for_rows (last x) right done (rows_with_a_key keys table) now) (λ values left. for_pairs other last table right values xs left))
    (λ keys. unless_after (for_rows (result x) right done (rows_with_a_key keys table) now) (for_rows (last x) right done (rows_with_a_key keys table) now)
    (λ values left. for_pairs key result table right values xs left) (λ values left. for_pairs other last table right values xs left)
    (rows_same (result x) (last x) (k x) right done (rows_with_a_key keys table) now)
    (λ values left. pairs_same key other result last h k table right values xs left)))

-- the parts of a join, behind all bindings
record ArePartsAlike (bindings others : Bindings) (join : JoinParts Denotation) : Type 0 where
  source : IsAlike bindings others join.source
  other : IsAlike bindings others join.other
  left_key : IsAlike bindings others join.left_key
  right_key : IsAlike bindings others join.right_key
  result : IsAlike bindings others join.result

parts_alike_behind : (bound bindings others : Bindings) (join : JoinParts Denotation) → ArePartsAlike bindings others join
    → ArePartsAlike (bound ++ bindings) (bound ++ others) join
parts_alike_behind bound bindings others join h = record {
  source = alike_behind bound bindings others join.source h.source;
  other = alike_behind bound bindings others join.other h.other;
  left_key = alike_behind bound bindings others join.left_key h.left_key;
  right_key = alike_behind bound bindings others join.right_key h.right_key;
  result = alike_behind bound bindings others join.result h.result;
}

with_alike : (bindings others : Bindings) (join : JoinParts Denotation) → ArePartsAlike bindings others join → (xs ys : Items) (forest : Forest)
    → IsSameUnlessWrong (joined_with join bindings xs ys forest) (joined_with join others xs ys forest)
with_alike bindings others join h xs [] forest = inr refl
with_alike bindings others join h xs (y ∷ ys) forest =
    unless_after (table_of (right_key_at join bindings) [] (y ∷ ys) forest) (table_of (right_key_at join others) [] (y ∷ ys) forest)
    (λ table left. for_pairs (left_key_at join bindings) (result_at join bindings) table (y ∷ ys) [] xs left)
    (λ table left. for_pairs (left_key_at join others) (result_at join others) table (y ∷ ys) [] xs left)
    (table_same (right_key_at join bindings) (right_key_at join others) (λ z left. h.right_key ((join.right, z ∷ []) ∷ []) left) [] (y ∷ ys) forest)
    (λ table left. pairs_same (left_key_at join bindings) (left_key_at join others) (result_at join bindings) (result_at join others)
    (λ z last. h.left_key ((join.left, z ∷ []) ∷ []) last) (λ z w last. h.result ((join.right, w ∷ []) ∷ (join.left, z ∷ []) ∷ []) last)
    table (y ∷ ys) [] xs left)

over_alike : (bindings others : Bindings) (join : JoinParts Denotation) → ArePartsAlike bindings others join → (xs : Items) (forest : Forest)
    → IsSameUnlessWrong (joined_over join bindings xs forest) (joined_over join others xs forest)
over_alike bindings others join h [] forest = inr refl
over_alike bindings others join h (x ∷ xs) forest =
    unless_after (join.other bindings forest) (join.other others forest) (λ ys now. joined_with join bindings (x ∷ xs) ys now)
    (λ ys now. joined_with join others (x ∷ xs) ys now) (h.other [] forest) (λ ys now. with_alike bindings others join h (x ∷ xs) ys now)

hash_join_alike : (bindings others : Bindings) (join : JoinParts Denotation) → ArePartsAlike bindings others join → IsAlike bindings others (hash_join join)
hash_join_alike bindings others join h bound forest =
    let k : ArePartsAlike (bound ++ bindings) (bound ++ others) join = parts_alike_behind bound bindings others join h in
    unless_after (join.source (bound ++ bindings) forest) (join.source (bound ++ others) forest) (λ xs left. joined_over join (bound ++ bindings) xs left)
    (λ xs left. joined_over join (bound ++ others) xs left) (k.source [] forest)
    (λ xs left. over_alike (bound ++ bindings) (bound ++ others) join k xs left)

-- ---- expressions

abbrev IsJoinAlike : (bindings others : Bindings) → Option (JoinParts Denotation) → Type 0
IsJoinAlike bindings others None = Unit {0}
IsJoinAlike bindings others (Some join) = ArePartsAlike bindings others join

by_role : (bindings others : Bindings) (join : Option (JoinParts Denotation)) (role : Role) (loops : Denotation) → IsJoinAlike bindings others join
    → IsAlike bindings others loops → IsAlike bindings others (as_joined (if_join join role) loops)
by_role bindings others None role loops h k = k
by_role bindings others (Some join) roles.Join loops h k = hash_join_alike bindings others join h
by_role bindings others (Some join) roles.InJoin loops h k = k
by_role bindings others (Some join) roles.Own loops h k = k

module _ (context : Context) (bindings others : Bindings) where
  abbrev Named : PlanExpression → Type 0
  Named e = (number : ℕ) → is_named_in e number ≡ true → IsBoundAlike bindings others number

  abbrev NamedInParts : Parts Carried → Type 0
  NamedInParts parts = (number : ℕ) → is_named_in_parts parts number ≡ true → IsBoundAlike bindings others number

  first_named : (e : PlanExpression) (parts : Parts Carried) → NamedInParts (a_part e parts) → Named e
  first_named e parts h number k = h number (or_left (is_named_in e number) (is_named_in_parts parts number) k)

  others_named : (e : PlanExpression) (parts : Parts Carried) → NamedInParts (a_part e parts) → NamedInParts parts
  others_named e parts h number k = h number (or_right (is_named_in e number) (is_named_in_parts parts number) k)

  mutual
    alike : (e : PlanExpression) → Named e → IsAlike bindings others (joined_meaning context e)
    alike (At place outer carried operator parts) named =
        let behind : NamedInParts parts = λ number k. named number (or_right (names_variable operator number) (is_named_in_parts parts number) k) in
        by_role bindings others (outer_loop context operator parts) carried.role (denoted context operator (joined_meanings context parts))
        (outer_alike operator parts behind)
        (operator_alike bindings others context operator (joined_meanings context parts)
        (λ number k. named number (or_left (names_variable operator number) (is_named_in_parts parts number) k)) (all_alike parts behind))

    all_alike : (parts : Parts Carried) → NamedInParts parts → AreAlike bindings others (joined_meanings context parts)
    all_alike no_parts named = tt
    all_alike (a_part first rest) named = (alike first (first_named first rest named), all_alike rest (others_named first rest named))

    outer_alike : (operator : Operator) (parts : Parts Carried) → NamedInParts parts → IsJoinAlike bindings others (outer_loop context operator parts)
    outer_alike (operators.For binder zero) (a_part source (a_part body no_parts)) named =
        inner_alike binder.variable (joined_meaning context source) (alike source (first_named source (a_part body no_parts) named)) body
        (first_named body no_parts (others_named source (a_part body no_parts) named))
    outer_alike _ _ named = tt

    inner_alike : (left : ℕ) (source : Denotation) → IsAlike bindings others source → (body : PlanExpression) → Named body
        → IsJoinAlike bindings others (inner_loop context left source body)
    inner_alike left source h (At place outer carried (operators.For binder zero) (a_part other (a_part test no_parts))) named =
        tests_alike left binder.variable source (joined_meaning context other) h (alike other (first_named other (a_part test no_parts) named)) test
        (first_named test no_parts (others_named other (a_part test no_parts) named))
    inner_alike left source h _ named = tt

    tests_alike : (left right : ℕ) (source other : Denotation) → IsAlike bindings others source → IsAlike bindings others other → (test : PlanExpression) → Named test
        → IsJoinAlike bindings others (pairs_tested context left right source other test)
    tests_alike left right source other h k
        (At place outer carried operators.If (a_part comparison (a_part result (a_part (At absent o c operators.Empty no_parts) no_parts)))) named =
        let nothing : PlanExpression = At absent o c operators.Empty no_parts in
        let behind : NamedInParts (a_part result (a_part nothing no_parts)) = others_named comparison (a_part result (a_part nothing no_parts)) named in
        keys_alike left right source other (joined_meaning context result) h k (alike result (first_named result (a_part nothing no_parts) behind)) comparison
        (first_named comparison (a_part result (a_part nothing no_parts)) named)
    tests_alike left right source other h k _ named = tt

    keys_alike : (left right : ℕ) (source other result : Denotation) → IsAlike bindings others source → IsAlike bindings others other
        → IsAlike bindings others result → (comparison : PlanExpression) → Named comparison
        → IsJoinAlike bindings others (keys_compared context left right source other result comparison)
    keys_alike left right source other result h k l
        (At place outer carried (operators.Binary binary.AnyEq) (a_part left_key (a_part right_key no_parts))) named = record {
          source = h;
          other = k;
          left_key = alike left_key (first_named left_key (a_part right_key no_parts) named);
          right_key = alike right_key (first_named right_key no_parts (others_named left_key (a_part right_key no_parts) named));
          result = l;
        }
    keys_alike left right source other result h k l _ named = tt

-- under two lists of bindings of which the second binds each variable that the expression names as the first does, if that does: the same, but for
-- type errors under the first
pub joined_alike : (context : Context) (e : PlanExpression) (bindings others : Bindings) (forest : Forest)
    → ((number : ℕ) → is_named_in e number ≡ true → IsBoundAlike bindings others number)
    → IsSameUnlessWrong (joined_meaning context e bindings forest) (joined_meaning context e others forest)
joined_alike context e bindings others forest named = alike context bindings others e named [] forest
