-- The parts of calls and of blocks are smaller than these.
use Rattle.std.proofs.Common.{ℕ, ◌+◌, ◌*◌, ◌≤◌, List, [], ◌∷◌, ◌++◌, map, arith}
use denote.Param.Weighed.{most}
use Rattle.gx_core.specs.declared.expression.Clause.{Clause}
use Rattle.gx_core.specs.declared.expression.SortKey.{SortKey}
use Rattle.gx_core.specs.Expression.{Expression, Parts, no_parts, a_part, expression_size, parts_size, all_parts}
use Rattle.gx_core.specs.ExpressionView.{part_of_clause, part_of_key, parts_of_block}

pub arguments_are_smaller : {A : Type 0} (weight : Expression A → ℕ) → ((e : Expression A) → weight e ≤ 3 * (expression_size e + 1))
    → (es : List (Expression A)) → most weight es ≤ 3 * parts_size (all_parts es)
arguments_are_smaller weight h [] = omega arith
arguments_are_smaller weight h (e ∷ es) = omega (arith, h e, arguments_are_smaller weight h es)

never_none : {A : Type 0} (parts : Parts A) → 1 ≤ parts_size parts
never_none no_parts = omega arith
never_none (a_part first others) = omega arith

clauses_in_front : {A : Type 0} (weight : Clause A → ℕ) → ((c : Clause A) → weight c ≤ 3 * (expression_size (part_of_clause c) + 2) + 2)
    → (cs : List (Clause A)) (more : List (Expression A))
    → most weight cs ≤ 3 * parts_size (all_parts (map part_of_clause cs ++ more)) + 2
clauses_in_front weight h [] more = omega arith
clauses_in_front weight h (c ∷ cs) more =
    omega (arith, h c, clauses_in_front weight h cs more, never_none (all_parts (map part_of_clause cs ++ more)))

keys_in_front : {A : Type 0} (weight : SortKey A → ℕ) → ((k : SortKey A) → weight k ≤ 3 * (expression_size (part_of_key k) + 2) + 2)
    → (ks : List (SortKey A)) (more : List (Expression A))
    → most weight ks ≤ 3 * parts_size (all_parts (map part_of_key ks ++ more)) + 2
keys_in_front weight h [] more = omega arith
keys_in_front weight h (k ∷ ks) more =
    omega (arith, h k, keys_in_front weight h ks more, never_none (all_parts (map part_of_key ks ++ more)))

behind_is_smaller : {A : Type 0} (es more : List (Expression A)) → parts_size (all_parts more) ≤ parts_size (all_parts (es ++ more))
behind_is_smaller [] more = omega arith
behind_is_smaller (e ∷ es) more = omega (arith, behind_is_smaller es more)

pub clauses_are_smaller : {A : Type 0} (weight : Clause A → ℕ)
    → ((c : Clause A) → weight c ≤ 3 * (expression_size (part_of_clause c) + 2) + 2)
    → (cs : List (Clause A)) (ks : List (SortKey A)) (a : Expression A)
    → most weight cs ≤ 3 * parts_size (all_parts (parts_of_block cs ks a)) + 2
clauses_are_smaller weight h cs ks a = clauses_in_front weight h cs (map part_of_key ks ++ a ∷ [])

pub keys_are_smaller : {A : Type 0} (weight : SortKey A → ℕ) → ((k : SortKey A) → weight k ≤ 3 * (expression_size (part_of_key k) + 2) + 2)
    → (cs : List (Clause A)) (ks : List (SortKey A)) (a : Expression A)
    → most weight ks ≤ 3 * parts_size (all_parts (parts_of_block cs ks a)) + 2
keys_are_smaller weight h cs ks a =
    omega (arith, keys_in_front weight h ks (a ∷ []), behind_is_smaller (map part_of_clause cs) (map part_of_key ks ++ a ∷ []))
