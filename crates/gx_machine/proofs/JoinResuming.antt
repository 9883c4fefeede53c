-- What is left to do of a join comes to the same after a piece of its work as before it.
use Rattle.std.proofs.Common.{◌≡◌, ◌+◌, ◌<◌, arith, ℕ, zero, suc, List, [], ◌∷◌, ◌++◌, length, take, drop, Option, None, Some, refl, subst, sym, ◌∙◌, ap, append_assoc, append-nil}
use Rattle.std.specs.Prelude.{slice_get, option_map, Vec}
use Rattle.std.specs.Global.{Global}
use Rattle.std.specs.Option.{MatchOption}
use Rattle.std.proofs.Math.Seq.{take-append_seam, drop-append_seam}
use Rattle.gx_atomic.specs.declared.join_key.JoinKey.{JoinKey}
use Rattle.gx_model.specs.Forest.{Forest}
use Rattle.gx_model.specs.Item.{Item, Items}
use Rattle.gx_core.specs.declared.expression.Binder.{Binder}
use Rattle.gx_core.specs.declared.operator.Operator.TheVariants as operators
use Rattle.gx_core.specs.declared.expression.BinaryOp.{BinaryOp}
use Rattle.gx_core.specs.declared.expression.BinaryOp.TheVariants as binary
use Rattle.gx_core.specs.Expression.{At, two_parts}
use Rattle.gx_core.specs.Outcome.{Outcome, gives, raises, wrong, after, given}
use Rattle.gx_core.specs.Meaning.{Context, Bindings, Denotation}
use Rattle.gx_joins.specs.HashJoin.{JoinParts as JoinOf, keys_of_items as keys_of, table_of, for_rows, for_pairs, left_key_at, right_key_at, result_at, joined_with, joined_over, hash_join}
use Rattle.gx_joins.specs.JoinedMeaning.{joined_meaning as joined, as_joined, if_join, outer_loop, inner_loop, keys_compared}
use Rattle.gx_base.specs.declared.place.Place.{Place}
use Rattle.gx_plan.specs.declared.plan.Carried.{Carried}
use Rattle.gx_plan.specs.declared.plan.Role.{Role}
use Rattle.gx_plan.specs.declared.plan.Role.TheVariants as roles
use Rattle.gx_plan.specs.Plan.{PlanExpression}
use Rattle.gx_join_table.specs.Joining.{rows_with_a_key}
use Rattle.gx_machine.specs.declared.joining.Join.{Join}
use Rattle.gx_machine.specs.declared.joining.Sides.{Sides}
use Rattle.gx_machine.specs.FoundTuples.{Stacks, with_sources}
use Rattle.gx_machine.specs.Joining.{join_meant, loop_meant, loop_unmarked, pairs_left, rows_left, found_left}
use Rattle.gx_machine.proofs.Outcomes.{after_after, same_after}

abbrev Next : Type 0
Next = Items → Stacks → Forest → Outcome Items

abbrev Keyed : Type 0
Keyed = Item → Forest → Outcome Items

-- ---- which loops are joins

-- a loop with a position is none
pub no_position : (k : Context) (role : Role) (binder : Binder) (position : ℕ) (source body : PlanExpression) → (position ≡ 0 → ⊥) → loop_meant k role binder position source body ≡ loop_unmarked k binder position source body
no_position k role binder zero source body n = absurd (n refl)
no_position k role binder (suc position) source body n = refl

-- one that does not carry the role of a join is none
no_role : (found : Option (JoinOf Denotation)) (role : Role) (loops : Denotation) → (role ≡ roles.Join → ⊥) → as_joined (if_join found role) loops ≡ loops
no_role None role loops n = refl
no_role (Some join) roles.Join loops n = absurd (n refl)
no_role (Some join) roles.Own loops n = refl
no_role (Some join) roles.InJoin loops n = refl

pub unmarked : (k : Context) (role : Role) (binder : Binder) (position : ℕ) (source body : PlanExpression) → (role ≡ roles.Join → ⊥) → loop_meant k role binder position source body ≡ loop_unmarked k binder position source body
unmarked k role binder position source body n = no_role (outer_loop k (operators.For binder position) (two_parts source body)) role (loop_unmarked k binder position source body) n

-- and any other is one where a join is found
marked_so : (k : Context) (found : Option (JoinOf Denotation)) (result : Option Join) (loops : Denotation) → found ≡ option_map (join_meant k) result
    → MatchOption result (as_joined (if_join found roles.Join) loops ≡ loops) (λ join. as_joined (if_join found roles.Join) loops ≡ hash_join (join_meant k join))
marked_so k found None loops e = ap (λ (o : Option (JoinOf Denotation)). as_joined (if_join o roles.Join) loops) e
marked_so k found (Some join) loops e = ap (λ (o : Option (JoinOf Denotation)). as_joined (if_join o roles.Join) loops) e

pub marked : (k : Context) (binder : Binder) (position : ℕ) (source body : PlanExpression) (result : Option Join) → position ≡ 0
    → inner_loop k binder.variable (joined k source) body ≡ option_map (join_meant k) result
    → MatchOption result (loop_meant k roles.Join binder position source body ≡ loop_unmarked k binder position source body)
    (λ join. loop_meant k roles.Join binder position source body ≡ hash_join (join_meant k join))
marked k binder position source body result e f =
    subst (λ (p : ℕ). MatchOption result (loop_meant k roles.Join binder p source body ≡ loop_unmarked k binder p source body)
    (λ join. loop_meant k roles.Join binder p source body ≡ hash_join (join_meant k join))) (sym e)
    (marked_so k (inner_loop k binder.variable (joined k source) body) result (loop_unmarked k binder 0 source body) f)

-- keys that are compared by a general `=`
pub compared_so : (k : Context) (left right : ℕ) (source other result : Denotation) (place outer : Place) (carried : Carried) (operator : BinaryOp) (left_key right_key : PlanExpression) → operator ≡ binary.AnyEq
    → keys_compared k left right source other result (At place outer carried (operators.Binary operator) (two_parts left_key right_key))
    ≡ Some (record { left = left; right = right; source = source; other = other; left_key = joined k left_key; right_key = joined k right_key; result = result })
compared_so k left right source other result place outer carried operator left_key right_key e =
    ap (λ (o : BinaryOp). keys_compared k left right source other result (At place outer carried (operators.Binary o) (two_parts left_key right_key))) e

-- ---- the values that are there stand before those of the join

rows_behind : (result : Keyed) (right front done : Items) (rows : List ℕ) (forest : Forest)
    → for_rows result right (front ++ done) rows forest ≡ after (for_rows result right done rows forest) (λ more left. gives (front ++ more) left)
rows_behind result right front done [] forest = refl
rows_behind result right front done (row ∷ rows) forest = by_item (slice_get right row) (λ more left. rows_behind result right front (done ++ more) rows left)
  where
    by_result : (o : Outcome Items) → ((more : Items) (left : Forest) → for_rows result right (front ++ (done ++ more)) rows left ≡ after (for_rows result right (done ++ more) rows left) (λ more last. gives (front ++ more) last))
        → after o (λ more left. for_rows result right ((front ++ done) ++ more) rows left) ≡ after (after o (λ more left. for_rows result right (done ++ more) rows left)) (λ more left. gives (front ++ more) left)
    by_result (gives more left) h = ap (λ (v : Items). for_rows result right v rows left) (append_assoc front done more) ∙ h more left
    by_result (raises code) h = refl
    by_result wrong h = refl

    by_item : (found : Option Item) → ((more : Items) (left : Forest) → for_rows result right (front ++ (done ++ more)) rows left ≡ after (for_rows result right (done ++ more) rows left) (λ more last. gives (front ++ more) last))
        → given found (λ y. after (result y forest) (λ more left. for_rows result right ((front ++ done) ++ more) rows left))
        ≡ after (given found (λ y. after (result y forest) (λ more left. for_rows result right (done ++ more) rows left))) (λ more left. gives (front ++ more) left)
    by_item None h = refl
    by_item (Some y) h = by_result (result y forest) h

pairs_behind : (key : Keyed) (result : Item → Keyed) (table : List (List JoinKey)) (right front done left : Items) (forest : Forest)
    → for_pairs key result table right (front ++ done) left forest ≡ after (for_pairs key result table right done left forest) (λ more last. gives (front ++ more) last)
pairs_behind key result table right front done [] forest = refl
pairs_behind key result table right front done (x ∷ xs) forest = by_key (key x forest) (λ more last. pairs_behind key result table right front more xs last)
  where
    by_rows : (o : Outcome Items) → ((more : Items) (last : Forest) → for_pairs key result table right (front ++ more) xs last ≡ after (for_pairs key result table right more xs last) (λ more end. gives (front ++ more) end))
        → after (after o (λ more last. gives (front ++ more) last)) (λ values last. for_pairs key result table right values xs last)
        ≡ after (after o (λ values last. for_pairs key result table right values xs last)) (λ more last. gives (front ++ more) last)
    by_rows (gives more last) h = h more last
    by_rows (raises code) h = refl
    by_rows wrong h = refl

    by_keys : (found : Option (List JoinKey)) (now : Forest) → ((more : Items) (last : Forest) → for_pairs key result table right (front ++ more) xs last ≡ after (for_pairs key result table right more xs last) (λ more end. gives (front ++ more) end))
        → given found (λ keys. after (for_rows (result x) right (front ++ done) (rows_with_a_key keys table) now) (λ values last. for_pairs key result table right values xs last))
        ≡ after (given found (λ keys. after (for_rows (result x) right done (rows_with_a_key keys table) now) (λ values last. for_pairs key result table right values xs last))) (λ more last. gives (front ++ more) last)
    by_keys None now h = refl
    by_keys (Some keys) now h =
        ap (λ (o : Outcome Items). after o (λ values last. for_pairs key result table right values xs last)) (rows_behind (result x) right front done (rows_with_a_key keys table) now)
        ∙ by_rows (for_rows (result x) right done (rows_with_a_key keys table) now) h

    by_key : (o : Outcome Items) → ((more : Items) (last : Forest) → for_pairs key result table right (front ++ more) xs last ≡ after (for_pairs key result table right more xs last) (λ more end. gives (front ++ more) end))
        → after o (λ found now. given (keys_of found) (λ keys. after (for_rows (result x) right (front ++ done) (rows_with_a_key keys table) now) (λ values last. for_pairs key result table right values xs last)))
        ≡ after (after o (λ found now. given (keys_of found) (λ keys. after (for_rows (result x) right done (rows_with_a_key keys table) now) (λ values last. for_pairs key result table right values xs last)))) (λ more last. gives (front ++ more) last)
    by_key (gives found now) h = by_keys (keys_of found) now h
    by_key (raises code) h = refl
    by_key wrong h = refl

-- behind these values, and then the next work
pairs_in_front : (key : Keyed) (result : Item → Keyed) (table : List (List JoinKey)) (right front left : Items) (forest : Forest) (next : Items → Forest → Outcome Items)
    → after (for_pairs key result table right front left forest) next ≡ after (for_pairs key result table right [] left forest) (λ more last. next (front ++ more) last)
pairs_in_front key result table right front left forest next =
    ap (λ (v : Items). after (for_pairs key result table right v left forest) next) (sym (append-nil front))
    ∙ ap (λ (o : Outcome Items). after o next) (pairs_behind key result table right front [] left forest)
    ∙ sym (after_after (for_pairs key result table right [] left forest) (λ more last. gives (front ++ more) last) next)

-- ---- the left items

-- where there is none, the join is at its end
pub no_left_item : (join : JoinOf Denotation) (bindings : Bindings) (values front none : Items) (forest : Forest) (next : Items → Forest → Outcome Items) → none ≡ [] → front ≡ values
    → next values forest ≡ after (joined_over join bindings none forest) (λ more left. next (front ++ more) left)
no_left_item join bindings values front none forest next e f =
    sym (ap (λ (xs : Items). after (joined_over join bindings xs forest) (λ more left. next (front ++ more) left)) e
    ∙ ap (λ (v : Items). next (v ++ []) forest) f ∙ ap (λ (v : Items). next v forest) (append-nil values))

-- the first of the items from a number of them on
pub some_from : {T : Type 0} (n : ℕ) (xs : List T) → n < length xs → (x : T) × (rest : List T) × (drop n xs ≡ x ∷ rest)
some_from zero [] h = absurd (omega (arith, h))
some_from (suc n) [] h = absurd (omega (arith, h))
some_from zero (x ∷ xs) h = (x, xs, refl)
some_from (suc n) (x ∷ xs) h = some_from n xs (omega (arith, h))

-- the left items are put aside, and the right source is evaluated
pub left_is_put : (k : Context) (join : Join) (front sources left : Items) (x : Item) (xs : Items) (start first : ℕ) (stacks : Stacks) (bindings : Bindings) (forest : Forest) (next : Next)
    → sources ≡ stacks.sources ++ left → start ≡ length stacks.sources → first ≡ length front → left ≡ x ∷ xs
    → after (joined k join.other.now bindings forest) (λ ys now. after (joined_with (join_meant k join) bindings (drop start sources) (drop first (front ++ ys)) now)
    (λ more last. next (take first (front ++ ys) ++ more) (with_sources stacks (take start (sources ++ drop first (front ++ ys)))) last))
    ≡ after (joined_over (join_meant k join) bindings left forest) (λ more last. next (front ++ more) stacks last)
left_is_put k join front sources left x xs start first stacks bindings forest next e f g h =
    let J : JoinOf Denotation = join_meant k join in
    let other : Outcome Items = joined k join.other.now bindings forest in
    let put : Items → ℕ → ℕ → Items → Forest → Outcome Items = λ s begin n ys now.
    after (joined_with J bindings (drop begin s) (drop n (front ++ ys)) now) (λ more last. next (take n (front ++ ys) ++ more) (with_sources stacks (take begin (s ++ drop n (front ++ ys)))) last) in
    let behind : Items → Forest → Outcome Items = λ more last. next (front ++ more) stacks last in
    ap (λ (s : Items). after other (put s start first)) e
    ∙ ap (λ (n : ℕ). after other (put (stacks.sources ++ left) n first)) f
    ∙ ap (λ (n : ℕ). after other (put (stacks.sources ++ left) (length stacks.sources) n)) g
    ∙ same_after other (put (stacks.sources ++ left) (length stacks.sources) (length front)) (λ ys now. after (joined_with J bindings left ys now) behind)
    (λ ys now. stands J ys now)
    ∙ after_after other (λ ys now. joined_with J bindings left ys now) behind
    ∙ ap (λ (l : Items). after (after other (λ ys now. joined_with J bindings l ys now)) behind) h
    ∙ ap (λ (l : Items). after (joined_over J bindings l forest) behind) (sym h)
  where
    stands : (J : JoinOf Denotation) (ys : Items) (now : Forest)
        → after (joined_with J bindings (drop (length stacks.sources) (stacks.sources ++ left)) (drop (length front) (front ++ ys)) now)
        (λ more last. next (take (length front) (front ++ ys) ++ more) (with_sources stacks (take (length stacks.sources) ((stacks.sources ++ left) ++ drop (length front) (front ++ ys)))) last)
        ≡ after (joined_with J bindings left ys now) (λ more last. next (front ++ more) stacks last)
    stands J ys now =
        let run : Items → Items → Items → Items → Outcome Items = λ lefts rights before kept.
        after (joined_with J bindings lefts rights now) (λ more last. next (before ++ more) (with_sources stacks kept) last) in
        ap (λ (l : Items). run l (drop (length front) (front ++ ys)) (take (length front) (front ++ ys)) (take (length stacks.sources) ((stacks.sources ++ left) ++ drop (length front) (front ++ ys)))) (drop-append_seam stacks.sources left)
        ∙ ap (λ (v : Items). run left v (take (length front) (front ++ ys)) (take (length stacks.sources) ((stacks.sources ++ left) ++ v))) (drop-append_seam front ys)
        ∙ ap (λ (v : Items). run left ys v (take (length stacks.sources) ((stacks.sources ++ left) ++ ys))) (take-append_seam front ys)
        ∙ ap (λ (v : Items). run left ys front (take (length stacks.sources) v)) (append_assoc stacks.sources left ys)
        ∙ ap (λ (v : Items). run left ys front v) (take-append_seam stacks.sources (left ++ ys))

-- ---- the right items

-- where there is none, the join is at its end
pub no_right_item : (join : JoinOf Denotation) (bindings : Bindings) (values front none sources : Items) (start : ℕ) (stacks : Stacks) (lefts : Items) (forest : Forest) (next : Next)
    → none ≡ [] → front ≡ values
    → next values (with_sources stacks (take start sources)) forest
    ≡ after (joined_with join bindings lefts none forest) (λ more left. next (front ++ more) (with_sources stacks (take start (sources ++ none))) left)
no_right_item join bindings values front none sources start stacks lefts forest next e f =
    sym (ap (λ (ys : Items). after (joined_with join bindings lefts ys forest) (λ more left. next (front ++ more) (with_sources stacks (take start (sources ++ ys))) left)) e
    ∙ ap (λ (v : Items). next (v ++ []) (with_sources stacks (take start (sources ++ []))) forest) f
    ∙ ap (λ (v : Items). next v (with_sources stacks (take start (sources ++ []))) forest) (append-nil values)
    ∙ ap (λ (v : Items). next values (with_sources stacks (take start v)) forest) (append-nil sources))

-- where there are some, the join goes over both
over_some : (join : JoinOf Denotation) (bindings : Bindings) (front left right : Items) (y : Item) (ys : Items) (forest : Forest) (next : Items → Forest → Outcome Items) → right ≡ y ∷ ys
    → after (table_of (right_key_at join bindings) [] right forest) (λ table last.
    after (for_pairs (left_key_at join bindings) (result_at join bindings) table right front left last) next)
    ≡ after (joined_with join bindings left right forest) (λ more last. next (front ++ more) last)
over_some join bindings front left right y ys forest next e =
    let pairs : List (List JoinKey) → Items → Items → Forest → Outcome Items =
    λ table rights done last. for_pairs (left_key_at join bindings) (result_at join bindings) table rights done left last in
    let behind : Items → Forest → Outcome Items = λ more last. next (front ++ more) last in
    let table : Items → Outcome (List (List JoinKey)) = λ rights. table_of (right_key_at join bindings) [] rights forest in
    ap (λ (r : Items). after (table r) (λ whole last. after (pairs whole r front last) next)) e
    ∙ same_after (table (y ∷ ys)) (λ whole last. after (pairs whole (y ∷ ys) front last) next) (λ whole last. after (pairs whole (y ∷ ys) [] last) behind)
    (λ whole last. pairs_in_front (left_key_at join bindings) (result_at join bindings) whole (y ∷ ys) front left last next)
    ∙ after_after (table (y ∷ ys)) (λ whole last. pairs whole (y ∷ ys) [] last) behind
    ∙ ap (λ (r : Items). after (joined_with join bindings left r forest) behind) (sym e)

-- and the right items are put aside
pub right_is_put : (k : Context) (join : Join) (table : List (List JoinKey)) (start right : ℕ) (values front sources : Items) (y : Item) (ys : Items) (first : ℕ) (stacks : Stacks) (bindings : Bindings) (forest : Forest) (next : Next)
    → table ≡ [] → right ≡ length stacks.sources → front ≡ take first values → sources ≡ stacks.sources ++ drop first values → drop first values ≡ y ∷ ys
    → rows_left k join table (record { left = start; right = right }) right front (with_sources stacks sources) bindings forest next
    ≡ after (joined_with (join_meant k join) bindings (drop start stacks.sources) (drop first values) forest)
    (λ more left. next (take first values ++ more) (with_sources stacks (take start (stacks.sources ++ drop first values))) left)
right_is_put k join table start right values front sources y ys first stacks bindings forest next e f g h i =
    let J : JoinOf Denotation = join_meant k join in
    let rights : Items = drop first values in
    let before : Items = take first values in
    let all : Items = stacks.sources ++ rights in
    let put : List (List JoinKey) → ℕ → Items → Items → Outcome Items = λ t n vs s.
    rows_left k join t (record { left = start; right = n }) n vs (with_sources stacks s) bindings forest next in
    let run : Items → Items → Outcome Items = λ right_items lefts.
    after (table_of (right_key_at J bindings) [] right_items forest) (λ whole last.
    after (for_pairs (left_key_at J bindings) (result_at J bindings) whole right_items before lefts last) (λ vs end. next vs (with_sources stacks (take start all)) end)) in
    ap (λ (t : List (List JoinKey)). put t right front sources) e
    ∙ ap (λ (n : ℕ). put [] n front sources) f
    ∙ ap (λ (v : Items). put [] (length stacks.sources) v sources) g
    ∙ ap (λ (s : Items). put [] (length stacks.sources) before s) h
    ∙ ap (λ (r : Items). run r (drop start (take (length stacks.sources) all))) (drop-append_seam stacks.sources rights)
    ∙ ap (λ (l : Items). run rights (drop start l)) (take-append_seam stacks.sources rights)
    ∙ over_some J bindings before (drop start stacks.sources) rights y ys forest (λ vs end. next vs (with_sources stacks (take start all)) end) i

-- ---- the table

-- behind the last right item the left ones are looked up
pub table_is_whole : (k : Context) (join : Join) (table : List (List JoinKey)) (sides : Sides) (following : ℕ) (values : Items) (stacks : Stacks) (bindings : Bindings) (forest : Forest) (next : Next)
    → drop following stacks.sources ≡ []
    → pairs_left k join table sides sides.left values stacks bindings forest next ≡ rows_left k join table sides following values stacks bindings forest next
table_is_whole k join table sides following values stacks bindings forest next e =
    sym (ap (λ (ys : Items). after (table_of (right_key_at (join_meant k join) bindings) table ys forest) (λ whole left. pairs_left k join whole sides sides.left values stacks bindings left next)) e)

-- the keys of the next right item
pub row_is_added : (k : Context) (join : Join) (table : List (List JoinKey)) (sides : Sides) (following : ℕ) (y : Item) (values : Items) (first : ℕ) (stacks : Stacks) (bindings : Bindings) (forest : Forest) (next : Next)
    → first ≡ length values → drop following stacks.sources ≡ y ∷ drop (following + 1) stacks.sources
    → after (joined k join.right_key.now ((join.right, y ∷ []) ∷ bindings) forest) (λ more now. given (keys_of (drop first (values ++ more)))
    (λ keys. rows_left k join (table ++ keys ∷ []) sides (following + 1) (take first (values ++ more)) stacks bindings now next))
    ≡ rows_left k join table sides following values stacks bindings forest next
row_is_added k join table sides following y values first stacks bindings forest next e f =
    let rest : Items = drop (following + 1) stacks.sources in
    let key : Keyed = right_key_at (join_meant k join) bindings in
    let behind : Items → List (List JoinKey) → Forest → Outcome Items = λ vs whole left. pairs_left k join whole sides sides.left vs stacks bindings left next in
    ap (λ (n : ℕ). after (key y forest) (λ more now. given (keys_of (drop n (values ++ more))) (λ keys. after (table_of key (table ++ keys ∷ []) rest now) (behind (take n (values ++ more)))))) e
    ∙ by_key key rest behind (key y forest)
    ∙ ap (λ (all : Items). after (table_of key table all forest) (behind values)) (sym f)
  where
    by_keys : (key : Keyed) (rest : Items) (behind : List (List JoinKey) → Forest → Outcome Items) (found : Option (List JoinKey)) (now : Forest)
        → given found (λ keys. after (table_of key (table ++ keys ∷ []) rest now) behind) ≡ after (given found (λ keys. table_of key (table ++ keys ∷ []) rest now)) behind
    by_keys key rest behind None now = refl
    by_keys key rest behind (Some keys) now = refl

    by_key : (key : Keyed) (rest : Items) (behind : Items → List (List JoinKey) → Forest → Outcome Items) (o : Outcome Items)
        → after o (λ more now. given (keys_of (drop (length values) (values ++ more))) (λ keys. after (table_of key (table ++ keys ∷ []) rest now) (behind (take (length values) (values ++ more)))))
        ≡ after (after o (λ found now. given (keys_of found) (λ keys. table_of key (table ++ keys ∷ []) rest now))) (behind values)
    by_key key rest behind (gives more now) =
        ap (λ (v : Items). given (keys_of v) (λ keys. after (table_of key (table ++ keys ∷ []) rest now) (behind (take (length values) (values ++ more))))) (drop-append_seam values more)
        ∙ ap (λ (v : Items). given (keys_of more) (λ keys. after (table_of key (table ++ keys ∷ []) rest now) (behind v))) (take-append_seam values more)
        ∙ by_keys key rest (behind values) (keys_of more) now
    by_key key rest behind (raises code) = refl
    by_key key rest behind wrong = refl

-- ---- the left items are looked up

-- behind the last one the items of the join are taken away
pub pairs_end : (k : Context) (join : Join) (table : List (List JoinKey)) (sides : Sides) (following : ℕ) (values : Items) (stacks : Stacks) (bindings : Bindings) (forest : Forest) (next : Next)
    → drop following (take sides.right stacks.sources) ≡ []
    → next values (with_sources stacks (take sides.left stacks.sources)) forest ≡ pairs_left k join table sides following values stacks bindings forest next
pairs_end k join table sides following values stacks bindings forest next e =
    sym (ap (λ (xs : Items). after (for_pairs (left_key_at (join_meant k join) bindings) (result_at (join_meant k join) bindings) table (drop sides.right stacks.sources) values xs forest)
    (λ vs left. next vs (with_sources stacks (take sides.left stacks.sources)) left)) e)

-- the key of the next left item
pub left_is_found : (k : Context) (join : Join) (table : List (List JoinKey)) (sides : Sides) (following : ℕ) (x : Item) (values : Items) (first : ℕ) (stacks : Stacks) (bindings : Bindings) (forest : Forest) (next : Next)
    → first ≡ length values → drop following (take sides.right stacks.sources) ≡ x ∷ drop (following + 1) (take sides.right stacks.sources)
    → after (joined k join.left_key.now ((join.left, x ∷ []) ∷ bindings) forest) (λ more now. given (keys_of (drop first (values ++ more)))
    (λ keys. found_left k join table sides (following + 1) (rows_with_a_key keys table) (take first (values ++ more)) stacks ((join.left, x ∷ []) ∷ bindings) now next))
    ≡ pairs_left k join table sides following values stacks bindings forest next
left_is_found k join table sides following x values first stacks bindings forest next e f =
    let rest : Items = drop (following + 1) (take sides.right stacks.sources) in
    let right : Items = drop sides.right stacks.sources in
    let key : Keyed = left_key_at (join_meant k join) bindings in
    let result : Item → Keyed = result_at (join_meant k join) bindings in
    let end : Items → Forest → Outcome Items = λ vs left. next vs (with_sources stacks (take sides.left stacks.sources)) left in
    ap (λ (n : ℕ). after (key x forest) (λ more now. given (keys_of (drop n (values ++ more))) (λ keys.
    after (for_rows (result x) right (take n (values ++ more)) (rows_with_a_key keys table) now) (λ vs left. after (for_pairs key result table right vs rest left) end)))) e
    ∙ by_key key (result x) right (λ vs left. for_pairs key result table right vs rest left) end (key x forest)
    ∙ ap (λ (all : Items). after (for_pairs key result table right values all forest) end) (sym f)
  where
    by_keys : (result : Keyed) (right : Items) (others end : Items → Forest → Outcome Items) (found : Option (List JoinKey)) (now : Forest)
        → given found (λ keys. after (for_rows result right values (rows_with_a_key keys table) now) (λ vs left. after (others vs left) end))
        ≡ after (given found (λ keys. after (for_rows result right values (rows_with_a_key keys table) now) (λ vs left. others vs left))) end
    by_keys result right others end None now = refl
    by_keys result right others end (Some keys) now = after_after (for_rows result right values (rows_with_a_key keys table) now) others end

    by_key : (key result : Keyed) (right : Items) (others end : Items → Forest → Outcome Items) (o : Outcome Items)
        → after o (λ more now. given (keys_of (drop (length values) (values ++ more))) (λ keys.
        after (for_rows result right (take (length values) (values ++ more)) (rows_with_a_key keys table) now) (λ vs left. after (others vs left) end)))
        ≡ after (after o (λ found now. given (keys_of found) (λ keys. after (for_rows result right values (rows_with_a_key keys table) now) (λ vs left. others vs left)))) end
    by_key key result right others end (gives more now) =
        ap (λ (v : Items). given (keys_of v) (λ keys. after (for_rows result right (take (length values) (values ++ more)) (rows_with_a_key keys table) now) (λ vs left. after (others vs left) end))) (drop-append_seam values more)
        ∙ ap (λ (v : Items). given (keys_of more) (λ keys. after (for_rows result right v (rows_with_a_key keys table) now) (λ vs left. after (others vs left) end))) (take-append_seam values more)
        ∙ by_keys result right others end (keys_of more) now
    by_key key result right others end (raises code) = refl
    by_key key result right others end wrong = refl

abbrev pub keys_in : Option (Vec JoinKey Global) → Option (List JoinKey)
keys_in found = option_map (λ keys. keys.items) found

-- what is no key
pub no_keys : {R : Type 0} (found : Option R) (next : R → Outcome Items) → found ≡ None → given found next ≡ wrong
no_keys found next e = ap (λ o. given o next) e

pub some_keys : (found : Option (List JoinKey)) (keys : List JoinKey) (next : List JoinKey → Outcome Items) → found ≡ Some keys → next keys ≡ given found next
some_keys found keys next e = ap (λ (o : Option (List JoinKey)). given o next) (sym e)

-- ---- the right items that are found

-- behind the last one the next left item follows
pub rows_end : (k : Context) (join : Join) (table : List (List JoinKey)) (sides : Sides) (following : ℕ) (rows : List ℕ) (values : Items) (stacks : Stacks) (bindings : Bindings) (forest : Forest) (next : Next)
    → rows ≡ []
    → pairs_left k join table sides following values stacks (drop 1 bindings) forest next ≡ found_left k join table sides following rows values stacks bindings forest next
rows_end k join table sides following rows values stacks bindings forest next e =
    sym (ap (λ (ns : List ℕ). found_left k join table sides following ns values stacks bindings forest next) e)

-- a row of which there is no item
pub no_item : (k : Context) (join : Join) (table : List (List JoinKey)) (sides : Sides) (following row : ℕ) (rest rows : List ℕ) (values : Items) (stacks : Stacks) (bindings : Bindings) (forest : Forest) (next : Next)
    → rows ≡ row ∷ rest → slice_get (drop sides.right stacks.sources) row ≡ None → found_left k join table sides following rows values stacks bindings forest next ≡ wrong
no_item k join table sides following row rest rows values stacks bindings forest next e none =
    ap (λ (ns : List ℕ). found_left k join table sides following ns values stacks bindings forest next) e
    ∙ ap (λ (o : Option Item). after (given o (λ y. after (joined k join.result.now ((join.right, y ∷ []) ∷ bindings) forest)
    (λ more left. for_rows (λ z now. joined k join.result.now ((join.right, z ∷ []) ∷ bindings) now) (drop sides.right stacks.sources) (values ++ more) rest left)))
    (λ vs left. pairs_left k join table sides following vs stacks (drop 1 bindings) left next)) none

-- the result for a row, and then for the others
pub rows_go_on : (k : Context) (join : Join) (table : List (List JoinKey)) (sides : Sides) (following row : ℕ) (rest rows : List ℕ) (y : Item) (values : Items) (stacks : Stacks) (bindings : Bindings) (forest : Forest) (next : Next)
    → rows ≡ row ∷ rest → slice_get (drop sides.right stacks.sources) row ≡ Some y
    → after (joined k join.result.now ((join.right, y ∷ []) ∷ bindings) forest) (λ more left. found_left k join table sides following rest (values ++ more) stacks bindings left next)
    ≡ found_left k join table sides following rows values stacks bindings forest next
rows_go_on k join table sides following row rest rows y values stacks bindings forest next e some =
    let result : Keyed = λ z now. joined k join.result.now ((join.right, z ∷ []) ∷ bindings) now in
    let behind : Items → Forest → Outcome Items = λ vs left. pairs_left k join table sides following vs stacks (drop 1 bindings) left next in
    after_after (result y forest) (λ more left. for_rows result (drop sides.right stacks.sources) (values ++ more) rest left) behind
    ∙ sym (ap (λ (ns : List ℕ). found_left k join table sides following ns values stacks bindings forest next) e
    ∙ ap (λ (o : Option Item). after (given o (λ z. after (result z forest) (λ more left. for_rows result (drop sides.right stacks.sources) (values ++ more) rest left))) behind) some)
