-- What is left to do of a block comes to the same after a piece of its work as before it.
use Rattle.std.proofs.Common.{◌≡◌, ◌+◌, ◌<◌, ℕ, zero, suc, add-one, get_or, Bool, true, false, Option, None, Some, List, [], ◌∷◌, ◌++◌, length, map, take, drop, refl, sym, ◌∙◌, ap, append_assoc, append-nil, arith}
use Rattle.std.specs.Prelude.{Result, OnOk, flat_map, slice_get, option_map}
use Rattle.std.specs.List.{AllByRecursion}
use Rattle.std.proofs.lemmas.List.{take-append-drop, map-append, take-map, map_more, drop_all}
use Rattle.std.proofs.lemmas.Grind.{flat_map-append}
use Rattle.std.proofs.lemmas.Option.{slice_get-map, slice_get_within, get_or_from_slice_get}
use Rattle.std.proofs.lemmas.Result.{on_ok_weaker}
use Rattle.std.proofs.Math.Seq.{drop-cons, take-append_seam, drop-append_seam, take-append-add, drop-append-add}
use Rattle.gx_facets.specs.declared.Atomic.{Atomic}
use Rattle.gx_sorting.specs.declared.keys.KeyOrder.{KeyOrder}
use Rattle.gx_sorting.proofs.PublicLaws.{numbers_are_of_sorted_tuples}
use Rattle.gx_model.specs.Forest.{Forest}
use Rattle.gx_model.specs.Item.{Item, Items}
use Rattle.gx_plan.specs.declared.plan.Carried.{Carried}
use Rattle.gx_core.specs.declared.expression.Clause.{Clause}
use Rattle.gx_core.specs.declared.expression.SortKey.{SortKey}
use Rattle.gx_core.specs.declared.operator.ClauseKind.{ClauseKind}
use Rattle.gx_core.specs.declared.operator.ClauseKind.TheVariants.{For, Let, Where}
use Rattle.gx_core.specs.ExpressionView.{kind_of_clause, order_of_key, part_of_key, parts_of_block}
use Rattle.gx_core.specs.Blocks.{Tuple, key_of, tuple_keys, tuples_of, tuples_of_each, tuples_if, in_key_order, returned, block_returned, block_denoted}
use Rattle.gx_core.specs.Comparing.{condition_of}
use Rattle.gx_core.specs.Outcome.{Outcome, gives, raises, wrong, after, given}
use Rattle.gx_core.specs.Meaning.{Bindings, Denotation, item_bound}
use Rattle.gx_plan.specs.Plan.{PlanExpression}
use Rattle.gx_machine.specs.declared.evaluation.Pending.{Pending}
use Rattle.gx_machine.specs.declared.bound.Bound.{Bound}
use Rattle.gx_machine.specs.BoundItems.{bound_items, items_of}
use Rattle.gx_machine.specs.FoundTuples.{Found, Stacks, Row, row_in, bound_in_turn, found_more, with_keys, with_found, with_sources, before_block, returned_for, numbers_in_order}
use Rattle.gx_machine.proofs.Outcomes.{after_after, same_after}

-- ---- outcomes

same_given : {R S : Type 0} (found : Option R) (f g : R → Outcome S) → ((x : R) → f x ≡ g x) → given found f ≡ given found g
same_given None f g h = refl
same_given (Some x) f g h = h x

after_given : {Q R S : Type 0} (found : Option Q) (make : Q → Outcome R) (next : R → Forest → Outcome S) → given found (λ x. after (make x) next) ≡ after (given found make) next
after_given None make next = refl
after_given (Some x) make next = refl

-- what holds of a result, where there is one
abbrev Holds : {R : Type 0} → (R → Type 0) → Outcome R → Type 0
Holds P (gives x left) = P x
Holds P (raises code) = Unit {0}
Holds P wrong = Unit {0}

holds_after : {R S : Type 0} (P : R → Type 0) (Q : S → Type 0) (o : Outcome R) (next : R → Forest → Outcome S) → Holds P o → ((x : R) (left : Forest) → P x → Holds Q (next x left)) → Holds Q (after o next)
holds_after P Q (gives x left) next h f = f x left h
holds_after P Q (raises code) next h f = tt
holds_after P Q wrong next h f = tt

same_where : {R S : Type 0} (P : R → Type 0) (o : Outcome R) (f g : R → Forest → Outcome S) → Holds P o → ((x : R) (left : Forest) → P x → f x left ≡ g x left) → after o f ≡ after o g
same_where P (gives x left) f g p h = h x left p
same_where P (raises code) f g p h = refl
same_where P wrong f g p h = refl

holds_given : {R S : Type 0} (Q : S → Type 0) (found : Option R) (next : R → Outcome S) → ((x : R) → Holds Q (next x)) → Holds Q (given found next)
holds_given Q None next h = tt
holds_given Q (Some x) next h = h x

-- what a call leaves, where it does not want for memory
pub where_done : {T E : Type 0} (r : Result T E) (x y z : Outcome Items) → OnOk r (x ≡ y) → y ≡ z → OnOk r (x ≡ z)
where_done r x y z h e = on_ok_weaker r (λ (g : x ≡ y). g ∙ e) h

pub where_put : {T E : Type 0} (r : Result T E) (run : List Pending → Outcome Items) (old new : List Pending) (z : Outcome Items) → OnOk r (old ≡ new) → run new ≡ z → OnOk r (run old ≡ z)
where_put r run old new z h e = on_ok_weaker r (λ (g : old ≡ new). ap run g ∙ e) h

pub where_both : {T E : Type 0} (r : Result T E) (run : List Pending → Outcome Items) (old middle rest : List Pending) (pending : Pending) (z : Outcome Items)
    → OnOk r (old ≡ pending ∷ middle) → middle ≡ rest → run (pending ∷ rest) ≡ z → OnOk r (run old ≡ z)
where_both r run old middle rest pending z h e f = on_ok_weaker r (λ (g : old ≡ pending ∷ middle). ap run (g ∙ ap (λ (w : List Pending). pending ∷ w) e) ∙ f) h

-- ---- each tuple has a key for each order

abbrev AnyResult : {R : Type 0} → R → Type 0
AnyResult x = Unit {0}

anything : {R : Type 0} (o : Outcome R) → Holds (AnyResult {R = R}) o
anything (gives x left) = tt
anything (raises code) = tt
anything wrong = tt

abbrev HasKeys : List KeyOrder → Tuple → Type 0
HasKeys orders t = length t.keys ≡ length orders

keys_counted : (orders : List KeyOrder) (parts : List Denotation) (bindings : Bindings) (forest : Forest) → Holds (λ keys. length keys ≡ length orders) (tuple_keys orders parts bindings forest)
keys_counted [] parts bindings forest = refl
keys_counted (order ∷ orders) [] bindings forest = tt
keys_counted (order ∷ orders) (part ∷ parts) bindings forest =
    holds_after (AnyResult {R = Items}) (λ keys. length keys ≡ suc (length orders)) (part bindings forest) (λ xs left. given (key_of xs) (λ key. after (tuple_keys orders parts bindings left) (λ keys last. gives (key ∷ keys) last)))
    (anything (part bindings forest))
    (λ xs left any. holds_given (λ keys. length keys ≡ suc (length orders)) (key_of xs) (λ key. after (tuple_keys orders parts bindings left) (λ keys last. gives (key ∷ keys) last))
    (λ key. holds_after (λ keys. length keys ≡ length orders) (λ keys. length keys ≡ suc (length orders)) (tuple_keys orders parts bindings left) (λ keys last. gives (key ∷ keys) last) (keys_counted orders parts bindings left)
    (λ keys last e. ap suc e)))

each_joined : {T : Type 0} (P : T → Type 0) (ts us : List T) → AllByRecursion P ts → AllByRecursion P us → AllByRecursion P (ts ++ us)
each_joined P [] us h k = k
each_joined P (t ∷ ts) us h k = (h.0, each_joined P ts us h.1 k)

turns_counted : (P : Tuple → Type 0) (next : ℕ → Item → Forest → Outcome (List Tuple)) (number : ℕ) (xs : Items) (forest : Forest) → ((n : ℕ) (x : Item) (now : Forest) → Holds (AllByRecursion P) (next n x now))
    → Holds (AllByRecursion P) (tuples_of_each next number xs forest)
turns_counted P next number [] forest h = tt
turns_counted P next number (x ∷ xs) forest h =
    holds_after (AllByRecursion P) (AllByRecursion P) (next number x forest) (λ found left. after (tuples_of_each next (suc number) xs left) (λ others last. gives (found ++ others) last)) (h number x forest)
    (λ found left p. holds_after (AllByRecursion P) (AllByRecursion P) (tuples_of_each next (suc number) xs left) (λ others last. gives (found ++ others) last) (turns_counted P next (suc number) xs left h)
    (λ others last q. each_joined P found others p q))

tuples_counted : (kinds : List ClauseKind) (orders : List KeyOrder) (parts : List Denotation) (bound outer : Bindings) (forest : Forest) → Holds (AllByRecursion (HasKeys orders)) (tuples_of kinds orders parts bound outer forest)
tuples_counted [] orders parts bound outer forest =
    holds_after (λ keys. length keys ≡ length orders) (AllByRecursion (HasKeys orders)) (tuple_keys orders parts (bound ++ outer) forest) (λ keys left. gives (record { keys = keys; bound = bound } ∷ []) left)
    (keys_counted orders parts (bound ++ outer) forest) (λ keys left e. (e, tt))
tuples_counted (kind ∷ kinds) orders [] bound outer forest = tt
tuples_counted (For binder position ∷ kinds) orders (source ∷ parts) bound outer forest =
    holds_after (AnyResult {R = Items}) (AllByRecursion (HasKeys orders)) (source (bound ++ outer) forest)
    (λ xs left. tuples_of_each (λ number x now. tuples_of kinds orders parts (item_bound binder.variable position number x ++ bound) outer now) 1 xs left) (anything (source (bound ++ outer) forest))
    (λ xs left any. turns_counted (HasKeys orders) (λ number x now. tuples_of kinds orders parts (item_bound binder.variable position number x ++ bound) outer now) 1 xs left
    (λ number x now. tuples_counted kinds orders parts (item_bound binder.variable position number x ++ bound) outer now))
tuples_counted (Let binder ∷ kinds) orders (value ∷ parts) bound outer forest =
    holds_after (AnyResult {R = Items}) (AllByRecursion (HasKeys orders)) (value (bound ++ outer) forest) (λ xs left. tuples_of kinds orders parts ((binder.variable, xs) ∷ bound) outer left) (anything (value (bound ++ outer) forest))
    (λ xs left any. tuples_counted kinds orders parts ((binder.variable, xs) ∷ bound) outer left)
tuples_counted (Where ∷ kinds) orders (condition ∷ parts) bound outer forest =
    holds_after (AnyResult {R = Items}) (AllByRecursion (HasKeys orders)) (condition (bound ++ outer) forest) (λ xs left. given (condition_of xs) (λ truth. tuples_if truth (λ now. tuples_of kinds orders parts bound outer now) left))
    (anything (condition (bound ++ outer) forest))
    (λ xs left any. holds_given (AllByRecursion (HasKeys orders)) (condition_of xs) (λ truth. tuples_if truth (λ now. tuples_of kinds orders parts bound outer now) left)
    (λ truth. elim truth as (λ (b : Bool). Holds (AllByRecursion (HasKeys orders)) (tuples_if b (λ now. tuples_of kinds orders parts bound outer now) left)) [
      | true ↦ tuples_counted kinds orders parts bound outer left
      | false ↦ tt
    ]))

-- ---- returns by number

-- the numbers of sorted tuples stand for what is bound in these
by_number : (body : Denotation) (outer : Bindings) (tuples : List Tuple) (numbers : List ℕ) (ordered : List Tuple) (done : Items) (forest : Forest) → map (slice_get tuples) numbers ≡ map Some ordered
    → returned_for body outer done (map (λ t. t.bound) tuples) numbers forest ≡ returned body outer done (map (λ t. t.bound) ordered) forest
by_number body outer tuples [] [] done forest e = refl
by_number body outer tuples [] (t ∷ ordered) done forest e = absurd (cc)
by_number body outer tuples (n ∷ numbers) [] done forest e = absurd (cc)
by_number body outer tuples (n ∷ numbers) (t ∷ ordered) done forest e =
    let first : slice_get tuples n ≡ Some t = cc in
    let others : map (slice_get tuples) numbers ≡ map Some ordered = cc in
    ap (λ (found : Option Bindings). given found (λ row. after (body (row ++ outer) forest) (λ more left. returned_for body outer (done ++ more) (map (λ t. t.bound) tuples) numbers left)))
    (slice_get-map (λ t. t.bound) tuples n ∙ ap (option_map (λ t. t.bound)) first)
    ∙ same_after (body (t.bound ++ outer) forest) (λ more left. returned_for body outer (done ++ more) (map (λ t. t.bound) tuples) numbers left) (λ more left. returned body outer (done ++ more) (map (λ t. t.bound) ordered) left)
    (λ more left. by_number body outer tuples numbers ordered (done ++ more) left others)

-- the values that are there stand before those of the returns
returns_behind : (body : Denotation) (outer : Bindings) (values done : Items) (rows : List Bindings) (forest : Forest)
    → returned body outer (values ++ done) rows forest ≡ after (returned body outer done rows forest) (λ more left. gives (values ++ more) left)
returns_behind body outer values done [] forest = refl
returns_behind body outer values done (row ∷ rows) forest =
    same_after (body (row ++ outer) forest) (λ more left. returned body outer ((values ++ done) ++ more) rows left) (λ more left. after (returned body outer (done ++ more) rows left) (λ ys last. gives (values ++ ys) last))
    (λ more left. ap (λ (v : Items). returned body outer v rows left) (append_assoc values done more) ∙ returns_behind body outer values (done ++ more) rows left)
    ∙ after_after (body (row ++ outer) forest) (λ more left. returned body outer (done ++ more) rows left) (λ ys last. gives (values ++ ys) last)

-- ---- found tuples

pub found_again : (found : Found) (ts us : List Tuple) → found_more (found_more found ts) us ≡ found_more found (ts ++ us)
found_again found ts us =
    let keys : (found.keys ++ flat_map (λ (t : Tuple). t.keys) ts) ++ flat_map (λ (t : Tuple). t.keys) us ≡ found.keys ++ flat_map (λ (t : Tuple). t.keys) (ts ++ us) =
    append_assoc found.keys (flat_map (λ (t : Tuple). t.keys) ts) (flat_map (λ (t : Tuple). t.keys) us) ∙ ap (λ l. found.keys ++ l) (sym (flat_map-append (λ (t : Tuple). t.keys) ts us)) in
    let rows : (found.rows ++ map (λ (t : Tuple). t.bound) ts) ++ map (λ (t : Tuple). t.bound) us ≡ found.rows ++ map (λ (t : Tuple). t.bound) (ts ++ us) =
    append_assoc found.rows (map (λ (t : Tuple). t.bound) ts) (map (λ (t : Tuple). t.bound) us) ∙ ap (λ l. found.rows ++ l) (sym (map-append (λ (t : Tuple). t.bound) ts us)) in
    λ i. record { keys = keys i; rows = rows i; numbers = found.numbers }

-- the parts of clauses that are left, and what stands behind them
keys_alone : (m : PlanExpression → Denotation) (keys : List (SortKey Carried)) (more : List Denotation) (bindings : Bindings) (forest : Forest)
    → tuple_keys (map order_of_key keys) (map m (map part_of_key keys) ++ more) bindings forest ≡ tuple_keys (map order_of_key keys) (map (λ key. m (part_of_key key)) keys) bindings forest
keys_alone m [] more bindings forest = refl
keys_alone m (key ∷ keys) more bindings forest =
    same_after (m (part_of_key key) bindings forest)
    (λ xs left. given (key_of xs) (λ k. after (tuple_keys (map order_of_key keys) (map m (map part_of_key keys) ++ more) bindings left) (λ ks last. gives (k ∷ ks) last)))
    (λ xs left. given (key_of xs) (λ k. after (tuple_keys (map order_of_key keys) (map (λ key. m (part_of_key key)) keys) bindings left) (λ ks last. gives (k ∷ ks) last)))
    (λ xs left. same_given (key_of xs) (λ k. after (tuple_keys (map order_of_key keys) (map m (map part_of_key keys) ++ more) bindings left) (λ ks last. gives (k ∷ ks) last))
    (λ k. after (tuple_keys (map order_of_key keys) (map (λ key. m (part_of_key key)) keys) bindings left) (λ ks last. gives (k ∷ ks) last))
    (λ k. ap (λ (o : Outcome (List (Option Atomic))). after o (λ ks last. gives (k ∷ ks) last)) (keys_alone m keys more bindings left)))

behind_keys : (m : PlanExpression → Denotation) (keys : List (SortKey Carried)) (body : PlanExpression) → drop (length (map order_of_key keys)) (map m (map part_of_key keys ++ body ∷ [])) ≡ m body ∷ []
behind_keys m [] body = refl
behind_keys m (key ∷ keys) body = behind_keys m keys body

behind_clauses : (m : PlanExpression → Denotation) (clauses : List (Clause Carried)) (keys : List (SortKey Carried)) (body : PlanExpression)
    → drop (length (map order_of_key keys)) (drop (length (map kind_of_clause clauses)) (map m (parts_of_block clauses keys body))) ≡ m body ∷ []
behind_clauses m [] keys body = behind_keys m keys body
behind_clauses m (clause ∷ clauses) keys body = behind_clauses m clauses keys body

-- ---- a block

-- the returns of the tuples that were found, by their numbers, come to those of the block
pub block_opens : (m : PlanExpression → Denotation) (clauses : List (Clause Carried)) (keys : List (SortKey Carried)) (body : PlanExpression) (values : Items) (found : Found) (bindings : Bindings) (forest : Forest) (next : Items → Forest → Outcome Items)
    → after (tuples_of (map kind_of_clause clauses) (map order_of_key keys) (map m (parts_of_block clauses keys body)) [] bindings forest)
    (λ ts left. after (returned_for (m body) bindings values (drop (length found.rows) (found.rows ++ map (λ t. t.bound) ts))
    (numbers_in_order (map order_of_key keys) (drop (length found.keys) (found.keys ++ flat_map (λ t. t.keys) ts)) (length (drop (length found.rows) (found.rows ++ map (λ t. t.bound) ts)))) left) next)
    ≡ after (block_denoted (map kind_of_clause clauses) (map order_of_key keys) (map m (parts_of_block clauses keys body)) bindings forest) (λ more left. next (values ++ more) left)
block_opens m clauses keys body values found bindings forest next =
    let kinds : List ClauseKind = map kind_of_clause clauses in
    let orders : List KeyOrder = map order_of_key keys in
    let parts : List Denotation = map m (parts_of_block clauses keys body) in
    let tuples : Outcome (List Tuple) = tuples_of kinds orders parts [] bindings forest in
    let returns : List Tuple → Forest → Outcome Items = block_returned orders (drop (length orders) (drop (length kinds) parts)) bindings in
    same_where (AllByRecursion (HasKeys orders)) tuples
    (λ ts left. after (returned_for (m body) bindings values (drop (length found.rows) (found.rows ++ map (λ t. t.bound) ts))
    (numbers_in_order orders (drop (length found.keys) (found.keys ++ flat_map (λ t. t.keys) ts)) (length (drop (length found.rows) (found.rows ++ map (λ t. t.bound) ts)))) left) next)
    (λ ts left. after (returns ts left) (λ more last. next (values ++ more) last))
    (tuples_counted kinds orders parts [] bindings forest)
    (λ ts left counted.
    let rows : List Bindings = map (λ (t : Tuple). t.bound) ts in
    let ordered : List Tuple = in_key_order orders ts in
    let count : length rows ≡ length ts = length_map ts in
    ap (λ (rs : List Bindings). after (returned_for (m body) bindings values rs (numbers_in_order orders (drop (length found.keys) (found.keys ++ flat_map (λ t. t.keys) ts)) (length rs)) left) next) (drop-append_seam found.rows rows)
    ∙ ap (λ (ks : List (Option Atomic)). after (returned_for (m body) bindings values rows (numbers_in_order orders ks (length rows)) left) next) (drop-append_seam found.keys (flat_map (λ (t : Tuple). t.keys) ts))
    ∙ ap (λ (n : ℕ). after (returned_for (m body) bindings values rows (numbers_in_order orders (flat_map (λ (t : Tuple). t.keys) ts) n) left) next) count
    ∙ ap (λ (o : Outcome Items). after o next) (by_number (m body) bindings ts (numbers_in_order orders (flat_map (λ (t : Tuple). t.keys) ts) (length ts)) ordered values left
    (numbers_are_of_sorted_tuples Tuple orders (λ t. t.keys) ts counted))
    ∙ ap (λ (v : Items). after (returned (m body) bindings v (map (λ (t : Tuple). t.bound) ordered) left) next) (sym (append-nil values))
    ∙ ap (λ (o : Outcome Items). after o next) (returns_behind (m body) bindings values [] (map (λ (t : Tuple). t.bound) ordered) left)
    ∙ sym (after_after (returned (m body) bindings [] (map (λ (t : Tuple). t.bound) ordered) left) (λ more last. gives (values ++ more) last) next)
    ∙ ap (λ (ds : List Denotation). after (block_returned orders ds bindings ts left) (λ more last. next (values ++ more) last)) (sym (behind_clauses m clauses keys body)))
    ∙ after_after tuples returns (λ more last. next (values ++ more) last)
  where
    length_map : (ts : List Tuple) → length (map (λ (t : Tuple). t.bound) ts) ≡ length ts
    length_map [] = refl
    length_map (t ∷ ts) = ap suc (length_map ts)

taken_again : (found : Found) (ts : List Tuple) (first_key first_row : ℕ) → first_key ≡ length found.keys → first_row ≡ length found.rows → before_block (found_more found ts) first_key first_row ≡ found
taken_again found ts first_key first_row e h =
    let keys : take first_key (found.keys ++ flat_map (λ (t : Tuple). t.keys) ts) ≡ found.keys =
    ap (λ (n : ℕ). take n (found.keys ++ flat_map (λ (t : Tuple). t.keys) ts)) e ∙ take-append_seam found.keys (flat_map (λ (t : Tuple). t.keys) ts) in
    let rows : take first_row (found.rows ++ map (λ (t : Tuple). t.bound) ts) ≡ found.rows =
    ap (λ (n : ℕ). take n (found.rows ++ map (λ (t : Tuple). t.bound) ts)) h ∙ take-append_seam found.rows (map (λ (t : Tuple). t.bound) ts) in
    λ i. record { keys = keys i; rows = rows i; numbers = found.numbers }

-- what follows where tuples are found, and where values are there
abbrev Next : Type 0
Next = Items → Stacks → Forest → Outcome Items

abbrev Rest : Type 0
Rest = Items → Forest → Outcome Items

-- the same where the tuples are taken away again
pub block_opens_at : (m : PlanExpression → Denotation) (clauses : List (Clause Carried)) (keys : List (SortKey Carried)) (body : PlanExpression) (values : Items) (first_key first_row : ℕ) (stacks : Stacks) (bindings : Bindings) (forest : Forest) (next : Next)
    → first_key ≡ length stacks.found.keys → first_row ≡ length stacks.found.rows
    → after (tuples_of (map kind_of_clause clauses) (map order_of_key keys) (map m (parts_of_block clauses keys body)) [] bindings forest)
    (λ ts left. after (returned_for (m body) bindings values (drop first_row (stacks.found.rows ++ map (λ t. t.bound) ts))
    (numbers_in_order (map order_of_key keys) (drop first_key (stacks.found.keys ++ flat_map (λ t. t.keys) ts)) (length (drop first_row (stacks.found.rows ++ map (λ t. t.bound) ts)))) left)
    (λ vs last. next vs (with_found stacks (before_block (found_more stacks.found ts) first_key first_row)) last))
    ≡ after (block_denoted (map kind_of_clause clauses) (map order_of_key keys) (map m (parts_of_block clauses keys body)) bindings forest) (λ more left. next (values ++ more) stacks left)
block_opens_at m clauses keys body values first_key first_row stacks bindings forest next e h =
    let found : Found = stacks.found in
    let orders : List KeyOrder = map order_of_key keys in
    let returns : ℕ → ℕ → List Tuple → Forest → Outcome Items = λ j i ts left.
    returned_for (m body) bindings values (drop i (found.rows ++ map (λ t. t.bound) ts)) (numbers_in_order orders (drop j (found.keys ++ flat_map (λ t. t.keys) ts)) (length (drop i (found.rows ++ map (λ t. t.bound) ts)))) left in
    let tuples : Outcome (List Tuple) = tuples_of (map kind_of_clause clauses) orders (map m (parts_of_block clauses keys body)) [] bindings forest in
    same_after tuples (λ ts left. after (returns first_key first_row ts left) (λ vs last. next vs (with_found stacks (before_block (found_more found ts) first_key first_row)) last))
    (λ ts left. after (returns (length found.keys) (length found.rows) ts left) (λ vs last. next vs stacks last))
    (λ ts left.
    ap (λ (f : Found). after (returns first_key first_row ts left) (λ vs last. next vs (with_found stacks f) last)) (taken_again found ts first_key first_row e h)
    ∙ ap (λ (j : ℕ). after (returns j first_row ts left) (λ vs last. next vs stacks last)) e
    ∙ ap (λ (i : ℕ). after (returns (length found.keys) i ts left) (λ vs last. next vs stacks last)) h)
    ∙ block_opens m clauses keys body values found bindings forest (λ vs left. next vs stacks left)

-- ---- pieces of the work of clauses

abbrev pub with_more : Next → (values : Items) → Stacks → List Tuple → Forest → Outcome Items
with_more next values stacks ts left = next values (with_found stacks (found_more stacks.found ts)) left

-- the row of a tuple is found before its keys
abbrev pub with_row : Found → Bindings → Found
with_row found row = record { keys = found.keys; rows = found.rows ++ row ∷ []; numbers = found.numbers }

walk_ends : (m : PlanExpression → Denotation) (keys : List (SortKey Carried)) (body : PlanExpression) (n : ℕ) (bindings : Bindings) (row : Bindings) (values : Items) (stacks : Stacks) (forest : Forest) (next : Next)
    → row ≡ take n bindings
    → after (tuple_keys (map order_of_key keys) (map (λ key. m (part_of_key key)) keys) bindings forest) (λ ks left. next values (with_found stacks (with_keys (with_row stacks.found row) ks)) left)
    ≡ after (tuples_of [] (map order_of_key keys) (map m (map part_of_key keys ++ body ∷ [])) (take n bindings) (drop n bindings) forest) (with_more next values stacks)
walk_ends m keys body n bindings row values stacks forest next e =
    let orders : List KeyOrder = map order_of_key keys in
    let parts : List Denotation = map m (map part_of_key keys ++ body ∷ []) in
    let own : Bindings = take n bindings in
    let tuple : List (Option Atomic) → Tuple = λ ks. record { keys = ks; bound = own } in
    let found : Found = stacks.found in
    ap (λ (r : Bindings). after (tuple_keys orders (map (λ key. m (part_of_key key)) keys) bindings forest) (λ ks left. next values (with_found stacks (with_keys (with_row found r) ks)) left)) e
    ∙ ap (λ (o : Outcome (List (Option Atomic))). after o (λ ks left. next values (with_found stacks (with_keys (with_row found own) ks)) left))
    (sym (keys_alone m keys (m body ∷ []) bindings forest) ∙ ap (λ (ds : List Denotation). tuple_keys orders ds bindings forest) (sym (map-append m (map part_of_key keys) (body ∷ [])))
    ∙ ap (λ (bs : Bindings). tuple_keys orders parts bs forest) (sym (take-append-drop n bindings)))
    ∙ same_after (tuple_keys orders parts (own ++ drop n bindings) forest) (λ ks left. next values (with_found stacks (with_keys (with_row found own) ks)) left) (λ ks left. with_more next values stacks (tuple ks ∷ []) left)
    (λ ks left. ap (λ (l : List (Option Atomic)). next values (with_found stacks (record { keys = found.keys ++ l; rows = found.rows ++ own ∷ []; numbers = found.numbers })) left) (sym (append-nil ks)))
    ∙ after_after (tuple_keys orders parts (own ++ drop n bindings) forest) (λ ks left. gives (tuple ks ∷ []) left) (with_more next values stacks)

-- turns that find the same
same_turns : (f g : ℕ → Item → Forest → Outcome (List Tuple)) (number : ℕ) (xs : Items) (forest : Forest) → ((n : ℕ) (x : Item) (now : Forest) → f n x now ≡ g n x now) → tuples_of_each f number xs forest ≡ tuples_of_each g number xs forest
same_turns f g number [] forest h = refl
same_turns f g number (x ∷ xs) forest h =
    ap (λ (o : Outcome (List Tuple)). after o (λ found left. after (tuples_of_each f (suc number) xs left) (λ others last. gives (found ++ others) last))) (h number x forest)
    ∙ same_after (g number x forest) (λ found left. after (tuples_of_each f (suc number) xs left) (λ others last. gives (found ++ others) last)) (λ found left. after (tuples_of_each g (suc number) xs left) (λ others last. gives (found ++ others) last))
    (λ found left. ap (λ (o : Outcome (List Tuple)). after o (λ others last. gives (found ++ others) last)) (same_turns f g (suc number) xs left h))

turn_length : (variable position number : ℕ) (x : Item) → length (item_bound variable position number x) ≡ bound_in_turn position
turn_length variable zero number x = refl
turn_length variable (suc position) number x = refl

more_taken : (own bindings : Bindings) (n inner : ℕ) → inner ≡ n + length own → take inner (own ++ bindings) ≡ own ++ take n bindings
more_taken own bindings n inner e =
    let turned : inner ≡ length own + n = omega (arith, e) in
    ap (λ (k : ℕ). take k (own ++ bindings)) turned ∙ take-append-add own bindings n

more_dropped : (own bindings : Bindings) (n inner : ℕ) → inner ≡ n + length own → drop inner (own ++ bindings) ≡ drop n bindings
more_dropped own bindings n inner e =
    let turned : inner ≡ length own + n = omega (arith, e) in
    ap (λ (k : ℕ). drop k (own ++ bindings)) turned ∙ drop-append-add own bindings n

-- the tuples of the clauses inside, under more bindings
inside_more : (kinds : List ClauseKind) (orders : List KeyOrder) (parts : List Denotation) (own bindings : Bindings) (n inner : ℕ) (forest : Forest) → inner ≡ n + length own
    → tuples_of kinds orders parts (take inner (own ++ bindings)) (drop inner (own ++ bindings)) forest ≡ tuples_of kinds orders parts (own ++ take n bindings) (drop n bindings) forest
inside_more kinds orders parts own bindings n inner forest e =
    let t = more_taken own bindings n inner e in
    let d = more_dropped own bindings n inner e in
    λ i. tuples_of kinds orders parts (t i) (d i) forest

-- a part of a clause is evaluated first
part_opens : (part : Denotation) (bindings : Bindings) (n : ℕ) (values : Items) (first : ℕ) (forest : Forest) (inside : Items → Forest → Outcome (List Tuple)) (make : Items → Forest → Outcome (List Tuple)) (stacks : Stacks) (next : Next)
    → first ≡ length values → ((xs : Items) (left : Forest) → inside xs left ≡ make xs left)
    → after (part bindings forest) (λ more left. after (inside (drop first (values ++ more)) left) (with_more next (take first (values ++ more)) stacks))
    ≡ after (after (part (take n bindings ++ drop n bindings) forest) make) (with_more next values stacks)
part_opens part bindings n values first forest inside make stacks next e h =
    ap (λ (k : ℕ). after (part bindings forest) (λ more left. after (inside (drop k (values ++ more)) left) (with_more next (take k (values ++ more)) stacks))) e
    ∙ same_after (part bindings forest) (λ more left. after (inside (drop (length values) (values ++ more)) left) (with_more next (take (length values) (values ++ more)) stacks)) (λ more left. after (make more left) (with_more next values stacks))
    (λ more left.
    ap (λ (xs : Items). after (inside xs left) (with_more next (take (length values) (values ++ more)) stacks)) (drop-append_seam values more)
    ∙ ap (λ (vs : Items). after (inside more left) (with_more next vs stacks)) (take-append_seam values more)
    ∙ ap (λ (o : Outcome (List Tuple)). after o (with_more next values stacks)) (h more left))
    ∙ ap (λ (bs : Bindings). after (part bs forest) (λ more left. after (make more left) (with_more next values stacks))) (sym (take-append-drop n bindings))
    ∙ after_after (part (take n bindings ++ drop n bindings) forest) make (with_more next values stacks)

pub for_walks : (kinds : List ClauseKind) (orders : List KeyOrder) (parts : List Denotation) (part : Denotation) (variable position n inner : ℕ) (bindings : Bindings) (values : Items) (first : ℕ) (stacks : Stacks) (forest : Forest) (next : Next)
    → inner ≡ n + bound_in_turn position → first ≡ length values
    → after (part bindings forest)
    (λ more left. after (tuples_of_each (λ number x now. tuples_of kinds orders parts (take inner (item_bound variable position number x ++ bindings)) (drop inner (item_bound variable position number x ++ bindings)) now) 1 (drop first (values ++ more)) left)
    (with_more next (take first (values ++ more)) stacks))
    ≡ after (after (part (take n bindings ++ drop n bindings) forest) (λ xs left. tuples_of_each (λ number x now. tuples_of kinds orders parts (item_bound variable position number x ++ take n bindings) (drop n bindings) now) 1 xs left))
    (with_more next values stacks)
for_walks kinds orders parts part variable position n inner bindings values first stacks forest next e h =
    part_opens part bindings n values first forest
    (λ xs left. tuples_of_each (λ number x now. tuples_of kinds orders parts (take inner (item_bound variable position number x ++ bindings)) (drop inner (item_bound variable position number x ++ bindings)) now) 1 xs left)
    (λ xs left. tuples_of_each (λ number x now. tuples_of kinds orders parts (item_bound variable position number x ++ take n bindings) (drop n bindings) now) 1 xs left) stacks next h
    (λ xs left. same_turns (λ number x now. tuples_of kinds orders parts (take inner (item_bound variable position number x ++ bindings)) (drop inner (item_bound variable position number x ++ bindings)) now)
    (λ number x now. tuples_of kinds orders parts (item_bound variable position number x ++ take n bindings) (drop n bindings) now) 1 xs left
    (λ number x now. inside_more kinds orders parts (item_bound variable position number x) bindings n inner now (e ∙ ap (λ (k : ℕ). n + k) (sym (turn_length variable position number x)))))

pub let_walks : (kinds : List ClauseKind) (orders : List KeyOrder) (parts : List Denotation) (part : Denotation) (variable n inner : ℕ) (bindings : Bindings) (values : Items) (first : ℕ) (stacks : Stacks) (forest : Forest) (next : Next)
    → inner ≡ n + 1 → first ≡ length values
    → after (part bindings forest)
    (λ more left. after (tuples_of kinds orders parts (take inner ((variable, drop first (values ++ more)) ∷ bindings)) (drop inner ((variable, drop first (values ++ more)) ∷ bindings)) left) (with_more next (take first (values ++ more)) stacks))
    ≡ after (after (part (take n bindings ++ drop n bindings) forest) (λ xs left. tuples_of kinds orders parts ((variable, xs) ∷ take n bindings) (drop n bindings) left)) (with_more next values stacks)
let_walks kinds orders parts part variable n inner bindings values first stacks forest next e h =
    part_opens part bindings n values first forest
    (λ xs left. tuples_of kinds orders parts (take inner ((variable, xs) ∷ bindings)) (drop inner ((variable, xs) ∷ bindings)) left)
    (λ xs left. tuples_of kinds orders parts ((variable, xs) ∷ take n bindings) (drop n bindings) left) stacks next h
    (λ xs left. inside_more kinds orders parts ((variable, xs) ∷ []) bindings n inner left e)

pub where_walks : (kinds : List ClauseKind) (orders : List KeyOrder) (parts : List Denotation) (part : Denotation) (n inner : ℕ) (bindings : Bindings) (values : Items) (first : ℕ) (stacks : Stacks) (forest : Forest) (next : Next)
    → inner ≡ n + 0 → first ≡ length values
    → after (part bindings forest)
    (λ more left. given (condition_of (drop first (values ++ more))) (λ truth. after (tuples_if truth (λ now. tuples_of kinds orders parts (take inner bindings) (drop inner bindings) now) left) (with_more next (take first (values ++ more)) stacks)))
    ≡ after (after (part (take n bindings ++ drop n bindings) forest) (λ xs left. given (condition_of xs) (λ truth. tuples_if truth (λ now. tuples_of kinds orders parts (take n bindings) (drop n bindings) now) left))) (with_more next values stacks)
where_walks kinds orders parts part n inner bindings values first stacks forest next e h =
    let same : inner ≡ n = omega (arith, e) in
    let inside : ℕ → Forest → Outcome (List Tuple) = λ k now. tuples_of kinds orders parts (take k bindings) (drop k bindings) now in
    same_after (part bindings forest)
    (λ more left. given (condition_of (drop first (values ++ more))) (λ truth. after (tuples_if truth (inside inner) left) (with_more next (take first (values ++ more)) stacks)))
    (λ more left. after (given (condition_of (drop first (values ++ more))) (λ truth. tuples_if truth (inside inner) left)) (with_more next (take first (values ++ more)) stacks))
    (λ more left. after_given (condition_of (drop first (values ++ more))) (λ truth. tuples_if truth (inside inner) left) (with_more next (take first (values ++ more)) stacks))
    ∙ part_opens part bindings n values first forest (λ xs left. given (condition_of xs) (λ truth. tuples_if truth (inside inner) left)) (λ xs left. given (condition_of xs) (λ truth. tuples_if truth (inside n) left)) stacks next h
    (λ xs left. ap (λ (k : ℕ). given (condition_of xs) (λ truth. tuples_if truth (inside k) left)) same)

-- the tuple is found behind the last clause
pub walk_ends_at : (m : PlanExpression → Denotation) (clauses : List (Clause Carried)) (keys : List (SortKey Carried)) (body : PlanExpression) (n : ℕ) (bindings : Bindings) (row : Bindings) (values : Items) (stacks : Stacks) (forest : Forest) (next : Next)
    → clauses ≡ [] → row ≡ take n bindings
    → after (tuple_keys (map order_of_key keys) (map (λ key. m (part_of_key key)) keys) bindings forest) (λ ks left. next values (with_found stacks (with_keys (with_row stacks.found row) ks)) left)
    ≡ after (tuples_of (map kind_of_clause clauses) (map order_of_key keys) (map m (parts_of_block clauses keys body)) (take n bindings) (drop n bindings) forest) (with_more next values stacks)
walk_ends_at m clauses keys body n bindings row values stacks forest next none e =
    walk_ends m keys body n bindings row values stacks forest next e
    ∙ ap (λ (cs : List (Clause Carried)). after (tuples_of (map kind_of_clause cs) (map order_of_key keys) (map m (parts_of_block cs keys body)) (take n bindings) (drop n bindings) forest) (with_more next values stacks)) (sym none)

-- ---- turns

none_more_found : (found : Found) → found_more found [] ≡ found
none_more_found found =
    let keys : found.keys ++ [] ≡ found.keys = append-nil found.keys in
    let rows : found.rows ++ [] ≡ found.rows = append-nil found.rows in
    λ i. record { keys = keys i; rows = rows i; numbers = found.numbers }

-- the items of a loop that are put aside
pub turns_gathered : (turn : ℕ → Item → Forest → Outcome (List Tuple)) (values front sources : Items) (first start : ℕ) (stacks : Stacks) (forest : Forest) (next : Next)
    → front ≡ take first values → sources ≡ stacks.sources ++ drop first values → start ≡ length stacks.sources
    → after (tuples_of_each turn 1 (drop start sources) forest) (λ ts left. next front (with_found (with_sources stacks (take start sources)) (found_more stacks.found ts)) left)
    ≡ after (tuples_of_each turn 1 (drop first values) forest) (with_more next (take first values) stacks)
turns_gathered turn values front sources first start stacks forest next f s e =
    let rest : Items = drop first values in
    ap (λ (vs : Items). after (tuples_of_each turn 1 (drop start sources) forest) (λ ts left. next vs (with_found (with_sources stacks (take start sources)) (found_more stacks.found ts)) left)) f
    ∙ ap (λ (xs : Items). after (tuples_of_each turn 1 (drop start xs) forest) (λ ts left. next (take first values) (with_found (with_sources stacks (take start xs)) (found_more stacks.found ts)) left)) s
    ∙ ap (λ (n : ℕ). after (tuples_of_each turn 1 (drop n (stacks.sources ++ rest)) forest) (λ ts left. next (take first values) (with_found (with_sources stacks (take n (stacks.sources ++ rest))) (found_more stacks.found ts)) left)) e
    ∙ ap (λ (xs : Items). after (tuples_of_each turn 1 xs forest) (λ ts left. next (take first values) (with_found (with_sources stacks (take (length stacks.sources) (stacks.sources ++ rest))) (found_more stacks.found ts)) left)) (drop-append_seam stacks.sources rest)
    ∙ ap (λ (xs : Items). after (tuples_of_each turn 1 rest forest) (λ ts left. next (take first values) (with_found (with_sources stacks xs) (found_more stacks.found ts)) left)) (take-append_seam stacks.sources rest)

-- no item is left
pub turns_end : (turn : ℕ → Item → Forest → Outcome (List Tuple)) (number : ℕ) (all : Items) (values : Items) (stacks : Stacks) (forest : Forest) (next : Next) → all ≡ []
    → next values stacks forest ≡ after (tuples_of_each turn number all forest) (with_more next values stacks)
turns_end turn number all values stacks forest next e =
    ap (λ (found : Found). next values (with_found stacks found) forest) (sym (none_more_found stacks.found))
    ∙ ap (λ (xs : Items). after (tuples_of_each turn number xs forest) (with_more next values stacks)) (sym e)

-- the tuples of a turn, and what is left of the loop
pub turns_go_on : (turn : ℕ → Item → Forest → Outcome (List Tuple)) (number following : ℕ) (x : Item) (rest all : Items) (found : Found) (forest : Forest) (next others : Found → Forest → Outcome Items)
    → following ≡ suc number → all ≡ x ∷ rest
    → ((so_far : Found) (left : Forest) → others so_far left ≡ after (tuples_of_each turn following rest left) (λ ts last. next (found_more so_far ts) last))
    → after (turn number x forest) (λ ts left. others (found_more found ts) left) ≡ after (tuples_of_each turn number all forest) (λ ts left. next (found_more found ts) left)
turns_go_on turn number following x rest all found forest next others n e h =
    same_after (turn number x forest) (λ ts left. others (found_more found ts) left)
    (λ ts left. after (after (tuples_of_each turn (suc number) rest left) (λ us last. gives (ts ++ us) last)) (λ us last. next (found_more found us) last))
    (λ ts left.
    h (found_more found ts) left
    ∙ ap (λ (m : ℕ). after (tuples_of_each turn m rest left) (λ us last. next (found_more (found_more found ts) us) last)) n
    ∙ same_after (tuples_of_each turn (suc number) rest left) (λ us last. next (found_more (found_more found ts) us) last) (λ us last. next (found_more found (ts ++ us)) last)
    (λ us last. ap (λ (f : Found). next f last) (found_again found ts us))
    ∙ after_after (tuples_of_each turn (suc number) rest left) (λ us last. gives (ts ++ us) last) (λ us last. next (found_more found us) last))
    ∙ after_after (turn number x forest) (λ ts left. after (tuples_of_each turn (suc number) rest left) (λ us last. gives (ts ++ us) last)) (λ us last. next (found_more found us) last)
    ∙ ap (λ (xs : Items). after (tuples_of_each turn number xs forest) (λ ts left. next (found_more found ts) left)) (sym e)

-- ---- conditions

-- a condition that is tested
pub condition_holds : (found : Option Bool) (truth : Bool) (inside : Forest → Outcome (List Tuple)) (forest : Forest) (next : List Tuple → Forest → Outcome Items) → found ≡ Some truth
    → after (tuples_if truth inside forest) next ≡ given found (λ t. after (tuples_if t inside forest) next)
condition_holds found truth inside forest next e = ap (λ (o : Option Bool). given o (λ t. after (tuples_if t inside forest) next)) (sym e)

-- one that does not hold, of which no tuple comes
pub condition_fails : (found : Option Bool) (inside : Forest → Outcome (List Tuple)) (values : Items) (stacks : Stacks) (forest : Forest) (next : Next) → found ≡ Some false
    → next values stacks forest ≡ given found (λ t. after (tuples_if t inside forest) (with_more next values stacks))
condition_fails found inside values stacks forest next e =
    ap (λ (f : Found). next values (with_found stacks f) forest) (sym (none_more_found stacks.found)) ∙ condition_holds found false inside forest (with_more next values stacks) e

-- what is no condition, or no key
pub none_is_given : {R : Type 0} (found : Option R) (next : R → Outcome Items) → found ≡ None → given found next ≡ wrong
none_is_given found next e = ap (λ o. given o next) e

-- ---- keys

-- a key, and those behind it
pub keys_open : (order : KeyOrder) (orders : List KeyOrder) (part : Denotation) (parts : List Denotation) (bindings : Bindings) (values : Items) (first : ℕ) (stacks : Stacks) (forest : Forest) (next : Next) → first ≡ length values
    → after (part bindings forest)
    (λ more left. given (key_of (drop first (values ++ more))) (λ key. after (tuple_keys orders parts bindings left)
    (λ ks last. next (take first (values ++ more)) (with_found (with_found stacks (with_keys stacks.found (key ∷ []))) (with_keys (with_keys stacks.found (key ∷ [])) ks)) last)))
    ≡ after (tuple_keys (order ∷ orders) (part ∷ parts) bindings forest) (λ ks left. next values (with_found stacks (with_keys stacks.found ks)) left)
keys_open order orders part parts bindings values first stacks forest next e =
    let found : Found = stacks.found in
    let put : List (Option Atomic) → Forest → Outcome Items = λ ks left. next values (with_found stacks (with_keys found ks)) left in
    ap (λ (k : ℕ). after (part bindings forest) (λ more left. given (key_of (drop k (values ++ more))) (λ key. after (tuple_keys orders parts bindings left)
    (λ ks last. next (take k (values ++ more)) (with_found stacks (with_keys (with_keys found (key ∷ [])) ks)) last)))) e
    ∙ same_after (part bindings forest)
    (λ more left. given (key_of (drop (length values) (values ++ more))) (λ key. after (tuple_keys orders parts bindings left) (λ ks last. next (take (length values) (values ++ more)) (with_found stacks (with_keys (with_keys found (key ∷ [])) ks)) last)))
    (λ more left. after (given (key_of more) (λ key. after (tuple_keys orders parts bindings left) (λ ks last. gives (key ∷ ks) last))) put)
    (λ more left.
    ap (λ (xs : Items). given (key_of xs) (λ key. after (tuple_keys orders parts bindings left) (λ ks last. next (take (length values) (values ++ more)) (with_found stacks (with_keys (with_keys found (key ∷ [])) ks)) last))) (drop-append_seam values more)
    ∙ ap (λ (vs : Items). given (key_of more) (λ key. after (tuple_keys orders parts bindings left) (λ ks last. next vs (with_found stacks (with_keys (with_keys found (key ∷ [])) ks)) last))) (take-append_seam values more)
    ∙ same_given (key_of more) (λ key. after (tuple_keys orders parts bindings left) (λ ks last. next values (with_found stacks (with_keys (with_keys found (key ∷ [])) ks)) last))
    (λ key. after (after (tuple_keys orders parts bindings left) (λ ks last. gives (key ∷ ks) last)) put)
    (λ key.
    same_after (tuple_keys orders parts bindings left) (λ ks last. next values (with_found stacks (with_keys (with_keys found (key ∷ [])) ks)) last) (λ ks last. put (key ∷ ks) last)
    (λ ks last. ap (λ (l : List (Option Atomic)). next values (with_found stacks (record { keys = l; rows = found.rows; numbers = found.numbers })) last) (append_assoc found.keys (key ∷ []) ks))
    ∙ after_after (tuple_keys orders parts bindings left) (λ ks last. gives (key ∷ ks) last) put)
    ∙ after_given (key_of more) (λ key. after (tuple_keys orders parts bindings left) (λ ks last. gives (key ∷ ks) last)) put)
    ∙ after_after (part bindings forest) (λ xs left. given (key_of xs) (λ key. after (tuple_keys orders parts bindings left) (λ ks last. gives (key ∷ ks) last))) put

-- no key is left
pub keys_end : (m : PlanExpression → Denotation) (keys : List (SortKey Carried)) (bindings : Bindings) (values : Items) (stacks : Stacks) (forest : Forest) (next : Next) → keys ≡ []
    → next values stacks forest ≡ after (tuple_keys (map order_of_key keys) (map (λ key. m (part_of_key key)) keys) bindings forest) (λ ks left. next values (with_found stacks (with_keys stacks.found ks)) left)
keys_end m keys bindings values stacks forest next e =
    let found : Found = stacks.found in
    ap (λ (l : List (Option Atomic)). next values (with_found stacks (record { keys = l; rows = found.rows; numbers = found.numbers })) forest) (sym (append-nil found.keys))
    ∙ ap (λ (ks : List (SortKey Carried)). after (tuple_keys (map order_of_key ks) (map (λ key. m (part_of_key key)) ks) bindings forest) (λ l left. next values (with_found stacks (with_keys found l)) left)) (sym e)

pub keys_open_at : (m : PlanExpression → Denotation) (keys others : List (SortKey Carried)) (key : SortKey Carried) (bindings : Bindings) (values : Items) (first : ℕ) (stacks : Stacks) (forest : Forest) (next : Next) → keys ≡ key ∷ others → first ≡ length values
    → after (m (part_of_key key) bindings forest)
    (λ more left. given (key_of (drop first (values ++ more))) (λ one. after (tuple_keys (map order_of_key others) (map (λ other. m (part_of_key other)) others) bindings left)
    (λ ks last. next (take first (values ++ more)) (with_found (with_found stacks (with_keys stacks.found (one ∷ []))) (with_keys (with_keys stacks.found (one ∷ [])) ks)) last)))
    ≡ after (tuple_keys (map order_of_key keys) (map (λ other. m (part_of_key other)) keys) bindings forest) (λ ks left. next values (with_found stacks (with_keys stacks.found ks)) left)
keys_open_at m keys others key bindings values first stacks forest next e h =
    keys_open (order_of_key key) (map order_of_key others) (m (part_of_key key)) (map (λ other. m (part_of_key other)) others) bindings values first stacks forest next h
    ∙ ap (λ (ks : List (SortKey Carried)). after (tuple_keys (map order_of_key ks) (map (λ other. m (part_of_key other)) ks) bindings forest) (λ l left. next values (with_found stacks (with_keys stacks.found l)) left)) (sym e)

pub key_taken : (found : Option (Option Atomic)) (key : Option Atomic) (values : Items) (stacks : Stacks) (forest : Forest) (next : Next) → found ≡ Some key
    → next values (with_found stacks (with_keys stacks.found (key ∷ []))) forest ≡ given found (λ k. next values (with_found stacks (with_keys stacks.found (k ∷ []))) forest)
key_taken found key values stacks forest next e = ap (λ (o : Option (Option Atomic)). given o (λ k. next values (with_found stacks (with_keys stacks.found (k ∷ []))) forest)) (sym e)

-- ---- returns

-- the numbers that are put aside for the returns
pub returns_begin : (body : Denotation) (bindings : Bindings) (values : Items) (rows : List Bindings) (own numbers : List ℕ) (first_key first_row start : ℕ) (stacks : Stacks) (forest : Forest) (next : Next)
    → numbers ≡ stacks.found.numbers ++ own → start ≡ length stacks.found.numbers
    → after (returned_for body bindings values rows (drop start numbers) forest)
    (λ vs left. next vs (with_found stacks (record { keys = take first_key stacks.found.keys; rows = take first_row stacks.found.rows; numbers = take start numbers })) left)
    ≡ after (returned_for body bindings values rows own forest) (λ vs left. next vs (with_found stacks (before_block stacks.found first_key first_row)) left)
returns_begin body bindings values rows own numbers first_key first_row start stacks forest next e h =
    let found : Found = stacks.found in
    let left_behind : List ℕ → Found = λ ns. record { keys = take first_key found.keys; rows = take first_row found.rows; numbers = ns } in
    ap (λ (ns : List ℕ). after (returned_for body bindings values rows (drop start ns) forest) (λ vs left. next vs (with_found stacks (left_behind (take start ns))) left)) e
    ∙ ap (λ (n : ℕ). after (returned_for body bindings values rows (drop n (found.numbers ++ own)) forest) (λ vs left. next vs (with_found stacks (left_behind (take n (found.numbers ++ own)))) left)) h
    ∙ ap (λ (ns : List ℕ). after (returned_for body bindings values rows ns forest) (λ vs left. next vs (with_found stacks (left_behind (take (length found.numbers) (found.numbers ++ own)))) left)) (drop-append_seam found.numbers own)
    ∙ ap (λ (ns : List ℕ). after (returned_for body bindings values rows own forest) (λ vs left. next vs (with_found stacks (left_behind ns)) left)) (take-append_seam found.numbers own)

-- the next number
pub next_number : (numbers : List ℕ) (i number : ℕ) → i < length numbers → number ≡ get_or numbers i number → drop i numbers ≡ number ∷ drop (i + 1) numbers
next_number numbers i number h e =
    drop-cons numbers i number h ∙ ap (λ (n : ℕ). n ∷ drop (suc i) numbers) (sym e) ∙ ap (λ (k : ℕ). number ∷ drop k numbers) (sym (add-one i))

-- the row of a number, as what is bound in it
pub row_found : (later : Forest) (own : List Row) (number : ℕ) (rows : List Bindings) (found : Option Row) → rows ≡ map (row_in later) own → slice_get own number ≡ found
    → slice_get rows number ≡ option_map (row_in later) found
row_found later own number rows found e h = ap (λ (rs : List Bindings). slice_get rs number) e ∙ slice_get-map (row_in later) own number ∙ ap (option_map (row_in later)) h

-- no number is left
pub returns_end : (body : Denotation) (bindings : Bindings) (values : Items) (rows : List Bindings) (numbers : List ℕ) (beside : Stacks) (forest : Forest) (next : Next) → numbers ≡ []
    → next values beside forest ≡ after (returned_for body bindings values rows numbers forest) (λ vs left. next vs beside left)
returns_end body bindings values rows numbers beside forest next e = ap (λ (ns : List ℕ). after (returned_for body bindings values rows ns forest) (λ vs left. next vs beside left)) (sym e)

-- a number that stands for no tuple
pub no_row : (body : Denotation) (bindings : Bindings) (values : Items) (rows : List Bindings) (number : ℕ) (rest numbers : List ℕ) (forest : Forest) (next : Rest) → numbers ≡ number ∷ rest → slice_get rows number ≡ None
    → after (returned_for body bindings values rows numbers forest) next ≡ wrong
no_row body bindings values rows number rest numbers forest next e none =
    ap (λ (ns : List ℕ). after (returned_for body bindings values rows ns forest) next) e
    ∙ ap (λ (o : Option Bindings). after (given o (λ row. after (body (row ++ bindings) forest) (λ more left. returned_for body bindings (values ++ more) rows rest left))) next) none

-- what is returned for the next tuple, and then for the others
pub returns_go_on : (body : Denotation) (bindings : Bindings) (values : Items) (rows : List Bindings) (row : Bindings) (number count : ℕ) (rest numbers : List ℕ) (forest : Forest) (next : Rest) (others : Items → Bindings → Forest → Outcome Items)
    → numbers ≡ number ∷ rest → slice_get rows number ≡ Some row → count ≡ length row
    → ((vs : Items) (left : Forest) → others vs bindings left ≡ after (returned_for body bindings vs rows rest left) next)
    → after (body (row ++ bindings) forest) (λ more left. others (values ++ more) (drop count (row ++ bindings)) left) ≡ after (returned_for body bindings values rows numbers forest) next
returns_go_on body bindings values rows row number count rest numbers forest next others e there n h =
    let one : Outcome Items = body (row ++ bindings) forest in
    ap (λ (k : ℕ). after one (λ more left. others (values ++ more) (drop k (row ++ bindings)) left)) n
    ∙ ap (λ (bs : Bindings). after one (λ more left. others (values ++ more) bs left)) (drop-append_seam row bindings)
    ∙ same_after one (λ more left. others (values ++ more) bindings left) (λ more left. after (returned_for body bindings (values ++ more) rows rest left) next) (λ more left. h (values ++ more) left)
    ∙ after_after one (λ more left. returned_for body bindings (values ++ more) rows rest left) next
    ∙ ap (λ (o : Option Bindings). after (given o (λ r. after (body (r ++ bindings) forest) (λ more left. returned_for body bindings (values ++ more) rows rest left))) next) (sym there)
    ∙ ap (λ (ns : List ℕ). after (returned_for body bindings values rows ns forest) next) (sym e)

-- ---- rows

pub dropped_again : {T : Type 0} (n : ℕ) (xs : List T) → drop n (drop 1 xs) ≡ drop (suc n) xs
dropped_again n [] = drop_all n [] (omega arith)
dropped_again n (x ∷ xs) = refl

-- a copy of the next binding
pub next_copied : (later : Forest) (bindings row : List (ℕ × Bound)) (depth variable : ℕ) (bound copied : Bound) → slice_get bindings depth ≡ Some (variable, bound) → bound_items later copied ≡ bound_items later bound
    → items_of later row ≡ take depth (items_of later bindings) → items_of later (row ++ (variable, copied) ∷ []) ≡ take (depth + 1) (items_of later bindings)
next_copied later bindings row depth variable bound copied there same so_far =
    let one : ℕ × Bound → ℕ × Items = λ binding. (binding.0, bound_items later binding.1) in
    map-append one row ((variable, copied) ∷ [])
    ∙ ap (λ (xs : Items). items_of later row ++ (variable, xs) ∷ []) same
    ∙ ap (λ (bs : Bindings). bs ++ one (variable, bound) ∷ []) (so_far ∙ take-map one depth bindings)
    ∙ ap (λ (b : ℕ × Bound). map one (take depth bindings) ++ one b ∷ []) (sym (get_or_from_slice_get bindings depth (variable, bound) (variable, bound) there))
    ∙ sym (map_more one bindings depth (variable, bound) (slice_get_within bindings depth (variable, bound) there))
    ∙ sym (take-map one (depth + 1) bindings)

-- the last binding of those that are left is bound again
pub next_bound : (later : Forest) (inner rest scope now : List (ℕ × Bound)) (binding : ℕ × Bound) (copied : Bound) → rest ≡ inner ++ binding ∷ [] → now ≡ (binding.0, copied) ∷ scope → bound_items later copied ≡ bound_items later binding.1
    → items_of later inner ++ items_of later now ≡ items_of later rest ++ items_of later scope
next_bound later inner rest scope now binding copied e h same =
    ap (λ (bs : List (ℕ × Bound)). items_of later inner ++ items_of later bs) h
    ∙ ap (λ (xs : Items). items_of later inner ++ (binding.0, xs) ∷ items_of later scope) same
    ∙ sym (append_assoc (items_of later inner) ((binding.0, bound_items later binding.1) ∷ []) (items_of later scope))
    ∙ ap (λ (bs : Bindings). bs ++ items_of later scope) (sym (map-append (λ (b : ℕ × Bound). (b.0, bound_items later b.1)) inner (binding ∷ [])))
    ∙ ap (λ (bs : List (ℕ × Bound)). items_of later bs ++ items_of later scope) (sym e)
