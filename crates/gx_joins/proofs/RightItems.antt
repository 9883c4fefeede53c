-- What comes for the right items that pass a test: by a loop over all of them, and by the rows of those that pass.
use Rattle.std.proofs.Common.{◌≡◌, ℕ, suc, Bool, true, false, cond, List, [], ◌∷◌, ◌++◌, map, filter, Some, slice_get, if◌then◌else◌, refl, sym, subst, ap, ◌∙◌, append_assoc, append-nil}
use Rattle.std.specs.List.{All}
use Rattle.std.proofs.lemmas.List.Elements.{All-head, All-tail}
use Rattle.gx_model.specs.Forest.{Forest}
use Rattle.gx_model.specs.Item.{Item, Items}
use Rattle.gx_core.specs.Meaning.{for_each}
use Rattle.gx_core.specs.Outcome.{Outcome, gives, raises, wrong, after, given}
use Rattle.gx_joins.specs.HashJoin.{for_rows}

-- a part for each item, in order; `done` is what there is so far
abbrev pub for_items : (result : Item → Forest → Outcome Items) → (done : Items) → Items → Forest → Outcome Items
for_items result done [] forest = gives done forest
for_items result done (y ∷ ys) forest = after (result y forest) (λ more left. for_items result (done ++ more) ys left)

-- the part of an item leads from forests of a kind to such forests
abbrev pub Grows : (result : Item → Forest → Outcome Items) → (Reached : Forest → Type 0) → Item → Type 0
Grows result Reached y = (before after : Forest) (value : Items) → Reached before → result y before ≡ gives value after → Reached after

-- the test of an item comes to the part where the item passes, and else to nothing
abbrev pub IsTested : (test result : Item → Forest → Outcome Items) → (passes : Item → Bool) → (Reached : Forest → Type 0) → Item → Type 0
IsTested test result passes Reached y = (forest : Forest) → Reached forest → test y forest ≡ (if passes y then result y forest else gives [] forest)

-- by what an outcome is
pub after_alike : {R S : Type 0} (o : Outcome R) (next other : R → Forest → Outcome S)
    → ((x : R) (left : Forest) → o ≡ gives x left → next x left ≡ other x left) → after o next ≡ after o other
after_alike (gives x left) next other h = h x left refl
after_alike (raises code) next other h = refl
after_alike wrong next other h = refl

-- ---- loops

pub loop_by_items : (test result : Item → Forest → Outcome Items) (passes : Item → Bool) (Reached : Forest → Type 0) (ys : Items)
    → All (IsTested test result passes Reached) ys → All (Grows result Reached) ys → (number : ℕ) (done : Items) (forest : Forest) → Reached forest
    → for_each (λ n y f. test y f) number done ys forest ≡ for_items result done (filter passes ys) forest
loop_by_items test result passes Reached [] tested growing number done forest extends = refl
loop_by_items test result passes Reached (y ∷ ys) tested growing number done forest extends =
    ap (λ o. after o (λ more left. for_each (λ n z f. test z f) (suc number) (done ++ more) ys left)) (All-head (IsTested test result passes Reached) y ys tested forest extends)
    ∙ by_test (passes y)
    (λ more left extended. loop_by_items test result passes Reached ys (All-tail (IsTested test result passes Reached) y ys tested) (All-tail (Grows result Reached) y ys growing)
    (suc number) (done ++ more) left extended)
  where
    by_test : (b : Bool)
        → ((more : Items) (left : Forest) → Reached left
        → for_each (λ n z f. test z f) (suc number) (done ++ more) ys left ≡ for_items result (done ++ more) (filter passes ys) left)
        → after (if b then result y forest else gives [] forest) (λ more left. for_each (λ n z f. test z f) (suc number) (done ++ more) ys left)
        ≡ for_items result done (cond b (y ∷ filter passes ys) (filter passes ys)) forest
    by_test true others =
        after_alike (result y forest) (λ more left. for_each (λ n z f. test z f) (suc number) (done ++ more) ys left)
        (λ more left. for_items result (done ++ more) (filter passes ys) left)
        (λ more left e. others more left (All-head (Grows result Reached) y ys growing forest left more extends e))
    by_test false others = others [] forest extends ∙ ap (λ (so_far : Items). for_items result so_far (filter passes ys) forest) (append-nil done)

-- ---- rows

pub rows_by_items : (result : Item → Forest → Outcome Items) (right : Items) (rows : List ℕ) (items : Items) → map (slice_get right) rows ≡ map Some items
    → (done : Items) (forest : Forest) → for_rows result right done rows forest ≡ for_items result done items forest
rows_by_items result right [] [] e done forest = refl
rows_by_items result right [] (y ∷ items) e done forest = absurd (cc)
rows_by_items result right (row ∷ rows) [] e done forest = absurd (cc)
rows_by_items result right (row ∷ rows) (y ∷ items) e done forest =
    let here : slice_get right row ≡ Some y = cc in
    let others : map (slice_get right) rows ≡ map Some items = cc in
    ap (λ o. given o (λ z. after (result z forest) (λ more left. for_rows result right (done ++ more) rows left))) here
    ∙ after_alike (result y forest) (λ more left. for_rows result right (done ++ more) rows left) (λ more left. for_items result (done ++ more) items left)
    (λ more left same. rows_by_items result right rows items others (done ++ more) left)

-- ---- what there was before

behind : (result : Item → Forest → Outcome Items) (first done : Items) (items : Items) (forest : Forest)
    → for_items result (first ++ done) items forest ≡ after (for_items result done items forest) (λ values left. gives (first ++ values) left)
behind result first done [] forest = refl
behind result first done (y ∷ items) forest = by_outcome (result y forest) (λ more left. behind result first (done ++ more) items left)
  where
    by_outcome : (o : Outcome Items)
        → ((more : Items) (left : Forest) → for_items result (first ++ (done ++ more)) items left
        ≡ after (for_items result (done ++ more) items left) (λ values last. gives (first ++ values) last))
        → after o (λ more left. for_items result ((first ++ done) ++ more) items left)
        ≡ after (after o (λ more left. for_items result (done ++ more) items left)) (λ values left. gives (first ++ values) left)
    by_outcome (gives more left) others =
        ap (λ (so_far : Items). for_items result so_far items left) (append_assoc first done more) ∙ others more left
    by_outcome (raises code) others = refl
    by_outcome wrong others = refl

pub behind_done : (result : Item → Forest → Outcome Items) (done : Items) (items : Items) (forest : Forest)
    → for_items result done items forest ≡ after (for_items result [] items forest) (λ values left. gives (done ++ values) left)
behind_done result done items forest =
    ap (λ (so_far : Items). for_items result so_far items forest) (sym (append-nil done)) ∙ behind result done [] items forest

-- ---- growth

pub items_grow : (result : Item → Forest → Outcome Items) (Reached : Forest → Type 0) (items : Items) → All (Grows result Reached) items
    → (done : Items) (before later : Forest) (value : Items) → Reached before → for_items result done items before ≡ gives value later → Reached later
items_grow result Reached [] growing done before later value extends e = subst Reached (let same : before ≡ later = cc in same) extends
items_grow result Reached (y ∷ items) growing done before later value extends e =
    by_outcome (result y before) refl e
    (λ more left extended f. items_grow result Reached items (All-tail (Grows result Reached) y items growing) (done ++ more) left later value extended f)
  where
    by_outcome : (o : Outcome Items) → result y before ≡ o → after o (λ more left. for_items result (done ++ more) items left) ≡ gives value later
        → ((more : Items) (left : Forest) → Reached left → for_items result (done ++ more) items left ≡ gives value later → Reached later)
        → Reached later
    by_outcome (gives more left) is f others =
        others more left
        (All-head (Grows result Reached) y items growing before left more extends is) f
    by_outcome (raises code) is f others = absurd (cc)
    by_outcome wrong is f others = absurd (cc)
