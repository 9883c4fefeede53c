-- The functions that are reached have all that are called, and the list that grows by turns has them.
use Rattle.std.proofs.Common.{◌≡◌, ℕ, zero, suc, Bool, true, false, ◌&&◌, ◌||◌, nat_eq, List, [], ◌∷◌, ◌++◌, Some, refl, sym, ◌∙◌, ap, subst, if◌then◌else◌}
use Rattle.std.specs.Prelude.{is_some, filter, cond}
use Rattle.std.specs.List.{list_all, flat_map, AllByRecursion}
use Rattle.std.specs.Set.{is_member}
use Rattle.std.proofs.lemmas.Bool.{true≢false, and_from, or_left, or_right, eqb-true}
use Rattle.std.proofs.lemmas.Cmp.{nat_eq_equiv}
use Rattle.std.proofs.lemmas.List.Folds.{list_any-append}
use Rattle.indexmap.specs.IndexSet.{insert_all}
use Rattle.gx_closure.specs.Closure.{IsGrown, AreAmong, IsLeastClosed}
use Rattle.gx_closure.proofs.Closures.{is_closure, is_least_closed}
use Rattle.gx_closure.proofs.Growing.{all_are_put, among_all}
use Rattle.gx_core.specs.Bindings.{look_up}
use Rattle.gx_core.specs.Invariant.{is_among}
use Rattle.gx_settling.specs.declared.functions.FunctionUse.{FunctionUse}
use Rattle.gx_settling.specs.Reaching.{numbers_once, called_from, functions_reached}
use Rattle.gx_settling.specs.Gathering.{numbers_in_scope}

-- ---- numbers among others

member_front : (xs ys : List ℕ) (number : ℕ) → is_member nat_eq xs number ≡ true → is_member nat_eq (xs ++ ys) number ≡ true
member_front xs ys number h = list_any-append (nat_eq number) xs ys ∙ or_left (is_member nat_eq xs number) (is_member nat_eq ys number) h

member_behind : (xs ys : List ℕ) (number : ℕ) → is_member nat_eq ys number ≡ true → is_member nat_eq (xs ++ ys) number ≡ true
member_behind xs ys number h = list_any-append (nat_eq number) xs ys ∙ or_right (is_member nat_eq xs number) (is_member nat_eq ys number) h

among_front : (xs ys numbers : List ℕ) → AreAmong nat_eq xs numbers → AreAmong nat_eq (xs ++ ys) numbers
among_front xs ys [] h = tt
among_front xs ys (n ∷ ns) h = (member_front xs ys n h.0, among_front xs ys ns h.1)

among_behind : (xs ys numbers : List ℕ) → AreAmong nat_eq ys numbers → AreAmong nat_eq (xs ++ ys) numbers
among_behind xs ys [] h = tt
among_behind xs ys (n ∷ ns) h = (member_behind xs ys n h.0, among_behind xs ys ns h.1)

-- numbers are among themselves
pub among_themselves : (numbers : List ℕ) → AreAmong nat_eq numbers numbers
among_themselves [] = tt
among_themselves (n ∷ ns) =
    (or_left (nat_eq n n) (is_member nat_eq ns n) (nat_eq_equiv.refl n), among_behind (n ∷ []) ns ns (among_themselves ns))

-- what holds of each holds of one among them
pub holds_among : (P : ℕ → Type 0) (numbers : List ℕ) (number : ℕ) → AllByRecursion P numbers → is_member nat_eq numbers number ≡ true → P number
holds_among P [] number h m = absurd (true≢false (sym m))
holds_among P (n ∷ ns) number h m = by (holds_among P ns number h.1) (nat_eq number n) refl m
  where
    by : (is_member nat_eq ns number ≡ true → P number) → (same : Bool) → nat_eq number n ≡ same → same || is_member nat_eq ns number ≡ true → P number
    by rest true e k = subst P (sym (eqb-true number n e)) h.0
    by rest false e k = rest k

pub all_pass_among : (test : ℕ → Bool) (numbers : List ℕ) → list_all test numbers ≡ true → AllByRecursion (λ n. test n ≡ true) numbers
all_pass_among test [] h = tt
all_pass_among test (n ∷ ns) h = by (all_pass_among test ns) (test n) refl h
  where
    by : (list_all test ns ≡ true → AllByRecursion (λ m. test m ≡ true) ns) → (b : Bool) → test n ≡ b → b && list_all test ns ≡ true
        → (test n ≡ true) × AllByRecursion (λ m. test m ≡ true) ns
    by rest true e k = (e, rest k)
    by rest false e k = absurd (true≢false (sym k))

-- what holds of each is had by the front and by the rest
pub all_in_front : (P : ℕ → Type 0) (xs ys : List ℕ) → AllByRecursion P (xs ++ ys) → AllByRecursion P xs
all_in_front P [] ys h = tt
all_in_front P (x ∷ xs) ys h = (h.0, all_in_front P xs ys h.1)

pub all_behind : (P : ℕ → Type 0) (xs ys : List ℕ) → AllByRecursion P (xs ++ ys) → AllByRecursion P ys
all_behind P [] ys h = h
all_behind P (x ∷ xs) ys h = all_behind P xs ys h.1

-- those of the numbers that pass a test have what all that are left have
pub passes_filter : (test other : ℕ → Bool) (numbers : List ℕ) (number : ℕ) → is_among numbers number ≡ true → test number ≡ true
    → list_all other (filter test numbers) ≡ true → other number ≡ true
passes_filter test other [] number m passes h = absurd (true≢false (sym m))
passes_filter test other (n ∷ ns) number m passes h = by (passes_filter test other ns number) (nat_eq n number) refl m
  where
    here : (n ≡ number) → other number ≡ true
    here e =
        let kept : test n ≡ true = ap test e ∙ passes in
        let all : list_all other (n ∷ filter test ns) ≡ true = subst (λ (b : Bool). list_all other (cond b (n ∷ filter test ns) (filter test ns)) ≡ true) kept h in
        sym (ap other e) ∙ (all_pass_among other (n ∷ filter test ns) all).0

    behind : (b : Bool) → b && list_all other (filter test ns) ≡ true → list_all other (filter test ns) ≡ true
    behind true k = k
    behind false k = absurd (true≢false (sym k))

    after : (b : Bool) → list_all other (cond b (n ∷ filter test ns) (filter test ns)) ≡ true → list_all other (filter test ns) ≡ true
    after true k = behind (other n) k
    after false k = k

    by : (is_among ns number ≡ true → test number ≡ true → list_all other (filter test ns) ≡ true → other number ≡ true)
        → (same : Bool) → nat_eq n number ≡ same → same || is_among ns number ≡ true → other number ≡ true
    by rest true e k = here (eqb-true n number e)
    by rest false e k = rest k passes (after (test n) h)

-- a number is found in a scope where it is among the numbers of it
pub found_among : (scope : List (ℕ × Unit {0})) (number : ℕ) → is_some (look_up scope number) ≡ is_among (numbers_in_scope scope) number
found_among [] number = refl
found_among (binding ∷ scope) number = by (found_among scope number) (nat_eq binding.0 number)
  where
    by : is_some (look_up scope number) ≡ is_among (numbers_in_scope scope) number → (same : Bool) → is_some (if same then Some binding.1 else look_up scope number) ≡ (same || is_among (numbers_in_scope scope) number)
    by rest true = refl
    by rest false = rest

-- ---- functions

abbrev calls_of_all : List FunctionUse → List ℕ
calls_of_all uses = flat_map (λ (used : FunctionUse). used.calls) uses

called_among : (uses : List FunctionUse) (number : ℕ) → AreAmong nat_eq (calls_of_all uses) (called_from uses number)
called_among [] number = tt
called_among (used ∷ uses) zero = among_front used.calls (calls_of_all uses) used.calls (among_themselves used.calls)
called_among (used ∷ uses) (suc number) = among_behind used.calls (calls_of_all uses) (called_from uses number) (called_among uses number)

pub reached_are_closed : (uses : List FunctionUse) (first : List ℕ) → IsLeastClosed nat_eq (called_from uses) first (functions_reached uses first)
reached_are_closed uses first =
    is_least_closed nat_eq (called_from uses) nat_eq_equiv (first ++ calls_of_all uses) first
    (among_front first (calls_of_all uses) first (among_themselves first))
    (λ number. among_behind first (calls_of_all uses) (called_from uses number) (called_among uses number))

pub grown_are_reached : (uses : List FunctionUse) (first found : List ℕ) → IsGrown nat_eq (called_from uses) (insert_all nat_eq [] first) found
    → found ≡ functions_reached uses first
grown_are_reached uses first found grows =
    is_closure nat_eq (called_from uses) nat_eq_equiv (first ++ calls_of_all uses) first found
    (among_front first (calls_of_all uses) first (among_themselves first))
    (λ number. among_behind first (calls_of_all uses) (called_from uses number) (called_among uses number)) grows

-- ---- numbers without those that stand before

-- what has them has all
pub all_among : (found numbers : List ℕ) → AreAmong nat_eq found (numbers_once numbers) → AreAmong nat_eq found numbers
all_among found numbers h = among_all nat_eq nat_eq_equiv found (numbers_once numbers) numbers h (all_are_put nat_eq nat_eq_equiv numbers [])

all_pass_among_found : (test : ℕ → Bool) (found numbers : List ℕ) → AreAmong nat_eq found numbers → AllByRecursion (λ n. test n ≡ true) found
    → list_all test numbers ≡ true
all_pass_among_found test found [] among h = refl
all_pass_among_found test found (n ∷ ns) among h =
    and_from (test n) (list_all test ns) (holds_among (λ n. test n ≡ true) found n h among.0) (all_pass_among_found test found ns among.1 h)

-- where they pass a test, all do
pub all_pass_once : (test : ℕ → Bool) (numbers : List ℕ) → list_all test (numbers_once numbers) ≡ true → list_all test numbers ≡ true
all_pass_once test numbers h =
    all_pass_among_found test (numbers_once numbers) numbers (all_are_put nat_eq nat_eq_equiv numbers []) (all_pass_among test (numbers_once numbers) h)
