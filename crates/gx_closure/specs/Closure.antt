-- The least list that holds given values and is closed under a step, breadth first.
use Rattle.std.specs.Prelude.{◌≡◌, ℕ, zero, suc, ◌≤◌, Bool, true, List, [], Option, None, Some, length}
use Rattle.std.specs.List.{slice_get, AllByRecursion, IsDistinct}
use Rattle.std.specs.Set.{is_member}
use Rattle.indexmap.specs.IndexSet.{insert_all}

-- what a value leads to, if there is one
abbrev pub successors_of : {A : Type 0} → (A → List A) → Option A → List A
successors_of next None = []
successors_of next (Some x) = next x

-- a list is its own queue: in each turn, all that the value at a place leads to is put behind it, unless an equal value is there
abbrev pub after_turns : {A : Type 0} → (A → A → Bool) → (A → List A) → (turns at : ℕ) → List A → List A
after_turns same next zero at found = found
after_turns same next (suc turns) at found = after_turns same next turns (suc at) (insert_all same found (successors_of next (slice_get found at)))

-- the values that given ones lead to, and they, where all that any value leads to is among a list: a turn for each of it is enough
abbrev pub closure_from : {A : Type 0} → (A → A → Bool) → (A → List A) → (all start : List A) → List A
closure_from same next all start = after_turns same next (length all) 0 (insert_all same [] start)

-- a list stays as it is when it has grown by as many turns as it has values
abbrev pub IsGrown : {A : Type 0} → (A → A → Bool) → (A → List A) → (start found : List A) → Type 0
IsGrown same next start found = (turns : ℕ) → length found ≤ turns → after_turns same next turns 0 start ≡ found

-- a list has values that are equal to these
abbrev pub AreAmong : {A : Type 0} → (A → A → Bool) → (found values : List A) → Type 0
AreAmong same found values = AllByRecursion (λ x. is_member same found x ≡ true) values

-- all pass a test
abbrev pub AllPass : {A : Type 0} → (A → Bool) → List A → Type 0
AllPass test values = AllByRecursion (λ x. test x ≡ true) values

-- a list holds given values, is closed under the step, has no value twice, and nothing else than what each such list has
pub record IsLeastClosed {A : Type 0} (same : A → A → Bool) (next : A → List A) (start found : List A) : Type 0 where
  pub holds : AreAmong same found start
  pub closed : AllByRecursion (λ x. AreAmong same found (next x)) found
  pub distinct : IsDistinct same found
  pub least : (test : A → Bool) → AllPass test start → ((x : A) → test x ≡ true → AllPass test (next x)) → AllPass test found
