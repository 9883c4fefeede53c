-- The law of closures.
use Rattle.std.specs.Prelude.{Bool, List}
use Rattle.gx_closure.specs.Closure.{closure_from, AreAmong, IsLeastClosed}

-- where given values, and all that any value leads to, are among a list, the closure is the least closed list
abbrev pub ClosuresAreLeast : {A : Type 0} → (A → A → Bool) → Type 0
ClosuresAreLeast {A} same =
    (next : A → List A) (all start : List A) → AreAmong same all start → ((x : A) → AreAmong same all (next x)) → IsLeastClosed same next start (closure_from same next all start)
