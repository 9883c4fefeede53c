-- The calls that a library or a sink was given, one after another.
use Rattle.std.specs.Prelude.{◌≡◌, ℕ, List, [], ◌∷◌}

-- loads of the files of these names, each once and in this order, and no other load
abbrev pub Loads : {Library : Type 0} → (Library → List ℕ → Library → Type 0) → List (List ℕ) → Library → Library → Type 0
Loads was_loaded [] before after = after ≡ before
Loads {Library} was_loaded (name ∷ names) before after =
    (between : Library) × was_loaded before name between × Loads was_loaded names between after
