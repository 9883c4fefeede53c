-- What a search for what an expression asks of its context comes to.
use Rattle.std.specs.Prelude.{Bool, true, false, ◌||◌, List, [], ◌∷◌}
use Rattle.gx_resolved.specs.ResolvedView.{resolved_parts}
use Rattle.gx_normal.specs.declared.contexts.Asked.{Asked}
use Rattle.gx_normal.specs.declared.contexts.Searched.{Searched}
use Rattle.gx_normal.specs.declared.contexts.Searched.TheVariants.{Tree, Trees, First}
use Rattle.gx_normal.specs.Contexts.{asks_context, parts_ask}

abbrev pub searched_asks : Asked → Searched → Bool
searched_asks what (Tree tree) = asks_context what tree.now
searched_asks what (Trees trees) = parts_ask what false (resolved_parts trees.now)
searched_asks what (First trees) = parts_ask what true (resolved_parts trees.now)

-- one of what is left asks it
abbrev pub any_asks : Asked → List Searched → Bool
any_asks what [] = false
any_asks what (searched ∷ others) = searched_asks what searched || any_asks what others
