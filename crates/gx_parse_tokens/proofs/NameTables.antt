-- What tables of names in ASCII say.
use Rattle.std.proofs.Common.{◌≡◌, ℕ, ◌&&◌, Bool, true, if◌then◌else◌, List, [], ◌∷◌, refl, ap, ap₂, ◌∙◌, Option, Some, None, Bor}
use Rattle.std.specs.Str.{chars}
use Rattle.std.proofs.lemmas.Bool.{and_parts}
use Rattle.gx_parse_grammar.specs.Basics.{is_name}
use Rattle.gx_parse_grammar.specs.Nodes.{Made}
use Rattle.gx_parse_tokens.specs.Names.{named_in}
use Rattle.gx_parse_tokens.proofs.NameScans.{all_low, literal_name}

-- the value of the first word that the name is, byte for byte
abbrev pub spelled_in : {T : Type 0} → List (Bor (List ℕ) × T) → Made → Option T
spelled_in [] v = None
spelled_in (entry ∷ table) v = if is_name entry.0.now v then (Some entry.1) else (spelled_in table v)

abbrev pub all_ascii : {T : Type 0} → List (Bor (List ℕ) × T) → Bool
all_ascii [] = true
all_ascii (entry ∷ table) = all_low entry.0.now && all_ascii table

pub named_spelled : {T : Type 0} (table : List (Bor (List ℕ) × T)) (v : Made) → all_ascii table ≡ true → named_in table v ≡ spelled_in table v
unfolding named_in
named_spelled [] v e = refl
named_spelled (entry ∷ table) v e =
    let a = and_parts (all_low entry.0.now) (all_ascii table) e in
    ap (λ b. if b then (Some entry.1) else (named_in table v)) (literal_name (is_name (chars entry.0.now) v) entry.0.now v a.0 refl)
    ∙ ap (λ o. if is_name entry.0.now v then (Some entry.1) else o) (named_spelled table v a.1)

pub told : {T : Type 0} (table : List (Bor (List ℕ) × T)) (v : Made) (found : Option T) → found ≡ named_in table v → all_ascii table ≡ true → found ≡ spelled_in table v
told table v found h e = h ∙ named_spelled table v e
