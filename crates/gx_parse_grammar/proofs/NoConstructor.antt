-- Where no constructor is read, none stands.
use Rattle.std.proofs.Common.{◌≡◌, ℕ, true, false, List, [], ◌∷◌, ◌++◌, ◌⊎◌, inl, inr, refl, subst}
use Rattle.gx_base.specs.declared.place.Place.{Place}
use Rattle.gx_grammar.specs.Grammar.{token, ◌&◌, made}
use Rattle.gx_grammar.specs.Derivation.{Derives, of_token, of_both, of_made}
use Rattle.gx_grammar.specs.Opening.{Opens, open_end, open_token, open_first, open_second, open_made}
use Rattle.gx_grammar.specs.Halting.{Halts, halt_token, halt_first, halt_second, halt_made}
use Rattle.gx_grammar.specs.Decision.{Texts, Until, BeforeCut}
use Rattle.gx_grammar.specs.First.{IsIn, Stands, StandsFirst}
use Rattle.gx_grammar.specs.Avoiding.{Avoids}
use Rattle.gx_parse_grammar.specs.Nodes.{Node, Made}
use Rattle.gx_parse_grammar.specs.Tokens.{Token, constructor, no_constructor, starts_constructor, derives, opens, faults}
use Rattle.gx_parse_grammar.specs.Grammar.{Phrase, query_language}
use Rattle.gx_parse_grammar.proofs.Tokens.{constructor_lawful}
use Rattle.gx_parse_grammar.proofs.ConstructorTokens.{constructor_starts, tells}

stands_there : (x : List ℕ) → Stands {Node = Node} derives faults constructor x → starts_constructor x ≡ true
stands_there x (inl d) = constructor_starts constructor_lawful d.0 x d.1 d.2
stands_there x (inr f) = absurd (let e = f.1 in cc e)

stands_first : (x : List ℕ) → StandsFirst {Node = Node} derives faults (constructor ∷ []) x → starts_constructor x ≡ true
stands_first x s = go s.token s.among s.stands
  where
    go : (t : Token) → IsIn (constructor ∷ []) t → Stands {Node = Node} derives faults t x → starts_constructor x ≡ true
    go t (inl e) h = stands_there x (subst (λ u. Stands {Node = Node} derives faults u x) e h)
    go t (inr i) h = absurd i

module _ (at : ℕ → Place) (value : ℕ → Made → Made) (B : Phrase) where
  abbrev behind_none : Phrase
  behind_none = made value (token no_constructor & B)

  none_stands : {v : Made} {x y : List ℕ} → derives no_constructor v x y → starts_constructor x ≡ false
  none_stands (inl d) = absurd d
  none_stands (inr d) = d.0

  token_stands : {v : Made} {x y : List ℕ} → Derives (query_language at) (token no_constructor) v x y → starts_constructor x ≡ false
  token_stands (of_token d) = none_stands d

  derived_so : {v : Made} {x y : List ℕ} → Derives (query_language at) behind_none v x y → starts_constructor x ≡ false
  derived_so (of_made (of_both d e)) = token_stands d

  token_halts : {x z : List ℕ} {code : ℕ} → Halts (query_language at) (token no_constructor) x code z → ⊥
  token_halts (halt_token e) = absurd (cc e)

  halts_so : {x z : List ℕ} {code : ℕ} → Halts (query_language at) behind_none x code z → starts_constructor x ≡ false
  halts_so (halt_made (halt_first h)) = absurd (token_halts h)
  halts_so (halt_made (halt_second d h)) = token_stands d

  goes_on : (x z : List ℕ) → starts_constructor x ≡ false → StandsFirst {Node = Node} derives faults (constructor ∷ []) (x ++ z) → (x ≡ []) ⊎ ((t : Token) × IsIn (constructor ∷ []) t × opens t x)
  goes_on x z e s = elim ((tells constructor_lawful).grows x z e) [
    | inl f ↦ absurd (let g = stands_first (x ++ z) s in cc (f, g))
    | inr o ↦ inr (constructor, inl refl, o)
  ]

  token_opens : (x : List ℕ) → Opens (query_language at) (token no_constructor) x → (x ≡ []) ⊎ ((t : Token) × IsIn (constructor ∷ []) t × opens t x)
  token_opens x open_end = inl refl
  token_opens x (open_token o) = inr (constructor, inl refl, o)

  opened : (x z : List ℕ) → Opens (query_language at) behind_none x → StandsFirst {Node = Node} derives faults (constructor ∷ []) (x ++ z) → (x ≡ []) ⊎ ((t : Token) × IsIn (constructor ∷ []) t × opens t x)
  opened x z open_end s = inl refl
  opened x z (open_made open_end) s = inl refl
  opened x z (open_made (open_first o)) s = token_opens x o
  opened x z (open_made (open_second d o)) s = goes_on x z (token_stands d) s

  pub constructors_avoided : (K C : Texts) → Avoids (query_language at) (constructor ∷ []) (Until (query_language at) behind_none K) (BeforeCut (query_language at) behind_none C)
  constructors_avoided K C = record { never = never; opening = opening }
    where
      never : (x : List ℕ) → Until (query_language at) behind_none K x → StandsFirst {Node = Node} derives faults (constructor ∷ []) x → ⊥
      never x (inl b) s = let e = derived_so b.derived in let f = stands_first x s in cc (e, f)
      never x (inr h) s = let e = halts_so h.2 in let f = stands_first x s in cc (e, f)

      opening : (x z : List ℕ) → BeforeCut (query_language at) behind_none C x → StandsFirst {Node = Node} derives faults (constructor ∷ []) (x ++ z) → (x ≡ []) ⊎ ((t : Token) × IsIn (constructor ∷ []) t × opens t x)
      opening x z (inl o) s = opened x z o s
      opening x z (inr b) s = goes_on x z (derived_so b.derived) s
