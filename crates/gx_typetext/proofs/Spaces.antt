-- What stands before the local part of a name in some namespace.
use Rattle.std.proofs.Common.{◌≡◌, ℕ, List, [], ◌∷◌, refl, true, false, codes}
use Rattle.gx_base.specs.Text.{same_text}
use Rattle.gx_typetext.specs.NameText.{word, braced, space_text}

-- of the schema namespace
pub space_text-schema : (uri : List ℕ) → (uri ≡ [] → ⊥) → same_text uri (word (codes "http://www.w3.org/2001/XMLSchema")) ≡ true
    → space_text uri ≡ word (codes "xs:")
space_text-schema [] some same = absurd (some refl)
space_text-schema (c ∷ cs) some same = rw same refl

-- of another one
pub space_text-other : (uri : List ℕ) → (uri ≡ [] → ⊥) → same_text uri (word (codes "http://www.w3.org/2001/XMLSchema")) ≡ false
    → space_text uri ≡ braced uri
space_text-other [] some same = absurd (some refl)
space_text-other (c ∷ cs) some other = rw other refl
