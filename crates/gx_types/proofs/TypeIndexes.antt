-- An index of declared types grows by one type in front.
use Rattle.std.proofs.Common.{◌≡◌, ℕ, suc, ◌<◌, Bool, true, false, List, ◌∷◌, Some, sym, ◌∙◌, ap, cond, length, drop, get_or, rules, if◌then◌else◌}
use Rattle.std.specs.Cmp.Rules.{comparing}
use Rattle.std.proofs.Math.Seq.{drop-cons}
use Rattle.std.proofs.lemmas.Option.{slice_get-get_or}
use Rattle.indexmap.specs.IndexMap.{IndexMap, get}
use Rattle.gx_base.specs.declared.type_name.TypeName.{TypeName}
use Rattle.gx_types.specs.SameItemType.{same_type_name}
use Rattle.gx_types.specs.SchemaSet.{declaration_among}
use Rattle.gx_types.specs.TypeIndex.{equal_kinds, numbered_type}
use Rattle.gx_types.specs.declared.declaration.Declared.{Declared}

-- `==` says of two names of types whether they are equal
pub equal_kinds_are : (t u : TypeName) → equal_kinds t u ≡ same_type_name t u
equal_kinds_are t u = search (comparing, rules)

module _ {S : Type 0} (types : List Declared) where
  pub index_more : (old new : IndexMap TypeName ℕ S) (declared : Declared) (number : ℕ) → number < length types → declared ≡ get_or types number declared
      → ((t : TypeName) → get equal_kinds new t ≡ cond (equal_kinds declared.name t) (Some number) (get equal_kinds old t))
      → ((t : TypeName) → numbered_type types (get equal_kinds old t) ≡ declaration_among (drop (suc number) types) t)
      → (t : TypeName) → numbered_type types (get equal_kinds new t) ≡ declaration_among (drop number types) t
  index_more old new declared number below read updates all t =
      ap (numbered_type types) (updates t) ∙ ap (λ (b : Bool). numbered_type types (cond b (Some number) (get equal_kinds old t))) (equal_kinds_are declared.name t)
      ∙ by (same_type_name declared.name t)
      ∙ ap (λ (first : Declared). declaration_among (first ∷ drop (suc number) types) t) read
      ∙ ap (λ (left : List Declared). declaration_among left t) (sym (drop-cons types number declared below))
    where
      by : (b : Bool) → numbered_type types (cond b (Some number) (get equal_kinds old t)) ≡ if b then Some declared else declaration_among (drop (suc number) types) t
      by true = slice_get-get_or types number declared below ∙ ap (λ (x : Declared). Some x) (sym read)
      by false = all t
