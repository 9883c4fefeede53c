-- Scopes of several tags.
use Rattle.std.proofs.Common.{◌≡◌, ℕ, List, [], ◌∷◌, ◌++◌, refl, sym, ◌∙◌, ap, append_assoc, Bool, true, false, Some, if◌then◌else◌}
use Rattle.std.proofs.lemmas.List.{append-nil}
use Rattle.std.specs.Option.{option_or}
use Rattle.std.specs.Borrow.{Bor}
use Rattle.gx_base.specs.Text.{same_text}
use Rattle.gx_xml.specs.declared.source.Declaration.{Declaration}
use Rattle.gx_qnames.specs.Scope.{declared_uri}
use Rattle.gx_qnames.specs.ScopeView.{declared_in_tags}

-- the URI of a prefix in the first declarations, or else in the others
pub declared_uri_append : (ds es : List Declaration) (prefix : List ℕ) → declared_uri (ds ++ es) prefix ≡ option_or (declared_uri ds prefix) (declared_uri es prefix)
declared_uri_append [] es prefix = refl
declared_uri_append (d ∷ ds) es prefix =
    elim (same_text d.prefix prefix) as (λ (b : Bool). (if b then Some d.uri else declared_uri (ds ++ es) prefix) ≡ option_or (if b then Some d.uri else declared_uri ds prefix) (declared_uri es prefix)) [
      | true ↦ refl
      | false ↦ declared_uri_append ds es prefix
    ]

-- the declarations of tags, one list behind another
pub declared_in_tags_append : (xs ys : List (Bor (List Declaration))) → declared_in_tags (xs ++ ys) ≡ declared_in_tags xs ++ declared_in_tags ys
declared_in_tags_append [] ys = refl
declared_in_tags_append (x ∷ xs) ys = ap (λ (ds : List Declaration). x.now ++ ds) (declared_in_tags_append xs ys) ∙ sym (append_assoc x.now (declared_in_tags xs) (declared_in_tags ys))

-- one more tag
pub declared_in_tags_push : (tags : List (Bor (List Declaration))) (tag : Bor (List Declaration)) → declared_in_tags (tags ++ tag ∷ []) ≡ declared_in_tags tags ++ tag.now
declared_in_tags_push tags tag = declared_in_tags_append tags (tag ∷ []) ∙ ap (λ (ds : List Declaration). declared_in_tags tags ++ ds) (append-nil tag.now)
