-- What holds of every document: Namespaces in XML 1.0, section 6.3, and XQuery 1.0 and XPath 2.0 Data Model, section 6.7.
use Rattle.std.specs.Prelude.{◌≡◌, ◌≢◌, ℕ, ◌+◌, max, List, [], ◌∷◌, map, Bool, false, bytes_eq}
use Rattle.std.specs.List.{list_any}
use Rattle.gx_base.specs.Name.{same_name}
use Rattle.gx_xml.specs.SourceTree.{SourceTree, SourceContents, source, no_content, a_child, a_text}

-- no two of a list are the same
abbrev pub HasNoRepeats : {A : Type 0} → (A → A → Bool) → List A → Type 0
HasNoRepeats same [] = Unit {0}
HasNoRepeats same (x ∷ xs) = (list_any (same x) xs ≡ false) × HasNoRepeats same xs

-- no text stands at the front
abbrev pub BeginsWithNoText : SourceContents → Type 0
BeginsWithNoText no_content = Unit {0}
BeginsWithNoText (a_child t cs) = Unit {0}
BeginsWithNoText (a_text x cs) = ⊥

-- No prefix is declared twice in a tag, no two of its attributes have one expanded name, no text is empty, and no two texts
-- stand side by side, at every depth.
abbrev mutual
  pub IsSoundSource : SourceTree → Type 0
  IsSoundSource (source name declarations attributes cs) =
      HasNoRepeats bytes_eq (map (λ d. d.prefix) declarations) × HasNoRepeats same_name (map (λ a. a.name) attributes) × AreSoundContents cs

  pub AreSoundContents : SourceContents → Type 0
  AreSoundContents no_content = Unit {0}
  AreSoundContents (a_child t cs) = IsSoundSource t × AreSoundContents cs
  AreSoundContents (a_text x cs) = (x ≢ []) × BeginsWithNoText cs × AreSoundContents cs

-- how many elements stand in one another
abbrev mutual
  pub source_depth : SourceTree → ℕ
  source_depth (source name declarations attributes cs) = 1 + contents_depth cs

  pub contents_depth : SourceContents → ℕ
  contents_depth no_content = 0
  contents_depth (a_child t cs) = max (source_depth t) (contents_depth cs)
  contents_depth (a_text x cs) = contents_depth cs
