-- How start tags are read.
use Rattle.std.proofs.Common.{◌≡◌, ℕ, zero, suc, Bool, true, false, List, [], ◌∷◌, ◌++◌, length, map, codes, refl, sym, ap, ◌∙◌, arith}
use Rattle.std.proofs.lemmas.Bool.Decides.{nat_tests}
use Rattle.std.specs.Prelude.{◌==◌, ◌||◌, Option, bytes_eq, is_none}
use Rattle.std.specs.List.{list_any}
use Rattle.gx_base.specs.Name.{same_name}
use Rattle.gx_grammar.specs.Grammar.{rule}
use Rattle.gx_grammar.specs.Value.{characters}
use Rattle.gx_grammar.specs.Ran.{Standing, Ran, IsDone}
use Rattle.gx_tree.specs.Binding.{Binding, uri_read, attribute_uri_read}
use Rattle.gx_xml.specs.declared.source.Declaration.{Declaration}
use Rattle.gx_xml.specs.declared.source.SourceAttribute.{SourceAttribute}
use Rattle.gx_xml.specs.declared.runs.Run.TheVariants.{Name}
use Rattle.gx_xml.specs.declared.tag.StartTag.{StartTag}
use Rattle.gx_xml.specs.Nodes.{Made}
use Rattle.gx_xml.specs.Tokens.{maybe_run, symbol}
use Rattle.gx_xml.specs.Tags.{TagSoFar, declared_binding, expanded_attribute, fault_by_room, fault_in, repeats_behind, tag_fault}
use Rattle.gx_xml.specs.TagView.{tag_as, ReadSome, ReadAttribute, ReadAttributes}
use Rattle.gx_xml.specs.Grammar.{Phrase, inside, past, past_name, spaced, behind_tag_space, attribute_or_end, attribute, tag_ending, rules}
use Rattle.gx_xml.specs.Standings.{Did, Chose, read_document_token}
use Rattle.gx_xml.proofs.Steps.{did_on, did_other, did_rule}

-- behind white space or none
space_read : (t : TagSoFar) (s : Bool) (w : Made) (a b c : Standing) → Chose s spaced a b → Did w b c (behind_tag_space t s) → Did w a c (rule (inside t))
unfolding rules
space_read t s w a b c chose h = did_rule (inside t) w a c (chose (λ x. behind_tag_space t x) w c h)

-- behind a name or none
name_read : (t : TagSoFar) (n : List ℕ) (s : Bool) (w : Made) (a b d c : Standing) → Chose s spaced a b → s ≡ true → Ran (characters n) b d (read_document_token (maybe_run Name 0))
    → Did w d c (attribute_or_end t n) → Did w a c (rule (inside t))
unfolding behind_tag_space
name_read t n true w a b d c chose e h k = space_read t true w a b c chose (did_on (maybe_run Name 0) _ (characters n) w b d c h k)
name_read t n false w a b d c chose e h k = absurd (cc)

no_name : (t : TagSoFar) (n : List ℕ) (w : Made) (d c : Standing) → (length n == 0) ≡ true → Did w d c (tag_ending t) → Did w d c (attribute_or_end t n)
unfolding attribute_or_end
no_name t [] w d c e h = h
no_name t (x ∷ n) w d c e h = let z : (length (x ∷ n) == 0) ≡ false = grind (arith, nat_tests) in absurd (cc)

a_name : (t : TagSoFar) (n : List ℕ) (w : Made) (d c : Standing) → (length n == 0) ≡ false → Did w d c (attribute t n) → Did w d c (attribute_or_end t n)
unfolding attribute_or_end
a_name t [] w d c e h = absurd (cc)
a_name t (x ∷ n) w d c e h = h

module _ (old now : StartTag) (origin a b : Standing) (s : Bool) (chose : Chose s spaced a b) (before : ReadSome old now origin a) where
  -- no white space stands behind the last attribute
  pub ends_unspaced : s ≡ false → ReadAttributes old now origin b
  unfolding behind_tag_space
  ends_unspaced e = λ room scope w c h. before room scope w c (space_read (tag_as room scope now) s w a b c chose (unspaced s (tag_as room scope now) w b c e h))
    where
      unspaced : (s : Bool) (t : TagSoFar) (w : Made) (b c : Standing) → s ≡ false → Did w b c (tag_ending t) → Did w b c (behind_tag_space t s)
      unspaced true t w b c e h = absurd (cc)
      unspaced false t w b c e h = h

  module _ (n : List ℕ) (d : Standing) (empty : Bool) (is : empty ≡ (length n == 0)) (named : s ≡ true) (run : Ran (characters n) b d (read_document_token (maybe_run Name 0))) where
    -- no attribute stands behind it
    pub ends_spaced : empty ≡ true → ReadAttributes old now origin d
    ends_spaced e = λ room scope w c h. before room scope w c (name_read (tag_as room scope now) n s w a b d c chose named run (no_name (tag_as room scope now) n w d c (sym is ∙ e) h))

    -- one more attribute
    pub goes_on : (new : StartTag) (f : Standing) → empty ≡ false → ReadAttribute n now new d f → ReadSome old new origin f
    goes_on new f e h = λ room scope w c k. before room scope w c (name_read (tag_as room scope now) n s w a b d c chose named run (a_name (tag_as room scope now) n w d c (sym is ∙ e) (h room scope w c k)))

-- reading ended
pub stop_characters : (old now : StartTag) (origin a : Standing) → IsDone a → ReadSome old now origin a → ReadAttributes old now origin a
stop_characters old now origin a done h = λ room scope w c k. h room scope w c (did_other (tag_ending (tag_as room scope now)) (rule (inside (tag_as room scope now))) w a c done k)

-- the name of an end tag
pub name_alone : (p l : List ℕ) (A : Phrase) (w : Made) (a c : Standing) → (length p == 0) ≡ true → Did w a c (past (symbol l) A) → Did w a c (past_name p l A)
name_alone [] l A w a c e h = h
name_alone (x ∷ p) l A w a c e h = let z : (length (x ∷ p) == 0) ≡ false = grind (arith, nat_tests) in absurd (cc)

pub name_prefixed : (p l : List ℕ) (A : Phrase) (w : Made) (a c : Standing) → (length p == 0) ≡ false → Did w a c (past (symbol p) (past (symbol (codes ":")) (past (symbol l) A))) → Did w a c (past_name p l A)
name_prefixed [] l A w a c e h = absurd (cc)
name_prefixed (x ∷ p) l A w a c e h = h

-- the faults of a tag
pub room_left : (room : ℕ) (f : Option ℕ) → (room ≡ 0 → ⊥) → fault_by_room room f ≡ f
room_left zero f n = absurd (n refl)
room_left (suc k) f n = refl

pub tag_fault_is : (room : ℕ) (scope b : List Binding) (t : StartTag) (name_with_uri : List SourceAttribute) → b ≡ scope ++ map declared_binding t.declarations.items → name_with_uri ≡ map (expanded_attribute b) t.attributes.items
    → fault_by_room room (fault_in (is_none (uri_read b t.prefix) || list_any (λ a. is_none (attribute_uri_read b a.prefix)) t.attributes.items)
    (repeats_behind bytes_eq [] (map (λ (d : Declaration). d.prefix) t.declarations.items) || repeats_behind same_name [] (map (λ (a : SourceAttribute). a.name) name_with_uri)))
    ≡ tag_fault (tag_as room scope t)
unfolding tag_fault
tag_fault_is room scope b t name_with_uri e f =
    ap (λ (x : List SourceAttribute). fault_by_room room (fault_in (is_none (uri_read b t.prefix) || list_any (λ a. is_none (attribute_uri_read b a.prefix)) t.attributes.items)
    (repeats_behind bytes_eq [] (map (λ (d : Declaration). d.prefix) t.declarations.items) || repeats_behind same_name [] (map (λ (a : SourceAttribute). a.name) x)))) f
    ∙ ap (λ (x : List Binding). fault_by_room room (fault_in (is_none (uri_read x t.prefix) || list_any (λ a. is_none (attribute_uri_read x a.prefix)) t.attributes.items)
    (repeats_behind bytes_eq [] (map (λ (d : Declaration). d.prefix) t.declarations.items) || repeats_behind same_name [] (map (λ (a : SourceAttribute). a.name) (map (expanded_attribute x) t.attributes.items))))) e
