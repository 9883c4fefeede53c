-- Children that are gathered.
use Rattle.std.proofs.Common.{◌≡◌, ℕ, List, [], ◌∷◌, ◌++◌, refl, ap, ◌∙◌, append_assoc}
use Rattle.gx_xml.specs.declared.source.SourceChild.{SourceChild}
use Rattle.gx_xml.specs.declared.source.SourceChild.TheVariants.{Element, Text}
use Rattle.gx_xml.specs.SourceTree.{SourceTree, SourceContents, no_content, a_child, a_text}
use Rattle.gx_xml.specs.SourceView.{contents_of}
use Rattle.gx_xml.specs.Nodes.{put_characters}
use Rattle.gx_xml.specs.Gathered.{put_all, text_part}

-- characters in front of others
pub put_both : (x y : List ℕ) (cs : SourceContents) → put_characters (x ++ y) cs ≡ put_characters x (put_characters y cs)
put_both [] y cs = refl
put_both (c ∷ x) [] no_content = ap (λ z. a_text (c ∷ z) no_content) (append_nil x)
  where
    append_nil : (x : List ℕ) → x ++ [] ≡ x
    append_nil [] = refl
    append_nil (c ∷ x) = ap (λ z. c ∷ z) (append_nil x)
put_both (c ∷ x) [] (a_child t cs) = ap (λ z. a_text (c ∷ z) (a_child t cs)) (append_nil x)
  where
    append_nil : (x : List ℕ) → x ++ [] ≡ x
    append_nil [] = refl
    append_nil (c ∷ x) = ap (λ z. c ∷ z) (append_nil x)
put_both (c ∷ x) [] (a_text y cs) = ap (λ z. a_text (c ∷ (z ++ y)) cs) (append_nil x)
  where
    append_nil : (x : List ℕ) → x ++ [] ≡ x
    append_nil [] = refl
    append_nil (c ∷ x) = ap (λ z. c ∷ z) (append_nil x)
put_both (c ∷ x) (d ∷ y) no_content = refl
put_both (c ∷ x) (d ∷ y) (a_child t cs) = refl
put_both (c ∷ x) (d ∷ y) (a_text z cs) = ap (λ q. a_text (c ∷ q) cs) (append_assoc x (d ∷ y) z)

pub put_all-append : (xs ys : List SourceChild) (cs : SourceContents) → put_all (xs ++ ys) cs ≡ put_all xs (put_all ys cs)
put_all-append [] ys cs = refl
put_all-append (Element t ∷ xs) ys cs = ap (a_child t) (put_all-append xs ys cs)
put_all-append (Text x ∷ xs) ys cs = ap (a_text x) (put_all-append xs ys cs)

-- characters, of which there are some, make a text
pub part_of_some : (x : List ℕ) → (x ≡ [] → ⊥) → text_part x ≡ Text x ∷ []
part_of_some [] h = absurd (h refl)
part_of_some (c ∷ x) h = refl

part_before : (p : List ℕ) (t : SourceTree) (cs : SourceContents) → put_all (text_part p) (a_child t cs) ≡ put_characters p (a_child t cs)
part_before [] t cs = refl
part_before (c ∷ p) t cs = refl

part_last : (p : List ℕ) → put_all (text_part p) no_content ≡ put_characters p no_content
part_last [] = refl
part_last (c ∷ p) = refl

pub put_element : (done flushed all : List SourceChild) (p : List ℕ) (t : SourceTree) (cs : SourceContents) → flushed ≡ done ++ text_part p → all ≡ flushed ++ Element t ∷ []
    → put_all all cs ≡ put_all done (put_characters p (a_child t cs))
put_element done flushed all p t cs e f =
    ap (λ x. put_all x cs) f ∙ put_all-append flushed (Element t ∷ []) cs ∙ ap (λ x. put_all x (a_child t cs)) e ∙ put_all-append done (text_part p) (a_child t cs) ∙ ap (put_all done) (part_before p t cs)

contents_all : (xs : List SourceChild) → contents_of xs ≡ put_all xs no_content
contents_all [] = refl
contents_all (Element t ∷ xs) = ap (a_child t) (contents_all xs)
contents_all (Text x ∷ xs) = ap (a_text x) (contents_all xs)

pub put_last : (done flushed : List SourceChild) (p : List ℕ) → flushed ≡ done ++ text_part p → contents_of flushed ≡ put_all done (put_characters p no_content)
put_last done flushed p e = contents_all flushed ∙ ap (λ x. put_all x no_content) e ∙ put_all-append done (text_part p) no_content ∙ ap (put_all done) (part_last p)
