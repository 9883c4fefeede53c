-- Texts stand apart in the tree of a document without types.
use Rattle.gx_model.specs.SeparateTexts.{BeginsWithoutText, AreSeparateTexts, HasSeparateTexts, AllHaveSeparateTexts}
use Rattle.gx_xml.specs.Sound.{BeginsWithNoText, IsSoundSource, AreSoundContents}
use Rattle.gx_xml.specs.SourceTree.{SourceTree, SourceContents, source, no_content, a_child, a_text}
use Rattle.gx_xml.specs.Untyped.{untyped_element, untyped_contents, untyped_document}

begins_without_text : (cs : SourceContents) → BeginsWithNoText cs → BeginsWithoutText (untyped_contents cs)
begins_without_text no_content h = tt
begins_without_text (a_child (source name declarations attributes inner) cs) h = tt
begins_without_text (a_text x cs) h = absurd h

contents_are_separate : (cs : SourceContents) → AreSoundContents cs → AreSeparateTexts (untyped_contents cs)
contents_are_separate no_content h = tt
contents_are_separate (a_child (source name declarations attributes inner) cs) h = contents_are_separate cs h.1
contents_are_separate (a_text x cs) h = (h.0, begins_without_text cs h.1, contents_are_separate cs h.2)

mutual
  element_has_separate_texts : (t : SourceTree) → IsSoundSource t → HasSeparateTexts (untyped_element t)
  element_has_separate_texts (source name declarations attributes cs) h = (contents_are_separate cs h.2, contents_have_separate_texts cs h.2)

  contents_have_separate_texts : (cs : SourceContents) → AreSoundContents cs → AllHaveSeparateTexts (untyped_contents cs)
  contents_have_separate_texts no_content h = tt
  contents_have_separate_texts (a_child t cs) h = (element_has_separate_texts t h.0, contents_have_separate_texts cs h.1)
  contents_have_separate_texts (a_text x cs) h = (tt, contents_have_separate_texts cs h.2)

pub document_has_separate_texts : (root : SourceTree) → IsSoundSource root → HasSeparateTexts (untyped_document root)
document_has_separate_texts (source name declarations attributes cs) h = (tt, (element_has_separate_texts (source name declarations attributes cs) h, tt))
