-- No production stands at the front of a type.
use Rattle.std.proofs.Common.{ℕ}
use Rattle.gx_base.specs.declared.place.Place.{Place}
use Rattle.gx_grammar.specs.Levels.{HasRanksBelow}
use Rattle.gx_parse_grammar.specs.declared.kind_words.KindWord.{KindWord}
use Rattle.gx_parse_grammar.specs.declared.kind_words.KindWord.TheVariants as kind
use Rattle.gx_parse_grammar.specs.declared.kind_words.TypeWord.{TypeWord}
use Rattle.gx_parse_grammar.specs.declared.kind_words.TypeWord.TheVariants as type_word_is
use Rattle.gx_parse_grammar.specs.declared.casts.TypeTest.{TypeTest}
use Rattle.gx_parse_grammar.specs.declared.casts.CastTest.{CastTest}
use Rattle.gx_parse_grammar.specs.declared.casts.TypeTest.TheVariants as test
use Rattle.gx_parse_grammar.specs.declared.casts.CastTest.TheVariants as cast
use Rattle.gx_parse_grammar.specs.Grammar.{Phrase, name, operator, query_language}
use Rattle.gx_parse_grammar.specs.Types.{type_word, written_name, tested_name, behind_comma, tested, declared, nothing_inside, document_test, document, named_content, declared_content, content, bare_tail, item_tail, empty_tail, type_tail, behind_type, sequence_type, single_type}
use Rattle.gx_parse_grammar.specs.Casts.{type_test, cast_test, casts}
use Rattle.gx_parse_grammar.specs.Fronts.{rank}

module _ (at : ℕ → Place) (n : ℕ) where
  abbrev Low : Phrase → Type 0
  Low A = HasRanksBelow (query_language at) rank n A

  pub written_low : Low (written_name at)
  unfolding written_name name
  written_low = (tt, tt)

  tested_low : Low (tested at)
  unfolding tested tested_name behind_comma
  tested_low = ((tt, tt), ((tt, tt), ((((tt, tt), written_low), (((tt, tt), written_low), tt)), (tt, tt))))

  declared_low : Low (declared at)
  unfolding declared
  declared_low = ((tt, tt), (written_low, (tt, tt)))

  inside_low : Low (nothing_inside at)
  unfolding nothing_inside
  inside_low = ((tt, tt), (tt, tt))

  document_low : Low (document at)
  unfolding document document_test
  document_low = ((tt, tt), ((tt, tt), ((((tt, tt), tested_low), ((tt, tt), declared_low)), (tt, tt))))

  pub content_low : (k : KindWord) → Low (content at k)
  unfolding content named_content declared_content
  content_low kind.Node = inside_low
  content_low kind.Text = inside_low
  content_low kind.Document = document_low
  content_low kind.Element = tested_low
  content_low kind.Attribute = tested_low
  content_low kind.SchemaElement = declared_low

  tail_low : (w : TypeWord) → Low (type_tail at w)
  unfolding type_tail empty_tail item_tail bare_tail
  tail_low type_word_is.EmptySequence = (inside_low, tt)
  tail_low type_word_is.Item = ((inside_low, tt), tt)
  tail_low (type_word_is.Kind k) = ((content_low k, tt), tt)
  tail_low type_word_is.Atomic = tt

  pub sequence_low : Low (sequence_type at)
  unfolding sequence_type behind_type
  sequence_low = λ v. (tt, tail_low (type_word v))

  single_low : Low (single_type at)
  unfolding single_type
  single_low = (written_low, ((tt, tt), tt))

  test_low : (o : TypeTest) (first : Phrase) → Low first → Low (type_test at o first)
  unfolding type_test operator
  test_low o first f = (f, (((tt, tt), ((tt, tt), sequence_low)), tt))

  cast_low : (o : CastTest) (first : Phrase) → Low first → Low (cast_test at o first)
  unfolding cast_test operator
  cast_low o first f = (f, (((tt, tt), ((tt, tt), single_low)), tt))

  pub casts_low : (first : Phrase) → Low first → Low (casts at first)
  unfolding casts
  casts_low first f = test_low test.InstanceOf _ (test_low test.TreatAs _ (cast_low cast.CastableAs _ (cast_low cast.CastAs first f)))
