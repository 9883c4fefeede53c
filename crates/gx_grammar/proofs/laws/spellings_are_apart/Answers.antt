use Rattle.gx_grammar.proofs.Apart.{apart_by_heads, computed_apart, computed_heads, computed_words}
use Rattle.gx_grammar.proofs.laws.spellings_are_apart.Goals as goal

pub returns-clause-apart : goal.returns-clause-apart
returns-clause-apart g c = λ shape shaped ts us e. computed_apart g.G.HasLanguage.language shape shaped ts us e

pub returns-clause-heads : goal.returns-clause-heads
returns-clause-heads g c = λ shape shaped k b ts e. computed_heads g.G.HasLanguage.language shape shaped k b ts e

pub returns-clause-words : goal.returns-clause-words
returns-clause-words g c = λ shape shaped test b ts e. computed_words g.G.HasLanguage.language shape shaped test b ts e

pub returns-clause-heads_differ : goal.returns-clause-heads_differ
returns-clause-heads_differ g c = λ test b d t u differ h k. apart_by_heads g.G.HasLanguage.language test b d t u differ h k
