use Rattle.gx_grammar.proofs.Avoiding.{avoids_behind, avoids_empty, avoids_made}
use Rattle.gx_grammar.proofs.laws.tokens_stay_avoided.Goals as goal

pub returns-clause-made : goal.returns-clause-made
returns-clause-made g c = λ ts h A avoids. avoids_made g.G.HasLanguage.language ts h A g.K.HasTexts.texts g.K.HasTexts.beginnings avoids

pub returns-clause-nothing : goal.returns-clause-nothing
returns-clause-nothing g c = λ ts avoids. avoids_empty g.G.HasLanguage.language ts g.K.HasTexts.texts g.K.HasTexts.beginnings avoids

pub returns-clause-behind : goal.returns-clause-behind
returns-clause-behind g c = λ f lawful right ts A B full apart avoids. avoids_behind g.G.HasLanguage.language f right lawful ts A B g.K.HasTexts.texts g.K.HasTexts.beginnings full apart avoids
