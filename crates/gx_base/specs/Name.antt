-- How names are compared: by URI and local part, whatever their prefixes are.
use Rattle.std.specs.Prelude.{Bool}
use Rattle.std.specs.declared.cmp.Ordering.{Ordering}
use Rattle.std.specs.Ordering.{on, then_cmp, eq_of_both}
use Rattle.gx_base.specs.Text.{same_text, text_cmp}
use Rattle.gx_base.specs.declared.name.Name.{Name}

-- two names have the same URI and the same local part
abbrev pub same_name : Name → Name → Bool
same_name = eq_of_both (on (λ n. n.uri) same_text) (on (λ n. n.local) same_text)

-- the order of two names: by URI, then by local part
abbrev pub name_cmp : Name → Name → Ordering
name_cmp = then_cmp (on (λ n. n.uri) text_cmp) (on (λ n. n.local) text_cmp)
