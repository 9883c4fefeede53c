-- Texts of arguments, and what functions over strings answer of them.
use Rattle.std.proofs.Common.{◌≡◌, ◌++◌, ◌∷◌, [], List, Option, None, Some, map, refl, sym, ap, subst, append_assoc}
use Rattle.std.specs.Global.{Global}
use Rattle.std.specs.Prelude.{option_map, Vec}
use Rattle.gx_model.specs.Forest.{Forest}
use Rattle.gx_model.specs.Item.{Items}
use Rattle.gx_base.specs.declared.text.Text.{Text as DeclaredText}
use Rattle.gx_funcs.specs.Texts.{Text, texts_of}
use Rattle.gx_core.specs.Calling.{text_of_value, texts_behind}
use Rattle.gx_core.specs.Outcome.{Outcome, gives, wrong, given}
use Rattle.gx_machine.specs.Failing.{FailsSo}
use Rattle.gx_machine.specs.declared.failure.Failure.{Failure}
use Rattle.gx_machine.specs.declared.failure.Failure.TheVariants.{Memory, Raised, Wrong}

-- values that there are none of have no texts
pub texts_fail : (e : Failure) (forest : Forest) (found : Option Items) (next : List Text → Outcome Items) → FailsSo e (given found (λ typed. gives typed forest))
    → FailsSo e (given (option_map (map text_of_value) found) next)
texts_fail Memory forest found next h = tt
texts_fail (Raised code) forest None next h = h
texts_fail (Raised code) forest (Some typed) next h = absurd (cc)
texts_fail Wrong forest None next h = refl
texts_fail Wrong forest (Some typed) next h = absurd (cc)

-- where an argument has no texts, there is nothing behind it
pub argument_fails : (e : Failure) (texts : Option (List Text)) (next : Option (List Text) → Outcome Items) → next None ≡ wrong → ((then : List Text → Outcome Items) → FailsSo e (given texts then)) → FailsSo e (next texts)
argument_fails e None next w h = subst (FailsSo e) (sym w) (h (λ texts. wrong))
argument_fails e (Some texts) next w h = h (λ texts. next (Some texts))

-- one argument more
pub one_more_argument : (done : List (List Text)) (one : List Text) (others : Option (List (List Text)))
    → option_map (λ (more : List (List Text)). (done ++ one ∷ []) ++ more) others ≡ option_map (λ (more : List (List Text)). done ++ more) (texts_behind (Some one) others)
one_more_argument done one None = refl
one_more_argument done one (Some more) = ap Some (append_assoc done (one ∷ []) more)

-- the texts of one argument alone
pub only_texts : (texts : Vec DeclaredText Global) (all : List (Vec DeclaredText Global)) → all ≡ texts ∷ [] → Some (texts.items ∷ []) ≡ Some (texts_of all)
only_texts texts all e = ap (λ (l : List (Vec DeclaredText Global)). Some (texts_of l)) (sym e)
