use Rattle.std.proofs.Common.{◌≡◌, Some, false, sym, ap, ◌∙◌, option_copied, arith}
use Rattle.std.specs.Option.{option_map}
use Rattle.gx_base.specs.declared.type_name.TypeName.TheVariants.{Builtin}
use Rattle.gx_types.specs.Derivation.{base_of, bases_among}
use Rattle.gx_types.specs.SameItemType.{same_type_name}
use Rattle.gx_types.proofs.DerivationLemmas.{baseless, from_base, to_base, declared_base_is, rank_at_most, a_step_is_left, base_ends}
use Rattle.gx_types.proofs.SchemaLemmas.{base_is, no_base}
use Rattle.gx_types.proofs.derivation.+leads_to.Goals as goal

pub leads_to-requires-in-Some-declaration : goal.leads_to-requires-in-Some-declaration
leads_to-requires-in-Some-declaration t c =
    let base = c.in-Some-declaration.declared.now.base in
    let e = base_is c.args.types.now c.args.t.now c.in-Some-declaration.declared.now (sym c.declaration.ensures ∙ ap option_copied c.in-Some-declaration.is) in
    let step = a_step_is_left (bases_among c.args.types.now) c.args.steps c.args.t.now base c.in-Named.is c.requires e in
    let below = rank_at_most base in
    (omega arith, base_ends (bases_among c.args.types.now) c.args.steps c.args.t.now base c.in-Named.is c.requires e)

pub returns-in-Some : goal.returns-in-Some
returns-in-Some t c =
    let differ : same_type_name c.args.t.now c.args.u.now ≡ false = sym c.same_kinds.ensures ∙ c.if-same_kinds.false in
    let bases = bases_among c.args.types.now in
    let e : base_of bases c.args.t.now ≡ Some (Builtin c.in-Some.base) =
    ap (base_of bases) c.in-Builtin.is ∙ ap (option_map Builtin) (sym c.builtin_base.ensures ∙ c.in-Some.is) in (
      λ r. to_base bases c.args.t.now c.args.u.now (Builtin c.in-Some.base) e (c.leads_to.ensures.0 r),
      λ l. c.leads_to.ensures.1 (from_base bases c.args.t.now c.args.u.now (Builtin c.in-Some.base) differ e l),
    )

pub returns-in-Some-declaration : goal.returns-in-Some-declaration
returns-in-Some-declaration t c =
    let differ : same_type_name c.args.t.now c.args.u.now ≡ false = sym c.same_kinds.ensures ∙ c.if-same_kinds.false in
    let base = c.in-Some-declaration.declared.now.base in
    let bases = bases_among c.args.types.now in
    let found = base_is c.args.types.now c.args.t.now c.in-Some-declaration.declared.now (sym c.declaration.ensures ∙ ap option_copied c.in-Some-declaration.is) in
    let e : base_of bases c.args.t.now ≡ Some base = declared_base_is bases c.args.t.now c.in-Named.is ∙ found in (
      λ r. to_base bases c.args.t.now c.args.u.now base e (c.leads_to-in-Some-declaration.ensures.0 r),
      λ l. c.leads_to-in-Some-declaration.ensures.1 (from_base bases c.args.t.now c.args.u.now base differ e l),
    )

pub overflow_sub-steps : goal.overflow_sub-steps
overflow_sub-steps t c =
    let e = base_is c.args.types.now c.args.t.now c.in-Some-declaration.declared.now (sym c.declaration.ensures ∙ ap option_copied c.in-Some-declaration.is) in
    a_step_is_left (bases_among c.args.types.now) c.args.steps c.args.t.now c.in-Some-declaration.declared.now.base c.in-Named.is c.requires e

pub returns-in-None-declaration : goal.returns-in-None-declaration
returns-in-None-declaration t c =
    let differ : same_type_name c.args.t.now c.args.u.now ≡ false = sym c.same_kinds.ensures ∙ c.if-same_kinds.false in
    let bases = bases_among c.args.types.now in
    let none = no_base c.args.types.now c.args.t.now (sym c.declaration.ensures ∙ ap option_copied c.in-None-declaration.is) in
    (λ r. absurd (cc), λ l. absurd (baseless bases c.args.t.now c.args.u.now differ (declared_base_is bases c.args.t.now c.in-Named.is ∙ none) l))
