-- The code of a particle as stored data, which tells particles apart.
use Rattle.std.specs.Prelude.{◌≡◌, ℕ}
use Rattle.std.proofs.Common.{ap}
use Rattle.std.specs.Coded.{Coded, coded_ℕ}
use base.Stored.{Gv, gnil, gnum, gcons}
use Rattle.gx_qnames.specs.declared.reference.Reference.{Reference}
use Rattle.gx_schema_syntax.specs.declared.role.Compositor.{Compositor}
use Rattle.gx_schema_syntax.specs.declared.written.Bounds.{Bounds}
use Rattle.gx_schema_syntax.specs.declared.written.LocalDeclaration.{LocalDeclaration}
use Rattle.gx_schema_syntax.specs.ParticleTree.{ParticleTree, ParticleTrees, an_element, a_group, a_model_group, no_particles, a_particle}

abbrev head : Gv → Gv
head (gcons g h) = g
head _ = gnil

abbrev tail : Gv → Gv
tail (gcons g h) = h
tail _ = gnil

module _ (bounds : Coded Bounds) (declarations : Coded LocalDeclaration) (references : Coded Reference) (compositors : Coded Compositor) where
  abbrev mutual
    pub store_particle : ParticleTree → Gv
    store_particle (an_element n b d) = gcons (gnum 0) (gcons (coded_ℕ.code n) (gcons (bounds.code b) (declarations.code d)))
    store_particle (a_group n b r) = gcons (gnum 1) (gcons (coded_ℕ.code n) (gcons (bounds.code b) (references.code r)))
    store_particle (a_model_group n b c ps) = gcons (gnum 2) (gcons (coded_ℕ.code n) (gcons (bounds.code b) (gcons (compositors.code c) (store_particles ps))))

    pub store_particles : ParticleTrees → Gv
    store_particles no_particles = gnil
    store_particles (a_particle p ps) = gcons (store_particle p) (store_particles ps)

  mutual
    pub same_particle : (x y : ParticleTree) → store_particle x ≡ store_particle y → x ≡ y
    same_particle (an_element n b d) (an_element m c e) q =
        let placed : n ≡ m = coded_ℕ.inj n m (ap (λ g. head (tail g)) q) in
        let bounded : b ≡ c = bounds.inj b c (ap (λ g. head (tail (tail g))) q) in
        let declared : d ≡ e = declarations.inj d e (ap (λ g. tail (tail (tail g))) q) in
        λ i. an_element (placed i) (bounded i) (declared i)
    same_particle (a_group n b d) (a_group m c e) q =
        let placed : n ≡ m = coded_ℕ.inj n m (ap (λ g. head (tail g)) q) in
        let bounded : b ≡ c = bounds.inj b c (ap (λ g. head (tail (tail g))) q) in
        let referred : d ≡ e = references.inj d e (ap (λ g. tail (tail (tail g))) q) in
        λ i. a_group (placed i) (bounded i) (referred i)
    same_particle (a_model_group n b k ps) (a_model_group m c l rs) q =
        let placed : n ≡ m = coded_ℕ.inj n m (ap (λ g. head (tail g)) q) in
        let bounded : b ≡ c = bounds.inj b c (ap (λ g. head (tail (tail g))) q) in
        let composed : k ≡ l = compositors.inj k l (ap (λ g. head (tail (tail (tail g)))) q) in
        let held : ps ≡ rs = same_particles ps rs (ap (λ g. tail (tail (tail (tail g)))) q) in
        λ i. a_model_group (placed i) (bounded i) (composed i) (held i)
    same_particle _ _ q = absurd (cc)

    pub same_particles : (x y : ParticleTrees) → store_particles x ≡ store_particles y → x ≡ y
    same_particles no_particles no_particles q = λ i. no_particles
    same_particles (a_particle p ps) (a_particle r rs) q =
        let first : p ≡ r = same_particle p r (ap head q) in
        let others : ps ≡ rs = same_particles ps rs (ap tail q) in
        λ i. a_particle (first i) (others i)
    same_particles _ _ q = absurd (cc)

  abbrev pub particle_code : Coded ParticleTree
  particle_code = record { code = store_particle; inj = same_particle }
