use Rattle.std.proofs.Common.{◌≡◌, true, ℤ, sym, refl, subst, w32}
use Rattle.std.proofs.lemmas.Int.{to_z-of_z}
use Rattle.models.specs.Edits.{product, scaled, can_scale}
use Rattle.models.proofs.Keeps.{scaled-sound}
use Rattle.parts.specs.Scales.{scale_of}
use Rattle.graphlike.specs.Diagrams.{model}
use Rattle.graphlike.proofs.Shapes.{same-model}
use Rattle.graphlike.proofs.Sounds.{sound, owed}
use Rattle.graphlike.proofs.table.diagram.Diagram.scale.Goals as goal

pub invariant_of-self : goal.invariant_of-self
unfolding scaled
invariant_of-self c =
    let m = model c.args.self.now in
    let k = to_z-of_z w32 c.args.k c.ranges.k in
    let can = subst (λ (z : ℤ). can_scale z c.args.m.parts m ≡ true) k c.in-Some.ensures.0 in
    let same = subst (λ (z : ℤ). scale_of c.in-Some.scalar ≡ product z c.args.m.parts m.scalar) k c.in-Some.ensures.1 in
    owed _ (scaled c.args.k c.args.m.parts m) (same-model _ _ (record { stands = λ s. refl; phase = λ s. refl; edge = λ s t. refl; leg = λ l. refl; scalar = same })) (scaled-sound c.args.k c.args.m.parts (sound c.args.self.now) can)

pub returns : goal.returns
unfolding scaled
returns c =
    let m = model c.args.self.now in
    let k = to_z-of_z w32 c.args.k c.ranges.k in
    let can = subst (λ (z : ℤ). can_scale z c.args.m.parts m ≡ true) k c.in-Some.ensures.0 in
    let same = subst (λ (z : ℤ). scale_of c.in-Some.scalar ≡ product z c.args.m.parts m.scalar) k c.in-Some.ensures.1 in
    record { done = sym can; after = same-model _ _ (record { stands = λ s. refl; phase = λ s. refl; edge = λ s t. refl; leg = λ l. refl; scalar = same }) }
