use Rattle.std.proofs.Common.{◌≡◌, refl}
use Rattle.models.specs.Edits.{detached}
use Rattle.models.proofs.Keeps.{detached-sound}
use Rattle.graphlike.specs.Shapes.{shape}
use Rattle.graphlike.specs.Diagrams.{model}
use Rattle.graphlike.proofs.Shapes.{same-model}
use Rattle.graphlike.proofs.Sounds.{sound, owed}
use Rattle.graphlike.proofs.table.diagram.Diagram.detach.Goals as goal

without-one : (c : goal.After-set) → shape (record { links = c.args.self.now.table.links; standing = c.args.self.now.table.standing; phases = c.args.self.now.table.phases; legs = c.set.new.self; scalar = c.args.self.now.table.scalar }) ≡ detached c.args.leg.number (model c.args.self.now)
unfolding detached
without-one c = same-model _ _ (record { stands = λ s. refl; phase = λ s. refl; edge = λ s t. refl; leg = c.set.ensures; scalar = refl })

pub invariant_of-self : goal.invariant_of-self
invariant_of-self c = owed _ (detached c.args.leg.number (model c.args.self.now)) (without-one c) (detached-sound c.args.leg.number (sound c.args.self.now))

pub returns : goal.returns
unfolding detached
returns c = same-model _ _ (record { stands = λ s. refl; phase = λ s. refl; edge = λ s t. refl; leg = c.set.ensures; scalar = refl })
