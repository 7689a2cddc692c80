use Rattle.std.proofs.Common.{◌≡◌, cond, sym, refl, ap, ◌∙◌}
use Rattle.models.specs.Edits.{attached}
use Rattle.models.proofs.Keeps.{attached-sound}
use Rattle.parts.specs.Tables.{open_leg}
use Rattle.graphlike.specs.Shapes.{shape}
use Rattle.graphlike.specs.Diagrams.{model}
use Rattle.graphlike.proofs.Shapes.{same-model}
use Rattle.graphlike.proofs.Sounds.{sound, owed}
use Rattle.graphlike.proofs.table.diagram.Diagram.attach.Goals as goal

with_one : (c : goal.After-set) → shape (record { links = c.args.self.now.table.links; standing = c.args.self.now.table.standing; phases = c.args.self.now.table.phases; legs = c.set.new.self; scalar = c.args.self.now.table.scalar }) ≡ attached c.args.leg.number (open_leg c.args.«open») (model c.args.self.now)
unfolding attached
with_one c = same-model _ _ (record { stands = λ s. refl; phase = λ s. refl; edge = λ s t. refl; leg = c.set.ensures; scalar = refl })

pub invariant_of-self : goal.invariant_of-self
invariant_of-self c = owed _ (attached c.args.leg.number (open_leg c.args.«open») (model c.args.self.now)) (with_one c) (attached-sound c.args.leg.number (open_leg c.args.«open») (sound c.args.self.now) (sym c.can_attach-done.ensures ∙ c.if-done.true))

pub returns-then-done : goal.returns-then-done
unfolding attached
returns-then-done c = record {
  done = c.can_attach-done.ensures;
  after = same-model _ _ (record { stands = λ s. refl; phase = λ s. refl; edge = λ s t. refl; leg = c.set.ensures; scalar = refl })
      ∙ sym (ap (λ b. cond b (attached c.args.leg.number (open_leg c.args.«open») (model c.args.self.now)) (model c.args.self.now)) c.if-done.true);
}
