-- A spider that holds a slot at a bit, where some slots are yet to come: twice the terms that have the bit. Assumes nothing.
use Rattle.std.proofs.Common.{◌≡◌, ℕ, ◌*◌, ◌<◌, Bool, true, false}
use Rattle.amounts.specs.Amounts.{Amounts, Lawful, root_two}
use Rattle.graphs.specs.Counts.{bit}
use Rattle.graphs.specs.Graphs.{Bits, SoundGraph, put, turns}
use Rattle.graphs.specs.Rules.{Blind}
use Rattle.diagrams.specs.declared.items.Kind.TheVariants.{Plain}
use Rattle.amplitudes.specs.Items.{joint}
use Rattle.models.specs.Models.{Model}
use Rattle.models.specs.Edits.{with_graph, placed, toggled}
use Rattle.models.proofs.Holding.{held_plain}
use Rattle.loadings.proofs.Weights.{weighed}

-- the diagram with the slots of p standing
abbrev standing_at : (ℕ → Bool) → Model → Model
standing_at p m = with_graph m (record { stands = p; phase = m.graph.phase; edge = m.graph.edge })

pub held_weighed : (A : Amounts) → Lawful A → (n h s : ℕ) (b : Bool) (p : ℕ → Bool) (m : Model) (g : Bits → A.Amount) → SoundGraph n m.graph → ((k : ℕ) → m.graph.stands k ≡ true → p k ≡ true) → h < n → s < n → p h ≡ false → p s ≡ true → Blind A g h → weighed A n (put p h) (toggled h s (placed h (2 * bit b) m)).graph g ≡ A.mul (A.mul (root_two A) (root_two A)) (weighed A n p m.graph (λ y. A.mul (joint A Plain (y s) b) (g y)))
unfolding turns toggled placed
held_weighed A laws n h s b p m g good more h-low s-low empty stood blind =
    held_plain A laws n h s b (standing_at p m) g
    (record { symmetric = good.symmetric; loop_free = good.loop_free; standing = λ a c e. more a (good.standing a c e) })
    h-low s-low empty stood blind
