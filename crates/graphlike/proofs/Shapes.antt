-- Models that agree slot by slot and leg by leg are equal. Assumes nothing.
use Rattle.std.proofs.Common.{◌≡◌, ℕ}
use mathlib.Core.Path.{fun_ext}
use Rattle.models.specs.Models.{Model}

pub record Alike (m n : Model) : Type 0 where
  pub stands : (s : ℕ) → m.graph.stands s ≡ n.graph.stands s
  pub phase : (s : ℕ) → m.graph.phase s ≡ n.graph.phase s
  pub edge : (s t : ℕ) → m.graph.edge s t ≡ n.graph.edge s t
  pub leg : (l : ℕ) → m.leg l ≡ n.leg l
  pub scalar : m.scalar ≡ n.scalar

pub same-model : (m n : Model) → Alike m n → m ≡ n
same-model m n a =
    let stands = fun_ext a.stands in
    let phase = fun_ext a.phase in
    let edge = fun_ext (λ s. fun_ext (a.edge s)) in
    let leg = fun_ext a.leg in
    let scalar = a.scalar in
    λ i. record { graph = record { stands = stands i; phase = phase i; edge = edge i }; leg = leg i; scalar = scalar i }
