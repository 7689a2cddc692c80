-- What the gates of a circuit do to a state, and that this is the circuit's amplitude. Assumes nothing.
use Rattle.std.specs.Prelude.{◌≡◌, ℕ, zero, suc, ◌+◌, ◌≤◌, Bool, true, false, if◌then◌else◌, not, ◌&&◌, List, [], ◌∷◌, ◌++◌, map, pos, neg_ℤ, ◌==◌}
use Rattle.std.specs.List.{range_with_len, AllByRecursion}
use Rattle.amounts.specs.Amounts.{Amounts, turned}
use Rattle.amounts.specs.Eighths.{eighths}
use Rattle.amounts.specs.Scalars.{Scaled, Same}
use Rattle.graphs.specs.Graphs.{Bits}
use Rattle.graphs.specs.Rules.{xor}
use Rattle.amplitudes.specs.Items.{amplitude}
use Rattle.diagrams.specs.Streams.{finish}
use Rattle.circuits.specs.declared.gates.Single.{Single}
use Rattle.circuits.specs.declared.gates.Single.TheVariants.{Hadamard, S, SInverse, PauliX, PauliZ}
use Rattle.circuits.specs.declared.gates.Double.{Double}
use Rattle.circuits.specs.declared.gates.Double.TheVariants.{ControlledX, ControlledZ}
use Rattle.circuits.specs.declared.gates.Gate.{Gate}
use Rattle.circuits.specs.declared.gates.Gate.TheVariants.{One, Two}
use Rattle.circuits.specs.Gates.{circuit_items}
use Rattle.circuits.specs.Circuits.{circuit}
use Rattle.circuits.specs.Spelling.{Valid, Spells}

-- the function f with the value v at q
abbrev pub changed : {T : Type 0} → (ℕ → T) → ℕ → T → ℕ → T
changed f q v r = if r == q then v else f r

-- w^m where the bit is 1, else one
abbrev pub turned_at : (A : Amounts) → ℕ → Bool → A.Amount
turned_at A m b = if b then turned A m else A.one

-- what a gate on one qubit does to a state of it, an amount for each bit; -1 is w⁴, and the Hadamard
-- gate is not normalised
abbrev pub single : (A : Amounts) → Single → (Bool → A.Amount) → Bool → A.Amount
single A Hadamard f b = A.add (f false) (A.mul (turned_at A 4 b) (f true))
single A S f b = A.mul (turned_at A 2 b) (f b)
single A SInverse f b = A.mul (turned_at A 6 b) (f b)
single A PauliX f b = f (not b)
single A PauliZ f b = A.mul (turned_at A 4 b) (f b)

-- what a gate on two qubits does to a state of them
abbrev pub double : (A : Amounts) → Double → (Bool → Bool → A.Amount) → Bool → Bool → A.Amount
double A ControlledX f b c = f b (xor b c)
double A ControlledZ f b c = A.mul (turned_at A 4 (b && c)) (f b c)

-- what a gate does to a state of all qubits, an amount for each row of bits: the other qubits stay
abbrev pub act : (A : Amounts) → Gate → (Bits → A.Amount) → Bits → A.Amount
act A (One g q) state y = single A g (λ b. state (changed y q b)) (y q)
act A (Two g q r) state y = double A g (λ b c. state (changed (changed y q b) r c)) (y q) (y r)

-- gates one after the other
abbrev pub act_all : (A : Amounts) → List Gate → (Bits → A.Amount) → Bits → A.Amount
act_all A [] state = state
act_all A (g ∷ gs) state = act_all A gs (act A g state)

-- whether two rows agree on n qubits
abbrev pub agree : ℕ → Bits → Bits → Bool
agree zero a y = true
agree (suc n) a y = if xor (a n) (y n) then false else agree n a y

-- the state that is one at the rows that agree with a on n qubits, and zero at all others
abbrev pub indicator : (A : Amounts) → ℕ → Bits → Bits → A.Amount
indicator A n a y = if agree n a y then A.one else A.zero

-- how many Hadamard gates there are
abbrev pub is_hadamard : Single → ℕ
is_hadamard Hadamard = 1
is_hadamard S = 0
is_hadamard SInverse = 0
is_hadamard PauliX = 0
is_hadamard PauliZ = 0

abbrev pub hadamards : List Gate → ℕ
hadamards [] = 0
hadamards (One g q ∷ gs) = is_hadamard g + hadamards gs
hadamards (Two g q r ∷ gs) = hadamards gs

-- the row of the first n bits of a and then of b
abbrev pub row_of : ℕ → Bits → Bits → List Bool
row_of n a b = map a (range_with_len 0 n) ++ map b (range_with_len 0 n)

-- what the gates make of the input row a, at the output row b: each Hadamard gate costs a root of two
abbrev pub gates_amplitude : ℕ → List Gate → Bits → Bits → Scaled
gates_amplitude n gs a b = record { k = neg_ℤ (pos (hadamards gs)); z = act_all eighths gs (indicator eighths n a) b }

-- the items of a circuit of at most 16 qubits have the amplitude that its gates make, at every row of
-- inputs and outputs
abbrev pub CircuitsAreMatrices : Type 0
CircuitsAreMatrices =
    (n : ℕ) (gs : List Gate) (a b : Bits) → n ≤ 16 → AllByRecursion (Valid n) gs
    → Same (amplitude (circuit_items n gs finish).items (row_of n a b)) (gates_amplitude n gs a b)

-- and so have the items that a text which spells the circuit gives
abbrev pub TextsAreMatrices : Type 0
TextsAreMatrices =
    (n : ℕ) (gs : List Gate) (bs : List ℕ) (a b : Bits) → Spells n gs bs
    → Same (amplitude (circuit bs).items (row_of n a b)) (gates_amplitude n gs a b)

-- every text that ends without a fault spells a circuit, and has the amplitude that its gates make
abbrev pub AcceptedTextsAreMatrices : Type 0
AcceptedTextsAreMatrices =
    (bs : List ℕ) → (circuit bs).ending ≡ finish → (n : ℕ) × (gs : List Gate) × Spells n gs bs × ((a b : Bits) → Same (amplitude (circuit bs).items (row_of n a b)) (gates_amplitude n gs a b))
