-- How a circuit is spelled, and which texts spell one. Assumes nothing.
use Rattle.std.specs.Prelude.{◌≡◌, ℕ, ◌+◌, ◌/◌, ◌%◌, ◌<◌, ◌≤◌, if◌then◌else◌, List, [], ◌∷◌, ◌++◌, length, ◌≢◌, nat_lt}
use Rattle.std.specs.List.{flat_map, AllByRecursion}
use Rattle.refusals.specs.Refusals.{text_limit}
use Rattle.circuits.specs.declared.gates.Single.{Single}
use Rattle.circuits.specs.declared.gates.Single.TheVariants.{Hadamard, S, SInverse, PauliX, PauliZ}
use Rattle.circuits.specs.declared.gates.Double.{Double}
use Rattle.circuits.specs.declared.gates.Double.TheVariants.{ControlledX, ControlledZ}
use Rattle.circuits.specs.declared.gates.Gate.{Gate}
use Rattle.circuits.specs.declared.gates.Gate.TheVariants.{One, Two}

-- a number below a hundred, in decimal digits
abbrev pub spell_number : ℕ → List ℕ
spell_number q = if nat_lt q 10 then (48 + q) ∷ [] else (48 + q / 10) ∷ (48 + q % 10) ∷ []

-- the letters h, s, d, x, z
abbrev pub single_letter : Single → ℕ
single_letter Hadamard = 104
single_letter S = 115
single_letter SInverse = 100
single_letter PauliX = 120
single_letter PauliZ = 122

-- the letters c, e
abbrev pub double_letter : Double → ℕ
double_letter ControlledX = 99
double_letter ControlledZ = 101

-- a line: the letter, each number after a space, and the line end
abbrev pub spell_gate : Gate → List ℕ
spell_gate (One g q) = single_letter g ∷ 32 ∷ (spell_number q ++ (10 ∷ []))
spell_gate (Two g q r) = double_letter g ∷ 32 ∷ (spell_number q ++ (32 ∷ (spell_number r ++ (10 ∷ []))))

-- the line n with the count of qubits, and a line for each gate
abbrev pub spell : ℕ → List Gate → List ℕ
spell n gs = 110 ∷ 32 ∷ (spell_number n ++ (10 ∷ flat_map spell_gate gs))

-- a gate acts on qubits of n, and one on two acts on two
abbrev pub Valid : ℕ → Gate → Type 0
Valid n (One g q) = q < n
Valid n (Two g q r) = (q < n) × (r < n) × (r ≢ q)

-- the text bs spells a circuit of n qubits with the gates gs
pub record Spells (n : ℕ) (gs : List Gate) (bs : List ℕ) : Type 0 where
  pub some : 0 < n
  pub few : n ≤ 16
  pub valid : AllByRecursion (Valid n) gs
  pub text : bs ≡ spell n gs
  pub short : length bs ≤ text_limit

-- the text bs spells some circuit
abbrev pub Spelling : List ℕ → Type 0
Spelling bs = (n : ℕ) × (gs : List Gate) × Spells n gs bs
