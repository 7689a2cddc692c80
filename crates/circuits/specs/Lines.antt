-- The lines of circuit text: a gate with its qubits, and the first line. Assumes nothing.
use Rattle.std.specs.Prelude.{ℕ, ◌+◌, Bool, if◌then◌else◌, ◌&&◌, List, length, Ok, Err, Result, ◌==◌, nat_le, nat_lt, slice_index}
use Rattle.refusals.specs.declared.Fault.{Fault}
use Rattle.refusals.specs.declared.Fault.TheVariants.{NotALetter, NoSuchQubit, EqualQubits}
use Rattle.circuits.specs.declared.gates.Single.TheVariants.{Hadamard, S, SInverse, PauliX, PauliZ}
use Rattle.circuits.specs.declared.gates.Double.TheVariants.{ControlledX, ControlledZ}
use Rattle.circuits.specs.declared.gates.Gate.{Gate}
use Rattle.circuits.specs.declared.gates.Gate.TheVariants.{One, Two}
use Rattle.circuits.specs.declared.lines.Name.{Name}
use Rattle.circuits.specs.declared.lines.Name.TheVariants.{OneQubit, TwoQubits}
use Rattle.circuits.specs.Tokens.{decimal, number_at, line_end}

-- go on from what was read, unless it was a fault
abbrev pub onward : {X Y : Type 0} → Result X Fault → (X → Result Y Fault) → Result Y Fault
onward (Ok x) k = k x
onward (Err f) k = Err f

-- the gate that a letter at p names: h, s, d, x, z, c or e
abbrev pub named : ℕ → ℕ → Result Name Fault
named b p =
    if b == 104 then Ok (OneQubit Hadamard)
    else if b == 115 then Ok (OneQubit S)
    else if b == 100 then Ok (OneQubit SInverse)
    else if b == 120 then Ok (OneQubit PauliX)
    else if b == 122 then Ok (OneQubit PauliZ)
    else if b == 99 then Ok (TwoQubits ControlledX)
    else if b == 101 then Ok (TwoQubits ControlledZ)
    else Err (NotALetter p)

-- that gate and the place after the letter
abbrev pub name_at : List ℕ → ℕ → Result (Name × ℕ) Fault
name_at bs p = onward (named (slice_index bs p) p) (λ g. Ok (g, p + 1))

-- nothing but the place after the line end at p
abbrev pub end_at : List ℕ → ℕ → Result (Unit {0} × ℕ) Fault
end_at bs p = onward (line_end bs p) (λ e. Ok (tt, e))

-- the number at p, if it passes a test, and the place after it
abbrev pub tested_at : (ℕ → Bool) → List ℕ → ℕ → Result (ℕ × ℕ) Fault
tested_at good bs p =
    onward (number_at bs p) (λ t.
    if good (decimal t.0) then Ok (decimal t.0, t.1 + length t.0) else Err (NoSuchQubit t.1))

-- a number from a first one up to below an end
abbrev pub in_range : ℕ → ℕ → ℕ → Bool
in_range least end v = nat_le least v && nat_lt v end

-- a qubit of n
abbrev pub qubit_at : ℕ → List ℕ → ℕ → Result (ℕ × ℕ) Fault
qubit_at n = tested_at (λ v. nat_lt v n)

-- a qubit of n other than q
abbrev pub other_at : ℕ → ℕ → List ℕ → ℕ → Result (ℕ × ℕ) Fault
other_at n q bs p = onward (qubit_at n bs p) (λ r. if r.0 == q then Err (EqualQubits (p + 1)) else Ok r)

-- a count of qubits
abbrev pub count_at : List ℕ → ℕ → Result (ℕ × ℕ) Fault
count_at = tested_at (λ v. nat_le 1 v && nat_le v 16)

-- the qubits of a gate and the end of its line
abbrev pub operands_at : ℕ → List ℕ → ℕ → Name → Result (Gate × ℕ) Fault
operands_at n bs p (OneQubit g) = onward (qubit_at n bs p) (λ q. onward (line_end bs q.1) (λ e. Ok (One g q.0, e)))
operands_at n bs p (TwoQubits g) =
    onward (qubit_at n bs p) (λ q. onward (other_at n q.0 bs q.1) (λ r. onward (line_end bs r.1) (λ e. Ok (Two g q.0 r.0, e))))

-- the gate of the line at p, over n qubits, and where the next line begins
abbrev pub gate_at : ℕ → List ℕ → ℕ → Result (Gate × ℕ) Fault
gate_at n bs p = onward (named (slice_index bs p) p) (operands_at n bs (p + 1))

-- the count of qubits of the line at p, and where the next line begins
abbrev pub head_from : List ℕ → ℕ → Result (ℕ × ℕ) Fault
head_from bs p =
    if slice_index bs p == 110 then onward (count_at bs (p + 1)) (λ n. onward (line_end bs n.1) (λ e. Ok (n.0, e)))
    else Err (NotALetter p)

-- the same of the first line
abbrev pub head_at : List ℕ → Result (ℕ × ℕ) Fault
head_at bs = head_from bs 0
