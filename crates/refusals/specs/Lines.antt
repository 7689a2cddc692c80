-- The line that says that something is refused, its end left out. Assumes nothing.
use Rattle.std.specs.Prelude.{ℕ, List, ◌++◌, codes, decimal}
use Rattle.refusals.specs.declared.Layer.{Layer}
use Rattle.refusals.specs.declared.Fault.{Fault}
use Rattle.refusals.specs.declared.LoadRefusal.{LoadRefusal}
use Rattle.refusals.specs.declared.AskRefusal.{AskRefusal}
use Rattle.refusals.specs.declared.WriteRefusal.{WriteRefusal}
use Rattle.refusals.specs.Refusals.{fault_number, fault_place, fault_layer, load_number, load_place, load_layer}
use Rattle.refusals.specs.Refusals.{ask_number, ask_place, ask_layer, write_number, write_place, write_layer, layer_word}

-- the number, the place and the layer of a refusal
abbrev pub refusal_line : ℕ → ℕ → Layer → List ℕ
refusal_line n p l = codes "refused " ++ (decimal n ++ (codes " " ++ (decimal p ++ (codes " " ++ layer_word l))))

abbrev pub fault_line : Fault → List ℕ
fault_line f = refusal_line (fault_number f) (fault_place f) (fault_layer f)

abbrev pub load_line : LoadRefusal → List ℕ
load_line r = refusal_line (load_number r) (load_place r) (load_layer r)

abbrev pub ask_line : AskRefusal → List ℕ
ask_line r = refusal_line (ask_number r) (ask_place r) (ask_layer r)

abbrev pub write_line : WriteRefusal → List ℕ
write_line r = refusal_line (write_number r) (write_place r) (write_layer r)
